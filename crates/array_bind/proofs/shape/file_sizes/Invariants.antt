use Rattle.std.proofs.Common.{◌≡◌, ◌++◌, drop}
use Rattle.array_bind.specs.Shape.{file_sizes}
use Rattle.array_bind.proofs.shape.file_sizes.Given as goal

abbrev pub invariant-loop-decl : goal.invariant-loop-decl
invariant-loop-decl l = l.sizes.items ++ file_sizes (drop l.decl-index l.decls) ≡ file_sizes l.decls
