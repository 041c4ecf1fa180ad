-- Declarations have no more arrays from files than arrays.
use Rattle.std.proofs.Common.{◌≤◌, ◌+◌, List, [], ◌∷◌, length, arith}
use Rattle.std.proofs.lemmas.List.{length-append}
use Rattle.loop_core.specs.declared.decl.Decl.{Decl}
use Rattle.loop_core.specs.declared.decl.DeclKind.{DeclKind}
use Rattle.loop_core.specs.declared.decl.DeclKind.TheVariants as kinds
use Rattle.loop_core.specs.declared.decl.Size.{Size}
use Rattle.loop_core.specs.declared.decl.Source.TheVariants.{File, Zeros}
use Rattle.loop_core.specs.Sizes.{sizes, sizes_of}
use Rattle.array_bind.specs.Shape.{file_size, before, file_sizes}

one : (kind : DeclKind) (ss : List Size) → length (before (file_size kind) ss) ≤ length (sizes_of kind) + length ss
one (kinds.Matrix form) ss = omega arith
one (kinds.Index size) ss = omega arith
one (kinds.Vector size File) ss = omega arith
one (kinds.Vector size Zeros) ss = omega arith

pub few_files : (ds : List Decl) → length (file_sizes ds) ≤ length (sizes ds)
few_files [] = omega arith
few_files (d ∷ ds) = let e = length-append (sizes_of d.kind) (sizes ds) in omega (arith, e, one d.kind (file_sizes ds), few_files ds)
