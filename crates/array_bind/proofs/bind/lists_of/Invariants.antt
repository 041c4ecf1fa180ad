use Rattle.std.proofs.Common.{◌≡◌, ◌++◌, drop}
use Rattle.array_bind.specs.Lists.{index_lists, data_lists}
use Rattle.array_bind.proofs.bind.lists_of.Given as goal

abbrev pub invariant-loop-decl : goal.invariant-loop-decl
invariant-loop-decl l =
    (l.lists.index.items ++ index_lists l.left.matrix (drop l.decl-index l.decls) l.left.files ≡ index_lists l.fn.matrix l.decls l.fn.files.items)
    × (l.lists.values.items ++ data_lists l.n l.nnz l.left.matrix (drop l.decl-index l.decls) l.left.files ≡ data_lists l.n l.nnz l.fn.matrix l.decls l.fn.files.items)
