use Rattle.std.proofs.Common.{◌≡◌, drop}
use Rattle.std.specs.Prelude.{slice_index_or, []}
use Rattle.loop_print.specs.PrintNames.{array_names}
use Rattle.loop_print.proofs.names.put_array.Given as goal

-- the number that is left names the array among the declarations left
abbrev pub invariant-loop-decl : goal.invariant-loop-decl
invariant-loop-decl l = record {
  name : slice_index_or (array_names (drop l.decl-index l.decls)) l.left [] ≡ slice_index_or (array_names l.decls) l.fn.array.0 [];
  text : l.text.items ≡ l.fn.text.items;
}
