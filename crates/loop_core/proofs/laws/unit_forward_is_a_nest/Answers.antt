use Rattle.std.proofs.Common.{rules, refl, arith}
use Rattle.loop_core.specs.declared.nest.Atom.TheFolds.{the_lemmas as of_term}
use Rattle.loop_core.specs.declared.nest.Expr.TheFolds.{the_lemmas as of_expr}
use Rattle.loop_core.specs.declared.nest.Item.TheFolds.{the_lemmas as of_item}
use Rattle.loop_core.proofs.laws.unit_forward_is_a_nest.Goals as goal

pub returns : goal.returns
returns c = record {
  one_matrix = refl;
  names = search (rules, of_item, of_expr, of_term);
  distinct = refl;
  anew = search (rules, of_item, of_expr, of_term);
  few_arrays = omega arith;
  few_locals = omega arith;
  properties = search (rules, of_item, of_expr, of_term);
  bounds = search (rules, of_item, of_expr, of_term);
  in_scope = search (rules, of_item, of_expr, of_term);
  of_locals = search (rules, of_item, of_expr, of_term);
  of_kinds = search (rules, of_item, of_expr, of_term);
  constants = search (rules, of_item, of_expr, of_term);
  literals = search (rules, of_item, of_expr, of_term);
  shallow = simp (of_item, of_expr, of_term) (omega arith);
  few_references = search (rules, of_item, of_expr, of_term);
  rising = search (rules, of_item, of_expr, of_term);
}
