use Rattle.std.specs.Prelude.{◌↔◌}
use Rattle.loop_core.specs.Touches.{Depends}
use Rattle.dep_simplify.proofs.Dependent.{kept_alone}
use Rattle.dep_simplify.proofs.laws.dependences_are_pairs_of_kept_relations.Goals as goal

pub returns : goal.returns
returns c nest vs a x is_nest accepted are long passes i j =
    kept_alone nest vs are c.derivable_is_true.ensures (c.nest_meets_conditions.ensures.names nest is_nest) a long.of_index passes i j
    (Depends a nest x i j) (c.dependences_of_accepted_are_pairs.ensures nest a x is_nest accepted long passes i j)
