use Rattle.access_bounds.proofs.Inside.{place-inside}
use Rattle.access_bounds.proofs.laws.accesses_are_inside.Goals as goal

pub returns : goal.returns
returns c nest a x is_nest accepted long passes i p below access =
    let f = c.accesses_are_of_brackets.ensures nest a is_nest i p below access in
    let names = c.nest_meets_conditions.ensures.names nest is_nest in
    place-inside nest a x accepted long passes
    (λ u base d h. c.derivable_is_true.ensures u base nest.decls nest.props d names h)
    f.0 f.1 f.2 f.6 f.3 f.4 p f.5 f.7 (c.accessed_arrays_hold_data.ensures nest a is_nest i p access)
