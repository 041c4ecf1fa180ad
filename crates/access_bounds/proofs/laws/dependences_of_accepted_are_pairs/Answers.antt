use Rattle.access_bounds.proofs.laws.dependences_of_accepted_are_pairs.Goals as goal

pub returns : goal.returns
returns c nest a x is_nest accepted long passes =
    c.dependences_are_pairs.ensures nest a x is_nest long (c.accesses_are_inside.ensures nest a x is_nest accepted long passes)
