use Rattle.std.proofs.Common.{◌∙◌, sym, subst, List}
use Rattle.std.specs.List.{All}
use Rattle.uf_constraints.specs.declared.system.Relation.{Relation}
use Rattle.wave_main.proofs.Explained.{HasWriter, relations_write}
use Rattle.wave_main.proofs.explain.explained.Goals as goal

pub put_relations-requires-clause-writes : goal.put_relations-requires-clause-writes
put_relations-requires-clause-writes c =
    let Each : List Relation → Type 0 = λ rs. All HasWriter rs in
    subst Each (sym (c.as_slice.ensures ∙ c.in_ok-relations.ensures)) (relations_write c.nest.result.now)
