use Rattle.std.proofs.Common.{◌≡◌, ap, ◌∙◌, to_z, of_z}
use mir.Syntax.{w128}
use Rattle.std.proofs.lemmas.Int.{to_z-of_z}
use Rattle.inspector_gen.specs.Known.{is_at_most}
use Rattle.inspector_gen.proofs.known.knows.Goals as goal

pub returns : goal.returns
returns c = λ bounds table.
    let same : to_z w128 (of_z w128 c.args.c) ≡ c.args.c = to_z-of_z w128 c.args.c c.ranges.c in
    c.is_at_most.ensures
    ∙ ap (λ z. is_at_most z c.least-least.result) same
    ∙ ap (is_at_most c.args.c) (c.least-least.ensures bounds table)
