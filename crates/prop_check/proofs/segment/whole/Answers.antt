use Rattle.std.proofs.Common.{ℤ, ◌∙◌, SFits, rules, subst}
use Rattle.std.proofs.lemmas.Int.{to_z-of_z}
use mir.Syntax.{w64}
use Rattle.loop_core.specs.Lists.{list_of}
use Rattle.prop_check.proofs.Spans.{IsCut, places}
use Rattle.prop_check.proofs.segment.whole.Goals as goal

pub returns-clause-places : goal.returns-clause-places
returns-clause-places g c =
    let fs = list_of c.args.arrays.now.lists c.args.by.f in
    let ps = list_of c.args.arrays.now.lists c.args.by.p in
    let from_fits : SFits w64 c.entry_at.result = search rules in
    let to_fits : SFits w64 c.entry_after.result = search rules in
    let low = subst (λ (w : ℤ). IsCut w c.len-many.result c.cut-from.result) (to_z-of_z w64 c.entry_at.result from_fits ∙ c.entry_at.ensures) c.cut-from.ensures.from in
    let high = subst (λ (w : ℤ). IsCut w c.len-many.result c.cut-to.result) (to_z-of_z w64 c.entry_after.result to_fits ∙ c.entry_after.ensures) c.cut-to.ensures.from in
    places fs ps c.args.i c.len-many.result c.cut-from.result c.cut-to.result c.requires c.len-many.ensures low high
