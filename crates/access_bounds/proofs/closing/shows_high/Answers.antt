use Rattle.std.proofs.Common.{rules, pos, ◌↔◌, ◌∙◌, IsTrue, ℤ, subst, SFits}
use Rattle.std.specs.Prelude.{◌-ℤ◌}
use Rattle.std.proofs.lemmas.Int.{to_z-of_z}
use mir.Syntax.{w64, w128}
use Rattle.index_props.specs.Derivable.{Derivable}
use Rattle.access_bounds.proofs.closing.shows_high.Goals as goal

pub returns : goal.returns
returns c base given closed not =
    let claim = c.args.claim.now in
    let wide : SFits w128 c.room-room.result = search rules in
    let at : SFits w64 claim.at.plus = search rules in
    let extent : SFits w64 claim.extent.plus = search rules in
    let same = to_z-of_z w128 c.room-room.result wide ∙ c.room-room.ensures ∙ (λ i. to_z-of_z w64 claim.extent.plus extent i -ℤ to_z-of_z w64 claim.at.plus at i -ℤ pos 1) in
    subst (λ (z : ℤ). IsTrue c.shows.result ↔ Derivable c.args.closure.now.atoms base given claim.at.atom claim.extent.atom z) same (c.shows.ensures base given closed not)
