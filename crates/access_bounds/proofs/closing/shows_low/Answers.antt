use Rattle.std.proofs.Common.{rules, ◌↔◌, ◌∙◌, IsTrue, ℤ, subst, SFits}
use Rattle.std.proofs.lemmas.Int.{to_z-of_z}
use mir.Syntax.{w64, w128}
use Rattle.loop_core.specs.declared.nest.Atom.TheVariants.{Zero}
use Rattle.index_props.specs.Derivable.{Derivable}
use Rattle.access_bounds.proofs.Sides.{low-side}
use Rattle.access_bounds.proofs.closing.shows_low.Goals as goal

pub returns : goal.returns
returns c base given closed not =
    let claim = c.args.claim.now in
    let wide : SFits w128 c.from.result = search rules in
    let narrow : SFits w64 claim.at.plus = search rules in
    let same = to_z-of_z w128 c.from.result wide ∙ c.from.ensures ∙ to_z-of_z w64 claim.at.plus narrow ∙ low-side claim in
    subst (λ (z : ℤ). IsTrue c.shows.result ↔ Derivable c.args.closure.now.atoms base given Zero claim.at.atom z) same (c.shows.ensures base given closed not)
