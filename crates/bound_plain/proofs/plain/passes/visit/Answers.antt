use Rattle.std.proofs.Common.{rules, ◌≡◌, ◌∙◌, ap, List, subst, sym}
use Rattle.uf_constraints.specs.declared.system.Diff.{Diff}
use Rattle.index_props.specs.declared.rule.RuleInst.{RuleInst}
use Rattle.bound_ways.specs.Exact.{Holds, Fails}
use Rattle.bound_ways.specs.Over.{AreOver}
use Rattle.bound_table.specs.Rows.{entry}
use Rattle.bound_ways.proofs.Bounding.{got, got-is, contains-got}
use Rattle.bound_plain.proofs.Visits.{visit-held, visit-fires}
use Rattle.bound_plain.proofs.plain.passes.visit.Goals as goal

pub holds-requires-clause-over : goal.holds-requires-clause-over
holds-requires-clause-over c =
    let at = got c.args.rules.now c.args.at c.index-rules-at.result c.requires.at c.index-rules-at.is in
    let o = c.requires.over c.index-rules-at.result (contains-got c.args.rules.now c.args.at c.index-rules-at.result at) in
    subst (λ (l : List Diff). AreOver c.args.atoms.now l) (sym c.as_slice.ensures) o.premises

pub returns-then-not-holds : goal.returns-then-not-holds
returns-then-not-holds c =
    visit-held c.args.atoms.now c.args.rules.now c.args.grid.now.rows.items c.args.fired.now c.args.at
    (λ r g.
    let same : c.as_slice.result.now ≡ r.premises = c.as_slice.ensures ∙ ap (λ (r : RuleInst). r.premises) (got-is c.args.rules.now c.args.at c.index-rules-at.result r c.index-rules-at.is g) in
    subst (λ (l : List Diff). Fails c.args.atoms.now (entry c.args.grid.now.rows.items) l) same (c.holds.ensures.no c.if-not-holds.true))

pub returns : goal.returns
returns c =
    let at = got c.args.rules.now c.args.at c.index-rules-at.result c.requires.at c.index-rules-at.is in
    let h : Holds c.args.atoms.now (entry c.args.grid.now.rows.items) c.index-rules-at.result.premises = subst (λ (l : List Diff). Holds c.args.atoms.now (entry c.args.grid.now.rows.items) l) c.as_slice.ensures (c.holds.ensures.yes c.if-not-holds.false) in
    visit-fires c.args.atoms.now c.args.rules.now c.args.grid.now.rows.items c.args.fired.now c.args.at c.index-rules-at.result at c.requires.over c.requires.long c.requires.at (search rules) h
