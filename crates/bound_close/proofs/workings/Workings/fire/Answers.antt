use Rattle.std.proofs.Common.{ap, ◌≡◌, ◌∙◌, slice_get, Some, List, subst, sym, refl, true, false}
use Rattle.uf_constraints.specs.declared.system.Diff.{Diff}
use Rattle.index_props.specs.declared.rule.RuleInst.{RuleInst}
use Rattle.bound_close.specs.declared.workings.Workings.{Workings}
use Rattle.bound_ways.specs.Exact.{Holds}
use Rattle.bound_ways.specs.Log.{Naming}
use Rattle.bound_ways.specs.Over.{AreOver}
use Rattle.bound_close.specs.Passes.{Applied, Ready, Forward, Stopped}
use Rattle.bound_close.specs.Workings.{bounds, Refuted}
use Rattle.bound_ways.proofs.Bounding.{got, got-is, contains-got, Holds-all, if-ok-map}
use Rattle.bound_close.proofs.Takes.{fire-forward, fire-stop}
use Rattle.bound_close.proofs.workings.Workings.fire.Goals as goal

pub first_open-requires-clause-over : goal.first_open-requires-clause-over
first_open-requires-clause-over c =
    let at = got c.args.rules.now c.args.rule c.index-rules-rule.result c.requires.rule c.index-rules-rule.is in
    let o = c.requires.over c.index-rules-rule.result (contains-got c.args.rules.now c.args.rule c.index-rules-rule.result at) in
    subst (λ (l : List Diff). AreOver c.args.atoms.now l) (sym c.as_slice-results.ensures) o.results

pub returns-then-first_open-results-clause-holds : goal.returns-then-first_open-results-clause-holds
returns-then-first_open-results-clause-holds c = λ _ r at.
    let same : c.as_slice-results.result.now ≡ r.results = c.as_slice-results.ensures ∙ ap (λ (r : RuleInst). r.results) (got-is c.args.rules.now c.args.rule c.index-rules-rule.result r c.index-rules-rule.is at) in
    subst (λ (l : List Diff). Holds c.args.atoms.now (bounds c.args.self.now) l) same (Holds-all c.args.atoms.now (bounds c.args.self.now) c.as_slice-results.result.now c.first_open.result c.if-first_open-results.true c.first_open.ensures.held)

pub certify-requires-clause-over : goal.certify-requires-clause-over
certify-requires-clause-over c =
    let at = got c.args.rules.now c.args.rule c.index-rules-rule.result c.requires.rule c.index-rules-rule.is in
    let o = c.requires.over c.index-rules-rule.result (contains-got c.args.rules.now c.args.rule c.index-rules-rule.result at) in
    subst (λ (l : List Diff). AreOver c.args.atoms.now l) (sym c.as_slice-premises.ensures) o.premises

pub certify-requires-clause-holds : goal.certify-requires-clause-holds
certify-requires-clause-holds c =
    let at = got c.args.rules.now c.args.rule c.index-rules-rule.result c.requires.rule c.index-rules-rule.is in
    subst (λ (l : List Diff). Holds c.args.atoms.now (bounds c.args.self.now) l) (sym c.as_slice-premises.ensures) (c.requires.holds c.index-rules-rule.result at)

pub returns-clause-forward : goal.returns-clause-forward
returns-clause-forward c =
    let r : RuleInst = c.index-rules-rule.result in
    let at = got c.args.rules.now c.args.rule c.index-rules-rule.result c.requires.rule c.index-rules-rule.is in
    let o = c.requires.over c.index-rules-rule.result (contains-got c.args.rules.now c.args.rule c.index-rules-rule.result at) in
    let mid : Workings = record { table = c.args.self.now.table; steps = c.certify.new.steps } in
    let n : Naming c.args.atoms.now c.args.self.now.table.edges.items c.args.self.now.steps c.certify.new.steps c.index-rules-rule.result.premises c.as_slice.result.now = rw (c.as_slice-premises.ensures, ← c.as_slice.ensures) at c.in_ok-places.ensures in
    if-ok-map c.add_results.result (λ fine. fine ≡ true → (r : RuleInst) → slice_get c.args.rules.now c.args.rule ≡ Some r → Applied c.args.atoms.now c.args.rules.now r c.as_slice.result.now r.results mid c.add_results.new.self) (λ fine. fine ≡ true → Forward c.args.atoms.now c.args.rules.now c.args.self.now c.add_results.new.self) c.add_results.ensures.applied
    (λ fine f t. fire-forward c.args.atoms.now c.args.rules.now c.index-rules-rule.result c.as_slice.result.now c.args.self.now mid c.add_results.new.self o (c.requires.holds c.index-rules-rule.result at) refl n (f t c.index-rules-rule.result at))

pub returns-clause-stopped : goal.returns-clause-stopped
returns-clause-stopped c =
    let at = got c.args.rules.now c.args.rule c.index-rules-rule.result c.requires.rule c.index-rules-rule.is in
    let o = c.requires.over c.index-rules-rule.result (contains-got c.args.rules.now c.args.rule c.index-rules-rule.result at) in
    let mid : Workings = record { table = c.args.self.now.table; steps = c.certify.new.steps } in
    let n : Naming c.args.atoms.now c.args.self.now.table.edges.items c.args.self.now.steps c.certify.new.steps c.index-rules-rule.result.premises c.as_slice.result.now = rw (c.as_slice-premises.ensures, ← c.as_slice.ensures) at c.in_ok-places.ensures in
    if-ok-map c.add_results.result (λ fine. fine ≡ false → (r : RuleInst) → slice_get c.args.rules.now c.args.rule ≡ Some r → (base : List Diff) → Ready c.args.atoms.now base c.args.rules.now mid r c.as_slice.result.now → Refuted c.args.atoms.now base c.args.rules.now c.add_results.new.self.steps) (λ fine. fine ≡ false → Stopped c.args.atoms.now c.args.rules.now c.args.self.now c.add_results.new.self) c.add_results.ensures.refuted
    (λ fine f t. fire-stop c.args.atoms.now c.args.rules.now c.index-rules-rule.result c.as_slice.result.now c.args.self.now mid c.add_results.new.self o (c.requires.holds c.index-rules-rule.result at) refl n (f t c.index-rules-rule.result at))
