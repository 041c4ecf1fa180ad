use Rattle.std.proofs.Common.{arith, ap, ◌≡◌, ◌≤◌, ◌∙◌, length, take, List, subst, sym, refl}
use Rattle.uf_constraints.specs.declared.system.Diff.{Diff}
use Rattle.index_props.specs.declared.rule.RuleInst.{RuleInst}
use Rattle.bound_table.specs.declared.waiting.Waiting.{Waiting}
use Rattle.bound_ways.specs.Exact.{Holds}
use Rattle.bound_ways.specs.Over.{AreOver}
use Rattle.bound_close.specs.declared.engine.Engine.{Engine}
use Rattle.bound_close.specs.Waits.{IsWaiting}
use Rattle.bound_close.specs.Workings.{bounds}
use Rattle.bound_ways.proofs.Bounding.{got, got-is, contains-got, Holds-all}
use Rattle.bound_close.proofs.Passing.{waits-open, put-onwards, put-covered}
use Rattle.bound_close.proofs.engine.Engine.look.Goals as goal

pub open_from-found-requires-clause-over : goal.open_from-found-requires-clause-over
open_from-found-requires-clause-over c =
    let at = got c.args.rules.now c.args.rule c.index-rules-rule.result c.requires.holding.within c.index-rules-rule.is in
    let o = c.requires.over c.index-rules-rule.result (contains-got c.args.rules.now c.args.rule c.index-rules-rule.result at) in
    subst (λ (l : List Diff). AreOver c.args.atoms.now l) (sym c.as_slice-premises.ensures) o.premises

pub open_from-found-requires-clause-from : goal.open_from-found-requires-clause-from
open_from-found-requires-clause-from c =
    let at = got c.args.rules.now c.args.rule c.index-rules-rule.result c.requires.holding.within c.index-rules-rule.is in
    subst (λ (l : List Diff). c.args.held ≤ length l) (sym c.as_slice-premises.ensures) (c.requires.holding.held c.index-rules-rule.result at).0

pub open_from-found-requires-clause-held : goal.open_from-found-requires-clause-held
open_from-found-requires-clause-held c =
    let at = got c.args.rules.now c.args.rule c.index-rules-rule.result c.requires.holding.within c.index-rules-rule.is in
    subst (λ (l : List Diff). Holds c.args.atoms.now (bounds c.args.self.now.workings) (take c.args.held l)) (sym c.as_slice-premises.ensures) (c.requires.holding.held c.index-rules-rule.result at).1

pub fire-requires-clause-holds : goal.fire-requires-clause-holds
fire-requires-clause-holds c = λ r at.
    let same : c.as_slice-premises.result.now ≡ r.premises = c.as_slice-premises.ensures ∙ ap (λ (r : RuleInst). r.premises) (got-is c.args.rules.now c.args.rule c.index-rules-rule.result r c.index-rules-rule.is at) in
    let e : c.open_from-found.result.held ≡ length c.as_slice-premises.result.now = c.open_from-found.ensures.all (let w = c.open_from-found.ensures.within in omega arith) in
    subst (λ (l : List Diff). Holds c.args.atoms.now (bounds c.args.self.now.workings) l) same (Holds-all c.args.atoms.now (bounds c.args.self.now.workings) c.as_slice-premises.result.now c.open_from-found.result.held e c.open_from-found.ensures.held)

pub put-requires-clause-x : goal.put-requires-clause-x
put-requires-clause-x c =
    let w = waits-open c.args.atoms.now c.args.rules.now c.args.self.now.workings c.args.rule c.index-rules-rule.result c.as_slice-premises.result.now c.open_from-found.result.held c.open_from-found.result.at c.open_from-found.result.seen c.requires.over c.requires.holding.within c.index-rules-rule.is c.as_slice-premises.ensures (c.open_from-found.ensures.few c.if-found-premises.true) c.open_from-found.ensures.held c.if-found-premises.true (c.open_from-found.ensures.seen c.if-found-premises.true) in
    let x = w.x in let l = c.requires.tended.queues.long in omega arith

pub put-requires-clause-y : goal.put-requires-clause-y
put-requires-clause-y c =
    let w = waits-open c.args.atoms.now c.args.rules.now c.args.self.now.workings c.args.rule c.index-rules-rule.result c.as_slice-premises.result.now c.open_from-found.result.held c.open_from-found.result.at c.open_from-found.result.seen c.requires.over c.requires.holding.within c.index-rules-rule.is c.as_slice-premises.ensures (c.open_from-found.ensures.few c.if-found-premises.true) c.open_from-found.ensures.held c.if-found-premises.true (c.open_from-found.ensures.seen c.if-found-premises.true) in
    let y = w.y in let l = c.requires.tended.queues.wide c.open_from-found.result.seen.x w.x in omega arith

pub returns-then-found-premises-clause-onwards : goal.returns-then-found-premises-clause-onwards
returns-then-found-premises-clause-onwards c = λ _.
    let e : Waiting = record { rule = c.args.rule; held = c.open_from-found.result.held; seen = c.open_from-found.result.seen } in
    let new : Engine = record { workings = c.args.self.now.workings; fired = c.args.self.now.fired; queues = c.put.new.self } in
    let w : IsWaiting c.args.atoms.now c.args.rules.now c.args.self.now.workings e = waits-open c.args.atoms.now c.args.rules.now c.args.self.now.workings c.args.rule c.index-rules-rule.result c.as_slice-premises.result.now c.open_from-found.result.held c.open_from-found.result.at c.open_from-found.result.seen c.requires.over c.requires.holding.within c.index-rules-rule.is c.as_slice-premises.ensures (c.open_from-found.ensures.few c.if-found-premises.true) c.open_from-found.ensures.held c.if-found-premises.true (c.open_from-found.ensures.seen c.if-found-premises.true) in
    put-onwards c.args.atoms.now c.args.rules.now c.args.self.now new e c.requires.tended w (c.open_from-found.ensures.low c.if-found-premises.true) refl refl c.in_ok-put.ensures

pub returns-then-found-premises-clause-covered : goal.returns-then-found-premises-clause-covered
returns-then-found-premises-clause-covered c = λ _.
    let e : Waiting = record { rule = c.args.rule; held = c.open_from-found.result.held; seen = c.open_from-found.result.seen } in
    let new : Engine = record { workings = c.args.self.now.workings; fired = c.args.self.now.fired; queues = c.put.new.self } in
    let w : IsWaiting c.args.atoms.now c.args.rules.now c.args.self.now.workings e = waits-open c.args.atoms.now c.args.rules.now c.args.self.now.workings c.args.rule c.index-rules-rule.result c.as_slice-premises.result.now c.open_from-found.result.held c.open_from-found.result.at c.open_from-found.result.seen c.requires.over c.requires.holding.within c.index-rules-rule.is c.as_slice-premises.ensures (c.open_from-found.ensures.few c.if-found-premises.true) c.open_from-found.ensures.held c.if-found-premises.true (c.open_from-found.ensures.seen c.if-found-premises.true) in
    put-covered c.args.atoms.now c.args.rules.now c.args.self.now new e c.requires.tended w (c.open_from-found.ensures.low c.if-found-premises.true) refl refl c.in_ok-put.ensures
