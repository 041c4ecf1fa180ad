use Rattle.std.proofs.Common.{rules, ◌≡◌, ◌+◌, sym, subst}
use Rattle.std.specs.Prelude.{not}
use Rattle.bound_ways.specs.Over.{AreRulesOver}
use Rattle.bound_close.specs.Closure.{Found, IsClosure, IsAdded}
use Rattle.bound_close.proofs.Closes.{closed-copy, added-refuted, added-grown}
use Rattle.bound_close.proofs.Passing.{tending-copy}
use Rattle.bound_close.proofs.closure.Closure.add.Goals as goal

pub returns-then-self-clause-added : goal.returns-then-self-clause-added
returns-then-self-clause-added c =
    let j : Found = record { atoms = c.self.inside.places; engine = c.self.inside.engine; given = c.self.inside.given; refuted = c.self.inside.refuted } in
    let k : Found = record { atoms = c.self.inside.places; engine = c.self.inside.engine; given = c.in-Some.given; refuted = c.self.inside.refuted } in
    let v : c.args.self.now ≡ j = sym c.self.view_is in
    let next : c.in-Some.given ≡ c.self.inside.given + 1 = search rules in
    subst (λ (f : Found). IsAdded c.args.rules.now f c.args.d.now k) (sym v) (added-refuted j.atoms c.args.rules.now j.engine j.given c.in-Some.given j.refuted c.args.d.now c.if-self.true next)

pub grow-requires-clause-tending : goal.grow-requires-clause-tending
grow-requires-clause-tending c =
    let j : Found = record { atoms = c.self.inside.places; engine = c.self.inside.engine; given = c.self.inside.given; refuted = c.self.inside.refuted } in
    let v : c.args.self.now ≡ j = sym c.self.view_is in
    let h : IsClosure j c.requires.closure.0 c.args.rules.now = subst (λ (f : Found). IsClosure f c.requires.closure.0 c.args.rules.now) v c.requires.closure.1 in
    let e = c.in_ok-engine.ensures in
    tending-copy c.self.inside.places c.args.rules.now c.self.inside.engine c.in_ok-engine.engine e.rows e.marks e.edges e.fired e.queues (h.waits c.if-self.false)

pub grow-requires-clause-rules : goal.grow-requires-clause-rules
grow-requires-clause-rules c =
    let j : Found = record { atoms = c.self.inside.places; engine = c.self.inside.engine; given = c.self.inside.given; refuted = c.self.inside.refuted } in
    let v : c.args.self.now ≡ j = sym c.self.view_is in
    subst (λ (f : Found). AreRulesOver f.atoms c.args.rules.now) v c.requires.rules

pub returns-clause-added : goal.returns-clause-added
returns-clause-added c =
    let j : Found = record { atoms = c.self.inside.places; engine = c.self.inside.engine; given = c.self.inside.given; refuted = c.self.inside.refuted } in
    let k : Found = record { atoms = c.self.inside.places; engine = c.grow.new.self; given = c.in-Some.given; refuted = not c.in_ok-fine.fine } in
    let v : c.args.self.now ≡ j = sym c.self.view_is in
    let next : c.in-Some.given ≡ c.self.inside.given + 1 = search rules in
    let e = c.in_ok-engine.ensures in
    let f = c.in_ok-fine.ensures in
    subst (λ (f : Found). IsAdded c.args.rules.now f c.args.d.now k) (sym v)
    (added-grown j.atoms c.args.rules.now j.engine c.in_ok-engine.engine c.grow.new.self j.given c.in-Some.given j.refuted c.in_ok-fine.fine c.args.d.now c.if-self.false next
    (λ base h. closed-copy j.atoms base c.args.rules.now j.engine c.in_ok-engine.engine e.rows e.marks e.edges e.steps h)
    f.tending f.closed f.refuted)
