use Rattle.std.proofs.Common.{rules, arith, ◌≡◌, ◌<◌, ◌∙◌, ◌++◌, length, take, drop, false, Bool, subst}
use Rattle.bound_plain.specs.Plain.{IsMade, Visited}
use Rattle.bound_table.proofs.Edges.{lent}
use Rattle.bound_plain.proofs.Visits.{saturated-is}
use Rattle.bound_plain.proofs.plain.passes.saturated.Goals as goal

pub returns-then-not-pass-clause-exact : goal.returns-then-not-pass-clause-exact
returns-then-not-pass-clause-exact c =
    let m : IsMade c.args.atoms.now c.args.base.now c.args.rules.now c.passes.fired.items c.in-Some.grid.rows.items = rw (c.in-Some.is, c.deref.ensures.value) at c.in_ok-grid.ensures in
    let v : Visited c.args.atoms.now c.args.rules.now c.in-Some.grid.rows.items (λ k. k < length c.args.rules.now) c.passes.fired.items c.pass.new.fired c.pass.result = rw c.deref_mut.ensures.value at c.pass.ensures in
    let w : Visited c.args.atoms.now c.args.rules.now c.in-Some.grid.rows.items (λ k. k < length c.args.rules.now) c.passes.fired.items c.pass.new.fired false = subst (λ (b : Bool). Visited c.args.atoms.now c.args.rules.now c.in-Some.grid.rows.items (λ k. k < length c.args.rules.now) c.passes.fired.items c.pass.new.fired b) c.if-not-pass.true v in
    saturated-is c.args.atoms.now c.args.base.now c.args.rules.now c.passes.fired.items c.pass.new.fired c.in-Some.grid.rows.items c.requires.base c.requires.rules m c.passes.invariant.derivable w

pub passes-preserved : goal.passes-preserved
passes-preserved c =
    let m : IsMade c.args.atoms.now c.args.base.now c.args.rules.now c.passes.fired.items c.in-Some.grid.rows.items = rw (c.in-Some.is, c.deref.ensures.value) at c.in_ok-grid.ensures in
    let v : Visited c.args.atoms.now c.args.rules.now c.in-Some.grid.rows.items (λ k. k < length c.args.rules.now) c.passes.fired.items c.pass.new.fired c.pass.result = rw c.deref_mut.ensures.value at c.pass.ensures in
    let long : length c.pass.new.fired ≡ length c.passes.fired.items = v.long in
    let same : take c.passes.fired.len (c.pass.new.fired ++ drop (length c.pass.new.fired) c.passes.fired.items) ≡ c.pass.new.fired = lent c.passes.fired.items c.pass.new.fired c.passes.fired.len (search (rules, arith, long)) in
    rw same (record {
      long = long ∙ c.passes.invariant.long;
      derivable = v.follow c.args.base.now (m.sound c.passes.invariant.derivable) c.passes.invariant.derivable;
    })
