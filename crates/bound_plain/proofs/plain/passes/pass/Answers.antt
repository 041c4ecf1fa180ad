use Rattle.std.proofs.Common.{arith, ◌≡◌, ◌<◌, length, ℕ, subst}
use Rattle.bound_plain.specs.Plain.{Visited}
use Rattle.bound_plain.proofs.Visits.{visited-none, visited-next}
use Rattle.bound_plain.proofs.plain.passes.pass.Goals as goal

pub loop-at-init : goal.loop-at-init
loop-at-init c = visited-none c.args.atoms.now c.args.rules.now c.args.grid.now.rows.items c.args.fired.now

pub loop-at-preserved : goal.loop-at-preserved
loop-at-preserved c = visited-next c.args.atoms.now c.args.rules.now c.args.grid.now.rows.items c.args.fired.now c.loop-at.fired c.visit-new.new.fired c.loop-at.at c.loop-at.new c.visit-new.result c.loop-at.invariant c.visit-new.ensures

pub returns : goal.returns
returns c =
    let e : c.loop-at.at ≡ length c.args.rules.now = omega arith in
    subst (λ (n : ℕ). Visited c.args.atoms.now c.args.rules.now c.args.grid.now.rows.items (λ k. k < n) c.args.fired.now c.loop-at.fired c.loop-at.new) e c.loop-at.invariant
