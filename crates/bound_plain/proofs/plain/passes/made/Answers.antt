use Rattle.std.proofs.Common.{◌≡◌, ◌<◌, ℕ, length}
use Rattle.bound_table.specs.Rows.{entry, unit_bound}
use Rattle.bound_plain.proofs.Visits.{made-stops, made-opposed, made-is}
use Rattle.bound_plain.proofs.plain.passes.made.Goals as goal

pub returns-then-not-branch : goal.returns-then-not-branch
returns-then-not-branch c =
    let each : (x y : ℕ) → x < length c.args.atoms.now → y < length c.args.atoms.now → entry c.in_ok-grid.grid.rows.items x y ≡ unit_bound x y = rw c.len.ensures at c.in_ok-grid.ensures.each in
    made-stops c.args.atoms.now c.args.base.now c.args.rules.now c.args.fired.now c.in_ok-grid.grid.rows.items c.in_ok-grid.grid.rows.items c.requires.base each (c.in_ok-take_all.ensures.opposed c.if-not-branch.true)

pub returns-then-not-branch-2 : goal.returns-then-not-branch-2
returns-then-not-branch-2 c =
    let each : (x y : ℕ) → x < length c.args.atoms.now → y < length c.args.atoms.now → entry c.in_ok-grid.grid.rows.items x y ≡ unit_bound x y = rw c.len.ensures at c.in_ok-grid.ensures.each in
    made-opposed c.args.atoms.now c.args.base.now c.args.rules.now c.args.fired.now c.in_ok-grid.grid.rows.items c.take_all.new.self.rows.items c.requires.base each (c.in_ok-take_all.ensures.taken c.if-not-branch.false) (c.in_ok-take_fired.ensures.opposed c.if-not-branch-2.true)

pub returns : goal.returns
returns c =
    let each : (x y : ℕ) → x < length c.args.atoms.now → y < length c.args.atoms.now → entry c.in_ok-grid.grid.rows.items x y ≡ unit_bound x y = rw c.len.ensures at c.in_ok-grid.ensures.each in
    made-is c.args.atoms.now c.args.base.now c.args.rules.now c.args.fired.now c.in_ok-grid.grid.rows.items c.take_all.new.self.rows.items c.requires.base each (c.in_ok-take_all.ensures.taken c.if-not-branch.false) c.take_fired.new.self.rows.items (c.in_ok-take_fired.ensures.taken c.if-not-branch-2.false)
