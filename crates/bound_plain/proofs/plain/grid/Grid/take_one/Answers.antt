use Rattle.std.proofs.Common.{rules, arith, ◌≡◌, length, pos, w64}
use Rattle.std.specs.Prelude.{◌+ℤ◌}
use Rattle.std.specs.Int.Signed.{◌<ℤ◌}
use Rattle.std.proofs.lemmas.Int.{to_z-of_z}
use mir.Val.{SFits}
use Rattle.bound_ways.specs.Places.{place_in}
use Rattle.bound_table.specs.Rows.{Adds, entry, far}
use Rattle.bound_plain.proofs.Grids.{taken-one, opposed-one}
use Rattle.bound_ways.proofs.Bounding.{a_in, b_in}
use Rattle.bound_plain.proofs.plain.grid.Grid.take_one.Goals as goal

pub contradicts-requires-clause-a : goal.contradicts-requires-clause-a
contradicts-requires-clause-a c =
    let l = a_in c.args.atoms.now c.args.diff.now c.requires.over in let e = c.place-a.ensures in let f = c.requires.grid.long in omega arith

pub contradicts-requires-clause-b : goal.contradicts-requires-clause-b
contradicts-requires-clause-b c =
    let l = b_in c.args.atoms.now c.args.diff.now c.requires.over in let e = c.place-b.ensures in let f = c.requires.grid.long in omega arith

pub returns-then-contradicts-clause-opposed : goal.returns-then-contradicts-clause-opposed
returns-then-contradicts-clause-opposed c = λ _.
    let fc : SFits w64 c.args.diff.now.c = search rules in
    let yes = c.contradicts.ensures.yes c.if-contradicts.true in
    let known : entry c.args.self.now.rows.items (place_in c.args.atoms.now c.args.diff.now.b) (place_in c.args.atoms.now c.args.diff.now.a) <ℤ far = rw (c.deref.ensures.value, c.place-a.ensures, c.place-b.ensures) at yes.0 in
    let below : (entry c.args.self.now.rows.items (place_in c.args.atoms.now c.args.diff.now.b) (place_in c.args.atoms.now c.args.diff.now.a) +ℤ c.args.diff.now.c) <ℤ pos 0 = rw (c.deref.ensures.value, c.place-a.ensures, c.place-b.ensures, to_z-of_z w64 c.args.diff.now.c fc) at yes.1 in
    opposed-one c.args.atoms.now c.args.self.now.rows.items c.args.diff.now c.requires.grid c.requires.over known below

pub through-requires-clause-a : goal.through-requires-clause-a
through-requires-clause-a c =
    let l = a_in c.args.atoms.now c.args.diff.now c.requires.over in let e = c.place-a.ensures in let f = c.requires.grid.long in omega arith

pub through-requires-clause-b : goal.through-requires-clause-b
through-requires-clause-b c =
    let l = b_in c.args.atoms.now c.args.diff.now c.requires.over in let e = c.place-b.ensures in let f = c.requires.grid.long in omega arith

pub returns-clause-taken : goal.returns-clause-taken
returns-clause-taken c = λ _.
    let fc : SFits w64 c.args.diff.now.c = search rules in
    let long : length c.in_ok-self.field-0.items ≡ length c.args.self.now.rows.items = rw c.deref-2.ensures.value at c.in_ok-self.ensures.long in
    let adds : Adds (length c.args.self.now.rows.items) (entry c.args.self.now.rows.items) (place_in c.args.atoms.now c.args.diff.now.a) (place_in c.args.atoms.now c.args.diff.now.b) c.args.diff.now.c (entry c.in_ok-self.field-0.items) = rw (c.deref-2.ensures.value, c.place-a.ensures, c.place-b.ensures, to_z-of_z w64 c.args.diff.now.c fc) at c.in_ok-self.ensures.adds in
    taken-one c.args.atoms.now c.args.self.now.rows.items c.args.diff.now c.requires.grid c.requires.over c.in_ok-self.field-0.items long adds c.in_ok-self.ensures.table
