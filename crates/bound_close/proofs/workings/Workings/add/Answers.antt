use Rattle.std.proofs.Common.{rules, arith, ◌≡◌, ◌++◌, ◌∷◌, [], length, pos, w64}
use Rattle.std.specs.Prelude.{◌+ℤ◌}
use Rattle.std.specs.Int.Signed.{◌<ℤ◌}
use Rattle.std.proofs.lemmas.Int.{to_z-of_z}
use mir.Val.{SFits}
use Rattle.bound_close.specs.declared.workings.Workings.{Workings}
use Rattle.bound_ways.specs.Log.{Refuting}
use Rattle.bound_ways.specs.Places.{place_in}
use Rattle.bound_table.specs.Rows.{Adds, far}
use Rattle.bound_close.specs.Workings.{bounds}
use Rattle.bound_ways.proofs.Bounding.{a_in, b_in}
use Rattle.bound_close.proofs.Grow.{edge_of, clash, grown-added}
use Rattle.bound_close.proofs.workings.Workings.add.Goals as goal

pub refuses-requires-clause-a : goal.refuses-requires-clause-a
refuses-requires-clause-a c =
    let l = a_in c.args.atoms.now c.args.diff.now c.requires.over in let e = c.place-a.ensures in let f = c.requires.fine.long in omega arith

pub refuses-requires-clause-b : goal.refuses-requires-clause-b
refuses-requires-clause-b c =
    let l = b_in c.args.atoms.now c.args.diff.now c.requires.over in let e = c.place-b.ensures in let f = c.requires.fine.long in omega arith

pub returns-then-refuses-clause-clashes : goal.returns-then-refuses-clause-clashes
returns-then-refuses-clause-clashes c = λ _.
    let fc : SFits w64 c.args.diff.now.c = search rules in
    let yes = c.refuses.ensures.yes c.if-refuses.true in
    let known : bounds c.args.self.now (place_in c.args.atoms.now c.args.diff.now.b) (place_in c.args.atoms.now c.args.diff.now.a) <ℤ far = rw (c.place-a.ensures, c.place-b.ensures) at yes.0 in
    let below : (bounds c.args.self.now (place_in c.args.atoms.now c.args.diff.now.b) (place_in c.args.atoms.now c.args.diff.now.a) +ℤ c.args.diff.now.c) <ℤ pos 0 = rw (c.place-a.ensures, c.place-b.ensures, to_z-of_z w64 c.args.diff.now.c fc) at yes.1 in
    let shown : Refuting c.args.atoms.now c.args.self.now.table.edges.items c.push_step.new.steps c.refute.new.steps (edge_of c.args.atoms.now c.args.diff.now (length c.args.self.now.steps)) = rw (c.place-a.ensures, c.place-b.ensures, to_z-of_z w64 c.args.diff.now.c fc, c.in_ok-at.ensures.number) at c.in_ok-refute.ensures in
    let new : Workings = record { table = c.args.self.now.table; steps = c.refute.new.steps } in
    clash c.args.atoms.now c.args.self.now new c.args.diff.now c.args.step c.requires.fine c.requires.over c.push_step.new.steps c.in_ok-at.ensures.steps known below shown

pub add-requires-clause-a : goal.add-requires-clause-a
add-requires-clause-a c =
    let l = a_in c.args.atoms.now c.args.diff.now c.requires.over in let e = c.place-a.ensures in let f = c.requires.fine.long in omega arith

pub add-requires-clause-b : goal.add-requires-clause-b
add-requires-clause-b c =
    let l = b_in c.args.atoms.now c.args.diff.now c.requires.over in let e = c.place-b.ensures in let f = c.requires.fine.long in omega arith

pub returns-clause-grown : goal.returns-clause-grown
returns-clause-grown c = λ _.
    let fc : SFits w64 c.args.diff.now.c = search rules in
    let new : Workings = record { table = c.add.new.self; steps = c.push_step.new.steps } in
    let adds : Adds (length c.args.self.now.table.rows.items) (bounds c.args.self.now) (place_in c.args.atoms.now c.args.diff.now.a) (place_in c.args.atoms.now c.args.diff.now.b) c.args.diff.now.c (bounds new) = rw (c.place-a.ensures, c.place-b.ensures, to_z-of_z w64 c.args.diff.now.c fc) at c.in_ok-add.ensures.adds in
    let edges : c.add.new.self.edges.items ≡ c.args.self.now.table.edges.items ++ edge_of c.args.atoms.now c.args.diff.now (length c.args.self.now.steps) ∷ [] = rw (c.place-a.ensures, c.place-b.ensures, to_z-of_z w64 c.args.diff.now.c fc, c.in_ok-at.ensures.number) at c.in_ok-add.ensures.edges in
    grown-added c.args.atoms.now c.args.self.now new c.args.diff.now c.args.step c.requires.fine c.requires.over c.in_ok-add.ensures.long adds edges c.in_ok-add.ensures.marked c.in_ok-add.ensures.traced c.in_ok-at.ensures.steps
