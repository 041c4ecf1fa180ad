use Rattle.std.proofs.Common.{rules, ℤ, ◌∙◌, refl, sym, ap, subst, slice_set, w64, FitsSigned, to_z, of_z}
use lib.IntN.{nat_abs}
use Rattle.wave_base.specs.declared.types.Cell.{Cell}
use mir.Syntax.{w128}
use Rattle.std.proofs.lemmas.Int.{to_z-of_z}
use Rattle.loop_core.specs.declared.place.Place.{Place}
use Rattle.done_words.specs.Views as views
use Rattle.done_words.specs.Seats.{view}
use Rattle.p2p_exec.specs.declared.run.Run.{Run}
use Rattle.p2p_exec.proofs.Cells.{cast}
use Rattle.p2p_exec.proofs.Visits.{may_set, put_set, put_keep}
use Rattle.p2p_exec.proofs.run.Run.put.Goals as goal

pub overflow_cast-cell : goal.overflow_cast-cell
overflow_cast-cell c =
    let p : Place = c.in-Sets.place in
    let fits : FitsSigned w128 p.at = search rules in
    let m = may_set c.args.self.now c.args.effect p c.args.word c.in-Sets.is c.requires.may in
    (cast p.array p.at (to_z w128 (of_z w128 p.at)) (to_z-of_z w128 p.at fits) m.cell).fits

pub write-requires-clause-next : goal.write-requires-clause-next
write-requires-clause-next c =
    let x : Run = c.args.self.now in
    let p : Place = c.in-Sets.place in
    let fits : FitsSigned w128 p.at = search rules in
    let m = may_set x c.args.effect p c.args.word c.in-Sets.is c.requires.may in
    let same = to_z-of_z w64 c.args.word c.ranges.word in
    let cell = (cast p.array p.at (to_z w128 (of_z w128 p.at)) (to_z-of_z w128 p.at fits) m.cell).cell in
    subst (λ (word : ℤ). views.Writes (view x.seat.now) (record { array = p.array; at = nat_abs (to_z w128 (of_z w128 p.at)) }) word) (sym same)
    (subst (λ (cell : Cell). views.Writes (view x.seat.now) cell c.args.word) cell m.next)

pub returns-in-Sets : goal.returns-in-Sets
returns-in-Sets c =
    let x : Run = c.args.self.now in
    let y : Run = record x { seat = record { ref_ptr = x.seat.ref_ptr; ghost_name = x.seat.ghost_name; now = c.write.new.self } } in
    put_set x y c.args.effect c.in-Sets.place c.args.word c.in-Sets.is (record { seat = refl; board = refl; values = refl; written = refl }) refl c.write.ensures.own c.write.ensures.view

pub returns-in-Keeps : goal.returns-in-Keeps
returns-in-Keeps c =
    let x : Run = c.args.self.now in
    let y : Run = record x { locals = c.keep.new.self } in
    let same = to_z-of_z w64 c.args.word c.ranges.word in
    put_keep x y c.args.effect c.in-Keeps.local c.args.word c.in-Keeps.is (record { seat = refl; board = refl; values = refl; written = refl }) refl (c.keep.ensures ∙ ap (λ (word : ℤ). slice_set x.locals c.in-Keeps.local word) same)
