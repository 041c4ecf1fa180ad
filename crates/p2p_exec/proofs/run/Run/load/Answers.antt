use Rattle.std.proofs.Common.{rules, ◌≡◌, ℤ, ◌∙◌, refl, sym, ap, subst, w64, FitsSigned, to_z, of_z}
use mir.Syntax.{w128}
use Rattle.std.proofs.lemmas.Int.{to_z-of_z}
use Rattle.loop_core.specs.Instances.{Load}
use Rattle.loop_core.specs.Lists.{entry}
use Rattle.done_words.specs.Views as views
use Rattle.done_words.specs.Seats.{view}
use Rattle.p2p_exec.specs.declared.run.Run.{Run}
use Rattle.p2p_exec.specs.Reading.{Reads}
use Rattle.p2p_exec.proofs.Cells.{cast}
use Rattle.p2p_exec.proofs.Readings.{may_load, one_read, other_read}
use Rattle.p2p_exec.proofs.run.Run.load.Goals as goal

pub overflow_cast-cell : goal.overflow_cast-cell
overflow_cast-cell c =
    let m = may_load c.args.self.now c.args.array c.args.at (sym c.is_written.ensures ∙ c.if-is_written.true) c.requires.may in
    (cast c.args.array c.args.at (to_z w128 (of_z w128 c.args.at)) (to_z-of_z w128 c.args.at c.ranges.at) m.cell).fits

pub read-requires-clause-next : goal.read-requires-clause-next
read-requires-clause-next c =
    let m = may_load c.args.self.now c.args.array c.args.at (sym c.is_written.ensures ∙ c.if-is_written.true) c.requires.may in
    subst (views.Reads (view c.args.self.now.seat.now)) (cast c.args.array c.args.at (to_z w128 (of_z w128 c.args.at)) (to_z-of_z w128 c.args.at c.ranges.at) m.cell).cell m.next

pub returns-then-is_written : goal.returns-then-is_written
returns-then-is_written c =
    let x : Run = c.args.self.now in
    let y : Run = record x { seat = record { ref_ptr = x.seat.ref_ptr; ghost_name = x.seat.ghost_name; now = c.read.new.self } } in
    let fits : FitsSigned w64 c.read.result = search rules in
    subst (λ (word : ℤ). Reads x (Load c.args.array c.args.at) word y) (sym (to_z-of_z w64 c.read.result fits))
    (one_read x y c.args.array c.args.at c.read.result (sym c.is_written.ensures ∙ c.if-is_written.true) (record { seat = refl; board = refl; values = refl; written = refl }) refl c.read.ensures.own c.read.ensures.view)

pub returns-else-is_written : goal.returns-else-is_written
returns-else-is_written c =
    let x : Run = c.args.self.now in
    let fits : FitsSigned w64 c.read-else-is_written.result = search rules in
    let found : c.read-else-is_written.result ≡ entry x.values.now c.args.array c.args.at =
    c.read-else-is_written.ensures ∙ ap (entry x.values.now c.args.array) (to_z-of_z w128 c.args.at c.ranges.at) in
    subst (λ (word : ℤ). Reads x (Load c.args.array c.args.at) word x) (sym (to_z-of_z w64 c.read-else-is_written.result fits))
    (other_read x c.args.array c.args.at c.read-else-is_written.result (sym c.is_written.ensures ∙ c.if-is_written.false) found)
