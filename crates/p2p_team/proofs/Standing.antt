-- Hands stand in their scripts.
use Rattle.std.proofs.Common.{◌≡◌, ℕ, suc, ◌<◌, length, sym, ap, subst, ◌∙◌, arith}
use Rattle.core_machine.specs.declared.work.Work.{Work}
use Rattle.core_machine.specs.FitWork.{IsFitWork}
use Rattle.done_words.specs.declared.board.Board.{Board}
use Rattle.done_words.specs.declared.view.View.{View}
use Rattle.done_words.specs.declared.work_seat.WorkSeat.{WorkSeat}
use Rattle.done_words.specs.Seats.{view, IsOn, work_of}
use Rattle.done_words.specs.Views.{begun, made_of}
use Rattle.p2p_exec.specs.declared.worker.Worker.{Worker}
use Rattle.p2p_exec.specs.Where.{IsAt}
use Rattle.p2p_team.specs.Hands.{GivesBack}
use Rattle.p2p_team.proofs.Joins.{lead, made_is}

pub number_is : (w : Work) (t : Worker) (k : ℕ) → IsAt w t (begun w k) → t.number ≡ k
number_is w t k h = let n : suc k ≡ suc t.number = h.number in omega arith

-- the next worker may be split
pub is_next : (b : Board) (w : Work) (t : Worker) (k : ℕ) (u : View) → work_of b ≡ w → IsAt w t (begun w k) → u ≡ lead w k
    → (t.number ≡ made_of u) × (t.number < length (work_of b).sched.workers)
is_next b w t k u same h e =
    (number_is w t k h ∙ made_is w k u e, subst (λ (x : Work). t.number < length x.sched.workers) (sym same) h.there)

-- it stands at its script's start
pub split_stands : (b : Board) (w : Work) (t : Worker) (s : WorkSeat) (k : ℕ) → IsFitWork w → work_of b ≡ w → IsAt w t (begun w k)
    → IsOn s b → view s ≡ begun (work_of b) t.number → GivesBack b w k (record { worker = t; seat = s })
split_stands b w t s k fit same h on new =
    let number = number_is w t k h in
    let start : view s ≡ begun w k = new ∙ (ap (λ (x : Work). begun x t.number) same ∙ ap (begun w) number) in
    (record { fit = fit; board = same; on = on; at = subst (IsAt w t) (sym start) h }, number)
