-- What contracts say of a board and its seats.
use Rattle.std.specs.Prelude.{◌≡◌, ℕ, ◌<◌, length}
use Rattle.core_machine.specs.declared.work.Work.{Work}
use Rattle.done_words.specs.declared.view.View.{View}
use Rattle.done_words.specs.declared.board.Board.{Board}
use Rattle.done_words.specs.declared.main_seat.MainSeat.{MainSeat}
use Rattle.done_words.specs.declared.work_seat.WorkSeat.{WorkSeat}
use Rattle.done_words.specs.Views.{IsAbout, made_of, joined_of}
use Rattle.done_words.specs.Rule.{IsIn}

abbrev pub work_of : Board → Work
work_of b = b.words.shared.key.value

abbrev pub view : WorkSeat → View
view s = s.seat.me.0

abbrev pub main_view : MainSeat → View
main_view s = s.seat.me.0

-- the seat is one of this board's, and so its work is the board's
abbrev pub IsOn : WorkSeat → Board → Type 0
IsOn s b = (s.seat.table_id ≡ b.words.shared.table_id) × IsAbout (work_of b) (view s)

abbrev pub IsMainOf : MainSeat → Board → Type 0
IsMainOf s b = (s.seat.table_id ≡ b.words.shared.table_id) × IsAbout (work_of b) (main_view s)

-- each worker was made and joined
abbrev pub HasAll : Work → View → Type 0
HasAll w v = (made_of v ≡ length w.sched.workers) × ((k : ℕ) → k < length w.sched.workers → IsIn k (joined_of v))
