-- Workers with their seats, before their threads start and after.
use Rattle.std.specs.Prelude.{◌≡◌, ℕ, ◌<◌, ◌≤◌, List, [], length, slice_index_or, Vec, vec_capacity}
use Rattle.core_machine.specs.declared.work.Work.{Work}
use Rattle.core_machine.specs.FitWork.{IsFitWork}
use Rattle.done_words.specs.declared.board.Board.{Board}
use Rattle.done_words.specs.declared.view.View.{View}
use Rattle.done_words.specs.declared.view.View.TheVariants.{Main}
use Rattle.done_words.specs.Seats.{view, IsOn, work_of}
use Rattle.done_words.specs.Views.{begun, IsAtEnd}
use Rattle.p2p_exec.specs.declared.worker.Worker.{Worker}
use Rattle.p2p_exec.specs.Where.{IsAt}
use Rattle.p2p_team.specs.declared.hand.Hand.{Hand}
use Rattle.p2p_team.specs.declared.start.Started.{Started}
use Rattle.p2p_team.specs.declared.start.Started.TheVariants.{There, Here}

-- the hand of a fit work stands somewhere in its script, on the work's board
pub record Stands (b : Board) (w : Work) (h : Hand) : Type 0 where
  pub fit : IsFitWork w
  pub board : work_of b ≡ w
  pub on : IsOn h.seat b
  pub at : IsAt w h.worker (view h.seat)

abbrev pub GivesBack : Board → Work → ℕ → Hand → Type 0
GivesBack b w k h = Stands b w h × (h.worker.number ≡ k)

abbrev pub Ends : Board → Work → ℕ → Hand → Type 0
Ends b w k h = GivesBack b w k h × IsAtEnd (view h.seat)

-- the worker k, in its thread or here
abbrev pub IsStarted : Board → Work → ℕ → Started → Type 0
IsStarted b w k (There h) = (h.promise.board.value ≡ b) × (h.promise.work.value ≡ w) × (h.promise.number ≡ k)
IsStarted b w k (Here h) = GivesBack b w k h

-- it isn't here, or is at its script's end
abbrev pub IsEnded : Started → Type 0
IsEnded (There h) = Unit {0}
IsEnded (Here h) = IsAtEnd (view h.seat)

-- the worker of each place

abbrev pub EachBack : Board → Work → List Hand → Type 0
EachBack b w hs = (k : ℕ) (d : Hand) → k < length hs → GivesBack b w k (slice_index_or hs k d)

abbrev pub EachEnds : Board → Work → List Hand → Type 0
EachEnds b w hs = (k : ℕ) (d : Hand) → k < length hs → Ends b w k (slice_index_or hs k d)

abbrev pub EachStarted : Board → Work → List Started → Type 0
EachStarted b w ss = (k : ℕ) (d : Started) → k < length ss → IsStarted b w k (slice_index_or ss k d)

abbrev pub EachEnded : List Started → Type 0
EachEnded ss = (k : ℕ) (d : Started) → k < length ss → IsEnded (slice_index_or ss k d)

-- each worker has its number and stands at its script's start
abbrev pub AreNew : Work → List Worker → Type 0
AreNew w ts = (k : ℕ) (d : Worker) → k < length ts → IsAt w (slice_index_or ts k d) (begun w k)

-- main has made so many workers
abbrev pub HasMade : Work → ℕ → View → Type 0
HasMade w n (Main m) = (m.work ≡ w) × (m.made ≡ n)
HasMade w n v = ⊥

-- the list is empty, and has room for so many
abbrev pub HasRoom : {X Z : Type 0} → Vec X Z → ℕ → Type 0
HasRoom room n = (room.items ≡ []) × (n ≤ vec_capacity room)
