-- What each step tells its caller.
use Rattle.std.specs.Prelude.{◌≡◌, ℕ, suc, ℤ, ◌<◌, ◌≤◌, Bool, Some, slice_index}
use mathlib.Core.Option.{some}
use lib.ListN.{get_elem?}
use Rattle.atomic_table.specs.Table.{Me, Step}
use Rattle.wave_base.specs.declared.types.Cell.{Cell}
use Rattle.sched_types.specs.Fits.{Stands}
use Rattle.core_law.specs.Numbers.{row}
use Rattle.core_law.specs.Sequential.{word_before}
use Rattle.core_law.specs.Scripts.{look, read, next}
use Rattle.core_law.specs.Machine.{State, stand, stand_of, Reached}
use Rattle.core_law.specs.Teaching.{IsLast}
use Rattle.core_run.specs.declared.machine.Event.TheVariants.{Read as Found}
use Rattle.core_machine.specs.FitWork.{plain}
use Rattle.core_machine.specs.Answers.{IsAsInLoop}
use Rattle.done_words.specs.declared.view.Doing.{Doing}
use Rattle.done_words.specs.declared.view.View.{View}
use Rattle.done_words.specs.declared.view.View.TheVariants.{Worker}
use Rattle.done_words.specs.WordsOf.{word_of, value_of, word_number}
use Rattle.done_words.specs.Views.{next_of, after_look, after_read, after_write, after_finish}
use Rattle.done_words.specs.Rule.{Table, Keeps}

-- in some state that the rule allows with this view, the word i holds n
abbrev pub Loaded : View → ℕ → ℕ → Type 0
Loaded (Worker d) i n = (s : Table) × Keeps d.work s × (get_elem? s.views (suc d.worker) ≡ some (Worker d)) × (slice_index s.words i ≡ n)
Loaded v i n = Unit {0}

-- n is no less than any count that this seat has seen the worker f reach, by a look that passed
abbrev pub HasRisen : View → ℕ → ℕ → Type 0
HasRisen (Worker d) f n = (q need : ℕ) → next (plain d.work) d.worker q ≡ Some (look f need) → q < d.place → need ≤ n
HasRisen v f n = Unit {0}

-- what holds in a table where the worker of e is past a look at the first so many tasks of f: they are finished, and a read
-- that is to come, whose last write before it in the sequential run is in one of them, has that write's value in its cell
pub record IsTaught (s : Table) (e : Doing) (f need : ℕ) : Type 0 where
  pub finished : need ≤ slice_index s.words f
  pub final : (p g h b at : ℕ) (begins : Bool) (cell : Cell) → e.place ≤ p → next (plain e.work) e.worker p ≡ Some (read begins g cell) → IsLast (plain e.work) h g cell
      → Stands e.work.sched.workers (record { 0 = row (plain e.work) h }) (record { worker = f; at = b }) at → b < need
      → slice_index s.words (word_number e.work cell) ≡ word_of (word_before (plain e.work) (suc h) cell)

-- a look that has passed teaches this, in each state that the rule allows in which the seat is past it
abbrev pub Teaches : View → ℕ → Type 0
Teaches (Worker d) f = (s : Table) (e : Doing) (need : ℕ) → Keeps d.work s → e.work ≡ d.work → get_elem? s.views (suc d.worker) ≡ some (Worker e)
    → next_of d ≡ Some (look f need) → d.place < e.place → IsTaught s e f need
Teaches v f = Unit {0}

-- a read that finds this value at the worker's place finds what it finds in the loop: read r of instance k of iteration i
abbrev pub ReadsAsInLoop : View → Cell → ℤ → Type 0
ReadsAsInLoop (Worker d) cell value = (c : State) × Reached (plain d.work) c × (stand_of c d.worker ≡ stand d.place d.registers) × IsAsInLoop d.work c d.worker (Found cell value)
ReadsAsInLoop v cell value = Unit {0}

abbrev pub Sits : Type 0
Sits = Me (Unit {0}) View

abbrev pub looked : Step (Unit {0}) → Sits → ℕ → Sits → Type 0
looked st m n m' = (m' ≡ (after_look m.0 st.word n, m.1)) × Loaded m.0 st.word n

abbrev pub has_read : Step (Unit {0}) → Sits → ℕ → Sits → Type 0
has_read st m n m' = (m' ≡ (after_read m.0 (value_of n), m.1)) × Loaded m.0 st.word n

abbrev pub has_written : Step (Unit {0}) → Sits → ℕ → Sits → Type 0
has_written st m n m' = m' ≡ (after_write m.0, m.1)

abbrev pub has_finished : Step (Unit {0}) → Sits → ℕ → Sits → Type 0
has_finished st m n m' = m' ≡ (after_finish m.0, m.1)
