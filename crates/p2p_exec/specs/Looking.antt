-- Looks that passed, and one that didn't.
use Rattle.std.specs.Prelude.{◌≡◌, ℕ, suc, ◌<◌, ◌≤◌, List, ◌++◌, drop, length, map, Some}
use Rattle.sched_types.specs.declared.lists.Wait.{Wait}
use Rattle.core_law.specs.Scripts.{Action, look}
use Rattle.core_machine.specs.declared.work.Work.{Work}
use Rattle.done_words.specs.declared.view.View.{View}
use Rattle.done_words.specs.declared.view.View.TheVariants.{Worker}
use Rattle.done_words.specs.Views.{next_of, misses_of}
use Rattle.p2p_exec.specs.declared.looks.Miss.{Miss}
use Rattle.p2p_exec.specs.Left.{IsLeft}

abbrev pub looks_at : List Wait → List Action
looks_at waits = map (λ (wait : Wait). look wait.worker wait.count) waits

-- the last look that didn't pass: the worker looked at, the count seen and the count needed
abbrev pub last_miss_of : View → ℕ × (ℕ × ℕ)
last_miss_of (Worker d) = (d.last_miss.0, (d.last_miss.1, d.last_miss.2))
last_miss_of v = (0, (0, 0))

-- the look that is next
abbrev pub IsLookNext : View → ℕ → ℕ → Type 0
IsLookNext (Worker d) f need = next_of d ≡ Some (look f need)
IsLookNext v f need = ⊥

-- one look more didn't pass: it found too few finished tasks, and is the last miss and the next action
pub record HasMissed (u : View) (f seen need : ℕ) (v : View) : Type 0 where
  pub misses : misses_of v ≡ suc (misses_of u)
  pub last : last_miss_of v ≡ (f, (seen, need))
  pub too_few : seen < need
  pub next : IsLookNext v f need

-- these looks are next
abbrev pub MayLook : View → List Wait → Type 0
MayLook v waits = (w : Work) × (k : ℕ) × (more : List Action) × IsLeft w k v (looks_at waits ++ more)

-- wherever these looks are next, those after some of them are
abbrev pub Passes : View → List Wait → List Wait → View → Type 0
Passes u waits left v = (w : Work) (k : ℕ) (more : List Action) → IsLeft w k u (looks_at waits ++ more) → IsLeft w k v (looks_at left ++ more)

-- the looks from one on passed up to one that didn't
pub record StopsAt (u : View) (waits : List Wait) (from : ℕ) (v : View) (miss : Miss) : Type 0 where
  pub passed : Passes u (drop from waits) (drop miss.looked waits) v
  pub after : from ≤ miss.looked
  pub before : miss.looked < length waits
  pub missed : HasMissed u miss.worker miss.seen miss.need v
