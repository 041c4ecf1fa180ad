-- Rounds of all workers in order of number.
use Rattle.std.specs.Prelude.{◌⊎◌, ℕ, zero, suc, ◌+◌, ◌<◌, ◌≤◌, length}
use Rattle.core_law.specs.Works.{Work}
use Rattle.core_law.specs.Scripts.{script}
use Rattle.core_law.specs.Machine.{State, Reached, event, place}
use Rattle.core_law.specs.Standing.{HasEnded}

-- an event of each of n workers from b on
abbrev pub round_from : Work → ℕ → ℕ → State → State
round_from w b zero c = c
round_from w b (suc n) c = round_from w (suc b) n (event w b c)

abbrev pub round : Work → State → State
round w c = round_from w 0 (length w.workers) c

-- the actions that the first n workers have made, and those that they have to make in all
abbrev pub made_by : ℕ → State → ℕ
made_by zero c = 0
made_by (suc n) c = made_by n c + place c n

abbrev pub all_of : Work → ℕ → ℕ
all_of w zero = 0
all_of w (suc n) = all_of w n + length (script w n)

-- where some worker isn't at its end, a round makes an action, and there are only so many
pub record RoundsEnd (w : Work) (c : State) : Type 0 where
  pub reached : Reached w (round w c)
  pub more : HasEnded w c ⊎ (made_by (length w.workers) c < made_by (length w.workers) (round w c))
  pub bounded : (k : ℕ) → place c k ≤ length (script w k)
  pub at_most : made_by (length w.workers) c ≤ all_of w (length w.workers)
