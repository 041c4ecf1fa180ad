-- What the events of an order, and rounds after it, leave and count.
use Rattle.std.specs.Prelude.{◌≡◌, ℕ, zero, suc, ◌+◌, ◌%◌, ◌^◌, ◌-◌, ◌<◌, nat_le, true, if◌then◌else◌, List, [], ◌∷◌, ◌++◌, Option, Some, length, slice_index, slice_index_or}
use Rattle.core_law.specs.Works.{Work}
use Rattle.core_law.specs.Numbers.{total}
use Rattle.core_law.specs.Sequential.{after}
use Rattle.core_law.specs.Fit.{IsFit}
use Rattle.core_law.specs.Scripts.{Action as LawAction, look, next}
use Rattle.core_law.specs.Machine as law
use Rattle.core_law.specs.Machine.{Reached, event, place}
use Rattle.core_law.specs.Standing.{HasEnded}
use Rattle.core_law.specs.Rounds.{made_by}
use Rattle.core_run.specs.declared.machine.Core.{Core}
use Rattle.core_run.specs.declared.machine.Event.{Event}
use Rattle.core_run.specs.declared.machine.Event.TheVariants.{Looked}
use Rattle.core_run.specs.Cores.{core_of}
use Rattle.core_run.specs.Links.{IsOf, IsGood}

-- the state after the events of these workers, the first one first
abbrev pub runs : Work → List ℕ → law.State → law.State
runs w [] c = c
runs w (k ∷ ks) c = runs w ks (event w k c)

-- the looks among these events, and those that passed
abbrev pub looks_at : law.State → Option LawAction → ℕ
looks_at c (Some (look f n)) = 1
looks_at c _ = 0

abbrev pub passed_at : law.State → Option LawAction → ℕ
passed_at c (Some (look f n)) = if nat_le n (slice_index c.counts f) then 1 else 0
passed_at c _ = 0

abbrev pub looks_in : Work → List ℕ → law.State → ℕ
looks_in w [] c = 0
looks_in w (k ∷ ks) c = looks_at c (next w k (place c k)) + looks_in w ks (event w k c)

abbrev pub passed_in : Work → List ℕ → law.State → ℕ
passed_in w [] c = 0
passed_in w (k ∷ ks) c = passed_at c (next w k (place c k)) + passed_in w ks (event w k c)

abbrev pub looked_by : Event → ℕ
looked_by (Looked seen need passed) = 1
looked_by _ = 0

abbrev pub passed_by : Event → ℕ
passed_by (Looked seen need true) = 1
passed_by _ = 0

-- n workers from b on, and rounds of the first n
abbrev pub range : ℕ → ℕ → List ℕ
range b zero = []
range b (suc n) = b ∷ range (suc b) n

abbrev pub laps : ℕ → ℕ → List ℕ
laps zero n = []
laps (suc rounds) n = laps rounds n ++ range 0 n

-- the core c0 came to c by the events of these workers, of which so many were looks and so many passed
pub record Follows (c0 c : Core) (ks : List ℕ) (looks passed : ℕ) : Type 0 where
  pub good : IsGood c
  pub scripts : c.scripts ≡ c0.scripts
  pub book : c.book ≡ c0.book
  pub hows : c.hows ≡ c0.hows
  pub stands : length c.stands.stands ≡ length c0.stands.stands
  pub room : c.stands.room ≡ c0.stands.room
  pub end : (w : Work) → IsOf w c0 → core_of c ≡ runs w ks (core_of c0)
  pub looks_are : (w : Work) → IsOf w c0 → looks ≡ looks_in w ks (core_of c0) % 2 ^ 64
  pub passed_are : (w : Work) → IsOf w c0 → passed ≡ passed_in w ks (core_of c0) % 2 ^ 64

-- and then by whole rounds, none of which began in an ended state
pub record Rounded (c0 c : Core) (ks : List ℕ) (looks passed : ℕ) : Type 0 where
  pub rounds : ℕ
  pub follows : Follows c0 c (ks ++ laps rounds (length c0.stands.stands)) looks passed
  pub least : (w : Work) → IsOf w c0 → (m : ℕ) → m < rounds → HasEnded w (runs w (ks ++ laps m (length c0.stands.stands)) (core_of c0)) → ⊥

-- and came to the end, where the words are those of the sequential run
pub record Replayed (c0 c : Core) (ks : List ℕ) (looks passed : ℕ) : Type 0 where
  pub rounded : Rounded c0 c ks looks passed
  pub ended : (w : Work) → IsOf w c0 → HasEnded w (core_of c)
  pub values : (w : Work) → IsFit w → IsOf w c0 → Reached w (core_of c0) → c.values ≡ (after w (total w)).cells

-- the actions of the first n scripts, and what is left to do
abbrev pub all_here : ℕ → Core → ℕ
all_here zero c = 0
all_here (suc n) c = all_here n c + length (slice_index_or c.scripts.items n [])

abbrev pub left : Core → ℕ
left c = all_here (length c.stands.stands) c - made_by (length c.stands.stands) (core_of c)
