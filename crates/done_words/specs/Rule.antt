-- The rule of the board: its words and views are a reached state of the core.
use Rattle.std.specs.Prelude.{◌≡◌, ◌⊎◌, ℕ, suc, ◌<◌, ◌≤◌, List, [], ◌∷◌, length}
use mathlib.Core.Option.{some}
use lib.ListN.{get_elem?}
use Rattle.atomic_table.specs.Table.{State as TableState}
use Rattle.core_law.specs.Scripts.{script}
use Rattle.core_law.specs.Machine.{State, stand, stand_of, place, Reached}
use Rattle.core_machine.specs.declared.work.Work.{Work}
use Rattle.core_machine.specs.FitWork.{plain}
use Rattle.done_words.specs.declared.view.View.{View}
use Rattle.done_words.specs.declared.view.View.TheVariants.{Spent, Main, Worker}
use Rattle.done_words.specs.WordsOf.{words_in}

abbrev pub IsIn : ℕ → List ℕ → Type 0
IsIn k [] = ⊥
IsIn k (x ∷ xs) = (k ≡ x) ⊎ IsIn k xs

-- the words, and the views in the order in which they were made
abbrev pub Table : Type 0
Table = TableState (Unit {0}) View

-- View 0 is main's. View k + 1 is that of worker k, with its place and registers in the state, or spent where it was joined.
abbrev pub IsView : Work → State → ℕ → List ℕ → ℕ → View → Type 0
IsView w c made joined j Spent = (k : ℕ) × (j ≡ suc k) × IsIn k joined
IsView w c made joined j (Main m) = (j ≡ 0) × (m.work ≡ w) × (m.made ≡ made) × (m.joined ≡ joined)
IsView w c made joined j (Worker d) = (j ≡ suc d.worker) × (d.work ≡ w) × ¬ IsIn d.worker joined × (stand_of c d.worker ≡ stand d.place d.registers)

pub record Keeps (w : Work) (s : Table) : Type 0 where
  -- a list of events leads from the start to this state
  pub state : State
  pub reached : Reached (plain w) state
  pub words_are : s.words ≡ words_in w state
  -- so many workers were made, and these were joined
  pub made : ℕ
  pub joined : List ℕ
  pub views_are : length s.views ≡ suc made
  pub made_inside : made ≤ length w.sched.workers
  pub each : (j : ℕ) (v : View) → get_elem? s.views j ≡ some v → IsView w state made joined j v
  -- a worker not yet made stands at its start, and a joined one at its end
  pub unmade : (k : ℕ) → made ≤ k → stand_of state k ≡ stand 0 []
  pub ended : (k : ℕ) → IsIn k joined → (k < made) × (place state k ≡ length (script (plain w) k))
