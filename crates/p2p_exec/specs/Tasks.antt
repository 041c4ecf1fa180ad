-- What the rows of a task leave.
use Rattle.std.specs.Prelude.{◌≡◌, ℕ, ◌<◌, List, ◌++◌, Some, slice_get}
use Rattle.std.specs.List.{flat_map}
use Rattle.wave_base.specs.declared.types.RowId.{RowId}
use Rattle.core_law.specs.Scripts.{Action, row_actions}
use Rattle.core_machine.specs.declared.work.Work.{Work}
use Rattle.core_machine.specs.FitWork.{plain}
use Rattle.done_words.specs.declared.view.View.{View}
use Rattle.p2p_exec.specs.Left.{IsLeft}

abbrev pub rows_actions : Work → List RowId → List Action
rows_actions w rows = flat_map (row_actions (plain w)) rows

-- these actions are next
abbrev pub MayAct : Work → View → List Action → Type 0
MayAct w v actions = (k : ℕ) × (more : List Action) × IsLeft w k v (actions ++ more)

-- wherever they are next, they were made
abbrev pub Acts : Work → View → List Action → View → Type 0
Acts w u actions v = (k : ℕ) (more : List Action) → IsLeft w k u (actions ++ more) → IsLeft w k v more

-- each of these rows is one of the nest's
abbrev pub AreRows : Work → List RowId → Type 0
AreRows w rows = (n : ℕ) (row : RowId) → slice_get rows n ≡ Some row → row.0 < w.arrays.n
