-- What is left of a worker's script.
use Rattle.std.specs.Prelude.{◌≡◌, ℕ, suc, ◌≤◌, List, drop, length}
use Rattle.core_law.specs.Scripts.{Action, script}
use Rattle.core_machine.specs.declared.work.Work.{Work}
use Rattle.core_machine.specs.FitWork.{plain}
use Rattle.done_words.specs.declared.view.View.{View}
use Rattle.done_words.specs.Views.{IsAbout, number_of, place_of}

-- from the place of this view on, these actions are left of the script of the worker k
pub record IsLeft (w : Work) (k : ℕ) (v : View) (actions : List Action) : Type 0 where
  pub about : IsAbout w v
  pub number : number_of v ≡ suc k
  pub left : drop (place_of v) (script (plain w) k) ≡ actions
  pub within : place_of v ≤ length (script (plain w) k)
