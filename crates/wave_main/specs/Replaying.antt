-- What is made of files on the way to the text of a replay.
use Rattle.std.specs.Prelude.{◌≡◌, ◌++◌, ℕ, List, drop}
use Rattle.core_law.specs.Machine.{opening}
use Rattle.core_machine.specs.declared.work.Work.{Work as CoreWork}
use Rattle.core_machine.specs.FitWork.{plain}
use Rattle.core_machine.specs.Replays.{IsReplay}
use Rattle.loop_core.specs.Sequence.{sequential}
use Rattle.wave_report.specs.ArrayText.{arrays_text}
use Rattle.wave_report.specs.LooksText.{looks_text}
use Rattle.wave_main.specs.declared.replay.Ordered.{Ordered}
use Rattle.wave_main.specs.declared.work.Planned.{Planned}
use Rattle.wave_main.specs.Files.{Inputs}
use Rattle.wave_main.specs.Matrices.{vectors_of}
use Rattle.wave_main.specs.Orders.{order_of, order_numbers}
use Rattle.wave_main.specs.Planning.{IsPlanned, work_of}
use Rattle.wave_main.specs.Replay.{AreLooks, replay_text}
use Rattle.wave_main.specs.Run.{IsInput}

-- the workers of the order of the files
abbrev pub numbers_of : Inputs → List ℕ
numbers_of files = order_numbers (order_of (vectors_of files.vectors))

-- the loop of the files with its arrays, and their order
pub record IsOrdered (files : Inputs) (ordered : Ordered) : Type 0 where
  pub input : IsInput files ordered.input
  pub order : ordered.order.items ≡ numbers_of files

-- what an order of a work comes to: its looks and its arrays
pub record HasEnd (work : CoreWork) (order : List ℕ) (text : List ℕ) : Type 0 where
  pub looks : ℕ
  pub passed : ℕ
  pub are_looks : IsReplay work (opening (plain work)) order looks passed
  pub printed : text ≡ looks_text looks passed ++ arrays_text work.nest (sequential work.nest work.arrays work.values)

-- a text of a work that is planned and of the order of the files
pub record HasReplay (files : Inputs) (workers : ℕ) (text : List ℕ) : Type 0 where
  pub planned : Planned
  pub is_planned : IsPlanned files workers planned
  pub looks : ℕ
  pub passed : ℕ
  pub are_looks : AreLooks (work_of planned workers) (numbers_of files) looks passed
  pub printed : text ≡ replay_text (work_of planned workers) planned.verdicts looks passed
