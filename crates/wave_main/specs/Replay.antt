-- The text of a replay.
use Rattle.std.specs.Prelude.{◌≡◌, ◌++◌, ℕ, List}
use Rattle.core_law.specs.Machine.{opening}
use Rattle.core_machine.specs.FitWork.{plain}
use Rattle.core_machine.specs.Replays.{IsReplay}
use Rattle.dep_simplify.specs.declared.verdict.Verdict.{Verdict}
use Rattle.dep_simplify.specs.Verdicts.{AreVerdicts}
use Rattle.wave_report.specs.LooksText.{looks_text}
use Rattle.wave_report.specs.SummaryText.{summary_text}
use Rattle.wave_main.specs.Files.{Inputs}
use Rattle.wave_main.specs.Matrices.{vectors_of}
use Rattle.wave_main.specs.Orders.{order_of, order_numbers}
use Rattle.wave_main.specs.Run.{IsWork, run_arrays, summary_of}
use Rattle.wave_main.specs.Sound.{Work, core_work}

-- the numbers of looks, and of those that passed, of the events in an order of workers and in the rounds after it
abbrev pub AreLooks : Work → List ℕ → ℕ → ℕ → Type 0
AreLooks work order looks passed = IsReplay (core_work work) (opening (plain (core_work work))) order looks passed

-- the summary of a work, its looks, and its arrays
abbrev pub replay_text : Work → List Verdict → ℕ → ℕ → List ℕ
replay_text work verdicts looks passed = summary_text (summary_of work.input verdicts work.plan) ++ looks_text looks passed ++ run_arrays work.input

pub record ReplayPrints (words : List (List ℕ)) (files : Inputs) (text : List ℕ) : Type 0 where
  pub work : Work
  pub is_work : IsWork words files work
  pub verdicts : List Verdict
  pub are_verdicts : AreVerdicts work.input.nest verdicts
  pub looks : ℕ
  pub passed : ℕ
  pub are_looks : AreLooks work (order_numbers (order_of (vectors_of files.vectors))) looks passed
  pub printed : text ≡ replay_text work verdicts looks passed
