-- What words and files are: a loop with its arrays, the workers and their plan; and the texts of a run and of a plan.
use Rattle.std.specs.Prelude.{◌≡◌, ◌++◌, ℕ, List, Some, length, count_by}
use Rattle.loop_core.specs.Sequence.{sequential}
use Rattle.access_bounds.specs.Accepted.{IsAccepted}
use Rattle.dep_simplify.specs.declared.verdict.Verdict.{Verdict}
use Rattle.dep_simplify.specs.Verdicts.{AreVerdicts}
use Rattle.plan_build.specs.declared.build.Built.{Built}
use Rattle.loop_plan.specs.Numbers.{is_dropped, is_covered, is_kept, tasks_in, waits_in}
use Rattle.wave_report.specs.declared.counts.Summary.{Summary}
use Rattle.wave_report.specs.ArrayText.{arrays_text}
use Rattle.wave_report.specs.PlanText.{plan_text}
use Rattle.wave_report.specs.SummaryText.{summary_text}
use Rattle.wave_words.specs.Forms.{number}
use Rattle.wave_main.specs.declared.input.Input.{Input}
use Rattle.wave_main.specs.Binding.{data_arrays, index_arrays}
use Rattle.wave_main.specs.Files.{Inputs, word_of}
use Rattle.wave_main.specs.Loops.{IsLoop}
use Rattle.wave_main.specs.Sound.{IsSound, Work}

-- the loop of the files, none of whose accesses can leave its array, with its arrays
pub record IsInput (files : Inputs) (input : Input) : Type 0 where
  pub is_loop : IsLoop files.loop_file input.nest
  pub accepted : IsAccepted input.nest
  pub arrays : input.arrays ≡ index_arrays input.nest.decls files
  pub values : input.values ≡ data_arrays input.nest.decls files

-- the work that words and files determine: the loop and the arrays of the files, the number of workers of the words,
-- and the plan that makes it sound
pub record IsWork (words : List (List ℕ)) (files : Inputs) (work : Work) : Type 0 where
  pub input : IsInput files work.input
  pub workers : number (word_of words 3) ≡ Some work.workers
  pub sound : IsSound work

-- a loop in numbers: those of the verdicts on its relations, of its rows and entries, and of its plan
abbrev pub summary_of : Input → List Verdict → Built → Summary
summary_of input verdicts plan = record {
  relations = length verdicts;
  dropped = count_by is_dropped verdicts;
  covered = count_by is_covered verdicts;
  kept = count_by is_kept verdicts;
  rows = input.arrays.n;
  stored = input.arrays.nnz;
  edges = plan.edges;
  levels = plan.levels;
  tasks = tasks_in plan.sched;
  cross = plan.cross;
  waits = waits_in plan.sched;
}

-- the arrays that the loop writes, as the loop run in order leaves them
abbrev pub run_arrays : Input → List ℕ
run_arrays input = arrays_text input.nest (sequential input.nest input.arrays input.values)

-- a work with the verdicts on its relations, which determine a text
pub record WorkPrints (words : List (List ℕ)) (files : Inputs) (text : List ℕ) (text_of : Work → List Verdict → List ℕ) : Type 0 where
  pub work : Work
  pub is_work : IsWork words files work
  pub verdicts : List Verdict
  pub are_verdicts : AreVerdicts work.input.nest verdicts
  pub printed : text ≡ text_of work verdicts

-- a run prints the summary and then the arrays
abbrev pub run_text : Work → List Verdict → List ℕ
run_text work verdicts = summary_text (summary_of work.input verdicts work.plan) ++ run_arrays work.input

abbrev pub RunPrints : List (List ℕ) → Inputs → List ℕ → Type 0
RunPrints words files text = WorkPrints words files text run_text

-- a plan prints the summary, the chain, and each worker's tasks
abbrev pub whole_plan_text : Work → List Verdict → List ℕ
whole_plan_text work verdicts = summary_text (summary_of work.input verdicts work.plan) ++ plan_text work.plan.chain work.plan.sched

abbrev pub PlanPrints : List (List ℕ) → Inputs → List ℕ → Type 0
PlanPrints words files text = WorkPrints words files text whole_plan_text
