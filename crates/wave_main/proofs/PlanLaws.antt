-- Works that are planned are those of files, and sound works are fit.
use Rattle.std.proofs.Common.{ℕ, ℤ, ◌≡◌, ◌∙◌, ◌≤◌, ◌++◌, append_assoc, List, length, map, ap, refl, subst, sym}
use Rattle.std.specs.Prelude.{Result, Ok, Err, Vec, IfOk}
use Rattle.std.specs.declared.alloc.Global.{Global}
use Rattle.std.proofs.lemmas.List.{length-map}
use Rattle.std.proofs.lemmas.List.FromFn.{length-map-range_with_len}
use Rattle.loop_core.specs.Sequence.{sequential}
use Rattle.loop_meaning.specs.Weights.{row_weights}
use Rattle.sched_types.specs.declared.sched.RowTask.{RowTask}
use Rattle.sched_types.specs.declared.sched.Task.{Task}
use Rattle.super_tasks.specs.Shares.{groups, worker_tasks}
use Rattle.core_machine.specs.declared.work.Work.{Work as CoreWork}
use Rattle.dep_simplify.specs.declared.verdict.Verdict.{Verdict}
use Rattle.wave_base.specs.declared.types.Memory.{Memory}
use Rattle.wave_report.specs.declared.counts.Summary.{Summary}
use Rattle.wave_report.specs.ArrayText.{arrays_text}
use Rattle.wave_report.specs.LooksText.{looks_text}
use Rattle.wave_report.specs.SummaryText.{summary_text}
use Rattle.wave_main.specs.declared.input.Input.{Input}
use Rattle.wave_main.specs.declared.work.Planned.{Planned}
use Rattle.wave_main.specs.Files.{Inputs}
use Rattle.wave_main.specs.Planning.{IsPlanFor, IsPlanned, work_of}
use Rattle.wave_main.specs.Replay.{AreLooks, replay_text}
use Rattle.wave_main.specs.Replaying.{HasEnd, HasReplay, numbers_of}
use Rattle.wave_main.specs.Run.{IsInput, run_arrays, run_text, summary_of}
use Rattle.wave_main.specs.Sound.{IsSound, Work, core_work}

-- what is planned of the input of files
pub planned_files : (files : Inputs) (workers : ℕ) (input : Input) (planned : Planned) → IsInput files input → IsPlanFor input workers planned → IsPlanned files workers planned
planned_files files workers input planned is made = record { input = subst (IsInput files) (sym made.same) is; verdicts = made.verdicts; sound = made.sound }

abbrev bares : List Task → List RowTask
bares ts = map (λ (t : Task). record { level = t.level; rows = t.rows }) ts

-- a schedule has a list of tasks for each worker
pub one_list_each : (work : Work) → IsSound work → length work.plan.sched.workers ≡ work.workers
one_list_each work sound =
    let plan = sound.plan.plan in
    let weights = row_weights work.input.arrays work.input.nest in
    sym (length-map work.plan.sched.workers bares)
    ∙ ap (λ (l : List (List RowTask)). length l) plan.waits.same_tasks
    ∙ length-map-range_with_len (worker_tasks plan.row_levels weights work.workers) 0 work.workers

-- a text of a work and an order is one of files whose work and order these are
pub replay_of : (files : Inputs) (workers : ℕ) (planned : Planned) (order text : List ℕ) → IsPlanned files workers planned → order ≡ numbers_of files
    → (looks : ℕ) × (passed : ℕ) × AreLooks (work_of planned workers) order looks passed × (text ≡ replay_text (work_of planned workers) planned.verdicts looks passed) → HasReplay files workers text
replay_of files workers planned order text is same (looks, passed, are, printed) = record {
  planned = planned;
  is_planned = is;
  looks = looks;
  passed = passed;
  are_looks = subst (λ (l : List ℕ). AreLooks (work_of planned workers) l looks passed) same are;
  printed = printed;
}

-- the text of a replay of a work's core, in the words of the work
pub replayed_work : (work : Work) (verdicts : List Verdict) (order : List ℕ) (numbers : Summary) (core_of : CoreWork) (made : Result (Vec ℕ Global) Memory) → numbers ≡ summary_of work.input verdicts work.plan → core_of ≡ core_work work
    → IfOk made (λ text. (end : List ℕ) × HasEnd core_of order end × (text.items ≡ summary_text numbers ++ end))
    → IfOk made (λ text. (looks : ℕ) × (passed : ℕ) × AreLooks work order looks passed × (text.items ≡ replay_text work verdicts looks passed))
replayed_work work verdicts order numbers core_of (Ok text) said same (end, has, printed) =
    let own : HasEnd (core_work work) order end = subst (λ (w : CoreWork). HasEnd w order end) same has in
    (own.looks, own.passed, own.are_looks, printed ∙ (λ i. summary_text (said i) ++ own.printed i) ∙ sym (append_assoc (summary_text (summary_of work.input verdicts work.plan)) (looks_text own.looks own.passed) (run_arrays work.input)))
replayed_work work verdicts order numbers core_of (Err want) said same h = tt

-- the text of a run of a work's core, in the words of the work
pub ran_work : (work : Work) (verdicts : List Verdict) (numbers : Summary) (core_of : CoreWork) (made : Result (Vec ℕ Global) Memory) → numbers ≡ summary_of work.input verdicts work.plan → core_of ≡ core_work work
    → IfOk made (λ text. text.items ≡ summary_text numbers ++ arrays_text core_of.nest (sequential core_of.nest core_of.arrays core_of.values))
    → IfOk made (λ text. text.items ≡ run_text work verdicts)
ran_work work verdicts numbers core_of (Ok text) said same printed =
    printed ∙ (λ i. summary_text (said i) ++ arrays_text (same i).nest (sequential (same i).nest (same i).arrays (same i).values))
ran_work work verdicts numbers core_of (Err want) said same h = tt
