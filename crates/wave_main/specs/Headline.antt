-- What holds of a work in each state that single steps of its workers lead to, whatever their order.
use Rattle.std.specs.Prelude.{ℕ, List}
use Rattle.core_law.specs.Machine.{State, Reached}
use Rattle.core_machine.specs.FitWork.{plain}
use Rattle.core_nest.specs.NestLaws.{DependencesAreOrdered, SomeWorkerSteps}
use Rattle.wave_words.specs.declared.form.Form.TheVariants.{Run}
use Rattle.wave_main.specs.Commands.{IsAsked, inputs_of}
use Rattle.wave_main.specs.Run.{IsWork}
use Rattle.wave_main.specs.Sound.{Work, core_work}

-- words of a run determine this work over files, one list of bytes for each word
abbrev pub IsRunOf : List (List ℕ) → List (List ℕ) → Work → Type 0
IsRunOf words files work = IsAsked words Run × IsWork words (inputs_of Run files) work

-- single loads and stores of its workers lead to this state
abbrev pub IsReached : Work → State → Type 0
IsReached work state = Reached (plain (core_work work)) state

-- the task of a row is before the task of each row that depends on it, and is finished once that one's worker is past
-- the looks of that task and past the task before it
abbrev pub KeepsOrder : Work → Type 0
KeepsOrder work =
    (state : State) → IsReached work state → DependencesAreOrdered work.input.nest work.input.arrays work.input.values work.plan.sched.workers state

-- until all workers are at their ends, some worker can step
abbrev pub GoesOn : Work → Type 0
GoesOn work =
    (state : State) → IsReached work state → SomeWorkerSteps work.input.nest work.input.arrays work.input.values work.plan.sched.workers state
