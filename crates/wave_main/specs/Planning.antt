-- What is made of files, or for a demo, on the way to a text.
use Rattle.std.specs.Prelude.{◌≡◌, ℕ, List}
use Rattle.wave_gen.specs.Grid.{grid_text}
use Rattle.wave_gen.specs.Lower.{lower_text}
use Rattle.dep_simplify.specs.declared.verdict.Verdict.{Verdict}
use Rattle.dep_simplify.specs.Verdicts.{AreVerdicts}
use Rattle.wave_main.specs.declared.demo.Kind.{Kind}
use Rattle.wave_main.specs.declared.demo.Kind.TheVariants.{Grid, Lower}
use Rattle.wave_main.specs.declared.input.Input.{Input}
use Rattle.wave_main.specs.declared.work.Planned.{Planned}
use Rattle.wave_main.specs.Demo.{IsDemo, demo_text, drawn_rows}
use Rattle.wave_main.specs.Files.{Inputs}
use Rattle.wave_main.specs.Run.{IsInput}
use Rattle.wave_main.specs.Sound.{IsSound, Work}

-- the work that is planned, for some workers
abbrev pub work_of : Planned → ℕ → Work
work_of planned workers = record { input = planned.input; workers = workers; plan = planned.plan }

-- a loop with its arrays, the verdicts on its relations, and a plan for some workers that makes it a sound work
pub record IsPlanFor (input : Input) (workers : ℕ) (planned : Planned) : Type 0 where
  pub same : planned.input ≡ input
  pub verdicts : AreVerdicts planned.input.nest planned.verdicts
  pub sound : IsSound (work_of planned workers)

-- the same of the loop of files with its arrays
pub record IsPlanned (files : Inputs) (workers : ℕ) (planned : Planned) : Type 0 where
  pub input : IsInput files planned.input
  pub verdicts : AreVerdicts planned.input.nest planned.verdicts
  pub sound : IsSound (work_of planned workers)

-- a text of a work that is planned
abbrev pub HasText : Inputs → ℕ → (Work → List Verdict → List ℕ) → List ℕ → Type 0
HasText files workers text_of text = (planned : Planned) × IsPlanned files workers planned × (text ≡ text_of (work_of planned workers) planned.verdicts)

-- the bytes of a made matrix
abbrev pub made_text : Kind → ℕ → List ℕ
made_text Grid k = grid_text k
made_text Lower seed = lower_text drawn_rows seed

-- a text of a demo that is planned
pub record HasDemo (kind : Kind) (made workers : ℕ) (text : List ℕ) : Type 0 where
  pub planned : Planned
  pub is_demo : IsDemo kind made planned.input
  pub verdicts : AreVerdicts planned.input.nest planned.verdicts
  pub sound : IsSound (work_of planned workers)
  pub printed : text ≡ demo_text kind made (work_of planned workers) planned.verdicts
