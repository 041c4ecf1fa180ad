-- What was fetched of a command's files, and the text that it makes of them.
use Rattle.std.proofs.Common.{ℕ, true, ◌≡◌, ◌⊎◌, inl, inr, ◌<◌, ◌≤◌, List, Option, Some, length, refl, subst}
use Rattle.std.specs.Prelude.{Result, Ok, Err, Vec, IfOk, IfErr, MatchResult}
use Rattle.std.specs.declared.alloc.Global.{Global}
use Rattle.wave_io.specs.Faults.{Rose}
use Rattle.dep_simplify.specs.declared.verdict.Verdict.{Verdict}
use Rattle.wave_words.specs.Forms.{number}
use Rattle.wave_words.specs.declared.form.Form.{Form}
use Rattle.loop_core.specs.declared.nest.Nest.{Nest}
use Rattle.loop_core.specs.Lists.{Lists}
use Rattle.index_props.specs.Meanings.{Passes}
use Rattle.prop_check.specs.Broken.{FirstBroken}
use Rattle.wave_main.specs.declared.fetch.InputBytes.{InputBytes}
use Rattle.wave_main.specs.declared.input.Input.{Input}
use Rattle.wave_main.specs.declared.status.Status.{Status}
use Rattle.wave_main.specs.declared.status.Status.TheVariants.{ReadFault, Memory, Property}
use Rattle.wave_main.specs.Answers.{AreFilesOf}
use Rattle.wave_main.specs.Binding.{index_arrays}
use Rattle.wave_main.specs.Commands.{IsAsked, IsText, first_file, inputs_of, reads_files, stages}
use Rattle.wave_main.specs.Fetching.{IsInputFault, IsInputFetched}
use Rattle.wave_main.specs.Files.{Inputs, word_of}
use Rattle.wave_main.specs.Making.{IsMade, IsMissed}
use Rattle.wave_main.specs.Planning.{HasText, work_of}
use Rattle.wave_main.specs.Run.{IsInput, WorkPrints}
use Rattle.wave_main.specs.Sound.{Work}
use Rattle.wave_main.specs.Stages.{AcceptAll, IsRefusedBy, Accepts, OfProperties, Breaks}
use Rattle.wave_main.proofs.StageLaws.{none_broken, one_loop}

abbrev pub Held : Type 0
Held = List ℕ → Option (List ℕ)

-- the vectors begin at the command's place
pub at_places : (held : Held) (ws : List (List ℕ)) (form : Form) (first : ℕ) (files : List (List ℕ)) (got : InputBytes) → first ≡ first_file form → IsInputFetched held ws first files got → IsInputFetched held ws (first_file form) files got
at_places held ws form first files got same is = let P : ℕ → Type 0 = λ n. IsInputFetched held ws n files got in subst P same is

-- ---- a file that isn't read

pub input_missed : (held : Held) (ws : List (List ℕ)) (form : Form) (first : ℕ) (old new : List ℕ → ℕ) (status : Status) → IsAsked ws form → reads_files form ≡ true → first ≡ first_file form
    → (status ≡ Memory) ⊎ IsInputFault first ws old new status → IsMissed held ws old new status
input_missed held ws form first old new status asks reads same cause = elim cause [
  | inl want ↦ inl want
  | inr (word, below, which, is, rose) ↦
      let P : ℕ → Type 0 = λ n. (word ≡ 1) ⊎ (word ≡ 2) ⊎ (n ≤ word) in
      inr (inl (word, (form, asks, reads, below, subst P same which), is, rose))
]

pub loop_missed : (held : Held) (ws : List (List ℕ)) (form : Form) (old new : List ℕ → ℕ) (status : Status) → IsAsked ws form → reads_files form ≡ true → 1 < length ws
    → (status ≡ Memory) ⊎ ((status ≡ ReadFault 1) × Rose (old (word_of ws 1)) (new (word_of ws 1))) → IsMissed held ws old new status
loop_missed held ws form old new status asks reads long cause = elim cause [
  | inl want ↦ inl want
  | inr (is, rose) ↦ inr (inl (1, (form, asks, reads, long, inl refl), is, rose))
]

-- ---- the text of a command, or its refusal

pub made_by : (held : Held) (ws : List (List ℕ)) (form : Form) (files : List (List ℕ)) (r : Result (Vec ℕ Global) Status) → IsAsked ws form → AreFilesOf held ws files
    → MatchResult r (λ text. AcceptAll (stages form ws) (inputs_of form files) × IsText form ws (inputs_of form files) text.items) (λ status. (status ≡ Memory) ⊎ IsRefusedBy (stages form ws) (inputs_of form files) status)
    → IfOk r (λ text. IsMade held ws text.items)
made_by held ws form files (Ok text) asks are h = (files, are, (form, asks, h.0, h.1))
made_by held ws form files (Err status) asks are h = tt

pub missed_by : (held : Held) (ws : List (List ℕ)) (form : Form) (files : List (List ℕ)) (old new : List ℕ → ℕ) (r : Result (Vec ℕ Global) Status) → IsAsked ws form → AreFilesOf held ws files
    → MatchResult r (λ text. AcceptAll (stages form ws) (inputs_of form files) × IsText form ws (inputs_of form files) text.items) (λ status. (status ≡ Memory) ⊎ IsRefusedBy (stages form ws) (inputs_of form files) status)
    → IfErr r (IsMissed held ws old new)
missed_by held ws form files old new (Ok text) asks are h = tt
missed_by held ws form files old new (Err status) asks are h = elim h [
  | inl want ↦ inl want
  | inr by ↦ inr (inr (files, are, inr (form, asks, by)))
]

-- a text of a work that is planned is one of the work of words
pub printed_of : (ws : List (List ℕ)) (files : Inputs) (workers : ℕ) (text_of : Work → List Verdict → List ℕ) (text : List ℕ) → number (word_of ws 3) ≡ Some workers → HasText files workers text_of text → WorkPrints ws files text text_of
printed_of ws files workers text_of text many (planned, is, printed) = record {
  work = work_of planned workers;
  is_work = record { input = is.input; workers = many; sound = is.sound };
  verdicts = planned.verdicts;
  are_verdicts = is.verdicts;
  printed = printed;
}

-- ---- the input of a command

-- the properties that the arrays have are those that the loop declares
pub passed : (files : Inputs) (input : Input) → IsInput files input → Passes input.nest.props input.arrays → Accepts OfProperties files
passed files input is all status (nest, p, f, s, loop, broken, says) =
    let there = subst (λ (a : Lists). Passes input.nest.props a) is.arrays all in
    let same : input.nest ≡ nest = one_loop files.loop_file input.nest nest is.is_loop loop in
    none_broken nest.props (index_arrays nest.decls files) p f s (subst (λ (n : Nest). Passes n.props (index_arrays n.decls files)) same there) broken

pub broken : (files : Inputs) (input : Input) (p f s : ℕ) → IsInput files input → FirstBroken input.nest.props input.arrays p f s → Breaks files (Property p f s)
broken files input p f s is x = (input.nest, p, f, s, is.is_loop, subst (λ (a : Lists). FirstBroken input.nest.props a p f s) is.arrays x, refl)
