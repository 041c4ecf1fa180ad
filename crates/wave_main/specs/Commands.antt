-- What the commands print and refuse. Each case of a form is a command.
use Rattle.std.specs.Prelude.{◌≡◌, ◌⊎◌, ℕ, ◌<◌, ◌≤◌, ◌^◌, Bool, true, false, List, [], ◌∷◌, length, drop, Some, codes}
use Rattle.wave_words.specs.declared.form.Form.{Form}
use Rattle.wave_words.specs.declared.form.Form.TheVariants as forms
use Rattle.wave_words.specs.Forms.{number}
use Rattle.wave_words.specs.Words.{asked, IsUsageAt}
use Rattle.wave_main.specs.declared.commands.Command.{Command}
use Rattle.wave_main.specs.declared.commands.Command.TheVariants as commands
use Rattle.wave_main.specs.declared.commands.Quiet.{Quiet}
use Rattle.wave_main.specs.declared.commands.Quiet.TheVariants as quiets
use Rattle.wave_main.specs.declared.demo.Kind.{Kind}
use Rattle.wave_main.specs.declared.demo.Kind.TheVariants.{Grid, Lower}
use Rattle.wave_main.specs.declared.status.Status.{Status}
use Rattle.wave_main.specs.declared.status.Status.TheVariants.{Usage}
use Rattle.wave_main.specs.Demo.{DemoPrints, IsNumberOf}
use Rattle.wave_main.specs.Files.{Inputs, word_of}
use Rattle.wave_main.specs.Run.{PlanPrints, RunPrints}
use Rattle.wave_main.specs.Orders.{workers_in}
use Rattle.wave_main.specs.Replay.{ReplayPrints}
use Rattle.wave_main.specs.Stages.{Stage, OfLoop, OfBounds, AcceptAll, IsRefusedBy, input_stages, replay_stages}
use Rattle.wave_main.specs.Texts.{CheckPrints, ExplainPrints, ShowPrints}

abbrev pub all_forms : List Form
all_forms = forms.Run ∷ forms.DemoGrid ∷ forms.DemoLower ∷ forms.Plan ∷ forms.Replay ∷ forms.Check ∷ forms.Explain ∷ forms.Show ∷ []

-- whether the command reads files
abbrev pub reads_files : Form → Bool
reads_files forms.DemoGrid = false
reads_files forms.DemoLower = false
reads_files _ = true

-- the place of the first word that names a vector; the words before it that name files are 1, the loop, and 2, the matrix
abbrev pub first_file : Form → ℕ
first_file forms.Run = 4
first_file forms.Plan = 4
first_file forms.Replay = 4
first_file forms.Check = 3
first_file _ = 2

-- the vectors that are none of the loop's arrays: a replay's order
abbrev pub skipped : Form → ℕ
skipped forms.Replay = 1
skipped _ = 0

-- the stages at which the files of the command may be refused
abbrev pub stages : Form → List (List ℕ) → List Stage
stages forms.Run words = input_stages
stages forms.Plan words = input_stages
stages forms.Replay words = replay_stages (workers_in words)
stages forms.Check words = input_stages
stages forms.Explain words = OfLoop ∷ OfBounds ∷ []
stages forms.Show words = OfLoop ∷ []
stages _ words = []

-- what the command prints of these words and files
abbrev pub IsText : Form → List (List ℕ) → Inputs → List ℕ → Type 0
IsText forms.Run words files text = RunPrints words files text
IsText forms.DemoGrid words files text = DemoPrints Grid words text
IsText forms.DemoLower words files text = DemoPrints Lower words text
IsText forms.Plan words files text = PlanPrints words files text
IsText forms.Replay words files text = ReplayPrints words files text
IsText forms.Check words files text = CheckPrints files text
IsText forms.Explain words files text = ExplainPrints files text
IsText forms.Show words files text = ShowPrints files text

-- the words ask for this command
abbrev pub IsAsked : List (List ℕ) → Form → Type 0
IsAsked words form = asked all_forms words ≡ Some form

abbrev pub demo_form : Kind → Form
demo_form Grid = forms.DemoGrid
demo_form Lower = forms.DemoLower

-- the form of a command that was read from words, and the places that it carries
abbrev pub form_of : Command → Form
form_of (commands.Run first) = forms.Run
form_of (commands.Demo kind) = demo_form kind
form_of (commands.Quiet (quiets.Plan first)) = forms.Plan
form_of (commands.Quiet (quiets.Replay first)) = forms.Replay
form_of (commands.Quiet (quiets.Check first)) = forms.Check
form_of (commands.Quiet quiets.Explain) = forms.Explain
form_of (commands.Quiet quiets.Show) = forms.Show

abbrev pub HasPlaces : Command → Type 0
HasPlaces (commands.Run first) = first ≡ first_file forms.Run
HasPlaces (commands.Demo kind) = Unit {0}
HasPlaces (commands.Quiet (quiets.Plan first)) = first ≡ first_file forms.Plan
HasPlaces (commands.Quiet (quiets.Replay first)) = first ≡ first_file forms.Replay
HasPlaces (commands.Quiet (quiets.Check first)) = first ≡ first_file forms.Check
HasPlaces (commands.Quiet quiets.Explain) = Unit {0}
HasPlaces (commands.Quiet quiets.Show) = Unit {0}

pub record IsCommand (words : List (List ℕ)) (command : Command) : Type 0 where
  pub asked : IsAsked words (form_of command)
  pub places : HasPlaces command

-- the files of a command, of bytes for each word
abbrev pub inputs_of : Form → List (List ℕ) → Inputs
inputs_of form files = record {
  loop_file = word_of files 1;
  matrix = word_of files 2;
  vectors = drop (first_file form) files;
  first = first_file form;
  skips = skipped form;
}

-- the places of the words that name files, of which a demo has none
abbrev pub IsFilePlace : List (List ℕ) → ℕ → Type 0
IsFilePlace words place =
    (form : Form) × IsAsked words form × (reads_files form ≡ true) × (place < length words) × ((place ≡ 1) ⊎ (place ≡ 2) ⊎ (first_file form ≤ place))

-- the words of a command with these files, one list for each word, and the text that it prints
abbrev pub Prints : List (List ℕ) → List (List ℕ) → List ℕ → Type 0
Prints words files text =
    (form : Form) × IsAsked words form × AcceptAll (stages form words) (inputs_of form files) × IsText form words (inputs_of form files) text

-- words that are no command's
abbrev pub RefusesWords : List (List ℕ) → Status → Type 0
RefusesWords words status = (place : ℕ) × IsUsageAt all_forms words place × (status ≡ Usage place)

abbrev pub AreRefused : List (List ℕ) → Type 0
AreRefused words = (status : Status) × RefusesWords words status

-- words or files call for this refusal, and for none before it
abbrev pub Refuses : List (List ℕ) → List (List ℕ) → Status → Type 0
Refuses words files status =
    RefusesWords words status
    ⊎ ((form : Form) × IsAsked words form × IsRefusedBy (stages form words) (inputs_of form files) status)

-- the words ask for 1 to 64 workers
abbrev pub AskForWorkers : List (List ℕ) → Type 0
AskForWorkers words = (many : ℕ) × (number (word_of words 3) ≡ Some many) × (1 ≤ many) × (many ≤ 64)

-- the words ask for a number of this kind of demo
abbrev pub AskForNumber : Kind → List (List ℕ) → Type 0
AskForNumber kind words = (made : ℕ) × (number (word_of words 2) ≡ Some made) × (made < 2 ^ 32) × IsNumberOf kind made

-- the first word is this one
abbrev pub Begins : List (List ℕ) → List ℕ → Type 0
Begins words first = word_of words 0 ≡ first

-- words that the quiet call doesn't serve
abbrev pub IsOthers : List (List ℕ) → Type 0
IsOthers words = Begins words (codes "run") ⊎ Begins words (codes "demo")
