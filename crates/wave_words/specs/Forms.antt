-- The forms of the commands' words.
use Rattle.std.specs.Prelude.{ℕ, suc, length, Bool, true, false, if◌then◌else◌, ◌&&◌, ◌==◌, nat_le, codes, List, [], ◌∷◌, Option, Some, None}
use Rattle.std.specs.Str.{bytes_eq}
use Rattle.text_base.specs.Numbers.{natural}
use Rattle.wave_words.specs.declared.slot.Slot.{Slot}
use Rattle.wave_words.specs.declared.slot.Slot.TheVariants as slots
use Rattle.wave_words.specs.declared.form.Form.{Form}
use Rattle.wave_words.specs.declared.form.Form.TheVariants.{Run, DemoGrid, DemoLower, Plan, Replay, Check, Explain, Show}

abbrev pub has_leading_zero : List ℕ → Bool
has_leading_zero (a ∷ b ∷ more) = a == 48
has_leading_zero _ = false

-- digits without a leading zero
abbrev pub number : List ℕ → Option ℕ
number word = if has_leading_zero word then None else natural word

abbrev pub lies_between : ℕ → ℕ → Option ℕ → Bool
lies_between least most (Some n) = nat_le least n && nat_le n most
lies_between least most None = false

-- the words that may stand at a place
abbrev pub fits : Slot → List ℕ → Bool
fits slots.Run word = bytes_eq word (codes "run")
fits slots.Demo word = bytes_eq word (codes "demo")
fits slots.Plan word = bytes_eq word (codes "plan")
fits slots.Replay word = bytes_eq word (codes "replay")
fits slots.Check word = bytes_eq word (codes "check")
fits slots.Explain word = bytes_eq word (codes "explain")
fits slots.Show word = bytes_eq word (codes "show")
fits slots.Grid word = bytes_eq word (codes "grid")
fits slots.Lower word = bytes_eq word (codes "lower")
fits slots.Name word = true
fits slots.Workers word = lies_between 1 64 (number word)
fits slots.Side word = lies_between 1 400 (number word)
fits slots.Seed word = lies_between 0 4294967295 (number word)

-- `run LOOP MATRIX WORKERS FILE..`, `demo grid NUMBER WORKERS`, `demo lower NUMBER WORKERS`,
-- `plan LOOP MATRIX WORKERS FILE..`, `replay LOOP MATRIX WORKERS ORDER FILE..`, `check LOOP MATRIX FILE..`,
-- `explain LOOP` and `show LOOP`
abbrev pub slots_of : Form → List Slot
slots_of Run = slots.Run ∷ slots.Name ∷ slots.Name ∷ slots.Workers ∷ []
slots_of DemoGrid = slots.Demo ∷ slots.Grid ∷ slots.Side ∷ slots.Workers ∷ []
slots_of DemoLower = slots.Demo ∷ slots.Lower ∷ slots.Seed ∷ slots.Workers ∷ []
slots_of Plan = slots.Plan ∷ slots.Name ∷ slots.Name ∷ slots.Workers ∷ []
slots_of Replay = slots.Replay ∷ slots.Name ∷ slots.Name ∷ slots.Workers ∷ slots.Name ∷ []
slots_of Check = slots.Check ∷ slots.Name ∷ slots.Name ∷ []
slots_of Explain = slots.Explain ∷ slots.Name ∷ []
slots_of Show = slots.Show ∷ slots.Name ∷ []

-- whether any number of names may follow
abbrev pub takes_files : Form → Bool
takes_files Run = true
takes_files DemoGrid = false
takes_files DemoLower = false
takes_files Plan = true
takes_files Replay = true
takes_files Check = true
takes_files Explain = false
takes_files Show = false

abbrev pub is_whole : Bool → List Slot → List (List ℕ) → Bool
is_whole files [] [] = true
is_whole files [] (word ∷ words) = files
is_whole files (slot ∷ more) [] = false
is_whole files (slot ∷ more) (word ∷ words) = fits slot word && is_whole files more words

-- how many words, from the first on, may begin words of the form
abbrev pub reach : Bool → List Slot → List (List ℕ) → ℕ
reach files [] words = if files then length words else 0
reach files (slot ∷ more) [] = 0
reach files (slot ∷ more) (word ∷ words) = if fits slot word then suc (reach files more words) else 0

abbrev pub form_reach : List (List ℕ) → Form → ℕ
form_reach words form = reach (takes_files form) (slots_of form) words

-- the words are of the form
abbrev pub has_form : List (List ℕ) → Form → Bool
has_form words form = is_whole (takes_files form) (slots_of form) words
