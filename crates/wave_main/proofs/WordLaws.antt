-- The command that words ask for.
use Rattle.std.proofs.Common.{ℕ, zero, suc, ◌≡◌, ◌≤◌, Bool, true, false, ◌&&◌, List, [], ◌∷◌, Option, Some, None, length, refl, sym, ◌∙◌, ap, subst, arith}
use Rattle.std.specs.Prelude.{codes, nat_le}
use Rattle.std.specs.List.{slice_get}
use Rattle.std.proofs.lemmas.Option.{same_Some}
use Rattle.std.proofs.lemmas.Bool.Decides.{nat_tests}
use Rattle.std.proofs.lemmas.Slice.Eq.{bytes_eq-Decides}
use Rattle.wave_words.specs.declared.slot.Slot.{Slot}
use Rattle.wave_words.specs.declared.slot.Slot.TheVariants as slots
use Rattle.wave_words.specs.declared.form.Form.{Form}
use Rattle.wave_words.specs.declared.form.Form.TheVariants as forms
use Rattle.wave_words.specs.Forms.{fits, has_form, is_whole, lies_between, number, slots_of}
use Rattle.wave_words.specs.Words.{asked, IsUsageAt}
use Rattle.wave_words.proofs.WordLaws.{some_asked, asked_has}
use Rattle.wave_main.specs.declared.status.Status.{Status}
use Rattle.wave_main.specs.declared.status.Status.TheVariants.{Usage}
use Rattle.wave_main.specs.declared.demo.Kind.{Kind}
use Rattle.wave_main.specs.declared.demo.Kind.TheVariants.{Grid, Lower}
use Rattle.wave_main.specs.Commands.{all_forms, demo_form, AskForNumber, AskForWorkers, Begins, IsAsked, RefusesWords}
use Rattle.wave_main.specs.Files.{word_of}

pub same_form : (o : Option Form) (f g : Form) → o ≡ Some f → o ≡ Some g → g ≡ f
same_form o f g x y = let e : Some g ≡ Some f = sym y ∙ x in cc

pub one_form : (ws : List (List ℕ)) (f g : Form) → IsAsked ws f → IsAsked ws g → g ≡ f
one_form ws f g x y = same_form (asked all_forms ws) f g x y

-- words of a command aren't refused
pub asked_stands : (ws : List (List ℕ)) (f : Form) (status : Status) → IsAsked ws f → ¬ RefusesWords ws status
asked_stands ws f status asks (place, usage, is) = usage.refused (some_asked all_forms ws f asks)

one_place : (ws : List (List ℕ)) (p q : ℕ) → IsUsageAt all_forms ws p → IsUsageAt all_forms ws q → p ≡ q
one_place ws p q a b =
    let below : p ≤ q = b.longest p a.within a.begins in
    let above : q ≤ p = a.longest q b.within b.begins in omega (arith, below, above)

pub one_word : (ws : List (List ℕ)) (a b : Status) → RefusesWords ws a → RefusesWords ws b → a ≡ b
one_word ws a b (p, usage, is) (q, other, also) = is ∙ ap Usage (one_place ws p q usage other) ∙ sym also

-- ---- the number of words

first_true : (a b : Bool) → (a && b) ≡ true → a ≡ true
first_true true b p = refl
first_true false b p = absurd cc

second_true : (a b : Bool) → (a && b) ≡ true → b ≡ true
second_true true b p = p
second_true false b p = absurd cc

long_run : (ws : List (List ℕ)) → has_form ws forms.Run ≡ true → 4 ≤ length ws
long_run [] run = absurd cc
long_run (a ∷ []) run = absurd (let e = second_true (fits slots.Run a) false run in cc)
long_run (a ∷ b ∷ []) run = absurd (let e = second_true (fits slots.Run a) false run in cc)
long_run (a ∷ b ∷ c ∷ []) run = absurd (let e = second_true (fits slots.Run a) false run in cc)
long_run (a ∷ b ∷ c ∷ d ∷ ws) run = omega arith

long_plan : (ws : List (List ℕ)) → has_form ws forms.Plan ≡ true → 4 ≤ length ws
long_plan [] plan = absurd cc
long_plan (a ∷ []) plan = absurd (let e = second_true (fits slots.Plan a) false plan in cc)
long_plan (a ∷ b ∷ []) plan = absurd (let e = second_true (fits slots.Plan a) false plan in cc)
long_plan (a ∷ b ∷ c ∷ []) plan = absurd (let e = second_true (fits slots.Plan a) false plan in cc)
long_plan (a ∷ b ∷ c ∷ d ∷ ws) plan = omega arith

long_replay : (ws : List (List ℕ)) → has_form ws forms.Replay ≡ true → 5 ≤ length ws
long_replay [] replay = absurd cc
long_replay (a ∷ []) replay = absurd (let e = second_true (fits slots.Replay a) false replay in cc)
long_replay (a ∷ b ∷ []) replay = absurd (let e = second_true (fits slots.Replay a) false replay in cc)
long_replay (a ∷ b ∷ c ∷ []) replay = absurd (let e = second_true (fits slots.Replay a) false replay in cc)
long_replay (a ∷ b ∷ c ∷ d ∷ []) replay = absurd (let e = second_true (fits slots.Replay a) (fits slots.Workers d && false) replay in let f = second_true (fits slots.Workers d) false e in cc)
long_replay (a ∷ b ∷ c ∷ d ∷ f ∷ ws) replay = omega arith

long_check : (ws : List (List ℕ)) → has_form ws forms.Check ≡ true → 3 ≤ length ws
long_check [] check = absurd cc
long_check (a ∷ []) check = absurd (let e = second_true (fits slots.Check a) false check in cc)
long_check (a ∷ b ∷ []) check = absurd (let e = second_true (fits slots.Check a) false check in cc)
long_check (a ∷ b ∷ c ∷ ws) check = omega arith

two_explained : (ws : List (List ℕ)) → has_form ws forms.Explain ≡ true → length ws ≡ 2
two_explained [] explain = absurd cc
two_explained (a ∷ []) explain = absurd (let e = second_true (fits slots.Explain a) false explain in cc)
two_explained (a ∷ b ∷ []) explain = refl
two_explained (a ∷ b ∷ c ∷ ws) explain = absurd (let e = second_true (fits slots.Explain a) false explain in cc)

two_shown : (ws : List (List ℕ)) → has_form ws forms.Show ≡ true → length ws ≡ 2
two_shown [] show = absurd cc
two_shown (a ∷ []) show = absurd (let e = second_true (fits slots.Show a) false show in cc)
two_shown (a ∷ b ∷ []) show = refl
two_shown (a ∷ b ∷ c ∷ ws) show = absurd (let e = second_true (fits slots.Show a) false show in cc)

pub run_length : (ws : List (List ℕ)) → IsAsked ws forms.Run → 4 ≤ length ws
run_length ws asks = long_run ws (asked_has all_forms ws forms.Run asks)

first_run : (ws : List (List ℕ)) → has_form ws forms.Run ≡ true → Begins ws (codes "run")
first_run [] run = absurd cc
first_run (a ∷ ws) run = (bytes_eq-Decides a (codes "run")).0 (first_true (fits slots.Run a) (is_whole true (slots.Name ∷ slots.Name ∷ slots.Workers ∷ []) ws) run)

-- words of a run begin with `run`
pub run_begins : (ws : List (List ℕ)) → IsAsked ws forms.Run → Begins ws (codes "run")
run_begins ws asks = first_run ws (asked_has all_forms ws forms.Run asks)

pub plan_length : (ws : List (List ℕ)) → IsAsked ws forms.Plan → 4 ≤ length ws
plan_length ws asks = long_plan ws (asked_has all_forms ws forms.Plan asks)

pub replay_length : (ws : List (List ℕ)) → IsAsked ws forms.Replay → 5 ≤ length ws
replay_length ws asks = long_replay ws (asked_has all_forms ws forms.Replay asks)

pub check_length : (ws : List (List ℕ)) → IsAsked ws forms.Check → 3 ≤ length ws
check_length ws asks = long_check ws (asked_has all_forms ws forms.Check asks)

pub explain_length : (ws : List (List ℕ)) → IsAsked ws forms.Explain → length ws ≡ 2
explain_length ws asks = two_explained ws (asked_has all_forms ws forms.Explain asks)

pub show_length : (ws : List (List ℕ)) → IsAsked ws forms.Show → length ws ≡ 2
show_length ws asks = two_shown ws (asked_has all_forms ws forms.Show asks)

-- ---- the number of workers

-- the workers of words are a number from 1 to 64
abbrev AreWorkers : List ℕ → Type 0
AreWorkers word = (many : ℕ) × (number word ≡ Some many) × (1 ≤ many) × (many ≤ 64)

some_between : (least most : ℕ) (o : Option ℕ) → lies_between least most o ≡ true → (many : ℕ) × (o ≡ Some many) × (least ≤ many) × (many ≤ most)
some_between least most None e = absurd cc
some_between least most (Some n) e =
    let low = first_true (nat_le least n) (nat_le n most) e in
    let high = second_true (nat_le least n) (nat_le n most) e in
    (n, refl, (grind (arith, nat_tests, low)), (grind (arith, nat_tests, high)))

run_by : (ws : List (List ℕ)) → has_form ws forms.Run ≡ true → AreWorkers (word_of ws 3)
run_by [] run = absurd cc
run_by (a ∷ []) run = absurd (let e = second_true (fits slots.Run a) false run in cc)
run_by (a ∷ b ∷ []) run = absurd (let e = second_true (fits slots.Run a) false run in cc)
run_by (a ∷ b ∷ c ∷ []) run = absurd (let e = second_true (fits slots.Run a) false run in cc)
run_by (a ∷ b ∷ c ∷ d ∷ ws) run = some_between 1 64 (number d) (first_true (fits slots.Workers d) (is_whole true [] ws) (second_true (fits slots.Run a) (fits slots.Workers d && is_whole true [] ws) run))

pub run_workers : (ws : List (List ℕ)) → IsAsked ws forms.Run → AskForWorkers ws
run_workers ws asks = run_by ws (asked_has all_forms ws forms.Run asks)

planned_by : (ws : List (List ℕ)) → has_form ws forms.Plan ≡ true → AreWorkers (word_of ws 3)
planned_by [] plan = absurd cc
planned_by (a ∷ []) plan = absurd (let e = second_true (fits slots.Plan a) false plan in cc)
planned_by (a ∷ b ∷ []) plan = absurd (let e = second_true (fits slots.Plan a) false plan in cc)
planned_by (a ∷ b ∷ c ∷ []) plan = absurd (let e = second_true (fits slots.Plan a) false plan in cc)
planned_by (a ∷ b ∷ c ∷ d ∷ ws) plan = some_between 1 64 (number d) (first_true (fits slots.Workers d) (is_whole true [] ws) (second_true (fits slots.Plan a) (fits slots.Workers d && is_whole true [] ws) plan))

pub plan_workers : (ws : List (List ℕ)) → IsAsked ws forms.Plan → AskForWorkers ws
plan_workers ws asks = planned_by ws (asked_has all_forms ws forms.Plan asks)

replayed_by : (ws : List (List ℕ)) → has_form ws forms.Replay ≡ true → AreWorkers (word_of ws 3)
replayed_by [] replay = absurd cc
replayed_by (a ∷ []) replay = absurd (let e = second_true (fits slots.Replay a) false replay in cc)
replayed_by (a ∷ b ∷ []) replay = absurd (let e = second_true (fits slots.Replay a) false replay in cc)
replayed_by (a ∷ b ∷ c ∷ []) replay = absurd (let e = second_true (fits slots.Replay a) false replay in cc)
replayed_by (a ∷ b ∷ c ∷ d ∷ []) replay = absurd (let e = second_true (fits slots.Replay a) (fits slots.Workers d && false) replay in let f = second_true (fits slots.Workers d) false e in cc)
replayed_by (a ∷ b ∷ c ∷ d ∷ f ∷ ws) replay = some_between 1 64 (number d) (first_true (fits slots.Workers d) (is_whole true [] ws) (second_true (fits slots.Replay a) (fits slots.Workers d && is_whole true [] ws) replay))

pub replay_workers : (ws : List (List ℕ)) → IsAsked ws forms.Replay → AskForWorkers ws
replay_workers ws asks = replayed_by ws (asked_has all_forms ws forms.Replay asks)

-- ---- the words of a demo

-- each word fits its place
fits_at : (files : Bool) (all : List Slot) (ws : List (List ℕ)) (place : ℕ) (slot : Slot) → is_whole files all ws ≡ true → slice_get all place ≡ Some slot → fits slot (word_of ws place) ≡ true
fits_at files [] ws place slot whole at = absurd cc
fits_at files (s ∷ all) [] place slot whole at = absurd cc
fits_at files (s ∷ all) (w ∷ ws) zero slot whole at =
    let P : Slot → Type 0 = λ k. fits k w ≡ true in subst P (same_Some s slot at) (first_true (fits s w) (is_whole files all ws) whole)
fits_at files (s ∷ all) (w ∷ ws) (suc k) slot whole at = fits_at files all ws k slot (second_true (fits s w) (is_whole files all ws) whole) at

abbrev number_slot : Kind → Slot
number_slot Grid = slots.Side
number_slot Lower = slots.Seed

-- the words that a demo is told by
record AreDemo (kind : Kind) (ws : List (List ℕ)) : Type 0 where
  pub begins : fits slots.Demo (word_of ws 0) ≡ true
  pub names_number : fits (number_slot kind) (word_of ws 2) ≡ true
  pub names_workers : fits slots.Workers (word_of ws 3) ≡ true

are_demo : (kind : Kind) (ws : List (List ℕ)) → IsAsked ws (demo_form kind) → AreDemo kind ws
are_demo Grid ws asks =
    let all = asked_has all_forms ws forms.DemoGrid asks in
    let places = slots_of forms.DemoGrid in
    record { begins = fits_at false places ws 0 slots.Demo all refl; names_number = fits_at false places ws 2 slots.Side all refl; names_workers = fits_at false places ws 3 slots.Workers all refl }
are_demo Lower ws asks =
    let all = asked_has all_forms ws forms.DemoLower asks in
    let places = slots_of forms.DemoLower in
    record { begins = fits_at false places ws 0 slots.Demo all refl; names_number = fits_at false places ws 2 slots.Seed all refl; names_workers = fits_at false places ws 3 slots.Workers all refl }

-- words of a demo begin with `demo`
pub demo_begins : (kind : Kind) (ws : List (List ℕ)) → IsAsked ws (demo_form kind) → Begins ws (codes "demo")
demo_begins kind ws asks = (bytes_eq-Decides (word_of ws 0) (codes "demo")).0 (are_demo kind ws asks).begins

pub demo_workers : (kind : Kind) (ws : List (List ℕ)) → IsAsked ws (demo_form kind) → AskForWorkers ws
demo_workers kind ws asks = some_between 1 64 (number (word_of ws 3)) (are_demo kind ws asks).names_workers

number_is : (kind : Kind) (ws : List (List ℕ)) → fits (number_slot kind) (word_of ws 2) ≡ true → AskForNumber kind ws
number_is Grid ws side =
    let many = some_between 1 400 (number (word_of ws 2)) side in (many.0, many.1, (omega (arith, many.3)), (many.2, many.3))
number_is Lower ws seed =
    let many = some_between 0 4294967295 (number (word_of ws 2)) seed in (many.0, many.1, (omega (arith, many.3)), tt)

pub demo_number : (kind : Kind) (ws : List (List ℕ)) → IsAsked ws (demo_form kind) → AskForNumber kind ws
demo_number kind ws asks = number_is kind ws (are_demo kind ws asks).names_number

pub not_true : (b : Bool) → b ≡ false → b ≡ true → ⊥
not_true true e t = cc
not_true false e t = cc
