-- Words that begin those of a command, and how far they go.
use Rattle.std.proofs.Common.{ℕ, zero, suc, ◌≡◌, ◌≤◌, ◌<◌, Bool, true, false, ◌&&◌, ◌||◌, if◌then◌else◌, List, [], ◌∷◌, ◌++◌, Option, Some, None, length, take, map, refl, subst, arith}
use Rattle.std.specs.Prelude.{codes, max, nat_le}
use Rattle.std.specs.List.{list_any}
use Rattle.std.proofs.Math.Nat.{le-max_left, le-max_right}
use Rattle.std.proofs.lemmas.Bool.Decides.{nat_tests}
use Rattle.wave_words.specs.declared.slot.Slot.{Slot}
use Rattle.wave_words.specs.declared.slot.Slot.TheVariants as slots
use Rattle.wave_words.specs.declared.form.Form.{Form}
use Rattle.wave_words.specs.Forms.{fits, is_whole, reach, form_reach, has_form, takes_files, slots_of}
use Rattle.wave_words.specs.Reach.{furthest}
use Rattle.wave_words.specs.Words.{asked, IsUsageAt}

-- a word that fits
abbrev fitting : Slot → List ℕ
fitting slots.Run = codes "run"
fitting slots.Demo = codes "demo"
fitting slots.Plan = codes "plan"
fitting slots.Replay = codes "replay"
fitting slots.Check = codes "check"
fitting slots.Explain = codes "explain"
fitting slots.Show = codes "show"
fitting slots.Grid = codes "grid"
fitting slots.Lower = codes "lower"
fitting slots.Name = []
fitting slots.Workers = codes "1"
fitting slots.Side = codes "1"
fitting slots.Seed = codes "1"

fitting_fits : (s : Slot) → fits s (fitting s) ≡ true
fitting_fits slots.Run = refl
fitting_fits slots.Demo = refl
fitting_fits slots.Plan = refl
fitting_fits slots.Replay = refl
fitting_fits slots.Check = refl
fitting_fits slots.Explain = refl
fitting_fits slots.Show = refl
fitting_fits slots.Grid = refl
fitting_fits slots.Lower = refl
fitting_fits slots.Name = refl
fitting_fits slots.Workers = refl
fitting_fits slots.Side = refl
fitting_fits slots.Seed = refl

both : (a b : Bool) → a ≡ true → b ≡ true → (a && b) ≡ true
both true b p q = q
both false b p q = absurd (cc)

first_true : (a b : Bool) → (a && b) ≡ true → a ≡ true
first_true true b p = refl
first_true false b p = p

second_true : (a b : Bool) → (a && b) ≡ true → b ≡ true
second_true true b p = p
second_true false b p = absurd (cc)

-- words that fit all places
filled : (files : Bool) (ss : List Slot) → is_whole files ss (map fitting ss) ≡ true
filled files [] = refl
filled files (s ∷ ss) = both _ _ (fitting_fits s) (filled files ss)

open_end : (ws : List (List ℕ)) → is_whole true [] ws ≡ true
open_end [] = refl
open_end (w ∷ ws) = refl

abbrev Begins : Bool → List Slot → List (List ℕ) → ℕ → Type 0
Begins files ss ws k = (more : List (List ℕ)) × (is_whole files ss (take k ws ++ more) ≡ true)

begins_step : (files : Bool) (s : Slot) (ss : List Slot) (w : List ℕ) (ws : List (List ℕ)) (k : ℕ) (b : Bool) → fits s w ≡ b
    → suc k ≤ (if b then suc (reach files ss ws) else 0) → (k ≤ reach files ss ws → Begins files ss ws k) → Begins files (s ∷ ss) (w ∷ ws) (suc k)
begins_step files s ss w ws k true e h ih = let next = ih (omega (arith, h)) in (next.0, both _ _ e next.1)
begins_step files s ss w ws k false e h ih = absurd (omega (arith, h))

begins : (files : Bool) (ss : List Slot) (ws : List (List ℕ)) (k : ℕ) → k ≤ reach files ss ws → Begins files ss ws k
begins true [] ws k h = ([], open_end (take k ws ++ []))
begins false [] ws zero h = ([], refl)
begins false [] ws (suc k) h = absurd (omega (arith, h))
begins files (s ∷ ss) ws zero h = (map fitting (s ∷ ss), filled files (s ∷ ss))
begins files (s ∷ ss) [] (suc k) h = absurd (omega (arith, h))
begins files (s ∷ ss) (w ∷ ws) (suc k) h = begins_step files s ss w ws k (fits s w) refl h (λ q. begins files ss ws k q)

reached_step : (files : Bool) (s : Slot) (ss : List Slot) (w : List ℕ) (ws more : List (List ℕ)) (k : ℕ) (b : Bool) → fits s w ≡ b
    → b ≡ true → k ≤ reach files ss ws → suc k ≤ (if b then suc (reach files ss ws) else 0)
reached_step files s ss w ws more k true e t h = omega (arith, h)
reached_step files s ss w ws more k false e t h = absurd (cc)

reached : (files : Bool) (ss : List Slot) (ws more : List (List ℕ)) (k : ℕ) → k ≤ length ws → is_whole files ss (take k ws ++ more) ≡ true → k ≤ reach files ss ws
reached true [] ws more k h t = h
reached false [] ws more zero h t = omega arith
reached false [] [] more (suc k) h t = absurd (omega (arith, h))
reached false [] (w ∷ ws) more (suc k) h t = absurd (cc)
reached files (s ∷ ss) ws more zero h t = omega arith
reached files (s ∷ ss) [] more (suc k) h t = absurd (omega (arith, h))
reached files (s ∷ ss) (w ∷ ws) more (suc k) h t =
    let fit : fits s w ≡ true = first_true (fits s w) (is_whole files ss (take k ws ++ more)) t in
    let rest : is_whole files ss (take k ws ++ more) ≡ true = second_true (fits s w) (is_whole files ss (take k ws ++ more)) t in
    let below : k ≤ reach files ss ws = reached files ss ws more k (omega (arith, h)) rest in
    reached_step files s ss w ws more k (fits s w) refl fit below

-- ---- several forms

abbrev Some_begin : List Form → List (List ℕ) → ℕ → Type 0
Some_begin forms ws k = (more : List (List ℕ)) × (list_any (has_form (take k ws ++ more)) forms ≡ true)

either_left : (a b : Bool) → a ≡ true → (a || b) ≡ true
either_left true b p = refl
either_left false b p = absurd (cc)

either_right : (a b : Bool) → b ≡ true → (a || b) ≡ true
either_right true b p = refl
either_right false b p = p

by_or : (P : Type 0) (a b : Bool) → (a || b) ≡ true → (a ≡ true → P) → (b ≡ true → P) → P
by_or P true b h f g = f refl
by_or P false b h f g = g h

max_right : (a b k : ℕ) → a < k → k ≤ max a b → k ≤ b
max_right a b k less h = omega (arith, less, h)

max_case : (P : Type 0) (a b k : ℕ) → k ≤ max a b → (k ≤ a → P) → (k ≤ b → P) → P
max_case P a b k h f g = by_cases (nat_le k a) refl
  where
    by_cases : (c : Bool) → nat_le k a ≡ c → P
    by_cases true e = f (grind (arith, nat_tests, e))
    by_cases false e = g (max_right a b k (grind (arith, nat_tests, e)) h)

some_begins : (forms : List Form) (ws : List (List ℕ)) (k : ℕ) → 0 < length forms → k ≤ furthest ws forms → Some_begin forms ws k
some_begins [] ws k some h = absurd (omega (arith, some))
some_begins (f ∷ []) ws k some h =
    let own = begins (takes_files f) (slots_of f) ws k (omega (arith, h)) in (own.0, either_left _ _ own.1)
some_begins (f ∷ g ∷ fs) ws k some h =
    max_case (Some_begin (f ∷ g ∷ fs) ws k) (form_reach ws f) (furthest ws (g ∷ fs)) k h
    (λ q. let own = begins (takes_files f) (slots_of f) ws k q in (own.0, either_left _ _ own.1))
    (λ q. let rest = some_begins (g ∷ fs) ws k (omega arith) q in (rest.0, either_right (has_form (take k ws ++ rest.0) f) _ rest.1))

none_further : (forms : List Form) (ws more : List (List ℕ)) (k : ℕ) → k ≤ length ws → list_any (has_form (take k ws ++ more)) forms ≡ true → k ≤ furthest ws forms
none_further [] ws more k h t = absurd (cc)
none_further (f ∷ fs) ws more k h t =
    by_or (k ≤ furthest ws (f ∷ fs)) (has_form (take k ws ++ more) f) (list_any (has_form (take k ws ++ more)) fs) t
    (λ q. omega (arith, le-max_left (form_reach ws f) (furthest ws fs), reached (takes_files f) (slots_of f) ws more k h q))
    (λ q. omega (arith, le-max_right (form_reach ws f) (furthest ws fs), none_further fs ws more k h q))

absurd_any : (b : Bool) → b ≡ false → b ≡ true → ⊥
absurd_any true e t = cc
absurd_any false e t = cc

-- words have one of the forms, or are no command's
asked_step : (f : Form) (b : Bool) (o : Option Form) (rest : Bool) → (if b then Some f else o) ≡ None → (o ≡ None → rest ≡ false) → (b || rest) ≡ false
asked_step f true o rest e h = absurd cc
asked_step f false o rest e h = h e

none_asked : (forms : List Form) (ws : List (List ℕ)) → asked forms ws ≡ None → list_any (has_form ws) forms ≡ false
none_asked [] ws e = refl
none_asked (f ∷ fs) ws e = asked_step f (has_form ws f) (asked fs ws) (list_any (has_form ws) fs) e (none_asked fs ws)

some_step : (f g : Form) (b : Bool) (o : Option Form) (rest : Bool) → (if b then Some f else o) ≡ Some g → (o ≡ Some g → rest ≡ true) → (b || rest) ≡ true
some_step f g true o rest e h = refl
some_step f g false o rest e h = h e

pub some_asked : (forms : List Form) (ws : List (List ℕ)) (g : Form) → asked forms ws ≡ Some g → list_any (has_form ws) forms ≡ true
some_asked [] ws g e = absurd cc
some_asked (f ∷ fs) ws g e = some_step f g (has_form ws f) (asked fs ws) (list_any (has_form ws) fs) e (some_asked fs ws g)

has_step : (ws : List (List ℕ)) (f g : Form) (b : Bool) (o : Option Form) → has_form ws f ≡ b → (if b then Some f else o) ≡ Some g → (o ≡ Some g → has_form ws g ≡ true) → has_form ws g ≡ true
has_step ws f g true o is e h = let same : Some f ≡ Some g = e in let P : Form → Type 0 = λ x. has_form ws x ≡ true in let eq : f ≡ g = cc in subst P eq is
has_step ws f g false o is e h = h e

-- the form that is found is one that the words have
pub asked_has : (forms : List Form) (ws : List (List ℕ)) (g : Form) → asked forms ws ≡ Some g → has_form ws g ≡ true
asked_has [] ws g e = absurd cc
asked_has (f ∷ fs) ws g e = has_step ws f g (has_form ws f) (asked fs ws) refl e (asked_has fs ws g)

pub usage_at : (forms : List Form) (ws : List (List ℕ)) (place : ℕ) → 0 < length forms → asked forms ws ≡ None → place ≤ length ws → place ≡ furthest ws forms → IsUsageAt forms ws place
usage_at forms ws place some refused within is = record {
  refused = λ t. absurd_any _ (none_asked forms ws refused) t;
  within = within;
  begins = let found = some_begins forms ws place some (omega (arith, is)) in (found.0, found.1);
  longest = λ k h begun. let below = none_further forms ws begun.0 k h (begun.1) in omega (arith, below, is);
}
