-- Entry lines, one after the other.
use Rattle.std.proofs.Common.{◌≡◌, ℕ, zero, suc, ◌-◌, ◌+◌, ◌<◌, ◌≤◌, Bool, true, false, cond, List, [], ◌∷◌, ◌++◌, length, get_or, take, drop, Result, Ok, Err, refl, sym, ap, ◌∙◌, subst, arith, append_assoc}
use Rattle.std.proofs.lemmas.List.{append-nil, take_more, take_all, drop-drop, take-append-drop, length-drop, length-take-le, get_or-drop}
use Rattle.std.specs.Prelude.{nat_lt}
use Rattle.std.proofs.lemmas.Bool.Decides.{nat_tests}
use Rattle.text_base.specs.Lines.{lines, first_line, after_line, trimmed}
use Rattle.text_base.specs.Words.{words}
use Rattle.text_base.specs.LineWords.{line_words}
use Rattle.text_base.proofs.LineLaws.{lines_first, after_less}
use Rattle.mtx_read.specs.declared.refusal.EntryKind.{EntryKind}
use Rattle.mtx_read.specs.declared.refusal.MtxRefusal.{MtxRefusal}
use Rattle.mtx_read.specs.declared.refusal.MtxRefusal.TheVariants as refusals
use Rattle.mtx_read.specs.declared.entry.Line.TheVariants as found
use Rattle.mtx_read.specs.Reading.{◌>>=◌, is_skipped, kept, at_line, items_of, announced, as_line, line_is, IsLine}

abbrev Words : Type 0
Words = List (List ℕ)

abbrev Reads : Type 0 → Type 0
Reads A = Words → Result A EntryKind

-- the kept lines of a text are its first line, if it is kept, and those of the rest
kept_first : (k : ℕ) (s : List ℕ) → 0 < length s → kept k (lines s) ≡ cond (is_skipped (line_words s)) (kept (k + 1) (lines (after_line s))) ((k, line_words s) ∷ kept (k + 1) (lines (after_line s)))
kept_first k [] lt = absurd (omega arith)
kept_first k (b ∷ s) lt = ap (kept k) (lines_first b s)

known : (P : Bool → Type 0) (b : Bool) → ((b ≡ true) → P true) → ((b ≡ false) → P false) → P b
known P true at_true at_false = at_true refl
known P false at_true at_false = at_false refl

-- what a line was found to be
skipped_is : {A : Type 0} (read : Reads A) (ws : Words) → found.Skipped ≡ line_is read ws → is_skipped ws ≡ true
skipped_is {A = A} read ws e =
    let no : (r : Result A EntryKind) → found.Skipped ≡ as_line r → ⊥ = λ r. elim r as (λ r. found.Skipped ≡ as_line r → ⊥) [ Ok x ↦ (λ h. cc) | Err k ↦ (λ h. cc) ] in
    let P : Bool → Type 0 = λ v. found.Skipped ≡ cond v found.Skipped (as_line (read ws)) → v ≡ true in
    known P (is_skipped ws) (λ _ _. refl) (λ _ h. absurd (no (read ws) h)) e

entry_is : {A : Type 0} (read : Reads A) (ws : Words) (x : A) → found.Entry x ≡ line_is read ws → (is_skipped ws ≡ false) × (read ws ≡ Ok x)
entry_is {A = A} read ws x e =
    let yes : (r : Result A EntryKind) → found.Entry x ≡ as_line r → r ≡ Ok x = λ r. elim r as (λ r. found.Entry x ≡ as_line r → r ≡ Ok x) [ Ok y ↦ (λ h. let e0 : x ≡ y = cc in rw e0 refl) | Err k ↦ (λ h. absurd cc) ] in
    let P : Bool → Type 0 = λ v. found.Entry x ≡ cond v found.Skipped (as_line (read ws)) → (v ≡ false) × (read ws ≡ Ok x) in
    known P (is_skipped ws) (λ _ h. absurd cc) (λ _ h. (refl, yes (read ws) h)) e

refused_is : {A : Type 0} (read : Reads A) (ws : Words) (kind : EntryKind) → found.Refused kind ≡ line_is read ws → (is_skipped ws ≡ false) × (read ws ≡ Err kind)
refused_is {A = A} read ws kind e =
    let yes : (r : Result A EntryKind) → found.Refused kind ≡ as_line r → r ≡ Err kind = λ r. elim r as (λ r. found.Refused kind ≡ as_line r → r ≡ Err kind) [ Ok x ↦ (λ h. absurd cc) | Err k ↦ (λ h. let e0 : kind ≡ k = cc in rw e0 refl) ] in
    let P : Bool → Type 0 = λ v. found.Refused kind ≡ cond v found.Skipped (as_line (read ws)) → (v ≡ false) × (read ws ≡ Err kind) in
    known P (is_skipped ws) (λ _ h. absurd cc) (λ _ h. (refl, yes (read ws) h)) e

-- ---- how far the reader has come

-- have of all entry lines gave these items, and the rest of the text has the others
pub record Progress {A X : Type 0} (read : Reads A) (spread : A → List X) (count : ℕ) (all : List (ℕ × Words)) (have : ℕ) (items : List X) (line : ℕ) (rest : List ℕ) : Type 0 where
  pub few : have ≤ count
  pub within : have ≤ length all
  pub so_far : items_of read spread (take have all) ≡ Ok items
  pub left : drop have all ≡ kept line (lines rest)

pub begins : {A X : Type 0} (read : Reads A) (spread : A → List X) (count : ℕ) (line : ℕ) (rest : List ℕ) → Progress read spread count (kept line (lines rest)) 0 [] line rest
begins read spread count line rest = record { few = omega arith; within = omega arith; so_far = refl; left = refl }

pub skips : {A X : Type 0} (read : Reads A) (spread : A → List X) (count : ℕ) (all : List (ℕ × Words)) (have : ℕ) (items : List X) (line : ℕ) (rest after : List ℕ) → Progress read spread count all have items line rest → 0 < length rest → IsLine read rest found.Skipped after → Progress read spread count all have items (line + 1) after
skips read spread count all have items line rest after p lt h =
    let s = skipped_is read (line_words rest) h.reads in
    let one : kept line (lines rest) ≡ kept (line + 1) (lines after) = kept_first line rest lt ∙ rw (s, h.leaves) refl in
    record { few = p.few; within = p.within; so_far = p.so_far; left = p.left ∙ one }

-- the next entry line
next_is : (all : List (ℕ × Words)) (have line : ℕ) (rest after : List ℕ) → 0 < length rest → after ≡ after_line rest → is_skipped (line_words rest) ≡ false → drop have all ≡ kept line (lines rest) → drop have all ≡ (line, line_words rest) ∷ kept (line + 1) (lines after)
next_is all have line rest after lt e s h = h ∙ kept_first line rest lt ∙ rw (s, e) refl

-- items of a list in two parts
pub bind_ok : {A B : Type 0} (r : Result A MtxRefusal) (f : A → Result B MtxRefusal) (y : B) → (r >>= f) ≡ Ok y → (x : A) × (r ≡ Ok x) × (f x ≡ Ok y)
bind_ok (Ok x) f y e = (x, refl, e)
bind_ok (Err d) f y e = absurd cc

same_bind : {X : Type 0} (r : Result (List X) MtxRefusal) → r ≡ (r >>= λ es. Ok ([] ++ es))
same_bind (Ok es) = refl
same_bind (Err e) = refl

abbrev done : {X : Type 0} → List X → Result (List X) MtxRefusal
done x = Ok x

ok_is : {X : Type 0} (x y : List X) → done x ≡ done y → x ≡ y
ok_is x y e = cc

append_assoc_bind : {X : Type 0} (a b : List X) (r : Result (List X) MtxRefusal) → ((r >>= λ es. Ok (b ++ es)) >>= λ es. Ok (a ++ es)) ≡ (r >>= λ es. Ok ((a ++ b) ++ es))
append_assoc_bind a b (Ok es) = ap done (sym (append_assoc a b es))
append_assoc_bind a b (Err e) = refl

one_more : {A X : Type 0} (read : Reads A) (spread : A → List X) (l : ℕ × Words) (ls back : List (ℕ × Words)) (m : A) (b : List X) → at_line l.0 (read l.1) ≡ Ok m → items_of read spread (ls ++ back) ≡ (items_of read spread back >>= λ es. Ok (b ++ es)) → items_of read spread ((l ∷ ls) ++ back) ≡ (items_of read spread back >>= λ es. Ok ((spread m ++ b) ++ es))
one_more read spread l ls back m b h next = rw (h, next) (append_assoc_bind (spread m) b (items_of read spread back))

pub items_append : {A X : Type 0} (read : Reads A) (spread : A → List X) (front back : List (ℕ × Words)) (items : List X) → items_of read spread front ≡ Ok items → items_of read spread (front ++ back) ≡ (items_of read spread back >>= λ es. Ok (items ++ es))
items_append read spread [] back items e =
    let none : [] ≡ items = ok_is _ _ e in
    rw (← none) (same_bind (items_of read spread back))
items_append {X = X} read spread (l ∷ ls) back items e =
    let a = bind_ok (at_line l.0 (read l.1)) (λ e. items_of read spread ls >>= λ es. Ok (spread e ++ es)) items e in
    let b = bind_ok (items_of read spread ls) (λ es. Ok (spread a.0 ++ es)) items a.2 in
    let made : spread a.0 ++ b.0 ≡ items = ok_is _ _ b.2 in
    let step : items_of read spread ((l ∷ ls) ++ back) ≡ (items_of read spread back >>= λ es. Ok ((spread a.0 ++ b.0) ++ es)) = one_more read spread l ls back a.0 b.0 a.1 (items_append read spread ls back b.0 b.1) in
    subst (λ (t : List X). items_of read spread ((l ∷ ls) ++ back) ≡ (items_of read spread back >>= λ es. Ok (t ++ es))) made step

-- a list from a place on
head_is : {A : Type 0} (all : List A) (n : ℕ) (x : A) (more : List A) → drop n all ≡ x ∷ more → get_or all n x ≡ x
head_is {A = A} all n x more e =
    let k : n + 0 ≡ n = omega arith in
    ap (λ (m : ℕ). get_or all m x) (sym k) ∙ sym (get_or-drop n all 0 x) ∙ ap (λ (b : List A). get_or b 0 x) e

take_push : {A : Type 0} (all : List A) (n : ℕ) (x : A) (more : List A) → drop n all ≡ x ∷ more → n ≤ length all → take (n + 1) all ≡ take n all ++ x ∷ []
take_push all n x more e le =
    let len : length (drop n all) ≡ suc (length more) = ap length e in
    let lt : n < length all = omega (arith, len, length-drop n all) in
    let is : get_or all n x ≡ x = head_is all n x more e in
    take_more all n x lt ∙ rw is refl

drop_push : {A : Type 0} (all : List A) (n : ℕ) (x : A) (more : List A) → drop n all ≡ x ∷ more → drop (n + 1) all ≡ more
drop_push all n x more e = sym (drop-drop 1 n all) ∙ ap (drop 1) e

split_at : {A : Type 0} (all : List A) (n : ℕ) (x : A) (more : List A) → drop n all ≡ x ∷ more → n ≤ length all → (all ≡ take n all ++ x ∷ more) × (length (take n all) ≡ n) × (n < length all)
split_at {A = A} all n x more e le =
    let len : length (drop n all) ≡ suc (length more) = ap length e in
    (sym (take-append-drop n all) ∙ ap (λ (b : List A). take n all ++ b) e, length-take-le n all le, omega (arith, len, length-drop n all))

pub takes : {A X : Type 0} (read : Reads A) (spread : A → List X) (count : ℕ) (all : List (ℕ × Words)) (have : ℕ) (items : List X) (line : ℕ) (rest after : List ℕ) (x : A) → Progress read spread count all have items line rest → 0 < length rest → IsLine read rest (found.Entry x) after → have < count → Progress read spread count all (have + 1) (items ++ spread x) (line + 1) after
takes {X = X} read spread count all have items line rest after x p lt h few =
    let s = entry_is read (line_words rest) x h.reads in
    let more = kept (line + 1) (lines after) in
    let next = next_is all have line rest after lt h.leaves s.0 p.left in
    let cut = split_at all have (line, line_words rest) more next p.within in
    let longer : take (have + 1) all ≡ take have all ++ (line, line_words rest) ∷ [] = take_push all have (line, line_words rest) more next p.within in
    let two = items_append read spread (take have all) ((line, line_words rest) ∷ []) items p.so_far in
    record {
      few = omega arith;
      within = omega (arith, cut.2);
      so_far = rw (longer, two, s.1) (ap (λ (y : List X). done (items ++ y)) (append-nil (spread x)));
      left = drop_push all have (line, line_words rest) more next;
    }

-- ---- how it ends

take_past : {A : Type 0} (front back : List A) (n : ℕ) → length front ≤ n → take n (front ++ back) ≡ front ++ take (n - length front) back
take_past [] back n le = let k : n - 0 ≡ n = omega arith in rw k refl
take_past (f ∷ front) back zero le = absurd (omega arith)
take_past (f ∷ front) back (suc n) le =
    let k : suc n - length (f ∷ front) ≡ n - length front = omega arith in
    rw (k, take_past front back n (omega arith)) refl

later : {A X : Type 0} (read : Reads A) (spread : A → List X) (count : ℕ) (all : List (ℕ × Words)) (have : ℕ) (x : ℕ × Words) (more : List (ℕ × Words)) → drop have all ≡ x ∷ more → have ≤ length all → have < count → take count all ≡ take have all ++ x ∷ take (count - have - 1) more
later read spread count all have x more e le lt =
    let cut = split_at all have x more e le in
    let k : count - length (take have all) ≡ suc (count - have - 1) = omega (arith, cut.1) in
    let past : take count (take have all ++ x ∷ more) ≡ take have all ++ take (count - length (take have all)) (x ∷ more) = take_past (take have all) (x ∷ more) count (omega (arith, cut.1)) in
    ap (take count) cut.0 ∙ past ∙ rw k refl

pub refuses : {A X : Type 0} (read : Reads A) (spread : A → List X) (count : ℕ) (all : List (ℕ × Words)) (have : ℕ) (items : List X) (line : ℕ) (rest after : List ℕ) (kind : EntryKind) → Progress read spread count all have items line rest → 0 < length rest → IsLine read rest (found.Refused kind) after → have < count → announced read spread count all ≡ Err (refusals.Entry line kind)
refuses read spread count all have items line rest after kind p lt h few =
    let s = refused_is read (line_words rest) kind h.reads in
    let more = kept (line + 1) (lines after) in
    let next = next_is all have line rest after lt h.leaves s.0 p.left in
    let l = later read spread count all have (line, line_words rest) more next p.within few in
    let two = items_append read spread (take have all) ((line, line_words rest) ∷ take (count - have - 1) more) items p.so_far in
    rw (l, two, s.1) refl

full : {A X : Type 0} (read : Reads A) (spread : A → List X) (count : ℕ) (all : List (ℕ × Words)) (have : ℕ) (items : List X) (line : ℕ) (rest after : List ℕ) → Progress read spread count all have items line rest → 0 < length rest → after ≡ after_line rest → is_skipped (line_words rest) ≡ false → have ≡ count → announced read spread count all ≡ Err (refusals.Extra line)
full read spread count all have items line rest after p lt e s same =
    let next = next_is all have line rest after lt e s p.left in
    let cut = split_at all have (line, line_words rest) (kept (line + 1) (lines after)) next p.within in
    let long : nat_lt (length all) count ≡ false = grind (arith, nat_tests, cut.2) in
    let front : take count all ≡ take have all = ap (λ (n : ℕ). take n all) (sym same) in
    let back : drop count all ≡ (line, line_words rest) ∷ kept (line + 1) (lines after) = ap (λ (n : ℕ). drop n all) (sym same) ∙ next in
    rw (front, p.so_far, long, back) refl

pub extra_entry : {A X : Type 0} (read : Reads A) (spread : A → List X) (count : ℕ) (all : List (ℕ × Words)) (have : ℕ) (items : List X) (line : ℕ) (rest after : List ℕ) (x : A) → Progress read spread count all have items line rest → 0 < length rest → IsLine read rest (found.Entry x) after → have ≡ count → announced read spread count all ≡ Err (refusals.Extra line)
extra_entry read spread count all have items line rest after x p lt h same = full read spread count all have items line rest after p lt h.leaves (entry_is read (line_words rest) x h.reads).0 same

pub extra_refused : {A X : Type 0} (read : Reads A) (spread : A → List X) (count : ℕ) (all : List (ℕ × Words)) (have : ℕ) (items : List X) (line : ℕ) (rest after : List ℕ) (kind : EntryKind) → Progress read spread count all have items line rest → 0 < length rest → IsLine read rest (found.Refused kind) after → have ≡ count → announced read spread count all ≡ Err (refusals.Extra line)
extra_refused read spread count all have items line rest after kind p lt h same = full read spread count all have items line rest after p lt h.leaves (refused_is read (line_words rest) kind h.reads).0 same

-- no lines are left
none_left : (k : ℕ) (rest : List ℕ) → length rest ≡ 0 → kept k (lines rest) ≡ []
none_left k [] e = refl
none_left k (b ∷ s) e = absurd (omega arith)

pub at_end : {A X : Type 0} (read : Reads A) (spread : A → List X) (count : ℕ) (all : List (ℕ × Words)) (have : ℕ) (items : List X) (line : ℕ) (rest : List ℕ) → Progress read spread count all have items line rest → length rest ≡ 0 → (length all ≡ have) × (items_of read spread all ≡ Ok items) × (drop have all ≡ [])
at_end read spread count all have items line rest p e =
    let none : drop have all ≡ [] = p.left ∙ none_left line rest e in
    let len : length (drop have all) ≡ 0 = ap length none in
    let same : length all ≡ have = omega (arith, len, length-drop have all, p.within) in
    (same, ap (items_of read spread) (sym (take_all have all (omega (arith, same)))) ∙ p.so_far, none)

pub short : {A X : Type 0} (read : Reads A) (spread : A → List X) (count : ℕ) (all : List (ℕ × Words)) (have : ℕ) (items : List X) (line : ℕ) (rest : List ℕ) → Progress read spread count all have items line rest → length rest ≡ 0 → have < count → announced read spread count all ≡ Err (refusals.Short have count)
short read spread count all have items line rest p e lt =
    let h = at_end read spread count all have items line rest p e in
    let low : nat_lt (length all) count ≡ true = grind (arith, nat_tests, h.0) in
    rw (take_all count all (omega (arith, h.0)), h.1, low, h.0) refl

pub complete : {A X : Type 0} (read : Reads A) (spread : A → List X) (count : ℕ) (all : List (ℕ × Words)) (have : ℕ) (items : List X) (line : ℕ) (rest : List ℕ) → Progress read spread count all have items line rest → length rest ≡ 0 → count ≤ have → announced read spread count all ≡ Ok items
complete read spread count all have items line rest p e le =
    let h = at_end read spread count all have items line rest p e in
    let same : have ≡ count = omega (arith, p.few) in
    let high : nat_lt (length all) count ≡ false = grind (arith, nat_tests, h.0) in
    let front : take count all ≡ take have all = ap (λ (n : ℕ). take n all) (sym same) in
    let back : drop count all ≡ [] = ap (λ (n : ℕ). drop n all) (sym same) ∙ h.2 in
    rw (front, p.so_far, high, back) refl

-- ---- before the entries

pub next_skips : (at : ℕ) (rest line after : List ℕ) → 0 < length rest → line ≡ first_line rest → after ≡ after_line rest → is_skipped (words (trimmed line)) ≡ true → (kept at (lines rest) ≡ kept (at + 1) (lines after)) × (length (lines rest) ≡ suc (length (lines after))) × (length after < length rest)
next_skips at [] line after lt e f s = absurd (omega arith)
next_skips at (b ∷ rest) line after lt e f s =
    let skipped : is_skipped (line_words (b ∷ rest)) ≡ true = ap (λ (l : List ℕ). is_skipped (words (trimmed l))) (sym e) ∙ s in
    (kept_first at (b ∷ rest) lt ∙ rw (skipped, f) refl, ap length (lines_first b rest) ∙ rw f refl, rw f (after_less (b ∷ rest) lt))

pub next_kept : (at : ℕ) (rest line after : List ℕ) → 0 < length rest → line ≡ first_line rest → after ≡ after_line rest → is_skipped (words (trimmed line)) ≡ false → (kept at (lines rest) ≡ (at, words (trimmed line)) ∷ kept (at + 1) (lines after)) × (length after < length rest)
next_kept at rest line after lt e f s =
    let skipped : is_skipped (line_words rest) ≡ false = ap (λ (l : List ℕ). is_skipped (words (trimmed l))) (sym e) ∙ s in
    (kept_first at rest lt ∙ rw (skipped, f, e) refl, rw f (after_less rest lt))

pub next_none : (at : ℕ) (rest : List ℕ) → length rest ≡ 0 → (kept at (lines rest) ≡ []) × (length (lines rest) ≡ 0)
next_none at [] e = (refl, refl)
next_none at (b ∷ rest) e = absurd (omega arith)
