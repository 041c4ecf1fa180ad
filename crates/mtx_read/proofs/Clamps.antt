-- A clamped number is judged as the number itself.
use Rattle.std.proofs.Common.{◌≡◌, ℕ, ℤ, pos, negsuc, ◌^◌, ◌<◌, ◌≤◌, Bool, true, false, cond, eqb, List, [], ◌∷◌, get_or, Option, Some, None, Ok, Err, refl, ap, ◌∙◌, subst, arith}
use Rattle.std.specs.Prelude.{◌&&◌, MatchOption, is_some}
use Rattle.std.specs.Option.{option_map}
use Rattle.std.specs.Prelude.{FitsSigned}
use Rattle.std.specs.Int.{w64}
use Rattle.std.proofs.lemmas.Int.{ints}
use Rattle.std.proofs.lemmas.Bool.Decides.{nat_tests}
use Rattle.text_base.specs.Numbers.{integer, clamped}
use Rattle.text_base.specs.LineWords.{line_words}
use Rattle.text_base.proofs.QuickLaws.{OneWord, TwoWords, ThreeWords}
use Rattle.mtx_read.specs.declared.refusal.EntryKind.TheVariants as kinds
use Rattle.mtx_read.specs.declared.header.Field.TheVariants as fields
use Rattle.mtx_read.specs.declared.size.Shape.{Shape}
use Rattle.mtx_read.specs.Reading.{is_comment, as_line, line_is}
use Rattle.mtx_read.specs.Entry.{fits_word, is_index, place_of, placed, ranged, valued, entry, fitted, value}

fits_clamped : (z : ℤ) → fits_word (clamped z) ≡ fits_word z
fits_clamped (pos n) = grind (arith, nat_tests)
fits_clamped (negsuc n) = grind (arith, nat_tests)

clamped_same : (z : ℤ) → fits_word z ≡ true → clamped z ≡ z
clamped_same (pos n) e = let lt : n < 2 ^ 63 = grind (arith, nat_tests) in ap pos (omega arith)
clamped_same (negsuc n) e = let lt : n < 2 ^ 63 = grind (arith, nat_tests) in ap negsuc (omega arith)

index_clamped : (limit : ℕ) (z : ℤ) → limit < 2 ^ 32 → is_index limit (clamped z) ≡ is_index limit z
index_clamped limit (pos n) lt = grind (arith, nat_tests)
index_clamped limit (negsuc n) lt = refl

place_clamped : (limit : ℕ) (z : ℤ) → limit < 2 ^ 32 → is_index limit z ≡ true → place_of (clamped z) ≡ place_of z
place_clamped limit (pos n) lt e = let le : n ≤ limit = grind (arith, nat_tests) in omega arith
place_clamped limit (negsuc n) lt e = refl

known : (P : Bool → Type 0) (b : Bool) → ((b ≡ true) → P true) → ((b ≡ false) → P false) → P b
known P true at_true at_false = at_true refl
known P false at_true at_false = at_false refl

both : (a b : Bool) → (a && b) ≡ true → (a ≡ true) × (b ≡ true)
both true b e = (refl, e)
both false b e = absurd cc

ranged_clamped : (shape : Shape) (i j a : ℤ) → shape.rows < 2 ^ 32 → shape.columns < 2 ^ 32 → ranged shape (clamped i) (clamped j) a ≡ ranged shape i j a
ranged_clamped shape i j a lr lc =
    let test = is_index shape.rows i && is_index shape.columns j in
    let P : Bool → Type 0 = λ v. cond v (placed shape.symmetry (place_of (clamped i)) (place_of (clamped j)) a) (Err kinds.Range) ≡ cond v (placed shape.symmetry (place_of i) (place_of j) a) (Err kinds.Range) in
    rw (index_clamped shape.rows i lr, index_clamped shape.columns j lc)
    (known P test
    (λ e. let ij = both _ _ e in rw (place_clamped shape.rows i lr ij.0, place_clamped shape.columns j lc ij.1) refl)
    (λ e. refl))

pub valued_clamped : (shape : Shape) (i j a : Option ℤ) → shape.rows < 2 ^ 32 → shape.columns < 2 ^ 32 → valued shape (option_map clamped i) (option_map clamped j) (option_map clamped a) ≡ valued shape i j a
valued_clamped shape None j a lr lc = refl
valued_clamped shape (Some i) None a lr lc = refl
valued_clamped shape (Some i) (Some j) None lr lc = refl
valued_clamped shape (Some i) (Some j) (Some a) lr lc =
    let P : Bool → Type 0 = λ v. cond v (ranged shape (clamped i) (clamped j) (clamped a)) (Err kinds.Wide) ≡ cond v (ranged shape i j a) (Err kinds.Wide) in
    rw (fits_clamped a)
    (known P (fits_word a)
    (λ e. rw (clamped_same a e) (ranged_clamped shape i j a lr lc))
    (λ e. refl))

no_word : {A : Type 0} (o : Option A) (ws : List (List ℕ)) (P : A → Type 0) → MatchOption o (ws ≡ []) P → is_some o ≡ false → ws ≡ []
no_word None ws P h e = h
no_word (Some x) ws P h e = absurd cc

no_comment : (w : List ℕ) → (get_or w 0 0 ≡ 37 → ⊥) → is_comment w ≡ false
no_comment [] e = refl
no_comment (b ∷ w) e = grind (arith, nat_tests)

pub pattern_is : {A : Type 0} (shape : Shape) (ws ws1 ws2 : List (List ℕ)) (i j : List ℕ) (o : Option A) (P : A → Type 0) → shape.rows < 2 ^ 32 → shape.columns < 2 ^ 32 → shape.field ≡ fields.Pattern
    → ws ≡ i ∷ ws1 → ws1 ≡ j ∷ ws2 → MatchOption o (ws2 ≡ []) P → is_some o ≡ false → (get_or i 0 0 ≡ 37 → ⊥)
    → as_line (valued shape (option_map clamped (integer i)) (option_map clamped (integer j)) (Some (pos 1))) ≡ line_is (entry shape) ws
pattern_is shape ws ws1 ws2 i j o P lr lc f e0 e1 h s c =
    let all : ws ≡ i ∷ j ∷ [] = e0 ∙ ap (λ (x : List (List ℕ)). i ∷ x) (e1 ∙ ap (λ (x : List (List ℕ)). j ∷ x) (no_word o ws2 P h s)) in
    rw (all, no_comment i c, f) (ap as_line (valued_clamped shape (integer i) (integer j) (Some (pos 1)) lr lc))

pub integer_is : {A : Type 0} (shape : Shape) (ws ws1 ws2 ws3 : List (List ℕ)) (i j a : List ℕ) (o : Option A) (P : A → Type 0) → shape.rows < 2 ^ 32 → shape.columns < 2 ^ 32 → shape.field ≡ fields.Integer
    → ws ≡ i ∷ ws1 → ws1 ≡ j ∷ ws2 → ws2 ≡ a ∷ ws3 → MatchOption o (ws3 ≡ []) P → is_some o ≡ false → (get_or i 0 0 ≡ 37 → ⊥)
    → as_line (valued shape (option_map clamped (integer i)) (option_map clamped (integer j)) (option_map clamped (integer a))) ≡ line_is (entry shape) ws
integer_is shape ws ws1 ws2 ws3 i j a o P lr lc f e0 e1 e2 h s c =
    let all : ws ≡ i ∷ j ∷ a ∷ [] = e0 ∙ ap (λ (x : List (List ℕ)). i ∷ x) (e1 ∙ ap (λ (x : List (List ℕ)). j ∷ x) (e2 ∙ ap (λ (x : List (List ℕ)). a ∷ x) (no_word o ws3 P h s))) in
    rw (all, no_comment i c, f) (ap as_line (valued_clamped shape (integer i) (integer j) (integer a) lr lc))

number_no_comment : (w : List ℕ) (z : ℤ) → integer w ≡ Some z → is_comment w ≡ false
number_no_comment [] z e = refl
number_no_comment (b ∷ w) z e =
    known (λ v. eqb b 37 ≡ v → v ≡ false) (eqb b 37)
    (λ d same. let is : b ≡ 37 = grind (arith, nat_tests) in absurd (let f : integer (37 ∷ w) ≡ Some z = subst (λ (n : ℕ). integer (n ∷ w) ≡ Some z) is e in cc))
    (λ d same. refl)
    refl

pub fitted_clamped : (a : Option ℤ) → fitted (option_map clamped a) ≡ fitted a
fitted_clamped None = refl
fitted_clamped (Some a) =
    let P : Bool → Type 0 = λ v. cond v (Ok (clamped a)) (Err kinds.Wide) ≡ cond v (Ok a) (Err kinds.Wide) in
    rw (fits_clamped a)
    (known P (fits_word a)
    (λ e. rw (clamped_same a e) refl)
    (λ e. refl))

pub value_is : {A : Type 0} (ws ws1 : List (List ℕ)) (a : List ℕ) (o : Option A) (P : A → Type 0) → ws ≡ a ∷ ws1 → MatchOption o (ws1 ≡ []) P → is_some o ≡ false → (get_or a 0 0 ≡ 37 → ⊥)
    → as_line (fitted (option_map clamped (integer a))) ≡ line_is value ws
value_is ws ws1 a o P e0 h s c =
    let all : ws ≡ a ∷ [] = e0 ∙ ap (λ (x : List (List ℕ)). a ∷ x) (no_word o ws1 P h s) in
    rw (all, no_comment a c) (ap as_line (fitted_clamped (integer a)))

pub quick_value_is : (s : List ℕ) (a : ℤ) (t : List ℕ) → OneWord s a t → fits_word a ≡ true → as_line (Ok a) ≡ line_is value (line_words s)
quick_value_is s a t h e = rw (h.words, number_no_comment h.first a h.value, h.value, e) refl

pub quick_pattern_is : (shape : Shape) (s : List ℕ) (i j : ℕ) (t : List ℕ) → shape.field ≡ fields.Pattern → TwoWords s i j t → as_line (ranged shape (pos i) (pos j) (pos 1)) ≡ line_is (entry shape) (line_words s)
quick_pattern_is shape s i j t f h = rw (h.words, number_no_comment h.first (pos i) h.row, f, h.row, h.column) refl

pub quick_is : (shape : Shape) (s : List ℕ) (i j : ℕ) (a : ℤ) (t : List ℕ) → shape.field ≡ fields.Integer → ThreeWords s i j a t → fits_word a ≡ true → as_line (ranged shape (pos i) (pos j) a) ≡ line_is (entry shape) (line_words s)
quick_is shape s i j a t f h e = rw (h.words, number_no_comment h.first (pos i) h.row, f, h.row, h.column, h.value, e) refl

pub fits_signed : (z : ℤ) → FitsSigned w64 z → fits_word z ≡ true
fits_signed (pos n) h = let lt : n < 2 ^ 63 = omega (arith, ints, h) in grind (arith, nat_tests)
fits_signed (negsuc n) h = let lt : n < 2 ^ 63 = omega (arith, ints, h) in grind (arith, nat_tests)
