-- The numbers of the written arrays, and where the words of each begin.
use Rattle.std.proofs.Common.{◌≡◌, ◌⊎◌, ℕ, zero, suc, ◌+◌, ◌<◌, ◌≤◌, Bool, true, false, if◌then◌else◌, List, [], ◌∷◌, ◌++◌, length, get_or, map, replicate, refl, sym, ap, subst, ◌∙◌, inl, inr, ⊎_elim, append_assoc, arith}
use Rattle.std.specs.Prelude.{ℤ, Contains, ◌==◌}
use Rattle.std.proofs.lemmas.List.{length-append, length-map, length-replicate, append-nil}
use mathlib.Core.List.{map-append}
use Rattle.std.proofs.lemmas.Bool.{cases_lt}
use Rattle.std.proofs.lemmas.Bool.Decides.{nat_tests}
use Rattle.loop_core.specs.declared.nest.Nest.{Nest}
use Rattle.loop_core.specs.Shape.{is_target}
use Rattle.core_words.specs.WordsOf.{list_of, words_of, offset, AreApart}
use Rattle.core_machine.specs.declared.work.Work.{Work}
use Rattle.done_words.specs.declared.layout.Span.{Span}
use Rattle.wave_base.specs.declared.types.Cell.{Cell}
use Rattle.done_words.specs.WordsOf.{word_of, written_below, written, own_list, span_from, span, spans_below, spans_of, word_number, opening_words}

in_more : (a b : ℕ) (bs : List ℕ) → Contains bs a → Contains (b ∷ bs) a
in_more a b bs i = let l = i.1 in (suc i.0, omega arith, i.2)

in_rest : (a b : ℕ) (bs : List ℕ) → (a ≡ b → ⊥) → Contains (b ∷ bs) a → Contains bs a
in_rest a b bs ne i = at i.0 i.1 i.2
  where
    at : (k : ℕ) → k < length (b ∷ bs) → get_or (b ∷ bs) k a ≡ a → Contains bs a
    at zero l e = absurd (ne (sym e))
    at (suc k) l e = (k, omega arith, e)

in_none : (a : ℕ) → Contains [] a → ⊥
in_none a i = let l = i.1 in absurd (omega arith)

in_first : (xs ys : List ℕ) (a : ℕ) → Contains xs a → Contains (xs ++ ys) a
in_first [] ys a i = absurd (in_none a i)
in_first (x ∷ xs) ys a i = at i.0 i.1 i.2 (in_first xs ys a)
  where
    at : (k : ℕ) → k < length (x ∷ xs) → get_or (x ∷ xs) k a ≡ a → (Contains xs a → Contains (xs ++ ys) a) → Contains (x ∷ (xs ++ ys)) a
    at zero l e rest = (0, omega arith, e)
    at (suc k) l e rest = in_more a x (xs ++ ys) (rest (k, omega arith, e))

in_last : (xs : List ℕ) (a : ℕ) → Contains (xs ++ a ∷ []) a
in_last [] a = (0, omega arith, refl)
in_last (x ∷ xs) a = in_more a x (xs ++ a ∷ []) (in_last xs a)

either_in : (xs : List ℕ) (b a : ℕ) → Contains (xs ++ b ∷ []) a → Contains xs a ⊎ (a ≡ b)
either_in [] b a i = at i.0 i.1 i.2
  where
    at : (k : ℕ) → k < 1 → get_or (b ∷ []) k a ≡ a → Contains [] a ⊎ (a ≡ b)
    at zero l e = inr (sym e)
    at (suc k) l e = absurd (omega arith)
either_in (x ∷ xs) b a i = at i.0 i.1 i.2 (either_in xs b a)
  where
    at : (k : ℕ) → k < length (x ∷ (xs ++ b ∷ [])) → get_or (x ∷ (xs ++ b ∷ [])) k a ≡ a → (Contains (xs ++ b ∷ []) a → Contains xs a ⊎ (a ≡ b)) → Contains (x ∷ xs) a ⊎ (a ≡ b)
    at zero l e rest = inl (0, omega arith, e)
    at (suc k) l e rest = ⊎_elim (λ (c : Contains xs a). inl (in_more a x xs c)) (λ (c : a ≡ b). inr c) (rest (k, omega arith, e))

apart_last : (xs : List ℕ) (b : ℕ) → AreApart xs → (Contains xs b → ⊥) → AreApart (xs ++ b ∷ [])
apart_last [] b h out = (λ i. in_none b i, tt)
apart_last (x ∷ xs) b h out = (
  λ i. ⊎_elim (λ (c : Contains xs x). h.0 c) (λ (e : x ≡ b). out (0, omega arith, e)) (either_in xs b x i),
  apart_last xs b h.1 (λ i. out (in_more b x xs i)),
)

other : (k b : ℕ) → k ≡ b → (k == b) ≡ false → ⊥
other k b is e = grind (arith, nat_tests)

module _ (x : List (List ℤ)) where
  offset_in : (xs ys : List ℕ) (k : ℕ) → Contains xs k → offset (xs ++ ys) x k ≡ offset xs x k
  offset_in [] ys k i = absurd (in_none k i)
  offset_in (b ∷ xs) ys k i = by (k == b) refl (offset_in xs ys k)
    where
      by : (t : Bool) → (k == b) ≡ t → (Contains xs k → offset (xs ++ ys) x k ≡ offset xs x k) → (if t then 0 else length (list_of x b) + offset (xs ++ ys) x k) ≡ (if t then 0 else length (list_of x b) + offset xs x k)
      by true e rest = refl
      by false e rest = ap (λ (n : ℕ). length (list_of x b) + n) (rest (in_rest k b xs (λ is. other k b is e) i))

  offset_last : (xs : List ℕ) (k : ℕ) → (Contains xs k → ⊥) → offset (xs ++ k ∷ []) x k ≡ length (words_of xs x)
  offset_last [] k out = grind (arith, nat_tests)
  offset_last (b ∷ xs) k out =
      let long = length-append (list_of x b) (words_of xs x) in
      let more = offset_last xs k (λ i. out (in_more k b xs i)) in
      by (k == b) refl long more
    where
      by : (t : Bool) → (k == b) ≡ t → length (list_of x b ++ words_of xs x) ≡ length (list_of x b) + length (words_of xs x) → offset (xs ++ k ∷ []) x k ≡ length (words_of xs x)
          → (if t then 0 else length (list_of x b) + offset (xs ++ k ∷ []) x k) ≡ length (list_of x b ++ words_of xs x)
      by true e long more = absurd (out (0, omega arith, (let is : b ≡ k = grind (arith, nat_tests) in is)))
      by false e long more = omega arith

  pub words_last : (xs : List ℕ) (k : ℕ) → words_of (xs ++ k ∷ []) x ≡ words_of xs x ++ list_of x k
  words_last [] k = append-nil (list_of x k)
  words_last (b ∷ xs) k = ap (λ (l : List ℤ). list_of x b ++ l) (words_last xs k) ∙ sym (append_assoc (list_of x b) (words_of xs x) (list_of x k))

module _ (nest : Nest) where
  abbrev flag : ℕ → Bool
  flag k = is_target nest (record { 0 = k })

  below_one : (b : Bool) (l : List ℕ) (n j : ℕ) → (Contains l j → j < n) → Contains (if b then l ++ n ∷ [] else l) j → j < suc n
  below_one true l n j h i = ⊎_elim (λ (c : Contains l j). let e = h c in omega arith) (λ (e : j ≡ n). omega arith) (either_in l n j i)
  below_one false l n j h i = let e = h i in omega arith

  below : (n j : ℕ) → Contains (written_below nest n) j → j < n
  below zero j i = absurd (in_none j i)
  below (suc n) j i = below_one (flag n) (written_below nest n) n j (below n j) i

  not_yet : (n : ℕ) → Contains (written_below nest n) n → ⊥
  not_yet n i = let l = below n n i in absurd (omega arith)

  apart_one : (b : Bool) (l : List ℕ) (n : ℕ) → AreApart l → (Contains l n → ⊥) → AreApart (if b then l ++ n ∷ [] else l)
  apart_one true l n h out = apart_last l n h out
  apart_one false l n h out = h

  apart_below : (n : ℕ) → AreApart (written_below nest n)
  apart_below zero = tt
  apart_below (suc n) = apart_one (flag n) (written_below nest n) n (apart_below n) (not_yet n)

  stays_in : (b : Bool) (l : List ℕ) (n k : ℕ) → Contains l k → Contains (if b then l ++ n ∷ [] else l) k
  stays_in true l n k i = in_first l (n ∷ []) k i
  stays_in false l n k i = i

  comes_in : (b : Bool) (l : List ℕ) (n : ℕ) → b ≡ true → Contains (if b then l ++ n ∷ [] else l) n
  comes_in true l n e = in_last l n
  comes_in false l n e = absurd (cc)

  has : (n k : ℕ) → k < n → flag k ≡ true → Contains (written_below nest n) k
  has zero k l e = absurd (omega arith)
  has (suc n) k l e = ⊎_elim
      (λ (lt : k < n). stays_in (flag n) (written_below nest n) n k (has n k lt e))
      (λ (le : n ≤ k). let is : n ≡ k = omega arith in
      subst (Contains (written_below nest (suc n))) is (comes_in (flag n) (written_below nest n) n (ap flag is ∙ e)))
      (cases_lt k n)

  module _ (x : List (List ℤ)) where
    first_stays : (b : Bool) (l : List ℕ) (n k : ℕ) → Contains l k → offset (if b then l ++ n ∷ [] else l) x k ≡ offset l x k
    first_stays true l n k i = offset_in x l (n ∷ []) k i
    first_stays false l n k i = refl

    first_comes : (b : Bool) (l : List ℕ) (n : ℕ) → b ≡ true → (Contains l n → ⊥) → offset (if b then l ++ n ∷ [] else l) x n ≡ length (words_of l x)
    first_comes true l n e out = offset_last x l n out
    first_comes false l n e out = absurd (cc)

    first_below : (n k : ℕ) → k < n → flag k ≡ true → offset (written_below nest n) x k ≡ length (words_of (written_below nest k) x)
    first_below zero k l e = absurd (omega arith)
    first_below (suc n) k l e = ⊎_elim
        (λ (lt : k < n). first_stays (flag n) (written_below nest n) n k (has n k lt e) ∙ first_below n k lt e)
        (λ (le : n ≤ k). let is : n ≡ k = omega arith in
        subst (λ (j : ℕ). offset (written_below nest (suc n)) x j ≡ length (words_of (written_below nest j) x)) is
        (first_comes (flag n) (written_below nest n) n (ap flag is ∙ e) (not_yet n)))
        (cases_lt k n)

-- of all arrays
pub apart : (nest : Nest) → AreApart (written nest)
unfolding written
apart nest = apart_below nest 64

pub stands_in : (nest : Nest) (k : ℕ) → k < 64 → is_target nest (record { 0 = k }) ≡ true → Contains (written nest) k
unfolding written
stands_in nest k l e = has nest 64 k l e

-- the first word of an array stands behind the words of those before it
pub first_is : (nest : Nest) (x : List (List ℤ)) (k : ℕ) → k < 64 → is_target nest (record { 0 = k }) ≡ true → offset (written nest) x k ≡ length (words_of (written_below nest k) x)
unfolding written
first_is nest x k l e = first_below nest x 64 k l e

-- offsets are of lengths alone
pub same_offset : (xs : List ℕ) (x y : List (List ℤ)) (k : ℕ) → ((b : ℕ) → length (list_of x b) ≡ length (list_of y b)) → offset xs x k ≡ offset xs y k
same_offset [] x y k h = refl
same_offset (b ∷ xs) x y k h = by (k == b) (same_offset xs x y k h)
  where
    by : (t : Bool) → offset xs x k ≡ offset xs y k → (if t then 0 else length (list_of x b) + offset xs x k) ≡ (if t then 0 else length (list_of y b) + offset xs y k)
    by true more = refl
    by false more = let one = h b in omega arith

-- the spans in their list
spans_long : (w : Work) (n : ℕ) → length (spans_below w n) ≡ n
spans_long w zero = refl
spans_long w (suc n) = let h = spans_long w n in let e = length-append (spans_below w n) (span w n ∷ []) in omega arith

at_first : (xs : List Span) (s d : Span) (k : ℕ) → k < length xs → get_or (xs ++ s ∷ []) k d ≡ get_or xs k d
at_first [] s d k l = absurd (omega arith)
at_first (x ∷ xs) s d zero l = refl
at_first (x ∷ xs) s d (suc k) l = at_first xs s d k (omega arith)

at_end : (xs : List Span) (s d : Span) (k : ℕ) → k ≡ length xs → get_or (xs ++ s ∷ []) k d ≡ s
at_end [] s d zero e = refl
at_end [] s d (suc k) e = absurd (omega arith)
at_end (x ∷ xs) s d zero e = absurd (omega arith)
at_end (x ∷ xs) s d (suc k) e = at_end xs s d k (omega arith)

pub spans_at : (w : Work) (n k : ℕ) (d : Span) → k < n → get_or (spans_below w n) k d ≡ span w k
spans_at w zero k d l = absurd (omega arith)
spans_at w (suc n) k d l =
    let long = spans_long w n in
    ⊎_elim
    (λ (lt : k < n). at_first (spans_below w n) (span w n) d k (omega arith) ∙ spans_at w n k d lt)
    (λ (le : n ≤ k). let is : n ≡ k = omega arith in at_end (spans_below w n) (span w n) d k (omega arith) ∙ ap (span w) is)
    (cases_lt k n)

pub spans_count : (w : Work) → length (spans_of w) ≡ 64
unfolding spans_of
spans_count w = spans_long w 64

pub span_there : (w : Work) (k : ℕ) (d : Span) → k < 64 → get_or (spans_of w) k d ≡ span w k
unfolding spans_of
span_there w k d l = spans_at w 64 k d l

pub span_is : (w : Work) (spans : List Span) (k : ℕ) (d : Span) → spans ≡ spans_of w → d ≡ get_or spans k d → k < 64 → d ≡ span w k
span_is w spans k d e at l = at ∙ (ap (λ (ss : List Span). get_or ss k d) e ∙ span_there w k d l)

-- a cell's word stands at its place behind the first of its array
pub number_at : (w : Work) (spans : List Span) (cell : Cell) (d : Span) → spans ≡ spans_of w → d ≡ get_or spans cell.array.0 d → cell.array.0 < 64 → is_target w.nest cell.array ≡ true → d.first + cell.at ≡ word_number w cell
number_at w spans cell d e at l target =
    let first : ℕ = length w.sched.workers + offset (written w.nest) w.values cell.array.0 in
    let is : d ≡ span w cell.array.0 = span_is w spans cell.array.0 d e at l in
    let there : (span w cell.array.0).first ≡ first = ap (λ (b : Bool). (let s : Span = if b then record { first = first; size = length (list_of w.values cell.array.0) } else record { first = 0; size = 0 } in s).first) target in
    let one = ap (λ (s : Span). s.first) is ∙ there in
    omega arith

-- the layout of one array more

first_from : (w : Work) (n : ℕ) (k : ℕ) (b : Bool) → is_target w.nest (record { 0 = k }) ≡ b → (b ≡ true → n ≡ length w.sched.workers + offset (written w.nest) w.values k) → span_from w n k ≡ span w k
first_from w n k true e h = ap (λ (m : ℕ). span_from w m k) (h refl)
first_from w n k false e h =
    let one : (m : ℕ) → span_from w m k ≡ record { first = 0; size = 0 } = λ m. ap (λ (b : Bool). (let s : Span = if b then record { first = m; size = length (list_of w.values k) } else record { first = 0; size = 0 } in s)) e in
    one n ∙ sym (one (length w.sched.workers + offset (written w.nest) w.values k))

own_words : (w : Work) (k : ℕ) (b : Bool) → is_target w.nest (record { 0 = k }) ≡ b
    → words_of (if b then written_below w.nest k ++ k ∷ [] else written_below w.nest k) w.values ≡ words_of (written_below w.nest k) w.values ++ (if b then list_of w.values k else [])
own_words w k true e = words_last w.values (written_below w.nest k) k
own_words w k false e = sym (append-nil (words_of (written_below w.nest k) w.values))

abbrev pub words_below : Work → ℕ → List ℕ
words_below w k = replicate (length w.sched.workers) 0 ++ map word_of (words_of (written_below w.nest k) w.values)

words_below_long : (w : Work) (k : ℕ) → length (words_below w k) ≡ length w.sched.workers + length (words_of (written_below w.nest k) w.values)
words_below_long w k =
    let zeros : List ℕ = replicate (length w.sched.workers) 0 in
    let a = length-append zeros (map word_of (words_of (written_below w.nest k) w.values)) in
    let b : length zeros ≡ length w.sched.workers = length-replicate (length w.sched.workers) 0 in
    let c = length-map (words_of (written_below w.nest k) w.values) word_of in
    omega arith

pub words_next : (w : Work) (k : ℕ) → words_below w k ++ map word_of (own_list w k) ≡ words_below w (suc k)
words_next w k =
    let zeros : List ℕ = replicate (length w.sched.workers) 0 in
    let flat : List ℤ = words_of (written_below w.nest k) w.values in
    append_assoc zeros (map word_of flat) (map word_of (own_list w k))
    ∙ ap (λ (l : List ℕ). zeros ++ l) (sym (map-append word_of flat (own_list w k)) ∙ ap (map word_of) (sym (own_words w k (is_target w.nest (record { 0 = k })) refl)))

pub spans_next : (w : Work) (k : ℕ) → k < 64 → spans_below w k ++ span_from w (length (words_below w k)) k ∷ [] ≡ spans_below w (suc k)
spans_next w k l = ap (λ (s : Span). spans_below w k ++ s ∷ []) (first_from w (length (words_below w k)) k (is_target w.nest (record { 0 = k })) refl
    (λ target. let a = words_below_long w k in let b = first_is w.nest w.values k l target in omega arith))

pub words_whole : (w : Work) → words_below w 64 ≡ opening_words w
unfolding written
words_whole w = refl

pub spans_whole : (w : Work) → spans_below w 64 ≡ spans_of w
unfolding spans_of
spans_whole w = refl
