-- Lists that are cut out of one flat list.
use Rattle.std.proofs.Common.{◌≡◌, ℕ, suc, zero, ◌+◌, ◌-◌, ◌<◌, ◌∙◌, add-one, ◌++◌, ◌∷◌, inl, inr, drop, List, [], length, get_or, map, sum_by, slice_index, slice_range, arith, refl, ap, sym}
use Rattle.std.specs.List.{range_with_len}
use Rattle.std.proofs.lemmas.List.FromFn.{length-map-range_with_len, get_or-map-range_with_len, sum_by-map-range_with_len_more}
use Rattle.std.proofs.lemmas.List.Edits.{length-between}
use Rattle.std.proofs.lemmas.List.{get_or_append_left, get_or_push, length_push, length-append, take-append-le, drop_at, same_lists}
use Rattle.std.proofs.lemmas.Slice.{between_is, between_to_end}
use Rattle.std.proofs.lemmas.Bool.{cases_lt}
use Rattle.row_graph.specs.Cut.{part, cut, IsCut}

pub length-cut : {X : Type 0} (starts : List ℕ) (flat : List X) → length (cut starts flat) ≡ length starts - 1
length-cut starts flat = length-map-range_with_len (part starts flat) 0 _

pub get_or-cut : {X : Type 0} (starts : List ℕ) (flat : List X) (k : ℕ) (d : List X) → k < length starts - 1 → get_or (cut starts flat) k d ≡ part starts flat k
get_or-cut starts flat k d h = get_or-map-range_with_len (part starts flat) 0 _ k k d h (omega arith)

pub length-part : {X : Type 0} (starts : List ℕ) (flat : List X) (k : ℕ) → IsCut starts flat → k + 1 < length starts → length (part starts flat k) ≡ slice_index starts (k + 1) - slice_index starts k
length-part starts flat k h l =
    length-between flat (slice_index starts k) (slice_index starts (k + 1)) (h.4 (k + 1) l)

sum_by-parts : {X : Type 0} (starts : List ℕ) (flat : List X) (m : ℕ) → IsCut starts flat → m < length starts → sum_by length (map (part starts flat) (range_with_len 0 m)) ≡ slice_index starts m
sum_by-parts starts flat zero h l = sym h.1
sum_by-parts starts flat (suc m) h l =
    let e = simp add-one at (sum_by-map-range_with_len_more length (part starts flat) 0 m m (omega arith)) in
    let p = simp add-one at (length-part starts flat m h (omega arith)) in
    let r = sum_by-parts starts flat m h (omega arith) in
    let le = simp add-one at (h.3 m (omega arith)) in
    omega (arith, e, p, r, le)

pub sum_by-cut : {X : Type 0} (starts : List ℕ) (flat : List X) → IsCut starts flat → sum_by length (cut starts flat) ≡ length flat
sum_by-cut starts flat h = sum_by-parts starts flat (length starts - 1) h (omega (arith, h.0)) ∙ h.2

-- a list more at the end
module _ {X : Type 0} (starts : List ℕ) (flat more : List X) (h : IsCut starts flat) where
  old_start : (k : ℕ) → k < length starts → get_or (starts ++ (length (flat ++ more)) ∷ []) k 0 ≡ get_or starts k 0
  old_start k l = get_or_append_left starts ((length (flat ++ more)) ∷ []) 0 k l

  new_start : get_or (starts ++ (length (flat ++ more)) ∷ []) (length starts) 0 ≡ length flat + length more
  new_start = get_or_push starts (length (flat ++ more)) 0 (length starts) refl ∙ length-append flat more

  count_more : length (starts ++ (length (flat ++ more)) ∷ []) ≡ length starts + 1
  count_more = length_push starts (length (flat ++ more))

  last_old : (k : ℕ) → k + 1 ≡ length starts → get_or starts k 0 ≡ length flat
  last_old k e = ap (λ i. get_or starts i 0) (let q : k ≡ length starts - 1 = omega arith in q) ∙ h.2

  pub IsCut-more : IsCut (starts ++ (length (flat ++ more)) ∷ []) (flat ++ more)
  IsCut-more = (
    omega (arith, count_more),
    old_start 0 h.0 ∙ h.1,
    (let q : length (starts ++ (length (flat ++ more)) ∷ []) - 1 ≡ length starts = omega (arith, count_more) in
        ap (λ i. get_or (starts ++ (length (flat ++ more)) ∷ []) i 0) q ∙ new_start ∙ sym (length-append flat more)),
    (λ k l. elim (cases_lt (k + 1) (length starts)) [
      | inl lt ↦
          let a = old_start k (omega arith) in
          let b = old_start (k + 1) lt in
          let c = h.3 k lt in
          omega (arith, a, b, c)
      | inr ge ↦
          let n : k + 1 ≡ length starts = omega (arith, count_more) in
          let a = old_start k (omega arith) in
          let b : get_or (starts ++ (length (flat ++ more)) ∷ []) (k + 1) 0 ≡ length flat + length more = ap (λ i. get_or (starts ++ (length (flat ++ more)) ∷ []) i 0) n ∙ new_start in
          omega (arith, a, b, last_old k n)
    ]),
    (λ k l. elim (cases_lt k (length starts)) [
      | inl lt ↦ omega (arith, old_start k lt, h.4 k lt, length-append flat more)
      | inr ge ↦
          let n : k ≡ length starts = omega (arith, count_more) in
          let b : get_or (starts ++ (length (flat ++ more)) ∷ []) k 0 ≡ length flat + length more = ap (λ i. get_or (starts ++ (length (flat ++ more)) ∷ []) i 0) n ∙ new_start in
          omega (arith, b, length-append flat more)
    ]),
  )

  part-old : (k : ℕ) → k + 1 < length starts → part (starts ++ (length (flat ++ more)) ∷ []) (flat ++ more) k ≡ part starts flat k
  part-old k l =
      let a = old_start k (omega arith) in
      let b = old_start (k + 1) l in
      let w = h.4 (k + 1) l in
      ap (λ i. slice_range (flat ++ more) i (get_or (starts ++ (length (flat ++ more)) ∷ []) (k + 1) 0)) a
      ∙ ap (λ i. slice_range (flat ++ more) (get_or starts k 0) i) b
      ∙ between_is (flat ++ more) (get_or starts k 0) (get_or starts (k + 1) 0)
      ∙ ap (drop (get_or starts k 0)) (take-append-le (get_or starts (k + 1) 0) flat more w)
      ∙ sym (between_is flat (get_or starts k 0) (get_or starts (k + 1) 0))

  part-new : (k : ℕ) → k + 1 ≡ length starts → part (starts ++ (length (flat ++ more)) ∷ []) (flat ++ more) k ≡ more
  part-new k n =
      let a = old_start k (omega arith) ∙ last_old k n in
      let b : get_or (starts ++ (length (flat ++ more)) ∷ []) (k + 1) 0 ≡ length flat + length more = ap (λ i. get_or (starts ++ (length (flat ++ more)) ∷ []) i 0) n ∙ new_start in
      ap (λ i. slice_range (flat ++ more) i (get_or (starts ++ (length (flat ++ more)) ∷ []) (k + 1) 0)) a
      ∙ ap (λ i. slice_range (flat ++ more) (length flat) i) b
      ∙ between_to_end (flat ++ more) (length flat) (length flat + length more) (omega (arith, length-append flat more))
      ∙ drop_at flat more (length flat) refl

  pub cut-more : cut (starts ++ (length (flat ++ more)) ∷ []) (flat ++ more) ≡ cut starts flat ++ more ∷ []
  cut-more =
      let n = length-cut (starts ++ (length (flat ++ more)) ∷ []) (flat ++ more) in
      let m = length-cut starts flat in
      let p = length_push (cut starts flat) more in
      same_lists (cut (starts ++ (length (flat ++ more)) ∷ []) (flat ++ more)) (cut starts flat ++ more ∷ []) (omega (arith, n, m, p, count_more, h.0)) (λ k d l.
      let r = get_or-cut (starts ++ (length (flat ++ more)) ∷ []) (flat ++ more) k d (omega (arith, n)) in
      elim (cases_lt (k + 1) (length starts)) as (λ _. get_or (cut (starts ++ (length (flat ++ more)) ∷ []) (flat ++ more)) k d ≡ get_or (cut starts flat ++ more ∷ []) k d) [
        | inl lt ↦ r ∙ part-old k lt ∙ sym (get_or-cut starts flat k d (omega arith)) ∙ sym (get_or_append_left (cut starts flat) (more ∷ []) d k (omega (arith, m)))
        | inr ge ↦
            let e : k + 1 ≡ length starts = omega (arith, n, count_more) in
            r ∙ part-new k e ∙ sym (get_or_push (cut starts flat) more d k (omega (arith, m, e)))
      ])
