-- A row's stored places, and one row more in the arrays.
use Rattle.std.proofs.Common.{◌≡◌, ℕ, ℤ, pos, ◌+ℤ◌, ◌+◌, ◌<◌, cond, List, [], ◌∷◌, ◌++◌, length, map, refl, sym, ap, ◌∙◌, subst, arith}
use Rattle.std.specs.Prelude.{nat_lt, nat_le, ◌==◌, ◌&&◌}
use Rattle.std.specs.List.{All, filter, fold, range_with_len, position_or_len}
use Rattle.std.proofs.lemmas.List.{length-map}
use Rattle.std.proofs.lemmas.List.Elements.{All-map, All-filter, filter_agree}
use Rattle.std.proofs.lemmas.List.FromFn.{map-range_with_len_more}
use Rattle.wave_base.specs.Word.{wrapped}
use Rattle.csr_arrays.specs.Axes.{Triple, Inside}
use Rattle.csr_arrays.specs.Rows.{Cell, cell, in_row, in_column, row_columns, sum_in}
use Rattle.csr_arrays.specs.Arrays.{at_place, is_stored, value_at, columns, index_below, pointer, diagonal, FirstRows}
use Rattle.csr_arrays.proofs.Buckets.{known, flat_map_more}
use Rattle.csr_arrays.proofs.Columns.{map_agree}

-- ---- the triples at a place are the cells in a column of its row

place_is : (us : List Triple) (r c : ℕ) → in_column (in_row us r) c ≡ map cell (at_place us r c)
place_is [] r c = refl
place_is (t ∷ us) r c =
    let rest = filter (λ t. t.0 == r) us in
    let there = at_place us r c in
    let h = place_is us r c in
    known (λ b. in_column (map cell (cond b (t ∷ rest) rest)) c ≡ map cell (cond (b && t.1 == c) (t ∷ there) there)) (t.0 == r)
    (λ _. known (λ b. cond b (cell t ∷ in_column (map cell rest) c) (in_column (map cell rest) c) ≡ map cell (cond b (t ∷ there) there)) (t.1 == c) (λ _. ap (λ (l : List Cell). cell t ∷ l) h) (λ _. h))
    (λ _. h)

fold_cells : (v : ℤ) (ts : List Triple) → fold (λ z e. z +ℤ e.1) v (map cell ts) ≡ fold (λ z t. z +ℤ t.2) v ts
fold_cells v [] = refl
fold_cells v (t ∷ ts) = fold_cells (v +ℤ t.2) ts

pub sum_is_value : (us : List Triple) (r c : ℕ) → sum_in (in_row us r) c ≡ value_at us r c
sum_is_value us r c = ap (λ (l : List Cell). wrapped (fold (λ z e. z +ℤ e.1) (pos 0) l)) (place_is us r c) ∙ ap wrapped (fold_cells (pos 0) (at_place us r c))

pub columns_are : (n : ℕ) (us : List Triple) (r : ℕ) → row_columns n (in_row us r) ≡ columns n us r
columns_are n us r =
    filter_agree (λ c. nat_lt 0 (length (in_column (in_row us r) c))) (is_stored us r) (λ c. ap (nat_lt 0) (ap length (place_is us r c) ∙ length-map (at_place us r c) cell)) (range_with_len 0 n)

pub values_are : (n : ℕ) (us : List Triple) (r : ℕ) → map (sum_in (in_row us r)) (row_columns n (in_row us r)) ≡ map (value_at us r) (columns n us r)
values_are n us r = ap (map (sum_in (in_row us r))) (columns_are n us r) ∙ map_agree (sum_in (in_row us r)) (value_at us r) (sum_is_value us r) (columns n us r)

pub columns_below : (n : ℕ) (us : List Triple) (r : ℕ) → Inside n us → All (λ e. e.0 < n) (in_row us r)
columns_below n us r h =
    All-map (λ e. e.0 < n) cell (filter (λ t. t.0 == r) us) (All-filter (λ t. t.0 == r) (λ t. t.1 < n) us (λ k d lt. (h k d lt).1))

-- ---- one row more in the arrays

pub row_more : (n r : ℕ) (us : List Triple) (ptr is diag vs is' vs' : List ℤ) (d : ℕ) → FirstRows n r us ptr is diag vs → is' ≡ is ++ map pos (columns n us r) → vs' ≡ vs ++ map (value_at us r) (columns n us r) → d ≡ length is + position_or_len (λ c. nat_le r c) (columns n us r)
    → FirstRows n (r + 1) us (ptr ++ pos (length is') ∷ []) is' (diag ++ pos d ∷ []) vs'
row_more n r us ptr is diag vs is' vs' d h e f g =
    let index : is' ≡ index_below n us (r + 1) = e ∙ ap (λ (l : List ℤ). l ++ map pos (columns n us r)) h.index_is ∙ sym (flat_map_more (λ r. map pos (columns n us r)) r) in
    let at : d ≡ diagonal n us r = g ∙ ap (λ (l : List ℤ). length l + position_or_len (λ c. nat_le r c) (columns n us r)) h.index_is in
    let z : 0 + r ≡ r = omega arith in
    let y : 0 + (r + 1) ≡ r + 1 = omega arith in
    record {
      ptr_is = ap (λ (l : List ℤ). l ++ pos (length is') ∷ []) h.ptr_is ∙ ap (λ (l : List ℤ). map (λ i. pos (pointer n us i)) (range_with_len 0 (r + 1)) ++ pos (length l) ∷ []) index ∙ sym (map-range_with_len_more (λ i. pos (pointer n us i)) 0 (r + 1) (r + 1) y);
      index_is = index;
      diag_is = ap (λ (l : List ℤ). l ++ pos d ∷ []) h.diag_is ∙ ap (λ (j : ℕ). map (λ i. pos (diagonal n us i)) (range_with_len 0 r) ++ pos j ∷ []) at ∙ sym (map-range_with_len_more (λ i. pos (diagonal n us i)) 0 r r z);
      val_is = f ∙ ap (λ (l : List ℤ). l ++ map (value_at us r) (columns n us r)) h.val_is ∙ sym (flat_map_more (λ r. map (value_at us r) (columns n us r)) r);
    }

pub no_rows : (n : ℕ) (us : List Triple) → FirstRows n 0 us (pos 0 ∷ []) [] [] []
no_rows n us = record { ptr_is = refl; index_is = refl; diag_is = refl; val_is = refl }

pub row_pushed : (n r : ℕ) (us : List Triple) (ptr is diag vs is' vs' ptr' diag' : List ℤ) (d k : ℕ) → FirstRows n r us ptr is diag vs → is' ≡ is ++ map pos (columns n us r) → vs' ≡ vs ++ map (value_at us r) (columns n us r) → d ≡ length is + position_or_len (λ c. nat_le r c) (columns n us r)
    → diag' ≡ diag ++ pos d ∷ [] → k ≡ length is' → ptr' ≡ ptr ++ pos k ∷ [] → FirstRows n (r + 1) us ptr' is' diag' vs'
row_pushed n r us ptr is diag vs is' vs' ptr' diag' d k h e f g i j l =
    subst (λ (x : List ℤ). FirstRows n (r + 1) us x is' diag' vs') (ap (λ (z : ℕ). ptr ++ pos z ∷ []) (sym j) ∙ sym l)
    (subst (λ (x : List ℤ). FirstRows n (r + 1) us (ptr ++ pos (length is') ∷ []) is' x vs') (sym i) (row_more n r us ptr is diag vs is' vs' d h e f g))
