-- Pairs whose first rows ascend at each second row, seen one after another.
use Rattle.std.proofs.Common.{◌≡◌, ℕ, suc, ◌+◌, ◌<◌, ◌≤◌, Bool, true, false, cond, eqb, List, ◌∷◌, length, slice_index_or, slice_set, get_or-set_same, get_or-set_other, drop, arith, refl, sym, ap, subst, ◌∙◌}
use Rattle.std.proofs.Math.Seq.{drop-cons}
use Rattle.std.proofs.lemmas.Bool.{eqb-true, eqb-false}
use Rattle.wave_base.specs.declared.types.RowId.{RowId}
use Rattle.row_graph.specs.Rows.{row_zero}
use Rattle.row_graph.specs.Buckets.{rows_with}
use Rattle.row_graph.specs.Rising.{Rising, by_second, DoFirstsRise}
use Rattle.row_graph.proofs.Members.{rows_with-cons}

-- the pairs from a place on rise from these rows, one for each second row
abbrev pub DoRestRise : ℕ → List (RowId × RowId) → ℕ → List RowId → Type 0
DoRestRise n pairs i last = (j : ℕ) → j < n → Rising (slice_index_or last j row_zero).0 (rows_with j (by_second (drop i pairs)))

abbrev pub RiseFrom : ℕ → List (RowId × RowId) → ℕ → List RowId → Type 0
RiseFrom n pairs i last = DoRestRise n pairs i last → DoFirstsRise n pairs

-- a pair in front of others
in_front : (b : Bool) (low : ℕ) (r : RowId) (rows : List RowId) → (b ≡ true → low ≤ r.0) → (b ≡ true → Rising r.0 rows) → (b ≡ false → Rising low rows) → Rising low (cond b (r ∷ rows) rows)
in_front true low r rows above met other = (above refl, met refl)
in_front false low r rows above met other = other refl

pub rise_more : (n : ℕ) (pairs : List (RowId × RowId)) (i : ℕ) (last : List RowId) (p d : RowId × RowId) → length last ≡ n → i < length pairs → p ≡ slice_index_or pairs i d
    → p.1.0 < n → (slice_index_or last p.1.0 row_zero).0 ≤ p.0.0 → RiseFrom n pairs i last → RiseFrom n pairs (i + 1) (slice_set last p.1.0 p.0)
rise_more n pairs i last p d many here is below above from rest =
    from (λ j l.
    let e : drop i pairs ≡ p ∷ drop (suc i) pairs = drop-cons pairs i d here ∙ ap (λ (q : RowId × RowId). q ∷ drop (suc i) pairs) (sym is) in
    let more : List RowId = rows_with j (by_second (drop (suc i) pairs)) in
    let later : Rising (slice_index_or (slice_set last p.1.0 p.0) j row_zero).0 more = subst (λ (k : ℕ). Rising (slice_index_or (slice_set last p.1.0 p.0) j row_zero).0 (rows_with j (by_second (drop k pairs)))) (let f : i + 1 ≡ suc i = omega arith in f) (rest j l) in
    let step : Rising (slice_index_or last j row_zero).0 (cond (eqb p.1.0 j) (p.0 ∷ more) more) =
    in_front (eqb p.1.0 j) (slice_index_or last j row_zero).0 p.0 more
    (λ t. subst (λ (k : ℕ). (slice_index_or last k row_zero).0 ≤ p.0.0) (eqb-true p.1.0 j t) above)
    (λ t. subst (λ (r : RowId). Rising r.0 more) (ap (λ (k : ℕ). slice_index_or (slice_set last p.1.0 p.0) k row_zero) (sym (eqb-true p.1.0 j t)) ∙ get_or-set_same last p.1.0 p.0 row_zero (omega arith)) later)
    (λ f. subst (λ (r : RowId). Rising r.0 more) (get_or-set_other last p.1.0 j p.0 row_zero (λ same. absurd (different p.1.0 j f (sym same)))) later) in
    subst (λ (ps : List (RowId × RowId)). Rising (slice_index_or last j row_zero).0 (rows_with j (by_second ps))) (sym e)
    (subst (Rising (slice_index_or last j row_zero).0) (sym (rows_with-cons j (p.1.0, p.0) (by_second (drop (suc i) pairs)))) step))
  where
    different : (a b : ℕ) → eqb a b ≡ false → a ≡ b → ⊥
    different a b f e = let ne = eqb-false a b f in absurd (ne e)
