-- Which rows a share has: those whose place passes, ascending.
use Rattle.std.proofs.Common.{◌≡◌, ℕ, suc, zero, ◌+◌, ◌<◌, ◌≤◌, ◌∙◌, ◌⊎◌, inl, inr, List, [], ◌∷◌, Bool, true, false, cond, length, get_or, map, arith, refl, ap, sym, subst}
use Rattle.std.specs.List.{filter, enumerate_from}
use Rattle.wave_base.specs.declared.types.RowId.{RowId}
use Rattle.row_graph.proofs.Members.{In}
use Rattle.row_graph.proofs.Ascending.{Climbing, Climbing-lower}

keep : (b : Bool) (x r : RowId) (rows : List RowId) → In r (cond b (x ∷ rows) rows) → ((b ≡ true) × (x ≡ r)) ⊎ In r rows
keep true x r rows (inl e) = inl (refl, e)
keep true x r rows (inr h) = inr h
keep false x r rows h = inr h

keep_first : (b : Bool) (x : RowId) (rows : List RowId) → b ≡ true → In x (cond b (x ∷ rows) rows)
keep_first true x rows e = inl refl
keep_first false x rows e = absurd (cc)

keep_rest : (b : Bool) (x r : RowId) (rows : List RowId) → In r rows → In r (cond b (x ∷ rows) rows)
keep_rest true x r rows h = inr h
keep_rest false x r rows h = h

climbing-keep : (b : Bool) (low : ℕ) (x : RowId) (rows : List RowId) → low ≤ x.0 → Climbing (x.0 + 1) rows → Climbing low (cond b (x ∷ rows) rows)
climbing-keep true low x rows l c = (l, c)
climbing-keep false low x rows l c = Climbing-lower low (x.0 + 1) rows (omega (arith, l)) c

-- the rows whose place passes; places count from a first one
abbrev pub kept : (ℕ → Bool) → ℕ → List RowId → List RowId
kept p n rows = map (λ (e : ℕ × RowId). e.1) (filter (λ (e : ℕ × RowId). p e.0) (enumerate_from n rows))

kept-step : (b : Bool) (e : ℕ × RowId) (es : List (ℕ × RowId)) → map (λ (e : ℕ × RowId). e.1) (cond b (e ∷ es) es) ≡ cond b (e.1 ∷ map (λ (e : ℕ × RowId). e.1) es) (map (λ (e : ℕ × RowId). e.1) es)
kept-step true e es = refl
kept-step false e es = refl

kept-cons : (p : ℕ → Bool) (n : ℕ) (x : RowId) (rows : List RowId) → kept p n (x ∷ rows) ≡ cond (p n) (x ∷ kept p (n + 1) rows) (kept p (n + 1) rows)
kept-cons p n x rows = kept-step (p n) (n, x) (filter (λ (e : ℕ × RowId). p e.0) (enumerate_from (n + 1) rows))

pub In-kept : (p : ℕ → Bool) (n : ℕ) (rows : List RowId) (r : RowId) → In r (kept p n rows) → (s : ℕ) × (s < length rows) × (get_or rows s r ≡ r) × (p (n + s) ≡ true)
In-kept p n [] r h = absurd h
In-kept p n (x ∷ rows) r h =
    elim (keep (p n) x r (kept p (n + 1) rows) (subst (λ (ks : List RowId). In r ks) (kept-cons p n x rows) h)) as (λ _. (s : ℕ) × (s < length (x ∷ rows)) × (get_or (x ∷ rows) s r ≡ r) × (p (n + s) ≡ true)) [
      | inl w ↦ let z : n + zero ≡ n = omega arith in (zero, omega arith, w.1, ap p z ∙ w.0)
      | inr w ↦
          let m = In-kept p (n + 1) rows r w in
          let z : n + suc m.0 ≡ n + 1 + m.0 = omega arith in
          (suc m.0, omega (arith, m.1), m.2, ap p z ∙ m.3)
    ]

pub In-kept_to : (p : ℕ → Bool) (n : ℕ) (rows : List RowId) (s : ℕ) (r : RowId) → s < length rows → get_or rows s r ≡ r → p (n + s) ≡ true → In r (kept p n rows)
In-kept_to p n [] s r l e t = absurd (omega (arith, l))
In-kept_to p n (x ∷ rows) zero r l e t =
    let z : n ≡ n + zero = omega arith in
    let f = keep_first (p n) x (kept p (n + 1) rows) (ap p z ∙ t) in
    subst (λ (ks : List RowId). In r ks) (sym (kept-cons p n x rows)) (subst (λ (y : RowId). In y (cond (p n) (x ∷ kept p (n + 1) rows) (kept p (n + 1) rows))) e f)
In-kept_to p n (x ∷ rows) (suc s) r l e t =
    let z : n + 1 + s ≡ n + suc s = omega arith in
    let i = In-kept_to p (n + 1) rows s r (omega (arith, l)) e (ap p z ∙ t) in
    subst (λ (ks : List RowId). In r ks) (sym (kept-cons p n x rows)) (keep_rest (p n) x r (kept p (n + 1) rows) i)

pub climbing-kept : (p : ℕ → Bool) (n low : ℕ) (rows : List RowId) → Climbing low rows → Climbing low (kept p n rows)
climbing-kept p n low [] c = tt
climbing-kept p n low (x ∷ rows) c =
    subst (Climbing low) (sym (kept-cons p n x rows)) (climbing-keep (p n) low x (kept p (n + 1) rows) c.0 (climbing-kept p (n + 1) (x.0 + 1) rows c.1))
