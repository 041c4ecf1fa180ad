-- Which entries lists have.
use Rattle.std.proofs.Common.{◌≡◌, ℕ, suc, zero, ◌+◌, ◌∙◌, ◌++◌, ◌⊎◌, inl, inr, List, [], ◌∷◌, Bool, true, false, cond, eqb, get_or, map, arith, refl, ap, sym, subst, Contains}
use Rattle.std.specs.List.{filter}
use Rattle.std.proofs.lemmas.Bool.{eqb-true, eq-eqb}
use Rattle.wave_base.specs.declared.types.RowId.{RowId}
use Rattle.row_graph.specs.Rows.{row}
use Rattle.row_graph.specs.Buckets.{rows_with}
use Rattle.row_graph.specs.Distinct.{begins_with, distinct}
use Rattle.row_graph.specs.Turned.{turned}

-- the list has this entry
abbrev pub In : {X : Type 0} → X → List X → Type 0
In x [] = ⊥
In x (y ∷ ys) = (y ≡ x) ⊎ In x ys

pub In-from : {X : Type 0} (xs : List X) (x : X) → Contains xs x → In x xs
In-from [] x (k, h, e) = absurd (omega (arith, h))
In-from (y ∷ ys) x (zero, h, e) = inl e
In-from (y ∷ ys) x (suc k, h, e) = inr (In-from ys x (k, omega (arith, h), e))

pub In-to : {X : Type 0} (xs : List X) (x : X) → In x xs → Contains xs x
In-to [] x h = absurd h
In-to (y ∷ ys) x (inl e) = (zero, omega arith, e)
In-to (y ∷ ys) x (inr h) = let r = In-to ys x h in (suc r.0, omega (arith, r.1), r.2)

pub In-append : {X : Type 0} (xs ys : List X) (x : X) → In x (xs ++ ys) → In x xs ⊎ In x ys
In-append [] ys x h = inr h
In-append (z ∷ xs) ys x (inl e) = inl (inl e)
In-append (z ∷ xs) ys x (inr h) = elim (In-append xs ys x h) [ inl a ↦ inl (inr a) | inr b ↦ inr b ]

pub In-append_left : {X : Type 0} (xs ys : List X) (x : X) → In x xs → In x (xs ++ ys)
In-append_left [] ys x h = absurd h
In-append_left (z ∷ xs) ys x (inl e) = inl e
In-append_left (z ∷ xs) ys x (inr h) = inr (In-append_left xs ys x h)

pub In-append_right : {X : Type 0} (xs ys : List X) (x : X) → In x ys → In x (xs ++ ys)
In-append_right [] ys x h = h
In-append_right (z ∷ xs) ys x h = inr (In-append_right xs ys x h)

-- an entry of a mapped list comes from one of the list
pub In-map : {X Y : Type 0} (f : X → Y) (xs : List X) (y : Y) → In y (map f xs) → (x : X) × (f x ≡ y) × In x xs
In-map f [] y h = absurd h
In-map f (x ∷ xs) y (inl e) = (x, e, inl refl)
In-map f (x ∷ xs) y (inr h) = let r = In-map f xs y h in (r.0, r.1, inr r.2)

pub In-map_to : {X Y : Type 0} (f : X → Y) (xs : List X) (x : X) → In x xs → In (f x) (map f xs)
In-map_to f [] x h = absurd h
In-map_to f (z ∷ xs) x (inl e) = inl (ap f e)
In-map_to f (z ∷ xs) x (inr h) = inr (In-map_to f xs x h)

-- the rows with a key
rows_with-step : (key : ℕ) (e : ℕ × RowId) (kept : List (ℕ × RowId)) (b : Bool) → map (λ e. e.1) (cond b (e ∷ kept) kept) ≡ cond b (e.1 ∷ map (λ e. e.1) kept) (map (λ e. e.1) kept)
rows_with-step key e kept true = refl
rows_with-step key e kept false = refl

pub rows_with-cons : (key : ℕ) (e : ℕ × RowId) (es : List (ℕ × RowId)) → rows_with key (e ∷ es) ≡ cond (eqb e.0 key) (e.1 ∷ rows_with key es) (rows_with key es)
rows_with-cons key e es = rows_with-step key e (filter (λ e. eqb e.0 key) es) (eqb e.0 key)

In-cond : (b : Bool) (x r : RowId) (rows : List RowId) → In r (cond b (x ∷ rows) rows) → ((b ≡ true) × (x ≡ r)) ⊎ In r rows
In-cond true x r rows (inl e) = inl (refl, e)
In-cond true x r rows (inr h) = inr h
In-cond false x r rows h = inr h

In-cond_skip : (b : Bool) (x r : RowId) (rows : List RowId) → In r rows → In r (cond b (x ∷ rows) rows)
In-cond_skip true x r rows h = inr h
In-cond_skip false x r rows h = h

pub In-rows_with : (key : ℕ) (entries : List (ℕ × RowId)) (r : RowId) → In r (rows_with key entries) → In (key, r) entries
In-rows_with key [] r h = absurd h
In-rows_with key (e ∷ es) r h =
    let h' = rw rows_with-cons at h in
    elim (In-cond (eqb e.0 key) e.1 r (rows_with key es) h') [
      | inl w ↦ inl (λ i. (eqb-true e.0 key w.0 i, w.1 i))
      | inr w ↦ inr (In-rows_with key es r w)
    ]

pub In-rows_with_to : (key : ℕ) (entries : List (ℕ × RowId)) (r : RowId) → In (key, r) entries → In r (rows_with key entries)
In-rows_with_to key [] r h = absurd h
In-rows_with_to key (e ∷ es) r (inl q) =
    let t : eqb e.0 key ≡ true = eq-eqb e.0 key (ap (λ (p : ℕ × RowId). p.0) q) in
    let g : In r (cond (eqb e.0 key) (e.1 ∷ rows_with key es) (rows_with key es)) = rw t (inl (ap (λ (p : ℕ × RowId). p.1) q)) in
    rw rows_with-cons g
In-rows_with_to key (e ∷ es) r (inr h) =
    let g = In-cond_skip (eqb e.0 key) e.1 r (rows_with key es) (In-rows_with_to key es r h) in
    rw rows_with-cons g

-- lists turned round
pub In-turned : (number : ℕ) (lists : List (List RowId)) (j : ℕ) (i : RowId) → In (j, i) (turned number lists) → (k : ℕ) × (row (number + k) ≡ i) × In (row j) (get_or lists k [])
In-turned number [] j i h = absurd h
In-turned number (rows ∷ lists) j i h =
    elim (In-append (map (λ r. (r.0, row number)) rows) (turned (number + 1) lists) (j, i) h) [
      | inl a ↦
          let m = In-map (λ (r : RowId). (r.0, row number)) rows (j, i) a in
          let e : m.0 ≡ row j = ap (λ (p : ℕ × RowId). row p.0) m.1 in
          let z : row (number + 0) ≡ row number = ap row (omega arith) in
          (zero, z ∙ ap (λ (p : ℕ × RowId). p.1) m.1, subst (λ (r : RowId). In r rows) e m.2)
      | inr b ↦
          let r = In-turned (number + 1) lists j i b in
          let z : row (number + suc r.0) ≡ row (number + 1 + r.0) = ap row (omega arith) in
          (suc r.0, z ∙ r.1, r.2)
    ]

pub In-turned_to : (number : ℕ) (lists : List (List RowId)) (j k : ℕ) → In (row j) (get_or lists k []) → In (j, row (number + k)) (turned number lists)
In-turned_to number [] j k h = absurd h
In-turned_to number (rows ∷ lists) j zero h =
    let e : (j, row number) ≡ (j, row (number + 0)) = ap (λ n. (j, row n)) (omega arith) in
    In-append_left (map (λ r. (r.0, row number)) rows) (turned (number + 1) lists) (j, row (number + 0)) (subst (λ (p : ℕ × RowId). In p (map (λ r. (r.0, row number)) rows)) e (In-map_to (λ (r : RowId). (r.0, row number)) rows (row j) h))
In-turned_to number (rows ∷ lists) j (suc k) h =
    let e : (j, row (number + 1 + k)) ≡ (j, row (number + suc k)) = ap (λ n. (j, row n)) (omega arith) in
    In-append_right (map (λ r. (r.0, row number)) rows) (turned (number + 1) lists) (j, row (number + suc k)) (subst (λ (p : ℕ × RowId). In p (turned (number + 1) lists)) e (In-turned_to (number + 1) lists j k h))

-- without repeats side by side
first_is : (r : RowId) (rows : List RowId) → begins_with r rows ≡ true → In r rows
first_is r [] h = absurd (cc)
first_is r (next ∷ rows) h = inl (ap row (sym (eqb-true r.0 next.0 h)))

distinct_cases : (b : Bool) (r x : RowId) (rows : List RowId) → In x (cond b rows (r ∷ rows)) → (r ≡ x) ⊎ In x rows
distinct_cases true r x rows h = inr h
distinct_cases false r x rows (inl e) = inl e
distinct_cases false r x rows (inr h) = inr h

distinct_back : (b : Bool) (r x : RowId) (rows : List RowId) → (b ≡ true → In r rows) → (r ≡ x) ⊎ In x rows → In x (cond b rows (r ∷ rows))
distinct_back true r x rows first (inl e) = subst (λ (r : RowId). In r rows) e (first refl)
distinct_back true r x rows first (inr h) = h
distinct_back false r x rows first h = h

pub In-distinct : (rows : List RowId) (x : RowId) → In x (distinct rows) → In x rows
In-distinct [] x h = h
In-distinct (r ∷ rows) x h =
    elim (distinct_cases (begins_with r rows) r x (distinct rows) h) [
      | inl e ↦ inl e
      | inr i ↦ inr (In-distinct rows x i)
    ]

pub In-distinct_to : (rows : List RowId) (x : RowId) → In x rows → In x (distinct rows)
In-distinct_to [] x h = h
In-distinct_to (r ∷ rows) x h =
    let rest = In-distinct_to rows in
    distinct_back (begins_with r rows) r x (distinct rows) (λ b. rest r (first_is r rows b)) (elim h as (λ _. (r ≡ x) ⊎ In x (distinct rows)) [ inl e ↦ inl e | inr i ↦ inr (rest x i) ])
