-- Each cross pair is counted once.
use Rattle.std.proofs.Common.{◌≡◌, ℕ, suc, zero, ◌+◌, ◌<◌, ◌∙◌, ◌++◌, inl, inr, List, [], ◌∷◌, AllPairs, Contains, length, get_or, map, sum_by, arith, refl, ap, sym, subst}
use Rattle.std.proofs.lemmas.List.{length-append, length-map}
use Rattle.std.proofs.lemmas.List.Elements.{Contains-get_or}
use Rattle.std.proofs.lemmas.List.Sums.{sum_by-cons}
use Rattle.wave_base.specs.declared.types.RowId.{RowId}
use Rattle.row_graph.specs.Rows.{row}
use Rattle.row_graph.specs.Turned.{turned}
use Rattle.row_graph.proofs.Members.{In, In-from, In-to, In-map, In-map_to, In-append, In-turned, In-turned_to}
use Rattle.row_graph.proofs.Ascending.{Climbing}
use Rattle.sched_types.specs.declared.sched.RowTask.{RowTask}
use Rattle.sched_types.specs.Order.{Spot}
use Rattle.sched_types.specs.Kept.{IsCross}
use Rattle.wait_sparsify.specs.Depends.{Depends, CountsCross}
use Rattle.wait_sparsify.specs.Numbered.{owners_from, places_from}
use Rattle.wait_sparsify.proofs.Numbering.{Has, owner_at, place_at, has_place}
use Rattle.wait_sparsify.proofs.Places.{num, place, has-from, listed}
use Rattle.wait_sparsify.proofs.Surviving.{Climbing-in}
use Rattle.wait_sparsify.proofs.Transport.{Setting, is_list, cross_place, place_cross}

-- no entry stands twice
abbrev pub Distinct : {X : Type 0} → List X → Type 0
Distinct [] = Unit {0}
Distinct (x ∷ xs) = (In x xs → ⊥) × Distinct xs

pub distinct_pairs : {X : Type 0} (xs : List X) → Distinct xs → AllPairs (λ (a : X) (b : X). a ≡ b → ⊥) xs
distinct_pairs [] h i j d l m = absurd (omega (arith, m))
distinct_pairs (x ∷ xs) h i zero d l m = absurd (omega (arith, l))
distinct_pairs (x ∷ xs) h zero (suc j) d l m = λ e. (
    let c = In-from xs (get_or xs j d) (Contains-get_or xs j d (omega (arith, m))) in
    h.0 (subst (λ y. In y xs) (sym e) c))
distinct_pairs (x ∷ xs) h (suc i) (suc j) d l m = distinct_pairs xs h.1 i j d (omega (arith, l)) (omega (arith, m))

pub distinct_map : {X Y : Type 0} (f : X → Y) (xs : List X) → ((x y : X) → In x xs → In y xs → f x ≡ f y → x ≡ y) → Distinct xs → Distinct (map f xs)
distinct_map f [] inj h = tt
distinct_map {X} f (x ∷ xs) inj h = (
  λ i. (
      let m = In-map f xs (f x) i in
      let e = inj m.0 x (inr m.2) (inl refl) m.1 in
      h.0 (subst (λ (y : X). In y xs) e m.2)),
  distinct_map f xs (λ a b i j. inj a b (inr i) (inr j)) h.1,
)

distinct_append : {X : Type 0} (xs ys : List X) → Distinct xs → Distinct ys → ((x : X) → In x xs → In x ys → ⊥) → Distinct (xs ++ ys)
distinct_append [] ys h i apart = i
distinct_append (x ∷ xs) ys h i apart = (
  λ m. elim (In-append xs ys x m) as (λ _. ⊥) [ inl a ↦ h.0 a | inr b ↦ apart x (inl refl) b ],
  distinct_append xs ys h.1 i (λ y a b. apart y (inr a) b),
)

distinct_climbing : (low : ℕ) (rows : List RowId) → Climbing low rows → Distinct rows
distinct_climbing low [] c = tt
distinct_climbing low (r ∷ rows) c =
    (λ i. (let l = Climbing-in (r.0 + 1) rows r c.1 i in omega (arith, l)), distinct_climbing (r.0 + 1) rows c.1)

pub distinct_turned : (first : ℕ) (lists : List (List RowId)) → ((a : ℕ) → Climbing 0 (get_or lists a [])) → Distinct (turned first lists)
distinct_turned first [] c = tt
distinct_turned first (rows ∷ lists) c =
    let f : RowId → ℕ × RowId = λ (r : RowId). (r.0, row first) in
    let here = distinct_map f rows (λ a b i j e. ap (λ (p : ℕ × RowId). row p.0) e) (distinct_climbing 0 rows (c zero)) in
    let rest = distinct_turned (first + 1) lists (λ a. c (suc a)) in
    distinct_append (map (λ (r : RowId). (r.0, row first)) rows) (turned (first + 1) lists) here rest (λ x i j.
    let m = In-map f rows x i in
    let t = In-turned (first + 1) lists x.0 x.1 j in
    let e : first ≡ x.1.0 = ap (λ (p : ℕ × RowId). p.1.0) m.1 in
    let g : first + 1 + t.0 ≡ x.1.0 = ap (λ (r : RowId). r.0) t.1 in
    omega (arith, e, g))

pub length-turned : (first : ℕ) (lists : List (List RowId)) → length (turned first lists) ≡ sum_by length lists
length-turned first [] = refl
length-turned first (rows ∷ lists) =
    let f : RowId → ℕ × RowId = λ (r : RowId). (r.0, row first) in
    length-append (map f rows) (turned (first + 1) lists) ∙ omega (arith, length-map rows f, length-turned (first + 1) lists, sum_by-cons {X = List RowId} length rows lists)

module _ (graph : List (List RowId)) (lists : List (List RowTask)) (cross : List (List RowId)) (s : Setting graph lists cross) where
  -- the place of a number
  abbrev place_of : ℕ → Spot
  place_of k = place (get_or (owners_from 0 lists) k 0) (get_or (places_from lists) k 0)

  place_num : (p : Spot) → Has lists p.worker p.at → place_of (num lists p) ≡ p
  place_num p h =
      let z : 0 + p.worker ≡ p.worker = omega arith in
      let e1 = owner_at 0 lists p.worker p.at h ∙ z in
      let e2 = place_at lists p.worker p.at h in
      λ x. place (e1 x) (e2 x)

  -- a number below the tasks is that of its place
  numbers : (k : ℕ) → k < length cross → Has lists (place_of k).worker (place_of k).at × (num lists (place_of k) ≡ k)
  numbers k h =
      let w = has_place lists k (omega (arith, h, s.made.each_row)) in
      let p : Spot = place w.0 w.1 in
      let e : p ≡ place_of k = sym (place_num p w.2) ∙ ap place_of w.3 in
      (subst (λ (p : Spot). Has lists p.worker p.at) e w.2, ap (num lists) (sym e) ∙ w.3)

  abbrev entries : List (ℕ × RowId)
  entries = turned 0 cross

  abbrev f : ℕ × RowId → Spot × Spot
  f e = (place_of e.0, place_of e.1.0)

  -- an entry is two numbers of which the first is before the second
  entry : (e : ℕ × RowId) → In e entries → In (row e.0) (get_or cross e.1.0 [])
  entry e h =
      let t = In-turned 0 cross e.0 e.1 h in
      let q : t.0 ≡ e.1.0 = omega (arith, ap (λ (r : RowId). r.0) t.1) in
      subst (λ (k : ℕ). In (row e.0) (get_or cross k [])) q t.2

  same_entry : (a b : ℕ × RowId) → In a entries → In b entries → f a ≡ f b → a ≡ b
  same_entry a b i j e =
      let ha = entry a i in
      let hb = entry b j in
      let is = is_list graph lists cross s in
      let a0 = numbers a.0 (is.members a.1.0 (row a.0) ha) in
      let b0 = numbers b.0 (is.members b.1.0 (row b.0) hb) in
      let a1 = numbers a.1.0 (listed cross a.1.0 (row a.0) ha) in
      let b1 = numbers b.1.0 (listed cross b.1.0 (row b.0) hb) in
      let e0 : a.0 ≡ b.0 = sym a0.1 ∙ ap (λ (q : Spot × Spot). num lists q.0) e ∙ b0.1 in
      let e1 : a.1.0 ≡ b.1.0 = sym a1.1 ∙ ap (λ (q : Spot × Spot). num lists q.1) e ∙ b1.1 in
      λ x. (e0 x, row (e1 x))

  listed_cross : (p q : Spot) → Contains (map f entries) (p, q) → IsCross (Depends graph) lists p q
  listed_cross p q c =
      let m = In-map f entries (p, q) (In-from (map f entries) (p, q) c) in
      let e = m.0 in
      let h = entry e m.2 in
      let a = numbers e.0 ((is_list graph lists cross s).members e.1.0 (row e.0) h) in
      let b = numbers e.1.0 (listed cross e.1.0 (row e.0) h) in
      let h' : In (row (num lists (place_of e.0))) (get_or cross (num lists (place_of e.1.0)) []) = subst (λ (k : ℕ). In (row k) (get_or cross (num lists (place_of e.1.0)) [])) (sym a.1) (subst (λ (l : ℕ). In (row e.0) (get_or cross l [])) (sym b.1) h) in
      subst (λ (w : Spot × Spot). IsCross (Depends graph) lists w.0 w.1) m.1 (cross_place graph lists cross s (place_of e.0) (place_of e.1.0) a.0 b.0 h')

  cross_listed : (p q : Spot) → IsCross (Depends graph) lists p q → Contains (map f entries) (p, q)
  cross_listed p q w =
      let i = place_cross graph lists cross s p q w in
      let t = In-turned_to 0 cross (num lists p) (num lists q) i in
      let z : 0 + num lists q ≡ num lists q = omega arith in
      let g = In-map_to f entries (num lists p, row (0 + num lists q)) t in
      let e0 = place_num p (has-from lists p w.1 w.3) in
      let e1 = ap place_of z ∙ place_num q (has-from lists q w.2 w.4) in
      let e : f (num lists p, row (0 + num lists q)) ≡ (p, q) = λ x. (e0 x, e1 x) in
      In-to (map f entries) (p, q) (subst (λ (w : Spot × Spot). In w (map f entries)) e g)

  pub counts_cross : CountsCross (Depends graph) lists (sum_by length cross)
  counts_cross = record {
    pairs = map f entries;
    distinct = distinct_pairs (map f entries) (distinct_map f entries same_entry (distinct_turned 0 cross (is_list graph lists cross s).climbs));
    cross_alone = λ first second. (listed_cross first second, cross_listed first second);
    long = length-map entries f ∙ length-turned 0 cross;
  }
