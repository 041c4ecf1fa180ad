-- What a search over all tasks finds.
use Rattle.std.proofs.Common.{◌≡◌, ℕ, ◌+◌, ◌<◌, ◌≤◌, ◌∙◌, ◌++◌, inl, inr, List, [], ◌∷◌, Contains, length, get_or, arith, ap, sym, subst}
use Rattle.std.proofs.lemmas.Bool.{cases_lt}
use Rattle.std.proofs.lemmas.List.{get_or_append_left, get_or_push, get_or_default, length_push}
use Rattle.std.proofs.lemmas.List.Elements.{Contains-get_or, Contains-append_left, Contains-push, Contains-push_cases}
use Rattle.wave_base.specs.declared.types.RowId.{RowId}
use Rattle.row_graph.specs.Rows.{row, row_zero}
use Rattle.row_graph.specs.Predecessors.{AreAscending}
use Rattle.row_graph.proofs.Members.{In-from}
use Rattle.wait_sparsify.specs.Searched.{AreSelected, IsNext}
use Rattle.wait_sparsify.proofs.Places.{listed}

ascending-push : (rows : List RowId) (r : RowId) → AreAscending rows → ((i : RowId) → Contains rows i → i.0 < r.0) → AreAscending (rows ++ r ∷ [])
ascending-push rows r asc below i j d l m =
    let n = length_push rows r in
    let li : i < length rows = omega (arith, l, m, n) in
    let a : (get_or (rows ++ r ∷ []) i d).0 ≡ (get_or rows i d).0 = ap (λ (r : RowId). r.0) (get_or_append_left rows (r ∷ []) d i li) in
    elim (cases_lt j (length rows)) [
      | inl lj ↦
          let b : (get_or (rows ++ r ∷ []) j d).0 ≡ (get_or rows j d).0 = ap (λ (r : RowId). r.0) (get_or_append_left rows (r ∷ []) d j lj) in
          omega (arith, a, b, asc i j d l lj)
      | inr gj ↦
          let b : (get_or (rows ++ r ∷ []) j d).0 ≡ r.0 = ap (λ (r : RowId). r.0) (get_or_push rows r d j (omega (arith, m, n, gj))) in
          omega (arith, a, b, below (get_or rows i d) (Contains-get_or rows i d li))
    ]

pub selected_none : (P : ℕ → Type 0) → AreSelected P 0 []
selected_none P = record {
  members = λ r. (λ c. absurd (omega (arith, c.1)), λ h. absurd (omega (arith, h.0)));
  ascending = λ i j d l m. absurd (omega (arith, m));
}

pub selected_skip : (P : ℕ → Type 0) (top : ℕ) (list : List RowId) → AreSelected P top list → (P top → ⊥) → AreSelected P (top + 1) list
selected_skip P top list s absent = record {
  members = λ i. (
    λ h. let m = (s.members i).0 h in (omega (arith, m.0), m.1),
    λ h. elim (cases_lt i.0 top) [
      | inl l ↦ (s.members i).1 (l, h.1)
      | inr g ↦
          let e : i.0 ≡ top = omega (arith, h.0, g) in
          absurd (absent (subst P e h.1))
    ],
  );
  ascending = s.ascending;
}

pub selected_take : (P : ℕ → Type 0) (top : ℕ) (list : List RowId) → AreSelected P top list → P top → AreSelected P (top + 1) (list ++ (row top) ∷ [])
selected_take P top list s present = record {
  members = λ i. (
    λ h. elim (Contains-push_cases list (row top) i h) [
      | inl m ↦ let q = (s.members i).0 m in (omega (arith, q.0), q.1)
      | inr e ↦
          let n : top ≡ i.0 = ap (λ (r : RowId). r.0) e in
          (omega (arith, n), subst P n present)
    ],
    λ h. elim (cases_lt i.0 top) [
      | inl l ↦ Contains-append_left list (row top ∷ []) i ((s.members i).1 (l, h.1))
      | inr g ↦
          let e : row top ≡ i = ap row (omega (arith, h.0, g)) in
          subst (λ (i : RowId). Contains (list ++ (row top) ∷ []) i) e (Contains-push list (row top))
    ],
  );
  ascending = ascending-push list (row top) s.ascending (λ i h. ((s.members i).0 h).0);
}

-- the lists of the first numbers
pub record ListsSoFar (P : ℕ → ℕ → Type 0) (top many : ℕ) (lists : List (List RowId)) : Type 0 where
  pub long : length lists ≡ many
  pub each : (l : ℕ) → l < many → AreSelected (P l) top (get_or lists l [])

pub lists_more : (P : ℕ → ℕ → Type 0) (top many : ℕ) (lists : List (List RowId)) (more : List RowId) → ListsSoFar P top many lists → AreSelected (P many) top more → ListsSoFar P top (many + 1) (lists ++ more ∷ [])
lists_more P top many lists more s is = record {
  long = length_push lists more ∙ omega (arith, s.long);
  each = λ k h. elim (cases_lt k many) as (λ _. AreSelected (P k) top (get_or (lists ++ more ∷ []) k [])) [
    | inl l ↦ subst (AreSelected (P k) top) (sym (get_or_append_left lists (more ∷ []) [] k (omega (arith, s.long)))) (s.each k l)
    | inr g ↦
        let e : many ≡ k = omega (arith, h, g) in
        let here = subst (AreSelected (P many) top) (sym (get_or_push lists more [] many s.long)) is in
        subst (λ (k : ℕ). AreSelected (P k) top (get_or (lists ++ more ∷ []) k [])) e here
  ];
}

-- none of the rows so far is one of a kind, so no row is
pub nowhere : (P : RowId → Type 0) (rows : List RowId) (at : ℕ) → length rows ≤ at → ((k : ℕ) → k < at → P (get_or rows k row_zero) → ⊥) → (r : RowId) → Contains rows r → P r → ⊥
nowhere P rows at l none r (k, h, e) p =
    none k (omega (arith, l, h)) (subst P (sym (get_or_default rows k row_zero r h ∙ e)) p)

pub next_within : (cross : List (List RowId)) (owners : List ℕ) (k m : ℕ) → IsNext cross owners k m → m < length cross
next_within cross owners k m (inl c) = listed cross m (row k) (In-from (get_or cross m []) (row k) c)
next_within cross owners k m (inr d) = d.2
