-- The numbers of tasks: each place has one, and each number a place.
use Rattle.std.proofs.Common.{◌≡◌, ℕ, suc, zero, ◌+◌, ◌-◌, ◌<◌, ◌≤◌, ◌∙◌, ◌++◌, inl, inr, List, [], ◌∷◌, length, get_or, map, replicate, arith, refl, ap, sym}
use Rattle.std.specs.List.{range_with_len}
use Rattle.std.proofs.lemmas.Bool.{cases_lt, cases_order}
use Rattle.std.proofs.lemmas.List.{length-append, length-map, length-replicate, get_or-replicate, get_or_append_left, get_or-append_right, get_or-map}
use Rattle.std.proofs.lemmas.List.FromFn.{length-range_with_len, get_or-range_with_len}
use Rattle.wave_base.specs.declared.types.RowId.{RowId}
use Rattle.sched_types.specs.declared.sched.RowTask.{RowTask}
use Rattle.wait_sparsify.specs.Numbered.{owners_from, places_from, rows_from}

-- there is a task at a place
abbrev pub Has : List (List RowTask) → ℕ → ℕ → Type 0
Has lists worker at = at < length (get_or lists worker [])

-- the number of the task at a place
abbrev pub number : List (List RowTask) → ℕ → ℕ → ℕ
number [] worker at = at
number (tasks ∷ lists) zero at = at
number (tasks ∷ lists) (suc worker) at = length tasks + number lists worker at

pub length-owners : (first : ℕ) (lists : List (List RowTask)) → length (owners_from first lists) ≡ length (rows_from lists)
length-owners first [] = refl
length-owners first (tasks ∷ lists) =
    let r = length-owners (first + 1) lists in
    let a = length-append (replicate (length tasks) first) (owners_from (first + 1) lists) in
    let b = length-append (map (λ (t : RowTask). t.rows) tasks) (rows_from lists) in
    omega (arith, a, b, r, length-replicate (length tasks) first, length-map tasks (λ (t : RowTask). t.rows))

pub length-places : (lists : List (List RowTask)) → length (places_from lists) ≡ length (rows_from lists)
length-places [] = refl
length-places (tasks ∷ lists) =
    let r = length-places lists in
    let a = length-append (range_with_len 0 (length tasks)) (places_from lists) in
    let b = length-append (map (λ (t : RowTask). t.rows) tasks) (rows_from lists) in
    omega (arith, a, b, r, length-range_with_len 0 (length tasks), length-map tasks (λ (t : RowTask). t.rows))

length-rows : (tasks : List RowTask) (lists : List (List RowTask)) → length (rows_from (tasks ∷ lists)) ≡ length tasks + length (rows_from lists)
length-rows tasks lists =
    let b = length-append (map (λ (t : RowTask). t.rows) tasks) (rows_from lists) in
    omega (arith, b, length-map tasks (λ (t : RowTask). t.rows))

pub number_below : (lists : List (List RowTask)) (worker at : ℕ) → Has lists worker at → number lists worker at < length (rows_from lists)
number_below [] worker at h = absurd (omega (arith, h))
number_below (tasks ∷ lists) zero at h = omega (arith, length-rows tasks lists, h)
number_below (tasks ∷ lists) (suc worker) at h = omega (arith, length-rows tasks lists, number_below lists worker at h)

pub owner_at : (first : ℕ) (lists : List (List RowTask)) (worker at : ℕ) → Has lists worker at → get_or (owners_from first lists) (number lists worker at) 0 ≡ first + worker
owner_at first [] worker at h = absurd (omega (arith, h))
owner_at first (tasks ∷ lists) zero at h =
    let l : at < length (replicate (length tasks) first) = omega (arith, length-replicate (length tasks) first, h) in
    let e : first ≡ first + zero = omega arith in
    get_or_append_left (replicate (length tasks) first) (owners_from (first + 1) lists) 0 at l ∙ get_or-replicate (length tasks) at first 0 h ∙ e
owner_at first (tasks ∷ lists) (suc worker) at h =
    let m = number lists worker at in
    let a = get_or-append_right (replicate (length tasks) first) (owners_from (first + 1) lists) (length tasks) (length tasks + m) 0 (length-replicate (length tasks) first) (omega arith) in
    let b : length tasks + m - length tasks ≡ m = omega arith in
    let e : first + 1 + worker ≡ first + suc worker = omega arith in
    a ∙ ap (λ k. get_or (owners_from (first + 1) lists) k 0) b ∙ owner_at (first + 1) lists worker at h ∙ e

pub place_at : (lists : List (List RowTask)) (worker at : ℕ) → Has lists worker at → get_or (places_from lists) (number lists worker at) 0 ≡ at
place_at [] worker at h = absurd (omega (arith, h))
place_at (tasks ∷ lists) zero at h =
    let l : at < length (range_with_len 0 (length tasks)) = omega (arith, length-range_with_len 0 (length tasks), h) in
    let e : 0 + at ≡ at = omega arith in
    get_or_append_left (range_with_len 0 (length tasks)) (places_from lists) 0 at l ∙ get_or-range_with_len 0 (length tasks) at 0 h ∙ e
place_at (tasks ∷ lists) (suc worker) at h =
    let m = number lists worker at in
    let a = get_or-append_right (range_with_len 0 (length tasks)) (places_from lists) (length tasks) (length tasks + m) 0 (length-range_with_len 0 (length tasks)) (omega arith) in
    let b : length tasks + m - length tasks ≡ m = omega arith in
    a ∙ ap (λ k. get_or (places_from lists) k 0) b ∙ place_at lists worker at h

pub rows_at_number : (lists : List (List RowTask)) (worker at : ℕ) (d : RowTask) → Has lists worker at → get_or (rows_from lists) (number lists worker at) [] ≡ (get_or (get_or lists worker []) at d).rows
rows_at_number [] worker at d h = absurd (omega (arith, h))
rows_at_number (tasks ∷ lists) zero at d h =
    let rows_of : RowTask → List RowId = λ t. t.rows in
    let l : at < length (map rows_of tasks) = omega (arith, length-map tasks rows_of, h) in
    get_or_append_left (map rows_of tasks) (rows_from lists) [] at l ∙ get_or-map rows_of tasks at d [] h
rows_at_number (tasks ∷ lists) (suc worker) at d h =
    let rows_of : RowTask → List RowId = λ t. t.rows in
    let m = number lists worker at in
    let a = get_or-append_right (map rows_of tasks) (rows_from lists) (length tasks) (length tasks + m) [] (length-map tasks rows_of) (omega arith) in
    let b : length tasks + m - length tasks ≡ m = omega arith in
    a ∙ ap (λ k. get_or (rows_from lists) k []) b ∙ rows_at_number lists worker at d h

-- each number is that of a task
abbrev pub HasPlace : List (List RowTask) → ℕ → Type 0
HasPlace lists k = (worker : ℕ) × (at : ℕ) × Has lists worker at × (number lists worker at ≡ k)

pub has_place : (lists : List (List RowTask)) (k : ℕ) → k < length (rows_from lists) → HasPlace lists k
has_place [] k h = absurd (omega (arith, h))
has_place (tasks ∷ lists) k h =
    elim (cases_lt k (length tasks)) as (λ _. HasPlace (tasks ∷ lists) k) [
      | inl l ↦ (zero, k, l, refl)
      | inr g ↦
          let r = has_place lists (k - length tasks) (omega (arith, h, length-rows tasks lists, g)) in
          let e : length tasks + number lists r.0 r.1 ≡ k = omega (arith, r.3, g) in
          (suc r.0, r.1, r.2, e)
    ]

-- a worker's tasks have numbers one after another
pub number_is : (lists : List (List RowTask)) (worker at : ℕ) → number lists worker at ≡ number lists worker 0 + at
number_is [] worker at = omega arith
number_is (tasks ∷ lists) zero at = omega arith
number_is (tasks ∷ lists) (suc worker) at = omega (arith, number_is lists worker at)

-- those of a later worker are greater
pub number_rises : (lists : List (List RowTask)) (worker other at other_at : ℕ) → Has lists worker at → worker < other → number lists worker at < number lists other other_at
number_rises [] worker other at other_at h l = absurd (omega (arith, h))
number_rises (tasks ∷ lists) worker zero at other_at h l = absurd (omega (arith, l))
number_rises (tasks ∷ lists) zero (suc other) at other_at h l = omega (arith, h)
number_rises (tasks ∷ lists) (suc worker) (suc other) at other_at h l =
    omega (arith, number_rises lists worker other at other_at h (omega (arith, l)))

pub number_apart : (lists : List (List RowTask)) (worker other at other_at : ℕ) → Has lists worker at → Has lists other other_at → number lists worker at ≡ number lists other other_at → (worker ≡ other) × (at ≡ other_at)
number_apart lists worker other at other_at h i e =
    elim (cases_order worker other) as (λ _. (worker ≡ other) × (at ≡ other_at)) [
      | inl q ↦
          let a = number_is lists worker at in
          let b = number_is lists other other_at in
          let c : number lists worker 0 ≡ number lists other 0 = ap (λ w. number lists w 0) q in
          (q, omega (arith, a, b, c, e))
      | inr (inl l) ↦ absurd (omega (arith, number_rises lists worker other at other_at h l, e))
      | inr (inr g) ↦ absurd (omega (arith, number_rises lists other worker other_at at i g, e))
    ]

-- workers don't fall along the numbers
pub owners_rise : (lists : List (List RowTask)) (a b : ℕ) → a ≤ b → b < length (rows_from lists) → get_or (owners_from 0 lists) a 0 ≤ get_or (owners_from 0 lists) b 0
owners_rise lists a b l h =
    let p = has_place lists a (omega (arith, l, h)) in
    let q = has_place lists b h in
    let x : get_or (owners_from 0 lists) a 0 ≡ 0 + p.0 = ap (λ k. get_or (owners_from 0 lists) k 0) (sym p.3) ∙ owner_at 0 lists p.0 p.1 p.2 in
    let y : get_or (owners_from 0 lists) b 0 ≡ 0 + q.0 = ap (λ k. get_or (owners_from 0 lists) k 0) (sym q.3) ∙ owner_at 0 lists q.0 q.1 q.2 in
    elim (cases_lt q.0 p.0) as (λ _. get_or (owners_from 0 lists) a 0 ≤ get_or (owners_from 0 lists) b 0) [
      | inl g ↦ absurd (omega (arith, number_rises lists q.0 p.0 q.1 p.1 q.2 g, p.3, q.3, l))
      | inr s ↦ omega (arith, x, y, s)
    ]

pub range_more : (a n : ℕ) → range_with_len a (suc n) ≡ range_with_len a n ++ (a + n) ∷ []
range_more a zero = let e : a ≡ a + zero = omega arith in ap (λ k. k ∷ []) e
range_more a (suc n) =
    let e : a + 1 + n ≡ a + suc n = omega arith in
    ap (λ xs. a ∷ xs) (range_more (a + 1) n ∙ ap (λ k. range_with_len (a + 1) n ++ k ∷ []) e)
