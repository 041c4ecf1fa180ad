-- Orders, one entry after another.
use Rattle.std.proofs.Common.{◌≡◌, ◌<◌, ◌≤◌, ◌+◌, ◌∙◌, ◌⊎◌, inl, inr, ◌++◌, ◌∷◌, [], ℕ, ℤ, List, Some, slice_get, drop, length, append_assoc, arith, ap, subst, sym}
use Rattle.std.proofs.lemmas.Bool.{cases_lt}
use Rattle.std.proofs.lemmas.List.{append-nil, at_drop_more, drop_all}
use Rattle.std.proofs.lemmas.Option.{get_or_from_slice_get, same_Some}
use Rattle.loop_core.specs.Instances.{natural}
use Rattle.wave_main.specs.declared.status.Status.{Status}
use Rattle.wave_main.specs.declared.status.Status.TheVariants.{Shape}
use Rattle.wave_main.specs.declared.status.ShapeKind.TheVariants.{Order}
use Rattle.wave_main.specs.Orders.{IsFirstOdd, IsNumber, order_numbers}

-- the worker of one entry more
pub one_more_whole : (entries : List ℤ) (place : ℕ) (value : ℤ) (worker : ℕ) (order grown : List ℕ) → place < length entries → slice_get entries place ≡ Some value → worker ≡ natural value → grown ≡ order ++ worker ∷ []
    → order ++ order_numbers (drop place entries) ≡ order_numbers entries → grown ++ order_numbers (drop (place + 1) entries) ≡ order_numbers entries
one_more_whole entries place value worker order grown lt at named new whole =
    let left : List ℕ = order_numbers (drop (place + 1) entries) in
    ap (λ (l : List ℕ). l ++ left) new
    ∙ append_assoc order (worker ∷ []) left
    ∙ ap (λ n. order ++ n ∷ left) (named ∙ ap natural (sym (get_or_from_slice_get entries place value value at)))
    ∙ sym (at_drop_more (λ (l : List ℤ). order ++ order_numbers l) entries place value lt)
    ∙ whole

pub one_more_number : (workers : ℕ) (entries : List ℤ) (place : ℕ) (value : ℤ) → slice_get entries place ≡ Some value → IsNumber workers value
    → ((k : ℕ) (x : ℤ) → k < place → slice_get entries k ≡ Some x → IsNumber workers x)
    → (k : ℕ) (x : ℤ) → k < place + 1 → slice_get entries k ≡ Some x → IsNumber workers x
one_more_number workers entries place value there number before k x below at = by (cases_lt k place)
  where
    by : (k < place) ⊎ (place ≤ k) → IsNumber workers x
    by (inl less) = before k x less at
    by (inr more) =
        let same : k ≡ place = omega (arith, below, more) in
        let e : value ≡ x = same_Some value x (sym there ∙ ap (λ n. slice_get entries n) (sym same) ∙ at) in
        subst (IsNumber workers) e number

-- an entry that is no worker's number, after entries that are, is the first
pub is_odd : (workers : ℕ) (entries : List ℤ) (place : ℕ) (value : ℤ) (status : Status) → slice_get entries place ≡ Some value
    → ((k : ℕ) (x : ℤ) → k < place → slice_get entries k ≡ Some x → IsNumber workers x)
    → (IsNumber workers value → ⊥) × (status ≡ Shape (Order place value))
    → (p : ℕ) × (x : ℤ) × IsFirstOdd workers entries p x × (status ≡ Shape (Order p x))
is_odd workers entries place value status there before (odd, said) =
    (place, value, record { there = there; odd = odd; earlier = before }, said)

pub whole_order : (entries : List ℤ) (place : ℕ) (order : List ℕ) → length entries ≡ place → order ++ order_numbers (drop place entries) ≡ order_numbers entries → order ≡ order_numbers entries
whole_order entries place order end whole =
    let none : drop place entries ≡ [] = drop_all place entries (omega (arith, end)) in
    sym (append-nil order) ∙ ap (λ (l : List ℤ). order ++ order_numbers l) (sym none) ∙ whole
