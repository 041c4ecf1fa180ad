-- What an operation tries for its variable.
use Rattle.std.specs.Prelude.{ℕ, zero, suc, ℤ, pos, ◌+ℤ◌, ◌-ℤ◌, ◌-◌, Bool, if◌then◌else◌, int_le, List, [], ◌∷◌, map, length, slice_index_or}
use Rattle.std.specs.List.{filter, range_with_len}
use Rattle.std.specs.Ordering.{int_eq}
use Rattle.loop_core.specs.Lists.{Lists, list_of}
use Rattle.loop_core.specs.Binding.{Binding}
use Rattle.loop_core.specs.Terms.{term_value, atom_value}
use Rattle.loop_core.specs.Instances.{trips}
use Rattle.uf_constraints.specs.declared.system.Diff.{Diff}
use Rattle.inspector_run.specs.declared.plan.InspOp.{InspOp}
use Rattle.inspector_run.specs.declared.plan.InspOp.TheVariants.{Loop, Let, Find, Locate, Test, Emit}

-- so many numbers from the first on
abbrev pub numbers : ℕ → ℤ → List ℤ
numbers zero first = []
numbers (suc n) first = first ∷ numbers n (first +ℤ pos 1)

-- the numbers from lo up to but not including hi
abbrev pub numbers_between : ℤ → ℤ → List ℤ
numbers_between lo hi = numbers (trips lo hi) lo

-- the word at a place
abbrev pub word : List ℤ → ℕ → ℤ
word list s = slice_index_or list s (pos 0)

-- the places of a list whose entry is a value, ascending
abbrev pub places_of : List ℤ → ℤ → List ℕ
places_of list value = filter (λ s. int_eq (word list s) value) (range_with_len 0 (length list))

-- the greatest number below n that passes a test, alone, or none
abbrev pub greatest : (ℕ → Bool) → ℕ → List ℕ
greatest passes zero = []
greatest passes (suc n) = if passes n then n ∷ [] else greatest passes n

-- the last of so many places, or none
abbrev pub last_place : ℕ → List ℕ
last_place zero = []
last_place (suc n) = n ∷ []

-- the greatest place with a place after it whose entry is at most a value
abbrev pub place_up_to : List ℤ → ℤ → List ℕ
place_up_to list value = greatest (λ s. int_le (word list s) value) (length list - 1)

-- each place less a constant
abbrev pub moved : ℤ → List ℕ → List ℤ
moved plus places = map (λ s. pos s -ℤ plus) places

-- the values that an operation tries for its variable, in order
abbrev pub tried : Lists → List Binding → InspOp → List ℤ
tried a env (Loop v lo hi) = numbers_between (term_value a env lo) (term_value a env hi)
tried a env (Let v t) = term_value a env t ∷ []
tried a env (Find v f plus t) = moved plus (places_of (list_of a.lists f) (term_value a env t))
tried a env (Locate v p plus t) = moved plus (place_up_to (list_of a.lists p) (term_value a env t))
tried a env (Test d) = []
tried a env (Emit i j) = []

-- whether a constraint is true
abbrev pub is_true : Lists → List Binding → Diff → Bool
is_true a env d = int_le (atom_value a env d.a -ℤ atom_value a env d.b) d.c
