-- How many entries a plan may read.
use Rattle.std.specs.Prelude.{ℕ, zero, suc, ◌+◌, ◌*◌, ◌/◌, if◌then◌else◌, List, [], ◌∷◌, length}
use Rattle.std.specs.List.{flat_map, list_any}
use Rattle.wave_base.specs.declared.types.ArrayId.{ArrayId}
use Rattle.loop_core.specs.Lists.{Lists, list_of}
use Rattle.loop_core.specs.Terms.{term_entries}
use Rattle.loop_core.specs.Shape.{same_array}
use Rattle.uf_constraints.specs.Truth.{diff_entries}
use Rattle.inspector_run.specs.declared.plan.InspOp.{InspOp}
use Rattle.inspector_run.specs.declared.plan.InspOp.TheVariants.{Loop, Let, Find, Locate, Test, Emit}
use Rattle.inspector_run.specs.Pairs.{visits}

-- the array entries written in an operation, inner ones too
abbrev pub entries_in : InspOp → ℕ
entries_in (Loop v lo hi) = term_entries lo + term_entries hi
entries_in (Let v t) = term_entries t
entries_in (Find v f plus t) = term_entries t
entries_in (Locate v p plus t) = term_entries t
entries_in (Test d) = diff_entries d
entries_in (Emit i j) = 0

-- the brackets of a plan
abbrev pub brackets : List InspOp → ℕ
brackets [] = 0
brackets (op ∷ ops) = entries_in op + brackets ops

-- how often a number can be halved before it is 0, at most so often
abbrev pub halvings : ℕ → ℕ → ℕ
halvings zero n = 0
halvings (suc limit) zero = 0
halvings (suc limit) (suc n) = 1 + halvings limit (suc n / 2)

-- the number of binary digits
abbrev pub digits : ℕ → ℕ
digits n = halvings n n

-- what a search in the array of a `Locate` may take
abbrev pub search_in : Lists → InspOp → ℕ
search_in a (Locate v p plus t) = digits (length (list_of a.lists p)) + 2
search_in a (Loop v lo hi) = 0
search_in a (Let v t) = 0
search_in a (Find v f plus t) = 0
search_in a (Test d) = 0
search_in a (Emit i j) = 0

abbrev pub searches : Lists → List InspOp → ℕ
searches a [] = 0
searches a (op ∷ ops) = search_in a op + searches a ops

-- the array of a `Find`
abbrev pub found_in : InspOp → List ArrayId
found_in (Find v f plus t) = f ∷ []
found_in (Loop v lo hi) = []
found_in (Let v t) = []
found_in (Locate v p plus t) = []
found_in (Test d) = []
found_in (Emit i j) = []

-- each array once
abbrev pub different : List ArrayId → List ArrayId
different [] = []
different (f ∷ fs) = if list_any (same_array f) fs then different fs else f ∷ different fs

-- the different arrays of the `Find` operations
abbrev pub found_arrays : List InspOp → List ArrayId
found_arrays ops = different (flat_map found_in ops)

-- the entries of these arrays
abbrev pub listed : Lists → List ArrayId → ℕ
listed a [] = 0
listed a (f ∷ fs) = length (list_of a.lists f) + listed a fs

-- visits times brackets, the lengths of the arrays of `Find`, and visits times the searches
abbrev pub most_ticks : Lists → List InspOp → ℕ
most_ticks a ops = visits a ops * brackets ops + listed a (found_arrays ops) + visits a ops * searches a ops

-- what may be read at one visit
abbrev pub each_visit : Lists → List InspOp → ℕ
each_visit a ops = brackets ops + searches a ops
