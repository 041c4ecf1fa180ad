-- Atoms and their places in a list.
use Rattle.std.specs.Prelude.{ℕ, ℤ, ◌<◌, ◌≡◌, length, suc, if◌then◌else◌, List, [], ◌∷◌, slice_index_or}
use Rattle.loop_core.specs.declared.nest.Atom.{Atom}
use Rattle.loop_core.specs.declared.nest.Atom.TheVariants.{Zero}
use Rattle.uf_constraints.specs.declared.system.Diff.{Diff}
use Rattle.uf_constraints.specs.Same.{same_atom}

-- the place of the first atom that is equal to this one, and the number of atoms where there is none
abbrev pub place_in : List Atom → Atom → ℕ
place_in [] a = 0
place_in (b ∷ bs) a = if same_atom a b then 0 else suc (place_in bs a)

abbrev pub atom_at : List Atom → ℕ → Atom
atom_at u x = slice_index_or u x Zero

-- the constraint between the atoms at two places
abbrev pub diff_at : List Atom → ℕ → ℕ → ℤ → Diff
diff_at u x y c = record { a = atom_at u x; b = atom_at u y; c = c }

-- each place in a table is that of the first atom that is equal to its own
abbrev pub AreFirst : List Atom → List ℕ → Type 0
AreFirst u table = (k : ℕ) → k < length table → slice_index_or table k 0 < length u → place_in u (atom_at u (slice_index_or table k 0)) ≡ slice_index_or table k 0
