-- The places that the instances of a row touch are cells.
use Rattle.std.proofs.Common.{◌≡◌, ℕ, zero, suc, ◌<◌, ◌≤◌, ◌^◌, ℤ, pos, Fits, w32, Bool, true, false, if◌then◌else◌, List, [], ◌∷◌, ◌++◌, length, Option, Some, None, refl, sym, ap, subst, ◌∙◌, inl, inr, arith}
use lib.Dec.{T}
use lib.Signed.{non_neg}
use lib.IntN.{nat_abs}
use Rattle.std.specs.Prelude.{slice_get, Contains}
use Rattle.std.specs.List.{filter}
use Rattle.std.specs.Option.{option_map_or}
use Rattle.wave_base.specs.declared.types.ArrayId.{ArrayId}
use Rattle.wave_base.specs.declared.types.Cell.{Cell}
use Rattle.loop_core.specs.declared.decl.Decl.{Decl}
use Rattle.loop_core.specs.declared.decl.Size.{Size}
use Rattle.loop_core.specs.declared.decl.Size.TheVariants.{N, NPlusOne, Nnz}
use Rattle.loop_core.specs.declared.place.Place.{Place}
use Rattle.loop_core.specs.declared.effect.Effect.TheVariants.{Sets}
use Rattle.loop_core.specs.Sizes.{sizes, size_length, declared_length}
use Rattle.loop_core.specs.Shape.{is_target}
use Rattle.loop_core.specs.Instances.{Instance, instances, natural}
use Rattle.loop_core.specs.Values.{reads}
use Rattle.loop_core.specs.Registers.{shared_reads}
use Rattle.loop_core.specs.Touches.{IsInside}
use Rattle.loop_core.proofs.PlacesSet.{set_is_target}
use Rattle.loop_core.proofs.TargetKinds.{target_is_data}
use Rattle.core_cells.proofs.Places.{none_is_some, some_same, at_right, is_in}
use Rattle.core_nest.specs.Nested.{cell_of}
use Rattle.core_nest.proofs.Each.{in_filtered}
use Rattle.core_machine.specs.declared.work.Work.{Work}
use Rattle.p2p_exec.specs.Rows.{IsRow}
use Rattle.p2p_exec.specs.Reading.{IsCell, AreCells}

size_small : (n nnz : ℕ) (s : Size) → n < 2 ^ 32 → nnz < 2 ^ 32 → size_length n nnz s ≤ 2 ^ 32
size_small n nnz N a b = omega arith
size_small n nnz NPlusOne a b = omega arith
size_small n nnz Nnz a b = omega arith

-- no declared length is above 2 ^ 32
declared_small : (decls : List Decl) (n nnz : ℕ) (array : ArrayId) → n < 2 ^ 32 → nnz < 2 ^ 32 → declared_length decls n nnz array ≤ 2 ^ 32
declared_small decls n nnz array a b = by (slice_get (sizes decls) array.0)
  where
    by : (o : Option Size) → option_map_or (size_length n nnz) o 0 ≤ 2 ^ 32
    by None = omega arith
    by (Some s) = size_small n nnz s a b

inside_cell : (w : Work) (i : ℕ) (p : Place) → IsRow w i → is_target w.nest p.array ≡ true → IsInside w.values p → IsCell p
inside_cell w i p row target inside =
    let long = row.fit.lengths.of_data p.array (target_is_data w.nest p.array row.fit.is_nest target) in
    let few = declared_small w.nest.decls w.arrays.n w.arrays.nnz p.array row.rows row.entries in
    let l = inside.2 in
    (inside.0, inside.1, omega arith)

first_or_later : {A : Type 0} (q : A → Bool) (y : A) (ys : List A) (n : ℕ) (x : A) → q y ≡ true → slice_get (y ∷ ys) n ≡ Some x → ((m : ℕ) → slice_get ys m ≡ Some x → q x ≡ true) → q x ≡ true
first_or_later q y ys zero x is e later = ap q (sym (some_same y x e)) ∙ is
first_or_later q y ys (suc m) x is e later = later m e

-- what is filtered passes the filter
filtered_passes : {A : Type 0} (q : A → Bool) (xs : List A) (n : ℕ) (x : A) → slice_get (filter q xs) n ≡ Some x → q x ≡ true
filtered_passes q [] n x e = absurd (none_is_some x e)
filtered_passes q (y ∷ ys) n x e = by (q y) refl e (λ m h. filtered_passes q ys m x h)
  where
    by : (b : Bool) → q y ≡ b → slice_get (if b then y ∷ filter q ys else filter q ys) n ≡ Some x → ((m : ℕ) → slice_get (filter q ys) m ≡ Some x → q x ≡ true) → q x ≡ true
    by true is e later = first_or_later q y (filter q ys) n x is e later
    by false is e later = later n e

-- the instance stands in its row
pub stands_there : (row earlier : List Instance) (s : Instance) (ss : List Instance) → row ≡ earlier ++ s ∷ ss → Contains row s
stands_there row earlier s ss e =
    is_in row s (length earlier) (ap (λ (z : List Instance). slice_get z (length earlier)) e ∙ at_right earlier (s ∷ ss) (length earlier) 0 s (omega arith) refl)

-- what an instance of the row reads of written arrays, and what it sets
pub cells_read : (w : Work) (i : ℕ) (s : Instance) → IsRow w i → Contains (instances w.arrays w.nest (pos i)) s → AreCells w.nest s.value
cells_read w i s row here = λ n p e.
    let q : Place → Bool = λ (r : Place). is_target w.nest r.array in
    inside_cell w i p row (filtered_passes q (reads s.value) n p e)
    (row.fit.inside i p row.here (inl (s, here, in_filtered q (reads s.value) p (is_in (shared_reads w.nest s.value) p n e))))

pub cell_set : (w : Work) (i : ℕ) (s : Instance) (p : Place) → IsRow w i → Contains (instances w.arrays w.nest (pos i)) s → s.effect ≡ Sets p → IsCell p
cell_set w i s p row here is = inside_cell w i p row (set_is_target w.arrays w.nest (pos i) s p here is) (row.fit.inside i p row.here (inr (s, here, is)))

-- A place of a cell, as the code casts it.
pub record IsCast (array : ArrayId) (at z : ℤ) : Type 0 where
  pub fits : T (non_neg z) × Fits w32 (nat_abs z)
  pub cell : cell_of (record { array = array; at = at }) ≡ record { array = array; at = nat_abs z }

pub cast : (array : ArrayId) (at z : ℤ) → z ≡ at → IsCell (record { array = array; at = at }) → IsCast array at z
cast array at z e (n, is, l) =
    let same : z ≡ pos n = e ∙ is in
    record {
      fits = subst (λ (y : ℤ). T (non_neg y) × Fits w32 (nat_abs y)) (sym same) (tt, record { fits = l });
      cell = (λ t. let c : Cell = record { array = array; at = natural (is t) } in c) ∙ (λ t. let c : Cell = record { array = array; at = nat_abs (sym same t) } in c);
    }
