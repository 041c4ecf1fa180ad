-- The order of cells.
use Rattle.std.proofs.Common.{◌≡◌, ◌⊎◌, inl, inr, ℕ, zero, suc, ◌<◌, Bool, true, ◌&&◌, ◌==◌, List, [], ◌∷◌, length, slice_index_or, ap, ◌∙◌, nat_cmp, arith}
use Rattle.std.specs.List.{AllPairs, AllByRecursion}
use Rattle.std.specs.List.Sorted.{IsStrictlySortedBy}
use Rattle.std.specs.Ordering.{ordering_then, MatchOrdering, eq_by_cmp}
use Rattle.std.specs.declared.cmp.Ordering.{Ordering}
use Rattle.std.specs.declared.cmp.Ordering.TheVariants.{Less, Equal, Greater}
use Rattle.std.specs.Cmp.{IsEquivalence, IsTotalOrder, ranks, on_total, then_total, nat_cmp_total, nat_eq_equiv, on_equiv, and_equiv, unsigned_ties, first_so, second_so}
use Rattle.std.specs.Cmp.Derive.{tie, on_tied, then_tied}
use borrow.Author.Tests.{eqb-true}
use Rattle.wave_base.specs.declared.types.ArrayId.{ArrayId}
use Rattle.wave_base.specs.declared.types.Cell.{Cell}
use Rattle.loop_meaning.specs.Accesses.{IsBelow}

abbrev pub array_of : Cell → ℕ
array_of c = c.array.0

abbrev pub place_in : Cell → ℕ
place_in c = c.at

abbrev pub cell_cmp : Cell → Cell → Ordering
cell_cmp x y = ordering_then (nat_cmp x.array.0 y.array.0) (nat_cmp x.at y.at)

abbrev pub cell_eq : Cell → Cell → Bool
cell_eq x y = (x.array.0 == y.array.0) && (x.at == y.at)

pub cell_total : IsTotalOrder cell_cmp
cell_total = then_total (on_total array_of nat_cmp_total) (on_total place_in nat_cmp_total)

pub cell_equiv : IsEquivalence cell_eq
cell_equiv = and_equiv (on_equiv array_of nat_eq_equiv) (on_equiv place_in nat_eq_equiv)

pub cell_ties : (x y : Cell) → cell_eq x y ≡ eq_by_cmp cell_cmp x y
cell_ties = (then_tied (on_tied array_of (tie nat_cmp unsigned_ties)) (on_tied place_in (tie nat_cmp unsigned_ties))).ties

pub cell_exact : (x y : Cell) → cell_eq x y ≡ true → x ≡ y
cell_exact x y e =
    let array : x.array.0 ≡ y.array.0 = eqb-true x.array.0 y.array.0 (first_so (x.array.0 == y.array.0) (x.at == y.at) e) in
    let at : x.at ≡ y.at = eqb-true x.at y.at (second_so (x.array.0 == y.array.0) (x.at == y.at) e) in
    ap (λ (n : ℕ). let a : ArrayId = record { 0 = n } in let c : Cell = record { array = a; at = x.at } in c) array
    ∙ ap (λ (n : ℕ). let c : Cell = record { array = y.array; at = n } in c) at

less_then : (a b m n : ℕ) (r s : Ordering) → MatchOrdering r (a < b) (a ≡ b) (b < a) → MatchOrdering s (m < n) (m ≡ n) (n < m) → ordering_then r s ≡ Less → (a < b) ⊎ ((a ≡ b) × (m < n))
less_then a b m n Less s h k e = inl h
less_then a b m n Equal Less h k e = inr (h, k)
less_then a b m n Equal Equal h k e = absurd (cc)
less_then a b m n Equal Greater h k e = absurd (cc)
less_then a b m n Greater s h k e = absurd (cc)

less_is : (x y : Cell) → cell_cmp x y ≡ Less → IsBelow x y
less_is x y e = less_then x.array.0 y.array.0 x.at y.at (nat_cmp x.array.0 y.array.0) (nat_cmp x.at y.at) (ranks x.array.0 y.array.0) (ranks x.at y.at) e

each_above : (x : Cell) (xs : List Cell) → AllByRecursion (λ y. cell_cmp x y ≡ Less) xs → (k : ℕ) (d : Cell) → k < length xs → IsBelow x (slice_index_or xs k d)
each_above x [] all k d lt = absurd (omega arith)
each_above x (y ∷ ys) all zero d lt = less_is x y all.0
each_above x (y ∷ ys) all (suc k) d lt = each_above x ys all.1 k d (omega arith)

pub ascending : (xs : List Cell) → IsStrictlySortedBy cell_cmp xs → AllPairs IsBelow xs
unfolding IsStrictlySortedBy
ascending [] sorted i j d lt within = absurd (omega arith)
ascending (x ∷ xs) sorted zero zero d lt within = absurd (omega arith)
ascending (x ∷ xs) sorted zero (suc j) d lt within = each_above x xs sorted.0 j d (omega arith)
ascending (x ∷ xs) sorted (suc i) zero d lt within = absurd (omega arith)
ascending (x ∷ xs) sorted (suc i) (suc j) d lt within = ascending xs sorted.1 i j d (omega arith) (omega arith)
