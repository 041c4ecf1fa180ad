-- Unit forward substitution with two rows on two workers is fit.
use Rattle.std.proofs.Common.{◌≡◌, ◌⊎◌, ℕ, zero, suc, ◌<◌, pos, List, [], ◌∷◌, length, refl, sym, subst, ⊎_elim, inl, rules, arith}
use Rattle.std.specs.Prelude.{IsTrue}
use Rattle.loop_core.specs.declared.nest.Atom.TheFolds.{the_lemmas as of_term}
use Rattle.loop_core.specs.declared.nest.Expr.TheFolds.{the_lemmas as of_expr}
use Rattle.loop_core.specs.declared.nest.Item.TheFolds.{the_lemmas as of_item}
use Rattle.loop_core.specs.declared.nest.Op.TheVariants.{Sub, Mul}
use Rattle.loop_core.specs.Lists.{list_of}
use Rattle.loop_core.specs.IsNest.{IsNest}
use Rattle.loop_core.specs.Sizes.{is_index, is_data, declared_length}
use Rattle.loop_core.specs.declared.place.Place.{Place}
use Rattle.loop_core.specs.declared.effect.Effect.{Effect}
use Rattle.loop_core.specs.declared.effect.Effect.TheVariants.{Sets, Keeps}
use Rattle.loop_core.specs.Instances.{Load, Apply, Instance, instances}
use Rattle.loop_core.specs.Values.{reads}
use Rattle.loop_core.specs.Touches.{Reads, Writes, IsInside, IsWithinLists}
use Rattle.loop_core.specs.UnitForward.{unit_forward}
use Rattle.core_law.specs.Fit.{IsFit}
use Rattle.core_law.specs.Dependence.{RowDepends}
use Rattle.core_law.specs.TwoRows.{two_rows, cell}
use Rattle.core_nest.proofs.Each.{Each, each_of}
use Rattle.core_machine.specs.FitWork.{IsFitWork}
use Rattle.core_machine.specs.TwoRows.{two_index, two_data, two_work}

index_long : (n : ℕ) → IsTrue (is_index unit_forward.decls (record { 0 = n })) → length (list_of two_index.lists (record { 0 = n })) ≡ declared_length unit_forward.decls 2 3 (record { 0 = n })
index_long zero h = refl
index_long (suc zero) h = refl
index_long (suc (suc zero)) h = refl
index_long (suc (suc (suc zero))) h = absurd (cc)
index_long (suc (suc (suc (suc zero)))) h = absurd (cc)
index_long (suc (suc (suc (suc (suc zero))))) h = absurd (cc)
index_long (suc (suc (suc (suc (suc (suc n)))))) h = absurd (cc)

data_long : (n : ℕ) → IsTrue (is_data unit_forward.decls (record { 0 = n })) → length (list_of two_data (record { 0 = n })) ≡ declared_length unit_forward.decls 2 3 (record { 0 = n })
data_long zero h = absurd (cc)
data_long (suc zero) h = absurd (cc)
data_long (suc (suc zero)) h = absurd (cc)
data_long (suc (suc (suc zero))) h = refl
data_long (suc (suc (suc (suc zero)))) h = refl
data_long (suc (suc (suc (suc (suc zero))))) h = refl
data_long (suc (suc (suc (suc (suc (suc n)))))) h = absurd (cc)

abbrev at_x : ℕ → Place
at_x k = record { array = record { 0 = 5 }; at = pos k }

-- x[k] = b[k]
abbrev start : ℕ → Instance
start k = record { line = 10; effect = Sets (at_x k); value = Load (record { 0 = 4 }) (pos k) }

-- x[1] = x[1] - val[1] * x[0]
abbrev subtract : Instance
subtract = record { line = 12; effect = Sets (at_x 1); value = Apply Sub (Load (record { 0 = 5 }) (pos 1)) (Apply Mul (Load (record { 0 = 3 }) (pos 1)) (Load (record { 0 = 5 }) (pos 0))) }

row_zero : instances two_index unit_forward (pos 0) ≡ start 0 ∷ []
row_zero = search (rules, of_item, of_expr, of_term)

row_one : instances two_index unit_forward (pos 1) ≡ start 1 ∷ subtract ∷ []
row_one = search (rules, of_item, of_expr, of_term)

abbrev SetsInside : Effect → Type 0
SetsInside (Sets p) = IsInside two_data p
SetsInside (Keeps local) = Unit {0}

abbrev IsGood : Instance → Type 0
IsGood s = SetsInside s.effect × Each (IsInside two_data) (reads s.value)

good_inside : (ss : List Instance) (p : Place) → Each IsGood ss → Reads ss p ⊎ Writes ss p → IsInside two_data p
good_inside ss p good t = ⊎_elim
    (λ (r : Reads ss p). each_of (IsInside two_data) (reads r.0.value) p (each_of IsGood ss r.0 good r.1).1 r.2)
    (λ (v : Writes ss p). subst SetsInside v.2 (each_of IsGood ss v.0 good v.1).0)
    t

within : (k n : ℕ) → k < n → (j : ℕ) × (pos k ≡ pos j) × (j < n)
within k n l = (k, refl, l)

good_zero : Each IsGood (start 0 ∷ [])
good_zero = ((within 0 2 (omega arith), (within 0 2 (omega arith), tt)), tt)

good_one : Each IsGood (start 1 ∷ subtract ∷ [])
good_one = (
  (within 1 2 (omega arith), (within 1 2 (omega arith), tt)),
  ((within 1 2 (omega arith), (within 1 2 (omega arith), (within 1 3 (omega arith), (within 0 2 (omega arith), tt)))), tt),
)

good_rows : (i : ℕ) → i < 2 → Each IsGood (instances two_index unit_forward (pos i))
good_rows zero l = subst (Each IsGood) (sym row_zero) good_zero
good_rows (suc zero) l = subst (Each IsGood) (sym row_one) good_one
good_rows (suc (suc i)) l = absurd (omega arith)

inside : IsWithinLists unit_forward two_index two_data
inside i p l t = good_inside (instances two_index unit_forward (pos i)) p (good_rows i l) t

-- the second row depends on the first
later : (i j : ℕ) → i < j → j < 2 → RowDepends two_rows i j
later zero zero l m = absurd (omega arith)
later zero (suc zero) l m = (l, 0, 1, omega arith, omega arith, refl, refl, cell 0, inl (refl, inl (0, omega arith, refl)))
later (suc i) (suc zero) l m = absurd (omega arith)
later (suc i) zero l m = absurd (omega arith)
later i (suc (suc j)) l m = absurd (omega arith)

pub fits : IsNest unit_forward → IsFit two_rows → IsFitWork two_work
fits nest fit = record {
  is_nest = nest;
  lengths = record { of_index = λ array. index_long array.0; of_data = λ array. data_long array.0 };
  inside = inside;
  some_worker = omega arith;
  few_workers = omega arith;
  fits = record {
    rows_alone = fit.fits.rows_alone;
    none_empty = fit.fits.none_empty;
    stands = fit.fits.stands;
    once = fit.fits.once;
    ordered = λ i j dep. fit.fits.ordered i j (later i.0 j.0 dep.0 dep.1);
    waits_stand = fit.fits.waits_stand;
    levels_rise = fit.fits.levels_rise;
    waits_rise = fit.fits.waits_rise;
  };
}
