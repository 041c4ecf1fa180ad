-- The work of a fit nest is fit, and its rows run in order are the loop.
use Rattle.std.proofs.Common.{◌≡◌, ◌⊎◌, ℕ, zero, suc, ◌+◌, ◌<◌, ◌≤◌, ℤ, pos, List, [], ◌∷◌, length, get_or, map, take, Option, Some, refl, sym, ap, subst, ◌∙◌, inl, inr, ⊎_elim, arith}
use Rattle.std.specs.Prelude.{Contains, slice_get}
use Rattle.std.proofs.lemmas.List.{length-map, take-map, take_all}
use Rattle.wave_base.specs.declared.types.Cell.{Cell}
use Rattle.sched_types.specs.declared.sched.Task.{Task}
use Rattle.loop_core.specs.declared.nest.Nest.{Nest}
use Rattle.loop_core.specs.declared.place.Place.{Place}
use Rattle.loop_core.specs.Lists.{Lists}
use Rattle.loop_core.specs.Shape.{is_target}
use Rattle.loop_core.specs.declared.effect.Effect.{Effect}
use Rattle.loop_core.specs.declared.effect.Effect.TheVariants.{Sets, Keeps}
use Rattle.loop_core.specs.Instances.{Instance, instances}
use Rattle.loop_core.specs.Values.{reads}
use Rattle.loop_core.specs.Sequence as loop
use Rattle.loop_core.specs.Sequence.{State, formula_value, after_all, sequential}
use Rattle.loop_core.specs.Registers.{shared_reads}
use Rattle.loop_core.specs.Touches as touches
use Rattle.loop_core.specs.Touches.{IsInside, Depends}
use Rattle.loop_core.proofs.PlacesSet.{set_is_target}
use Rattle.core_cells.specs.Cells as cells
use Rattle.core_law.specs.Works.{Instance as PlainInstance, Work}
use Rattle.core_law.specs.Numbers.{instance_at, total, row}
use Rattle.core_law.specs.Dependence.{Reads, Writes, Touches, RowDepends}
use Rattle.core_law.specs.Fit.{IsFit}
use Rattle.core_cells.proofs.Places.{none_is_some, some_same, place_in, is_in, at_some, at_map, of_map}
use Rattle.core_law.proofs.Numbers.{row_is, place_of}
use Rattle.core_rows.specs.Deeds.{Deed, RowWork}
use Rattle.core_rows.specs.Locals.{RowState, value_in, after_deeds, fresh, after_rows, row_of, before}
use Rattle.core_rows.specs.Replay.{target_of, instances_after, instance_of}
use Rattle.core_rows.specs.RowLaws.{number}
use Rattle.core_rows.proofs.Agree.{instances_long, rows_at, deed_at, rows_push}
use Rattle.core_nest.specs.Nested.{cell_of, effect_of, deed_of, deeds_of, nest_work}
use Rattle.core_nest.specs.FitNest.{IsFitNest}
use Rattle.core_nest.specs.NestLaws.{plain_work}
use Rattle.core_nest.proofs.Each.{Each, of_each, each_take, in_filtered}
use Rattle.core_nest.proofs.Natural.{IsNatural, same_place}
use Rattle.core_nest.proofs.Rows.{rows_long, rows_get}
use Rattle.core_nest.proofs.Applied.{Agree, GoodEffect, IsGood, row_state, agree_all, value_is, deeds_are}

-- an effect with a target sets a place
pub place_set : (e : Effect) (cell : Cell) → target_of (effect_of e) ≡ Some cell → (p : Place) × (e ≡ Sets p) × (cell_of p ≡ cell)
place_set (Sets p) cell is = (p, refl, some_same (cell_of p) cell is)
place_set (Keeps local) cell is = absurd (none_is_some cell is)

module _ (nest : Nest) (a : Lists) (x : List (List ℤ)) (workers : List (List Task)) (fit : IsFitNest nest a x workers) where
  abbrev rw' : RowWork
  rw' = nest_work nest a x workers

  abbrev w : Work
  w = plain_work nest a x workers

  abbrev body : ℕ → List Instance
  body i = instances a nest (pos i)

  natural_inside : (p : Place) → IsInside x p → IsNatural p
  natural_inside p h = (h.0, h.1)

  good_one : (i : ℕ) (s : Instance) → i < a.n → Contains (body i) s → IsGood nest s
  good_one i s l h = record {
    effect = by s.effect refl;
    reads = of_each IsNatural (reads s.value) (λ p k. natural_inside p (fit.inside i p l (inl (s, h, k))));
  }
    where
      by : (e : Effect) → s.effect ≡ e → GoodEffect nest e
      by (Sets p) is = (set_is_target a nest (pos i) s p h is, natural_inside p (fit.inside i p l (inr (s, h, is))))
      by (Keeps local) is = tt

  good_row : (i : ℕ) → i < a.n → Each (IsGood nest) (body i)
  good_row i l = of_each (IsGood nest) (body i) (λ s h. good_one i s l h)

  rows_count : length rw'.rows ≡ a.n
  rows_count = rows_long a.n 0 (deeds_of nest a x)

  pub row_deeds : (i : ℕ) → i < a.n → row_of rw' i ≡ map (deed_of nest x) (body i)
  row_deeds i l = rows_get a.n 0 i (deeds_of nest a x) l ∙ ap (deeds_of nest a x) (let e : 0 + i ≡ i = omega arith in e)

  pub deed_there : (i k : ℕ) (s : Instance) → i < a.n → slice_get (body i) k ≡ Some s → slice_get (row_of rw' i) k ≡ Some (deed_of nest x s)
  deed_there i k s l e = ap (λ (z : List Deed). slice_get z k) (row_deeds i l) ∙ at_map (deed_of nest x) (body i) k s e

  agree_rows : (i : ℕ) → i ≤ a.n → Agree nest x (loop.after_rows nest a x i)
  agree_rows zero l = λ array at other. refl
  agree_rows (suc i) l = agree_all nest x (body i) (loop.fresh (loop.after_rows nest a x i)) (good_row i (omega arith)) (agree_rows i (omega arith))

  earlier_rows : (i : ℕ) → i ≤ a.n → after_rows 16 (take i rw'.rows) x ≡ loop.after_rows nest a x i
  earlier_rows zero l = refl
  earlier_rows (suc i) l =
      let n = rows_count in
      let lt : i < a.n = omega arith in
      let deeds = row_deeds i lt in
      let rows = earlier_rows i (omega arith) in
      rows_push rw' 16 rw'.rows i x (omega arith)
      ∙ ((λ d. (after_deeds (deeds d) (fresh 16 (rows d))).cells)
      ∙ ap (λ (o : RowState). o.cells) (deeds_are nest x (body i) (loop.fresh (loop.after_rows nest a x i)) (good_row i lt) (agree_rows i (omega arith))))

  agree_before : (i k : ℕ) → i < a.n → Agree nest x (loop.before nest a x i k).lists
  agree_before i k l = agree_all nest x (take k (body i)) (loop.fresh (loop.after_rows nest a x i)) (each_take (IsGood nest) k (body i) (good_row i l)) (agree_rows i (omega arith))

  -- just before the instance k of iteration i the rows are where the loop is
  pub before_is : (i k : ℕ) → i < a.n → before rw' i k ≡ row_state (loop.before nest a x i k)
  before_is i k l =
      let taken : take k (row_of rw' i) ≡ map (deed_of nest x) (take k (body i)) = ap (take k) (row_deeds i l) ∙ take-map (deed_of nest x) k (body i) in
      let rows = earlier_rows i (omega arith) in
      (λ d. after_deeds (taken d) (fresh 16 (rows d)))
      ∙ deeds_are nest x (take k (body i)) (loop.fresh (loop.after_rows nest a x i)) (each_take (IsGood nest) k (body i) (good_row i l)) (agree_rows i (omega arith))

  -- and the value of the instance is the loop's
  pub value_there : (i k : ℕ) (s : Instance) → i < a.n → slice_get (body i) k ≡ Some s
      → value_in (deed_of nest x s) (before rw' i k) ≡ formula_value (loop.before nest a x i k).lists (loop.before nest a x i k).locals s.value
  value_there i k s l e =
      ap (value_in (deed_of nest x s)) (before_is i k l)
      ∙ value_is nest x s (loop.before nest a x i k) (good_one i s l (is_in (body i) s k e)) (agree_before i k l)

  pub ends_is : after_rows 16 rw'.rows x ≡ sequential nest a x
  ends_is = let n = rows_count in
      ap (λ (rs : List (List Deed)). after_rows 16 rs x) (sym (take_all a.n rw'.rows (omega arith))) ∙ earlier_rows a.n (omega arith)

  -- reads are of places inside their lists
  pub place_inside : (i k r : ℕ) (s : Instance) (p : Place) → i < a.n → slice_get (body i) k ≡ Some s → slice_get (reads s.value) r ≡ Some p → IsNatural p
  place_inside i k r s p l e at = natural_inside p (fit.inside i p l (inl (s, is_in (body i) s k e, is_in (reads s.value) p r at)))

  -- the instances of the work are those of the nest

  pub instance_is : (i k : ℕ) (s : Instance) → i < a.n → slice_get (body i) k ≡ Some s → instance_at w (number rw' i k) ≡ instance_of 16 (take k (row_of rw' i)) (deed_of nest x s)
  instance_is i k s l e = deed_at rw' i k (deed_of nest x s) (deed_there i k s l e)

  pub plain_count : length w.rows ≡ a.n
  plain_count = length-map rw'.rows (instances_after 16 []) ∙ rows_count

  record Known (g : ℕ) : Type 0 where
    pub s : Instance
    pub reads : (instance_at w g).reads ≡ map cell_of (shared_reads nest s.value)
    pub target : (instance_at w g).target ≡ target_of (effect_of s.effect)
    pub row_inside : row w g < a.n
    pub here : Contains (body (row w g)) s

  known : (g : ℕ) → g < total w → Known g
  known g l =
      let t = place_of w.rows g l in
      let i : ℕ = t.0 in
      let j : ℕ = t.1 in
      let n = plain_count in
      let in_i : i < a.n = (let b = t.2 in omega arith) in
      let row_i : row w g ≡ i = ap (row w) t.4 ∙ row_is w.rows i j t.2 t.3 in
      let long =
      ap (λ (z : List PlainInstance). length z) (rows_at 16 rw'.rows i)
      ∙ (instances_long 16 [] (row_of rw' i) ∙ (ap (λ (z : List Deed). length z) (row_deeds i in_i) ∙ length-map (body i) (deed_of nest x)))
      in
      let b = t.3 in
      let u = at_some (body i) j (omega arith) in
      let is : instance_at w g ≡ instance_of 16 (take j (row_of rw' i)) (deed_of nest x u.0) = ap (instance_at w) t.4 ∙ instance_is i j u.0 in_i u.1 in
      record {
        s = u.0;
        reads = ap (λ (z : PlainInstance). z.reads) is;
        target = ap (λ (z : PlainInstance). z.target) is;
        row_inside = subst (λ (k : ℕ). k < a.n) (sym row_i) in_i;
        here = subst (λ (k : ℕ). Contains (body k) u.0) (sym row_i) (is_in (body i) u.0 j u.1);
      }

  -- what touches a cell touches its place
  abbrev PlaceOf : Cell → Place → Type 0
  PlaceOf cell p = (cell_of p ≡ cell) × IsInside x p

  writes_is : (g : ℕ) (cell : Cell) → g < total w → Writes w g cell → (p : Place) × PlaceOf cell p × touches.Writes (body (row w g)) p
  writes_is g cell l wr =
      let k = known g l in
      let set = place_set k.s.effect cell (sym k.target ∙ wr) in
      let here : touches.Writes (body (row w g)) set.0 = (k.s, k.here, set.1) in
      (set.0, (set.2, fit.inside (row w g) set.0 k.row_inside (inr here)), here)

  reads_is : (g : ℕ) (cell : Cell) → g < total w → Reads w g cell → (p : Place) × PlaceOf cell p × touches.Reads (body (row w g)) p
  reads_is g cell l rd =
      let k = known g l in
      let i = place_in (instance_at w g).reads cell rd in
      let shared : List Place = shared_reads nest k.s.value in
      let t = of_map cell_of shared i.0 cell (ap (λ (z : List Cell). slice_get z i.0) (sym k.reads) ∙ i.1) in
      let read = in_filtered (λ (p : Place). is_target nest p.array) (reads k.s.value) t.0 (is_in shared t.0 i.0 t.1) in
      let here : touches.Reads (body (row w g)) t.0 = (k.s, k.here, read) in
      (t.0, (t.2, fit.inside (row w g) t.0 k.row_inside (inl here)), here)

  touches_is : (g : ℕ) (cell : Cell) → g < total w → Touches w g cell → (p : Place) × PlaceOf cell p × (touches.Reads (body (row w g)) p ⊎ touches.Writes (body (row w g)) p)
  touches_is g cell l (inl rd) = let t = reads_is g cell l rd in (t.0, t.1, inl t.2)
  touches_is g cell l (inr wr) = let t = writes_is g cell l wr in (t.0, t.1, inr t.2)

  one_place : (cell : Cell) (p q : Place) → PlaceOf cell p → PlaceOf cell q → p ≡ q
  one_place cell p q h k = same_place p q (natural_inside p h.1) (natural_inside q k.1) (h.0 ∙ sym k.0)

  depends : (i j : ℕ) → RowDepends w i j → Depends a nest x i j
  depends i j d =
      let g : ℕ = d.1 in
      let h : ℕ = d.2 in
      let in_g : g < total w = d.3 in
      let in_h : h < total w = d.4 in
      let cell : Cell = d.7 in
      let kh = known h in_h in
      let at_rows : Depends a nest x (row w g) (row w h) = ⊎_elim
      (λ (t : Writes w g cell × Touches w h cell). let u = writes_is g cell in_g t.0 in let v = touches_is h cell in_h t.1 in let same = one_place cell v.0 u.0 v.1 u.1 in (
        let lt = d.0 in let e = d.5 in let e' = d.6 in omega arith,
        kh.row_inside,
        (u.0, u.1.1, inl (u.2, subst (λ (p : Place). touches.Reads (body (row w h)) p ⊎ touches.Writes (body (row w h)) p) same v.2)),
      ))
      (λ (t : Touches w g cell × Writes w h cell). let u = writes_is h cell in_h t.1 in let v = touches_is g cell in_g t.0 in let same = one_place cell v.0 u.0 v.1 u.1 in (
        let lt = d.0 in let e = d.5 in let e' = d.6 in omega arith,
        kh.row_inside,
        (
          u.0,
          u.1.1,
          ⊎_elim
              (λ (r : touches.Reads (body (row w g)) v.0). inr (subst (touches.Reads (body (row w g))) same r, u.2))
              (λ (r : touches.Writes (body (row w g)) v.0). inl (subst (touches.Writes (body (row w g))) same r, inr u.2))
              v.2,
        ),
      ))
      d.8
      in subst (λ (p : ℕ × ℕ). Depends a nest x p.0 p.1) (λ k. (d.5 k, d.6 k)) at_rows

  pub fits : IsFit w
  fits = record {
    inside = λ g cell l wr. let t = writes_is g cell l wr in let e = t.1.0 in let i = t.1.1 in
        let here : cells.IsInside x (cell_of t.0) = subst (λ (z : ℤ). cells.IsInside x (cell_of (record { array = t.0.array; at = z }))) (sym i.1) i.2 in subst (cells.IsInside x) e here;
    fits = record {
      rows_alone = λ r p at s. let n = plain_count in let l = fit.fits.rows_alone r p at s in omega arith;
      none_empty = fit.fits.none_empty;
      stands = λ r l. fit.fits.stands r (let n = plain_count in omega arith);
      once = fit.fits.once;
      ordered = λ i j d p q at spot s t. fit.fits.ordered i j (depends i.0 j.0 d) p q at spot s t;
      waits_stand = fit.fits.waits_stand;
      levels_rise = fit.fits.levels_rise;
      waits_rise = fit.fits.waits_rise;
    };
  }
