-- The writes made to a cell are a beginning of the loop's.
use Rattle.std.proofs.Common.{◌≡◌, ◌⊎◌, ℕ, ◌+◌, ◌<◌, ◌≤◌, ℤ, pos, Option, Some, List, [], length, get_or, map, sym, ap, ◌∙◌, inl, inr, ⊎_elim, arith}
use Rattle.std.specs.Prelude.{◌↔◌, slice_get}
use Rattle.std.proofs.lemmas.List.{length-map}
use Rattle.std.proofs.lemmas.Bool.{cases_eq}
use Rattle.std.proofs.lemmas.Option.{slice_get_within}
use Rattle.wave_base.specs.declared.types.Cell.{Cell}
use Rattle.sched_types.specs.declared.sched.Task.{Task}
use Rattle.loop_core.specs.declared.nest.Nest.{Nest}
use Rattle.loop_core.specs.declared.place.Place.{Place}
use Rattle.loop_core.specs.declared.effect.Effect.{Effect}
use Rattle.loop_core.specs.declared.effect.Effect.TheVariants.{Sets}
use Rattle.loop_core.specs.Lists.{Lists}
use Rattle.loop_core.specs.Instances.{Instance, instances}
use Rattle.core_cells.specs.Cells.{at_cell}
use Rattle.core_law.specs.Works.{Instance as PlainInstance, Work}
use Rattle.core_law.specs.Numbers.{instance_at, total}
use Rattle.core_law.specs.Dependence.{Writes}
use Rattle.core_law.specs.Sequential.{after}
use Rattle.core_law.specs.Machine.{State}
use Rattle.core_law.specs.Prefixes.{IsPrefix}
use Rattle.core_law.proofs.Numbers.{place_of, small}
use Rattle.core_rows.specs.Deeds.{Deed, RowWork}
use Rattle.core_rows.specs.Locals.{RowState, row_of}
use Rattle.core_rows.specs.Replay.{target_of}
use Rattle.core_rows.specs.RowLaws.{number}
use Rattle.core_rows.proofs.Agree.{instances_long, rows_at, cells_agree, ends_agree}
use Rattle.core_nest.specs.Nested.{cell_of, effect_of, deed_of, nest_work}
use Rattle.core_nest.specs.FitNest.{IsFitNest}
use Rattle.core_nest.specs.NestLaws.{plain_work, HoldsAsBefore, WritesAreABeginning}
use Rattle.core_nest.proofs.Nests.{row_deeds, plain_count, instance_is, before_is, ends_is}

module _ (nest : Nest) (a : Lists) (x : List (List ℤ)) (workers : List (List Task)) (fit : IsFitNest nest a x workers) where
  abbrev rw' : RowWork
  rw' = nest_work nest a x workers

  abbrev w : Work
  w = plain_work nest a x workers

  row_long : (i : ℕ) → i < a.n → length (get_or w.rows i []) ≡ length (instances a nest (pos i))
  row_long i l =
      ap (λ (z : List PlainInstance). length z) (rows_at 16 rw'.rows i)
      ∙ (instances_long 16 [] (row_of rw' i) ∙ (ap (λ (z : List Deed). length z) (row_deeds nest a x workers fit i l) ∙ length-map (instances a nest (pos i)) (deed_of nest x)))

  in_total : (j l : ℕ) (s : Instance) → j < a.n → slice_get (instances a nest (pos j)) l ≡ Some s → number rw' j l < total w
  in_total j l s lt e =
      let n = plain_count nest a x workers fit in
      let m = row_long j lt in
      let k = slice_get_within (instances a nest (pos j)) l s e in
      small w.rows j l (omega arith) (omega arith)

  writes_is : (j l : ℕ) (s : Instance) (p : Place) (cell : Cell) → j < a.n → slice_get (instances a nest (pos j)) l ≡ Some s → s.effect ≡ Sets p → cell_of p ≡ cell → Writes w (number rw' j l) cell
  writes_is j l s p cell lt e sets same =
      ap (λ (z : PlainInstance). z.target) (instance_is nest a x workers fit j l s lt e)
      ∙ (ap (λ (e : Effect). target_of (effect_of e)) sets ∙ ap Some same)

  holds : (c : State) (cell : Cell) (p : IsPrefix w c cell) → HoldsAsBefore nest a x workers c cell p.0
  holds c cell p = ⊎_elim
      (λ (e : p.0 ≡ total w). inl (e, p.2 ∙ (ap (λ (m : ℕ). at_cell (after_cells m) cell) e ∙ ap (λ (y : List (List ℤ)). at_cell y cell) (ends_agree rw' ∙ ends_is nest a x workers fit))))
      (λ (ne : p.0 ≡ total w → ⊥).
      let le = p.1 in
      let t = place_of w.rows p.0 (omega arith) in
      let n = plain_count nest a x workers fit in
      let lt : t.0 < a.n = (let b = t.2 in omega arith) in
      let there : t.1 < length (row_of rw' t.0) =
      (let b = t.3 in let m = ap (λ (z : List PlainInstance). length z) (rows_at 16 rw'.rows t.0) ∙ instances_long 16 [] (row_of rw' t.0) in omega arith) in
      inr (t.0, t.1, lt, t.4, p.2 ∙ (ap (λ (m : ℕ). at_cell (after_cells m) cell) t.4 ∙ (ap (λ (y : List (List ℤ)). at_cell y cell) (cells_agree rw' t.0 t.1 there) ∙ ap (λ (o : RowState). at_cell o.cells cell) (before_is nest a x workers fit t.0 t.1 lt)))))
      (cases_eq p.0 (total w))
    where
      after_cells : ℕ → List (List ℤ)
      after_cells m = (after w m).cells

  pub beginning : (c : State) (cell : Cell) → IsPrefix w c cell → WritesAreABeginning nest a x workers c cell
  beginning c cell p = record {
    number_of = p.0;
    holds = holds c cell p;
    made = λ j l s q lt e sets same. p.3 (number rw' j l) (in_total j l s lt e) (writes_is j l s q cell lt e sets same);
  }
