-- A row that was unrolled does what the row of the nest's work does.
use Rattle.std.proofs.Common.{◌≡◌, ℕ, ◌+◌, ◌-◌, ◌<◌, ℤ, pos, Some, List, [], get_or, map, take, sym, ap, subst, ◌∙◌, arith}
use Rattle.std.specs.Prelude.{slice_get}
use Rattle.std.proofs.lemmas.Option.{slice_get_within}
use Rattle.wave_base.specs.declared.types.RowId.{RowId}
use Rattle.sched_types.specs.declared.sched.Task.{Task}
use Rattle.loop_core.specs.declared.nest.Nest.{Nest}
use Rattle.loop_core.specs.Lists.{Lists}
use Rattle.loop_core.specs.Shape.{is_target}
use Rattle.loop_core.specs.Instances.{Instance, instances}
use Rattle.core_cells.proofs.Places.{of_map}
use Rattle.core_law.specs.Works.{Instance as PlainInstance, Work}
use Rattle.core_law.specs.Numbers.{first}
use Rattle.core_law.specs.Scripts as law
use Rattle.core_law.specs.Scripts.{Action as LawAction, row_actions}
use Rattle.core_rows.specs.Deeds.{Deed, RowWork}
use Rattle.core_rows.specs.Locals.{row_of}
use Rattle.core_rows.specs.Replay.{instances_after}
use Rattle.core_rows.specs.Progress.{Progress, begun_row, caught_up}
use Rattle.core_rows.proofs.Steps.{steps, stays}
use Rattle.core_rows.proofs.Agree.{rows_at, long_with}
use Rattle.core_nest.specs.Nested.{deed_of, nest_work}
use Rattle.core_nest.specs.NestLaws.{plain_work}
use Rattle.core_nest.specs.FitNest.{IsFitNest}
use Rattle.core_nest.proofs.Nests.{row_deeds, deed_there, instance_is}
use Rattle.core_book.specs.declared.book.Book.{Book}
use Rattle.core_book.specs.declared.book.How.{How}
use Rattle.core_book.specs.Hows.{how_at, how_value, progress_at, progress_before}
use Rattle.core_book.specs.Follows.{Does, DoRow}
use Rattle.core_book.proofs.Following.{follows}
use Rattle.core_book.proofs.Nested.{does}
use Rattle.core_run.specs.Links.{IsWorked}
use Rattle.core_unroll.specs.Plans.{planned, begun}
use Rattle.core_unroll.specs.Advances.{Match}
use Rattle.core_unroll.proofs.Matched.{match_begun, match_planned}
use Rattle.core_unroll.proofs.Moved.{Stood}

module _ (nest : Nest) (a : Lists) (x : List (List ℤ)) (workers : List (List Task)) (fit : IsFitNest nest a x workers) where
  abbrev rows : RowWork
  rows = nest_work nest a x workers

  abbrev w : Work
  w = plain_work nest a x workers

  abbrev body : ℕ → List Instance
  body i = instances a nest (pos i)

  -- the instances of the row i stand from the first on
  abbrev StandFrom : ℕ → ℕ → Book → List How → Type 0
  StandFrom i at book hows = (n : ℕ) (s : Instance) → slice_get (body i) n ≡ Some s → Stood nest x s (at + n) n book hows

  do_row : (i at : ℕ) (book : Book) (hows : List How) → i < a.n → StandFrom i at book hows → DoRow book hows at (row_of rows i)
  do_row i at book hows l stood n d e =
      let t = of_map (deed_of nest x) (body i) n d (ap (λ (ds : List Deed). slice_get ds n) (sym (row_deeds nest a x workers fit i l)) ∙ e) in
      let s = stood n t.0 t.1 in
      subst (λ (z : Deed). Does book (how_at hows (at + n)) z) t.2 (does book nest s.index x s.env (how_at hows (at + n)) t.0 s.is)

  -- each write has its instance's value
  pub works : (i at : ℕ) (book : Book) (hows : List How) → i < a.n → StandFrom i at book hows → (n : ℕ) (s : Instance) → slice_get (body i) n ≡ Some s → IsWorked w book hows (first w i + n) (at + n)
  works i at book hows l stood n s e =
      let ds : List Deed = row_of rows i in
      let d : Deed = deed_of nest x s in
      let st = stood n s e in
      let does_row = do_row i at book hows l stood in
      let at_n : slice_get ds n ≡ Some d = deed_there nest a x workers fit i n s l e in
      let within = slice_get_within ds n d at_n in
      let before = st.before_is in
      let front : (at + n) - (how_at hows (at + n)).before ≡ at = omega arith in
      let come : (registers : List ℤ) → progress_before book hows registers (at + n) ≡ caught_up registers (take n ds) (begun_row 16) =
      (λ registers. (λ i. progress_at book hows registers (front i) (before i)) ∙ follows book hows at ds registers does_row n (omega arith)) in
      record {
        inside = st.inside;
        before = omega arith;
        enough = λ registers long.
            let used = ap (λ (p : Progress). p.used) (come registers) in
            let taken = (stays registers [] (take n ds) (begun_row 16)).used in
            let heard = long_with rows i n d at_n in
            omega arith;
        value = λ registers.
            let p : Progress = caught_up registers (take n ds) (begun_row 16) in
            ap (λ (z : PlainInstance). z.value registers) (instance_is nest a x workers fit i n s l e)
            ∙ (steps 16 (take n ds) d registers
            ∙ (sym ((does_row n d at_n).value p.locals registers p.used)
            ∙ ap (λ (q : Progress). how_value book (how_at hows (at + n)) q.locals registers q.used) (sym (come registers))));
      }

  -- the actions of the row
  pub row_matches : (r : RowId) (at : ℕ) (book : Book) (hows : List How) → r.0 < a.n → StandFrom r.0 at book hows → Match w book hows (row_actions w r) (begun (planned (is_target nest) at (body r.0)))
  row_matches r at book hows l stood =
      let row_is : get_or w.rows r.0 [] ≡ instances_after 16 [] (map (deed_of nest x) (body r.0)) = rows_at 16 rows.rows r.0 ∙ ap (instances_after 16 []) (row_deeds nest a x workers fit r.0 l) in
      subst (λ (z : List PlainInstance). Match w book hows (law.begun (law.numbered (first w r.0) z)) (begun (planned (is_target nest) at (body r.0)))) (sym row_is)
      (match_begun w book hows (law.numbered (first w r.0) (instances_after 16 [] (map (deed_of nest x) (body r.0)))) (planned (is_target nest) at (body r.0))
      (match_planned w book hows nest x (body r.0) [] (first w r.0) at (works r.0 at book hows l stood)))
