use Rattle.std.proofs.Common.{◌≡◌, ◌+◌, ◌-◌, ℕ, List, take, sym, ap, ◌∙◌, arith}
use Rattle.std.proofs.lemmas.Option.{slice_get_within}
use Rattle.core_rows.specs.Progress.{Progress, begun_row, caught_up, next_value}
use Rattle.core_book.specs.Hows.{how_at, how_value, progress_at}
use Rattle.core_book.proofs.Following.{follows}
use Rattle.core_book.proofs.laws.book_values_are_instance_values.Goals as goal

pub returns : goal.returns
returns c = λ book hows first n ds d registers does at before.
    let l = slice_get_within ds n d at in
    let front : (first + n) - (how_at hows (first + n)).before ≡ first = omega arith in
    let p : Progress = caught_up registers (take n ds) (begun_row 16) in
    (λ i. let q : Progress = progress_at book hows registers (front i) (before i) in how_value book (how_at hows (first + n)) q.locals registers q.used)
    ∙ (ap (λ (q : Progress). how_value book (how_at hows (first + n)) q.locals registers q.used) (follows book hows first ds registers does n (omega arith))
    ∙ ((does n d at).value p.locals registers p.used
    ∙ sym (c.values_come_step_by_step.ensures 16 (take n ds) d registers)))
