use Rattle.std.proofs.Common.{◌≡◌, ◌+◌, List, [], map, replicate, sym, subst}
use Rattle.std.specs.List.{All}
use Rattle.core_law.specs.Machine.{stand}
use Rattle.core_book.specs.declared.book.Book.{Book}
use Rattle.core_book.specs.declared.book.How.{How}
use Rattle.core_book.specs.Caught.{IsCaught}
use Rattle.core_run.specs.declared.standings.Standing.{Standing}
use Rattle.core_run.specs.Seats.{stand_at, IsRoomy, AreRoomy}
use Rattle.core_run.proofs.Stood.{begun_caught, begun_more, all_more}
use Rattle.core_run.proofs.standings.Standings.begin.Goals as goal

pub loop-preserved : goal.loop-preserved
loop-preserved c = let items : List Standing = c.loop.items.items in let s : Standing = c.in_ok-begin_standing.field-0 in let begun = c.in_ok-begin_standing.ensures in
    subst (λ (l : List Standing). (map stand_at l ≡ replicate (c.loop.counter + 1) (stand 0 [])) × (AreRoomy c.args.room l × ((book : Book) (h : List How) → All (λ (t : Standing). IsCaught book h [] t.row) l)))
    (sym c.in_ok-push.ensures.items) (
      begun_more items s c.loop.counter c.loop.invariant.0 begun.stand,
      (
        all_more (IsRoomy c.args.room) items s c.loop.invariant.1.0 begun.roomy,
        λ book h. all_more (λ (t : Standing). IsCaught book h [] t.row) items s (c.loop.invariant.1.1 book h) (begun.caught book h),
      ),
    )

pub returns-clause-caught : goal.returns-clause-caught
returns-clause-caught c = λ book hows. begun_caught book hows c.loop.items.items _ c.args.room c.loop.invariant.0 (c.loop.invariant.1.1 book)
