use Rattle.std.proofs.Common.{arith, ◌≡◌, ℕ, suc, ◌+◌, length, refl, ap, ◌∙◌, subst}
use Rattle.done_words.specs.Seats.{view, main_view}
use Rattle.done_words.specs.Views.{number_of}
use Rattle.p2p_team.specs.Hands.{Ends}
use Rattle.p2p_team.proofs.Joins.{JoinedBelow, join_made, join_more, has_all}
use Rattle.p2p_team.proofs.Lists.{first_holds, rest_holds}
use Rattle.p2p_team.proofs.splits.join_all.Goals as goal

pub join-requires : goal.join-requires
join-requires c =
    let was = c.loop-hand.invariant in
    let step = c.in-Some.ensures.steps in
    let here = first_holds (Ends c.args.board.now c.args.work.now) was.2.0 _ _ _ _ c.in-Some.hand step.0 step.1 was.2.2 in
    record { own = (was.0, here.0.0.on); end = here.1 }

pub loop-hand-preserved : goal.loop-hand-preserved
loop-hand-preserved c =
    let was = c.loop-hand.invariant in
    let step = c.in-Some.ensures.steps in
    let work = c.args.work.now in
    let P = Ends c.args.board.now work in
    let all = length work.sched.workers in
    let done = was.2.0 in
    let hand = c.in-Some.hand in
    let here : P done hand = first_holds P done _ _ _ _ hand step.0 step.1 was.2.2 in
    let number : number_of (view hand.seat) ≡ suc done = here.0.0.at.number ∙ ap suc here.0.1 in
    let main = c.join.ensures.main in (
      c.join.ensures.own,
      join_made work all done _ _ _ was.1 number main,
      (
        done + 1,
        omega arith,
        rest_holds P done (done + 1) _ _ _ _ hand refl step.0 step.1 was.2.2,
        join_more work all done _ _ _ was.1 number main was.2.3,
      ),
    )

pub returns-clause-all : goal.returns-clause-all
returns-clause-all c =
    let was = c.loop-hand.invariant in
    let all = length c.args.work.now.sched.workers in
    let done : was.2.0 ≡ all = omega (arith, was.2.1, c.in-None.ensures.steps.0) in
    has_all c.args.work.now _ was.1 (subst (λ (n : ℕ). JoinedBelow n (main_view c.loop-hand.main)) done was.2.3)
