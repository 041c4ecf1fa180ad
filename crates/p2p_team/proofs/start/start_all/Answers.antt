use Rattle.std.proofs.Common.{rules, arith, ◌≡◌, ℕ, ◌+◌, vec_len, subst}
use Rattle.p2p_team.specs.Hands.{GivesBack, IsStarted}
use Rattle.p2p_team.proofs.Lists.{first_holds, rest_holds, one_more_holds}
use Rattle.p2p_team.proofs.start.start_all.Goals as goal

pub start_at-one-requires : goal.start_at-one-requires
start_at-one-requires g c =
    let was = c.loop-hand.invariant in
    let step = c.in-Some.ensures.steps in
    let given = first_holds (GivesBack c.args.board.now c.args.work.now) (vec_len c.loop-hand.started) _ _ _ _ c.in-Some.hand step.0 step.1 was.1 in
    (search rules, (search rules, given.0))

pub loop-hand-preserved : goal.loop-hand-preserved
loop-hand-preserved g c =
    let was = c.loop-hand.invariant in
    let step = c.in-Some.ensures.steps in
    let places = c.push.ensures.by_index in
    let P = GivesBack c.args.board.now c.args.work.now in
    let Q = IsStarted c.args.board.now c.args.work.now in
    let done = vec_len c.loop-hand.started in
    let given : P done c.in-Some.hand = first_holds P done _ _ _ _ c.in-Some.hand step.0 step.1 was.1 in
    let here : Q done c.start_at-one.result = subst (λ (k : ℕ). Q k c.start_at-one.result) given.1 c.start_at-one.ensures in
    let more : vec_len c.push.new.self ≡ done + 1 = search rules in (
      omega arith,
      rest_holds P done _ _ _ _ _ c.in-Some.hand more step.0 step.1 was.1,
      one_more_holds Q done _ _ _ _ more places.0 (λ d. places.1 d (search rules)) was.2 here,
      search rules,
    )
