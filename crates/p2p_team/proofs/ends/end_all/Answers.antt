use Rattle.std.proofs.Common.{rules, arith, ◌≡◌, ℕ, ◌+◌, vec_len}
use Rattle.p2p_team.specs.declared.start.Started.{Started}
use Rattle.p2p_team.specs.Hands.{Ends, IsStarted, IsEnded}
use Rattle.p2p_team.proofs.Lists.{first_holds, rest_holds, one_more_holds}
use Rattle.p2p_team.proofs.ends.end_all.Goals as goal

pub end-requires : goal.end-requires
end-requires g c =
    let was = c.loop-one.invariant in
    let step = c.in-Some.ensures.steps in
    let done = vec_len c.loop-one.hands in
    let here = first_holds (λ k one. IsStarted c.args.board.now c.args.work.now k one × IsEnded one) done _ _ _ _ c.in-Some.one step.0 step.1 was.1 in
    record { ended = here.1; started = (done, here.0) }

pub loop-one-preserved : goal.loop-one-preserved
loop-one-preserved g c =
    let was = c.loop-one.invariant in
    let step = c.in-Some.ensures.steps in
    let places = c.push.ensures.by_index in
    let P = λ (k : ℕ) (one : Started). IsStarted c.args.board.now c.args.work.now k one × IsEnded one in
    let Q = Ends c.args.board.now c.args.work.now in
    let done = vec_len c.loop-one.hands in
    let given : P done c.in-Some.one = first_holds P done _ _ _ _ c.in-Some.one step.0 step.1 was.1 in
    let more : vec_len c.push.new.self ≡ done + 1 = search rules in (
      omega arith,
      rest_holds P done _ _ _ _ _ c.in-Some.one more step.0 step.1 was.1,
      one_more_holds Q done _ _ _ _ more places.0 (λ d. places.1 d (search rules)) was.2 (c.end.ensures done given.0),
      search rules,
    )
