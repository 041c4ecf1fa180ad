use Rattle.std.proofs.Common.{rules, arith, ◌≡◌, ℕ, ◌+◌, vec_len, sym, ap, ◌∙◌}
use Rattle.done_words.specs.Views.{begun}
use Rattle.p2p_exec.specs.declared.worker.Worker.{Worker}
use Rattle.p2p_exec.specs.Where.{IsAt}
use Rattle.p2p_team.specs.Hands.{GivesBack}
use Rattle.p2p_team.proofs.Joins.{lead, split_more}
use Rattle.p2p_team.proofs.Lists.{first_holds, rest_holds, one_more_holds}
use Rattle.p2p_team.proofs.Standing.{is_next, split_stands}
use Rattle.p2p_team.proofs.splits.split_all.Goals as goal

pub split-seat-requires : goal.split-seat-requires
split-seat-requires c =
    let was = c.loop-worker.invariant in
    let step = c.in-Some.ensures.steps in
    let work = c.args.work.now in
    let done = vec_len c.loop-worker.hands in
    let here = first_holds (λ k t. IsAt work t (begun work k)) done _ _ _ _ c.in-Some.worker step.0 step.1 was.1 in
    record { own = was.4; next = is_next c.args.board.now work c.in-Some.worker done _ c.requires.board here was.5 }

pub loop-worker-preserved : goal.loop-worker-preserved
loop-worker-preserved c =
    let was = c.loop-worker.invariant in
    let step = c.in-Some.ensures.steps in
    let places = c.push.ensures.by_index in
    let board = c.args.board.now in
    let work = c.args.work.now in
    let P = λ (k : ℕ) (t : Worker). IsAt work t (begun work k) in
    let Q = GivesBack board work in
    let done = vec_len c.loop-worker.hands in
    let worker = c.in-Some.worker in
    let start : P done worker = first_holds P done _ _ _ _ worker step.0 step.1 was.1 in
    let own = c.split-seat.ensures.own in
    let here = split_stands board work worker c.split-seat.result done c.requires.fit c.requires.board start own.1 c.split-seat.ensures.new in
    let more : vec_len c.push.new.self ≡ done + 1 = search rules in (
      omega arith,
      rest_holds P done _ _ _ _ _ worker more step.0 step.1 was.1,
      one_more_holds Q done _ _ _ _ more places.0 (λ d. places.1 d (search rules)) was.2 here,
      search rules,
      own.0,
      split_more work done _ _ was.5 c.split-seat.ensures.main ∙ ap (lead work) (sym more),
    )
