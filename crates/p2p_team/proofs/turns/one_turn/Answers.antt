use Rattle.std.proofs.Common.{rules, arith, ◌≡◌, ℕ, length, ◌<◌, slice_set, subst, sym, ◌∙◌}
use Rattle.p2p_team.specs.Hands.{IsStarted, IsEnded}
use Rattle.p2p_team.proofs.Lists.{HoldsBelow, set_holds, set_more}
use Rattle.p2p_team.proofs.turns.one_turn.Goals as goal

pub loop-at-preserved : goal.loop-at-preserved
loop-at-preserved g c =
    let was = c.loop-at.invariant in
    let Is = IsStarted c.args.board.now c.args.work.now in
    let at = c.loop-at.at in
    let all = c.loop-at.started in
    let one = c.index-started-at.result in
    let within : at < length all = omega arith in
    let kept : length (slice_set all at c.advance.new.self) ≡ length all = search rules in
    let here : Is at c.advance.new.self = c.advance.ensures.stands at (was.1 at one within) in (
      kept ∙ was.0,
      subst (λ (n : ℕ). HoldsBelow Is (slice_set all at c.advance.new.self) n) (sym kept) (set_holds Is all at c.advance.new.self (length all) within was.1 here),
      λ is. set_more (λ k. IsEnded) all at c.advance.new.self within (was.2 (c.note.ensures.ended is).0) (c.advance.ensures.ended (c.note.ensures.ended is).1),
    )
