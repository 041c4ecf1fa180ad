use Rattle.done_words.specs.Seats.{view}
use Rattle.p2p_exec.proofs.Lookings.{may_look, went_on, same_misses, stayed_there, has_missed}
use Rattle.p2p_exec.proofs.looks.look_at.Goals as goal

pub look-seen-requires-clause-next : goal.look-seen-requires-clause-next
look-seen-requires-clause-next c = may_look (view c.args.seat.now) c.args.wait c.requires.next

pub returns-then-seen-wait-clause-missed : goal.returns-then-seen-wait-clause-missed
returns-then-seen-wait-clause-missed c =
    let u = view c.args.seat.now in let v = view c.look-seen.new.self in let n = c.look-seen.result in
    (stayed_there u v c.args.wait n c.if-seen-wait.true c.look-seen.ensures.view, has_missed u v c.args.wait n c.if-seen-wait.true c.look-seen.ensures.view c.requires.next)

pub returns-else-seen-wait-clause-passed : goal.returns-else-seen-wait-clause-passed
returns-else-seen-wait-clause-passed c none =
    let u = view c.args.seat.now in let v = view c.look-seen.new.self in let n = c.look-seen.result in
    (went_on u v c.args.wait n c.if-seen-wait.false c.look-seen.ensures.view, same_misses u v c.args.wait n c.if-seen-wait.false c.look-seen.ensures.view c.requires.next)
