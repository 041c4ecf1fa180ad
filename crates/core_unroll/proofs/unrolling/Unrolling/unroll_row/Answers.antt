use Rattle.std.proofs.Common.{rules, ◌≡◌, ◌-◌, pos, length, ap, arith}
use Rattle.loop_core.specs.Instances.{instances}
use Rattle.loop_meaning.proofs.Walks.{admits_all}
use Rattle.core_unroll.specs.declared.unrolling.Unrolling.{Unrolling}
use Rattle.core_unroll.specs.Moves.{IsMove}
use Rattle.core_unroll.proofs.Walked.{row_advances}
use Rattle.core_unroll.proofs.unrolling.Unrolling.unroll_row.Goals as goal

pub walk_row-requires-clause-admits : goal.walk_row-requires-clause-admits
walk_row-requires-clause-admits c = admits_all IsMove _ (instances c.args.arrays.now c.args.nest.now (pos c.args.row.0))

pub returns : goal.returns
returns c =
    let u = c.args.self.now in
    let start : c.len-start.result ≡ length u.actions.items = search rules in
    let counted : c.saturating_sub-actions.result ≡ length c.begin_row.new.actions.items - c.len-start.result = (let a = c.saturating_sub-actions.ensures in let b = c.len-end.ensures in omega arith) in
    let is = c.make_room.ensures in
    row_advances c.args.nest.now c.args.arrays.now c.args.row u c.walk_row.new.visitor c.make_room.new.self c.len-start.result c.saturating_sub-actions.result c.begin_row.new.actions.items
    c.in_ok-walk_row.ensures start c.begin_row.ensures
    (ap (λ (q : Unrolling). q.actions.items) is) (ap (λ (q : Unrolling). q.hows.items) is) (ap (λ (q : Unrolling). q.book) is) (ap (λ (q : Unrolling). q.values) is)
    counted (ap (λ (q : Unrolling). q.room) is)
