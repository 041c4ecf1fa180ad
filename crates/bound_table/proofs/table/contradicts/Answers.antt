use Rattle.std.proofs.Common.{rules, w64}
use Rattle.std.proofs.lemmas.Int.{to_z-of_z}
use mir.Val.{SFits}
use Rattle.bound_table.proofs.Improve.{entry-range}
use Rattle.bound_table.proofs.table.contradicts.Goals as goal

pub sums_below_zero-requires-clause-small : goal.sums_below_zero-requires-clause-small
sums_below_zero-requires-clause-small c =
    let fr : SFits w64 c.entry_at.result = search rules in
    rw (to_z-of_z w64 c.entry_at.result fr, c.entry_at.ensures) (entry-range c.args.rows.now c.args.b c.args.a c.requires.table c.requires.b c.requires.a)
