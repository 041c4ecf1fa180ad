use Rattle.std.proofs.Common.{Bool, List, sym, subst}
use Rattle.core_unroll.proofs.Flags.{FlagsTo, flags_none, flags_more, flags_all}
use Rattle.p2p_exec.proofs.flags.written_arrays.Goals as goal

pub loop-array-init : goal.loop-array-init
loop-array-init c = subst (λ (l : List Bool). FlagsTo c.args.nest.now l 0) (sym c.in_ok-flags.ensures.items) (flags_none c.args.nest.now)

pub loop-array-preserved : goal.loop-array-preserved
loop-array-preserved c = flags_more c.args.nest.now c.loop-array.flags.items c.push.new.self.items c.loop-array.array c.writes.result c.loop-array.invariant c.writes.ensures c.in_ok-push.ensures.items

pub returns : goal.returns
returns c = flags_all c.args.nest.now c.loop-array.flags.items c.loop-array.array c.loop-array.invariant c.loop-array-test.false
