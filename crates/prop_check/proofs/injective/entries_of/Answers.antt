use Rattle.std.proofs.Common.{rules, arith}
use Rattle.loop_core.specs.Lists.{list_of}
use Rattle.prop_check.proofs.Twins.{pushed}
use Rattle.prop_check.proofs.injective.entries_of.Goals as goal

pub loop-place-preserved : goal.loop-place-preserved
loop-place-preserved g c =
    pushed (list_of c.args.arrays.now.lists c.args.f) c.loop-place.place c.loop-place.entries.items c.push.new.self.items _ (omega (arith, c.loop-place-test.true, c.len-many.ensures)) c.entry_at-value.ensures c.loop-place.invariant (search rules)
