use Rattle.std.proofs.Common.{arith, ◌<◌, List, length, subst, sym}
use Rattle.loop_core.specs.declared.nest.Atom.{Atom}
use Rattle.bound_close.specs.Over.{IsOver, AreRulesOver}
use Rattle.tests_closure.proofs.growth.add_at.Goals as goal

pub add-requires-clause-rules : goal.add-requires-clause-rules
add-requires-clause-rules c = subst (λ (a : List Atom). AreRulesOver a c.args.rules.now) (sym c.requires.atoms) c.requires.rules

pub add-requires-clause-over : goal.add-requires-clause-over
add-requires-clause-over c =
    let lt : c.args.at < length c.args.base.now = omega arith in
    subst (λ (a : List Atom). IsOver a c.index-base-at.result) (sym c.requires.atoms) (c.requires.base c.index-base-at.result (c.args.at, lt, sym c.index-base-at.is))
