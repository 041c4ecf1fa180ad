use Rattle.std.proofs.Common.{arith, ◌≡◌, length, subst}
use Rattle.std.specs.Int.Signed.{◌<ℤ◌}
use Rattle.std.proofs.lemmas.Option.{slice_get_within}
use Rattle.uf_constraints.specs.declared.system.Diff.{Diff}
use Rattle.bound_ways.specs.Exact.{bound_of}
use Rattle.bound_close.specs.Workings.{bounds}
use Rattle.bound_ways.proofs.Bounding.{over-item, got-is, Holds-more}
use Rattle.bound_close.proofs.workings.Workings.first_open.Goals as goal

pub knows-requires-clause-over : goal.knows-requires-clause-over
knows-requires-clause-over c = over-item c.args.atoms.now c.args.premises.now c.loop-at.at c.index-premises-at.result c.requires.over (omega arith) c.index-premises-at.is

pub returns-then-not-knows-clause-open : goal.returns-then-not-knows-clause-open
returns-then-not-knows-clause-open c = λ d g.
    subst (λ (d : Diff). d.c <ℤ bound_of c.args.atoms.now (bounds c.args.self.now) d) (got-is c.args.premises.now c.loop-at.at c.index-premises-at.result d c.index-premises-at.is g) (c.knows.ensures.no c.if-not-knows.true)

pub loop-at-preserved : goal.loop-at-preserved
loop-at-preserved c = Holds-more c.args.atoms.now (bounds c.args.self.now) c.args.premises.now c.loop-at.at c.index-premises-at.result (omega arith) c.loop-at.invariant (c.knows.ensures.yes c.if-not-knows.false) c.index-premises-at.is

pub returns-clause-held : goal.returns-clause-held
returns-clause-held c = let e : c.loop-at.at ≡ length c.args.premises.now = omega arith in rw e at c.loop-at.invariant

pub returns-clause-open : goal.returns-clause-open
returns-clause-open c = λ d g. absurd (let l = slice_get_within c.args.premises.now (length c.args.premises.now) d g in omega arith)
