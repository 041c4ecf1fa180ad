use Rattle.std.proofs.Common.{◌≡◌, subst, sym, false, List}
use Rattle.std.specs.List.{Contains}
use Rattle.uf_constraints.specs.declared.system.Diff.{Diff}
use Rattle.bound_ways.specs.Over.{AreOver}
use Rattle.bound_plain.specs.Plain.{Opposed}
use Rattle.bound_ways.proofs.Bounding.{if-ok-map}
use Rattle.bound_plain.proofs.plain.grid.Grid.take_results.Goals as goal

pub take_all-requires-clause-over : goal.take_all-requires-clause-over
take_all-requires-clause-over c = subst (λ (l : List Diff). AreOver c.args.atoms.now l) (sym c.as_slice.ensures) c.requires.over

pub returns-clause-opposed : goal.returns-clause-opposed
returns-clause-opposed c =
    if-ok-map c.take_all.result (λ fine. fine ≡ false → Opposed c.args.atoms.now (Contains c.as_slice.result.now) c.args.self.now.rows.items) (λ fine. fine ≡ false → Opposed c.args.atoms.now (Contains c.args.rule.now.results) c.args.self.now.rows.items) c.take_all.ensures.opposed
    (λ fine f e. subst (λ (l : List Diff). Opposed c.args.atoms.now (Contains l) c.args.self.now.rows.items) c.as_slice.ensures (f e))
