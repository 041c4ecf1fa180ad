use Rattle.std.proofs.Common.{◌≡◌, ◌^◌, ◌+◌, subst, sym, rules}
use Rattle.uf_constraints.specs.Constants.{IndexesWithin}
use Rattle.uf_constraints.specs.Once.{IsOnce}
use Rattle.uf_constraints.specs.Over.{AllOver, HasAtoms, IsClosed}
use Rattle.uf_constraints.specs.Universe.{all_listed, atoms_due}
use Rattle.uf_constraints.proofs.Indexes.{all_listed_within, wider}
use Rattle.uf_constraints.proofs.Listed.{due_once, due_closed, due_over, due_terms}
use Rattle.uf_constraints.proofs.universe.due.Goals as goal

pub returns-clause-within : goal.returns-clause-within
returns-clause-within c =
    let all : c.list_all.new.into ≡ all_listed c.in_ok-atoms.atoms c.in_ok-asked.asked = search rules in
    subst (IndexesWithin (2 ^ 21 + 1)) (sym all) (all_listed_within (2 ^ 21 + 1) c.in_ok-atoms.atoms c.in_ok-asked.asked (wider (2 ^ 21) c.in_ok-atoms.atoms c.in_ok-atoms.ensures.within) c.in_ok-asked.ensures.within)

pub returns-clause-once : goal.returns-clause-once
returns-clause-once c =
    let all : c.list_all.new.into ≡ atoms_due c.args.base.now c.args.extra.now c.args.props.now = search rules in
    subst IsOnce (sym all) (due_once c.args.base.now c.args.extra.now c.args.props.now)

pub returns-clause-closed : goal.returns-clause-closed
returns-clause-closed c =
    let all : c.list_all.new.into ≡ atoms_due c.args.base.now c.args.extra.now c.args.props.now = search rules in
    subst IsClosed (sym all) (due_closed c.args.base.now c.args.extra.now c.args.props.now)

pub returns-clause-over : goal.returns-clause-over
returns-clause-over c =
    let all : c.list_all.new.into ≡ atoms_due c.args.base.now c.args.extra.now c.args.props.now = search rules in
    subst (λ atoms. AllOver atoms c.args.base.now) (sym all) (due_over c.args.base.now c.args.extra.now c.args.props.now)

pub returns-clause-terms : goal.returns-clause-terms
returns-clause-terms c =
    let all : c.list_all.new.into ≡ atoms_due c.args.base.now c.args.extra.now c.args.props.now = search rules in
    subst (λ atoms. HasAtoms atoms c.args.extra.now) (sym all) (due_terms c.args.base.now c.args.extra.now c.args.props.now)
