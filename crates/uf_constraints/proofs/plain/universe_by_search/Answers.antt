use Rattle.std.proofs.Common.{◌≡◌, ◌+◌, ◌^◌, List, Result, Ok, Err, IfOk, MatchResult, ◌∙◌, subst, sym}
use Rattle.loop_core.specs.declared.nest.Atom.{Atom}
use Rattle.uf_constraints.specs.declared.system.Universe.{Universe}
use Rattle.uf_constraints.specs.Constants.{IndexesWithin}
use Rattle.uf_constraints.specs.Once.{IsOnce}
use Rattle.uf_constraints.specs.Over.{AllOver, HasAtoms, IsClosed}
use Rattle.uf_constraints.proofs.Listed.{due_once, due_closed, due_over, due_terms}
use Rattle.uf_constraints.proofs.Plainly.{due_within}
use Rattle.uf_constraints.proofs.plain.universe_by_search.Goals as goal

-- what holds of the atoms that are due holds of those of the universe made of them
of_due : {E : Type 0} (P : List Atom → Type 0) (Q : E → Type 0) (due atoms : List Atom) (r : Result Universe E) → atoms ≡ due → MatchResult r (λ u. u.atoms ≡ atoms) Q → P due → IfOk r (λ u. P u.atoms)
of_due P Q due atoms (Ok u) e h p = subst P (sym (h ∙ e)) p
of_due P Q due atoms (Err x) e h p = tt

pub judged-requires : goal.judged-requires
judged-requires c = subst IsOnce (sym c.in_ok-atoms.ensures) (due_once c.args.base.now c.args.extra.now c.args.props.now)

pub returns-clause-within : goal.returns-clause-within
returns-clause-within c =
    of_due (IndexesWithin (2 ^ 21 + 1)) _ _ _ _ c.in_ok-atoms.ensures c.judged.ensures (due_within (2 ^ 21) c.args.base.now c.args.extra.now c.args.props.now c.requires.base c.requires.extra)

pub returns-clause-closed : goal.returns-clause-closed
returns-clause-closed c =
    of_due IsClosed _ _ _ _ c.in_ok-atoms.ensures c.judged.ensures (due_closed c.args.base.now c.args.extra.now c.args.props.now)

pub returns-clause-over : goal.returns-clause-over
returns-clause-over c =
    of_due (λ atoms. AllOver atoms c.args.base.now) _ _ _ _ c.in_ok-atoms.ensures c.judged.ensures (due_over c.args.base.now c.args.extra.now c.args.props.now)

pub returns-clause-terms : goal.returns-clause-terms
returns-clause-terms c =
    of_due (λ atoms. HasAtoms atoms c.args.extra.now) _ _ _ _ c.in_ok-atoms.ensures c.judged.ensures (due_terms c.args.base.now c.args.extra.now c.args.props.now)
