use Rattle.std.proofs.Common.{◌≡◌, List, Result, Ok, Err, IfOk, MatchResult, subst, sym}
use Rattle.loop_core.specs.declared.nest.Atom.{Atom}
use Rattle.uf_constraints.specs.declared.system.Universe.{Universe}
use Rattle.uf_constraints.specs.Over.{AllOver, HasAtoms}
use Rattle.uf_constraints.proofs.universe.universe.Goals as goal

-- what holds of the atoms holds of those of the universe made of them
of_these : {E : Type 0} (P : List Atom → Type 0) (Q : E → Type 0) (atoms : List Atom) (r : Result Universe E) → MatchResult r (λ u. u.atoms ≡ atoms) Q → P atoms → IfOk r (λ u. P u.atoms)
of_these P Q atoms (Ok u) h p = subst P (sym h) p
of_these P Q atoms (Err e) h p = tt

pub returns-clause-over : goal.returns-clause-over
returns-clause-over c = of_these (λ atoms. AllOver atoms c.args.base.now) _ _ _ c.checked.ensures c.in_ok-atoms.ensures.over

pub returns-clause-terms : goal.returns-clause-terms
returns-clause-terms c = of_these (λ atoms. HasAtoms atoms c.args.extra.now) _ _ _ c.checked.ensures c.in_ok-atoms.ensures.terms
