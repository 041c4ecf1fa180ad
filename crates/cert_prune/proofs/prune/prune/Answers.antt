use Rattle.std.proofs.Common.{◌≡◌, ◌≤◌, length, [], List, Ok, subst, sym, ◌∙◌, ap, Bool}
use Rattle.loop_core.specs.declared.nest.Atom.{Atom}
use Rattle.uf_constraints.specs.declared.system.Diff.{Diff}
use Rattle.index_props.specs.declared.rule.RuleInst.{RuleInst}
use Rattle.index_props.specs.declared.certificate.Step.{Step}
use Rattle.index_props.specs.Certificate.{outcome}
use Rattle.cert_prune.specs.Needed.{AreNeeded}
use Rattle.cert_prune.specs.Kept.{numbers, kept, IsLean}
use Rattle.cert_prune.proofs.Passes.{passes, kept_few}
use Rattle.cert_prune.proofs.Lean.{lean}
use Rattle.cert_prune.proofs.prune.prune.Goals as goal

-- what holds of steps and of those that are kept of them
of_kept : (P : List Step → List Step → Type 0) (cert steps new : List Step) (marks ms : List Bool) → steps ≡ cert → ms ≡ marks → new ≡ kept (numbers 0 ms) ms steps
    → AreNeeded 0 steps marks → ((ss : List Step) (m : List Bool) → AreNeeded 0 ss m → P ss (kept (numbers 0 m) m ss)) → P cert new
of_kept P cert steps new marks ms s m k needed so =
    subst (λ (l : List Step). P l new) s
    (subst (P steps) (sym (k ∙ ap (λ (l : List Bool). kept (numbers 0 l) l steps) m)) (so steps marks needed))

abbrev Same : List Step → List Step → Type 0
Same old new = (u : List Atom) (base : List Diff) (rules : List RuleInst) (d : Diff) → outcome u base rules [] old ≡ Ok d → outcome u base rules [] new ≡ Ok d

abbrev Shorter : List Step → List Step → Type 0
Shorter old new = length new ≤ length old

pub returns-clause-same : goal.returns-clause-same
returns-clause-same c =
    of_kept Same c.args.cert.now.steps c.as_slice-steps.result.now c.in_ok-steps.steps c.in_ok-marks.marks.items c.as_slice.result.now c.as_slice-steps.ensures c.as_slice.ensures.value c.in_ok-steps.ensures c.in_ok-marks.ensures passes

pub returns-clause-shorter : goal.returns-clause-shorter
returns-clause-shorter c =
    of_kept Shorter c.args.cert.now.steps c.as_slice-steps.result.now c.in_ok-steps.steps c.in_ok-marks.marks.items c.as_slice.result.now c.as_slice-steps.ensures c.as_slice.ensures.value c.in_ok-steps.ensures c.in_ok-marks.ensures (λ ss m n. kept_few (numbers 0 m) m ss)

pub returns-clause-lean : goal.returns-clause-lean
returns-clause-lean c =
    of_kept (λ old new. IsLean new) c.args.cert.now.steps c.as_slice-steps.result.now c.in_ok-steps.steps c.in_ok-marks.marks.items c.as_slice.result.now c.as_slice-steps.ensures c.as_slice.ensures.value c.in_ok-steps.ensures c.in_ok-marks.ensures lean
