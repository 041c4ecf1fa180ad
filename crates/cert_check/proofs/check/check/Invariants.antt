use Rattle.std.proofs.Common.{◌≡◌, drop, []}
use Rattle.index_props.specs.Certificate.{outcome}
use Rattle.cert_check.specs.Answer.{AllDerivable}
use Rattle.cert_check.proofs.check.check.Given as goal

abbrev pub invariant-loop-step : goal.invariant-loop-step
invariant-loop-step l = record {
  rest : outcome l.u.atoms l.base l.rules [] l.cert.steps ≡ outcome l.u.atoms l.base l.rules l.done (drop l.step-index l.cert.steps);
  known : AllDerivable l.u.atoms l.base l.rules l.done;
}
