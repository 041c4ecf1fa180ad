use Rattle.std.proofs.Common.{◌≡◌, drop}
use Rattle.index_props.specs.Certificate.{named}
use Rattle.cert_check.proofs.step.are_named.Given as goal

abbrev pub invariant-loop-i : goal.invariant-loop-i
invariant-loop-i l = named l.earlier l.premises l.places ≡ named l.earlier (drop l.i l.premises) (drop l.i l.places)
