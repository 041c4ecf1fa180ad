use Rattle.std.proofs.Common.{◌≡◌, false, ℕ, ◌<◌}
use Rattle.std.specs.Prelude.{slice_index_or}
use Rattle.loop_core.specs.Shape.{same_array}
use Rattle.inspector_run.specs.declared.inverse.Inverse.{Inverse}
use Rattle.inspector_run.proofs.inverse.equal_in.Given as goal

-- no inverse list so far is the array's
abbrev pub invariant-loop-inverse : goal.invariant-loop-inverse
invariant-loop-inverse l = (k : ℕ) (d : Inverse) → k < l.inverse-index → same_array (slice_index_or l.inverses k d).array l.array ≡ false
