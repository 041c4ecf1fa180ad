use Rattle.std.proofs.Common.{◌≡◌, drop}
use Rattle.inspector_gen.specs.Variables.{around_in}
use Rattle.inspector_gen.proofs.variables.around_in.Given as goal

-- no site so far is that of the reference
abbrev pub invariant-loop-s : goal.invariant-loop-s
invariant-loop-s l = around_in (drop l.s-index l.sites) l.r ≡ around_in l.sites l.r
