use Rattle.std.proofs.Common.{◌≡◌, ◌++◌, drop}
use Rattle.std.specs.List.{flat_map}
use Rattle.inspector_gen.specs.Variables.{unknown_of}
use Rattle.inspector_gen.proofs.variables.push_inner.Given as goal

-- the variables so far, and those that are left
abbrev pub invariant-loop-a : goal.invariant-loop-a
invariant-loop-a l = l.into ++ flat_map (unknown_of l.side) (drop l.a-index l.around) ≡ l.initial.into ++ flat_map (unknown_of l.side) l.around
