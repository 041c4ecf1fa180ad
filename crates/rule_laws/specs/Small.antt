-- How large the right sides of an instance are.
use Rattle.std.specs.Prelude.{◌≤◌, ◌^◌, List, unsigned_abs}
use Rattle.std.specs.List.{All}
use Rattle.uf_constraints.specs.declared.system.Diff.{Diff}
use Rattle.index_props.specs.declared.rule.RuleInst.{RuleInst}

-- a right side from -2^23 to 2^23
abbrev pub IsSmall : Diff → Type 0
IsSmall d = unsigned_abs d.c ≤ 2 ^ 23

-- so are those of all premises and results
abbrev pub IsSmallRule : RuleInst → Type 0
IsSmallRule r = All IsSmall r.premises × All IsSmall r.results
