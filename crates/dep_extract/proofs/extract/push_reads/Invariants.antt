use Rattle.std.proofs.Common.{◌≡◌, ◌++◌, take}
use Rattle.std.specs.List.{flat_map}
use Rattle.uf_constraints.specs.Relations.{read_site}
use Rattle.dep_extract.proofs.extract.push_reads.Given as goal

abbrev pub invariant-loop-bracket : goal.invariant-loop-bracket
invariant-loop-bracket l = l.into ≡ l.fn.into ++ flat_map (read_site l.nest l.spot) (take l.bracket-index l.spot.brackets)
