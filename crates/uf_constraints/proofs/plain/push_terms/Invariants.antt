use Rattle.std.proofs.Common.{◌≡◌, ◌++◌, take}
use Rattle.std.specs.List.{flat_map}
use Rattle.uf_constraints.specs.Universe.{term_parts}
use Rattle.uf_constraints.proofs.plain.push_terms.Given as goal

abbrev pub invariant-loop-term : goal.invariant-loop-term
invariant-loop-term l = l.into ≡ l.fn.into ++ flat_map term_parts (take l.term-index l.terms)
