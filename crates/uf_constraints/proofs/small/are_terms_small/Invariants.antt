use Rattle.std.proofs.Common.{◌^◌, take}
use Rattle.uf_constraints.specs.Constants.{TermsWithin}
use Rattle.uf_constraints.proofs.small.are_terms_small.Given as goal

abbrev pub invariant-loop-term : goal.invariant-loop-term
invariant-loop-term l = TermsWithin (2 ^ 21) (take l.term-index l.terms)
