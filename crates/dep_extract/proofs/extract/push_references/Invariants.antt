use Rattle.std.proofs.Common.{◌≡◌, ◌++◌, map, take}
use Rattle.dep_extract.proofs.extract.push_references.Given as goal

abbrev pub invariant-loop-site : goal.invariant-loop-site
invariant-loop-site l = l.into ≡ l.fn.into ++ map (λ s. s.reference) (take l.site-index l.sites)
