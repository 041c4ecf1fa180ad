use Rattle.std.proofs.Common.{◌≡◌, ◌++◌, drop, map}
use Rattle.cert_prune.specs.Kept.{number_in}
use Rattle.cert_prune.proofs.kept.all_renamed.Given as goal

abbrev pub invariant-loop-k : goal.invariant-loop-k
invariant-loop-k l = l.new ++ map (number_in l.numbers) (drop l.k-index l.ks) ≡ map (number_in l.numbers) l.ks
