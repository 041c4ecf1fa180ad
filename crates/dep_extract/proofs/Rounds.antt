-- What stands round a line, as sentences over the values of variables by their lines.
use Rattle.std.proofs.Common.{◌≡◌, ℕ, ℤ, ◌≤ℤ◌, true, List, [], ◌∷◌, ◌++◌}
use Rattle.std.specs.Int.Signed.{◌<ℤ◌}
use Rattle.loop_core.specs.Lists.{Lists}
use Rattle.loop_core.specs.Instances.{related}
use Rattle.uf_constraints.specs.declared.reach.Around.{Around}
use Rattle.uf_constraints.specs.declared.reach.Around.TheVariants.{Loop, Guard}
use Rattle.dep_extract.proofs.Worth.{worth}

abbrev pub Said : Lists → (ℕ → ℤ) → Around → Type 0
Said a r (Loop line lo hi) = (worth a r lo ≤ℤ r line) × (r line <ℤ worth a r hi)
Said a r (Guard rel s t) = related rel (worth a r s) (worth a r t) ≡ true

abbrev pub Met : Lists → (ℕ → ℤ) → List Around → Type 0
Met a r [] = Unit {0}
Met a r (x ∷ xs) = Said a r x × Met a r xs

pub met_push : (a : Lists) (r : ℕ → ℤ) (xs : List Around) (x : Around) → Met a r xs → Said a r x → Met a r (xs ++ x ∷ [])
met_push a r [] x m s = (s, tt)
met_push a r (y ∷ xs) x m s = (m.0, met_push a r xs x m.1 s)

pub met_split : (a : Lists) (r : ℕ → ℤ) (xs : List Around) (x : Around) → Met a r (xs ++ x ∷ []) → Met a r xs × Said a r x
met_split a r [] x m = (tt, m.0)
met_split a r (y ∷ xs) x m = let t = met_split a r xs x m.1 in ((m.0, t.0), t.1)
