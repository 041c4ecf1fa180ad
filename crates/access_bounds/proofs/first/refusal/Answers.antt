use Rattle.std.proofs.Common.{ℕ, List, subst, sym}
use Rattle.access_bounds.specs.declared.refusal.BoundsRefusal.TheVariants.{Unbounded}
use Rattle.access_bounds.specs.Judged.{IsFirstRefuted}
use Rattle.access_bounds.specs.Shared.{IsFirstOf, IsSeen}
use Rattle.access_bounds.proofs.Sharing.{all-bounded, first-refuted-is}
use Rattle.access_bounds.proofs.first.refusal.Goals as goal

pub returns-in-None : goal.returns-in-None
returns-in-None c decls props cs h = all-bounded decls props cs (subst (IsFirstOf decls props cs (IsSeen cs)) c.in-None.is h)

pub returns-in-Some : goal.returns-in-Some
returns-in-Some c decls props cs h =
    let found = c.in-Some.found in
    subst (λ (z : ℕ × ℕ). IsFirstRefuted decls props cs (Unbounded z.0 z.1 found.side)) (λ i. (sym c.from.ensures i, sym c.from-in-Some.ensures i))
    (first-refuted-is decls props cs found (subst (IsFirstOf decls props cs (IsSeen cs)) c.in-Some.is h))
