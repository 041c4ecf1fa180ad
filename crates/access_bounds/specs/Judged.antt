-- What the counting and the closing of systems answer.
use Rattle.std.specs.Prelude.{◌≡◌, ◌<◌, List, map}
use Rattle.loop_core.specs.declared.decl.Decl.{Decl}
use Rattle.loop_core.specs.declared.decl.PropDecl.{PropDecl}
use Rattle.uf_constraints.specs.declared.system.Universe.{Universe}
use Rattle.bracket_claims.specs.declared.claim.Claim.{Claim}
use Rattle.access_bounds.specs.declared.refusal.BoundsRefusal.{BoundsRefusal}
use Rattle.access_bounds.specs.declared.refusal.BoundsRefusal.TheVariants.{TermsFull, Unbounded, Memory}
use Rattle.access_bounds.specs.Accepted.{IsBounded, Lacks}
use Rattle.bracket_claims.specs.Claims.{atoms_of, Size, Fits}
use Rattle.access_bounds.specs.First.{IsFirstNot}

-- the universes of claims, in their order
abbrev pub AreUniverses : List PropDecl → List Claim → List Universe → Type 0
AreUniverses props claims universes = map (λ u. u.atoms) universes ≡ map (atoms_of props) claims

-- a system has more than 96 atoms, and this is its line
abbrev pub IsTooLarge : Size → BoundsRefusal → Type 0
IsTooLarge z (TermsFull line) = (96 < z.atoms) × (z.line ≡ line)
IsTooLarge z (Unbounded line bracket side) = ⊥
IsTooLarge z Memory = Unit {0}

-- this is the line of the first system that has more than 96
abbrev pub IsFullAmong : List Size → BoundsRefusal → Type 0
IsFullAmong zs (TermsFull line) = (z : Size) × IsFirstNot Fits zs z × (z.line ≡ line)
IsFullAmong zs (Unbounded line bracket side) = ⊥
IsFullAmong zs Memory = Unit {0}

-- this is the first claim that isn't bounded, and the side that it lacks
abbrev pub IsFirstRefuted : List Decl → List PropDecl → List Claim → BoundsRefusal → Type 0
IsFirstRefuted decls props claims (TermsFull line) = ⊥
IsFirstRefuted decls props claims (Unbounded line bracket side) =
    (c : Claim) × IsFirstNot (IsBounded decls props) claims c × Lacks decls props c side × (c.line ≡ line) × (c.bracket ≡ bracket)
IsFirstRefuted decls props claims Memory = Unit {0}
