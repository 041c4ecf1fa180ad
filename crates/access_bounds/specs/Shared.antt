-- Claims that share a system, and the first of some claims that isn't bounded.
use Rattle.std.specs.Prelude.{◌≡◌, ◌⊎◌, ℕ, ◌<◌, nat_le, if◌then◌else◌, List, length, slice_get, Option, Some, None, MatchOption}
use Rattle.std.specs.List.{Contains}
use Rattle.loop_core.specs.declared.decl.Decl.{Decl}
use Rattle.loop_core.specs.declared.decl.PropDecl.{PropDecl}
use Rattle.bound_close.specs.Closure.{Found as Closed, IsClosure}
use Rattle.bracket_claims.specs.declared.claim.Claim.{Claim}
use Rattle.access_bounds.specs.declared.first.Found.{Found}
use Rattle.access_bounds.specs.declared.refusal.Side2.{Side2}
use Rattle.access_bounds.specs.Accepted.{IsBounded, Lacks}
use Rattle.bracket_claims.specs.Claims.{atoms_of, rules_of}

-- two claims have one system: equal bases, and the same atom of their terms
abbrev pub HaveOneSystem : Claim → Claim → Type 0
HaveOneSystem c d = (c.base ≡ d.base) × (c.at.atom ≡ d.at.atom)

-- one of some claims has the system of a claim
abbrev pub IsSeen : List Claim → Claim → Type 0
IsSeen seen c = (d : Claim) × Contains seen d × HaveOneSystem d c

-- the closure is that of a claim's system
abbrev pub IsSystemOf : Closed → List Decl → List PropDecl → Claim → Type 0
IsSystemOf k decls props c = (k.atoms ≡ atoms_of props c) × IsClosure k c.base (rules_of decls props c)

-- those of the first n claims for which Q holds are bounded
abbrev pub AreBoundedBelow : List Decl → List PropDecl → List Claim → (Claim → Type 0) → ℕ → Type 0
AreBoundedBelow decls props cs Q n = (k : ℕ) (c : Claim) → k < n → slice_get cs k ≡ Some c → Q c → IsBounded decls props c

-- a claim at its place, with the side that it lacks
pub record IsLacking (decls : List Decl) (props : List PropDecl) (cs : List Claim) (f : Found) : Type 0 where
  pub claim : Claim
  pub here : slice_get cs f.place ≡ Some claim
  pub lacks : Lacks decls props claim f.side
  pub line : claim.line ≡ f.line
  pub bracket : claim.bracket ≡ f.bracket

-- a claim isn't bounded, and those before it for which Q holds are; with none, all for which Q holds are
abbrev pub IsFirstOf : List Decl → List PropDecl → List Claim → (Claim → Type 0) → Option Found → Type 0
IsFirstOf decls props cs Q None = AreBoundedBelow decls props cs Q (length cs)
IsFirstOf decls props cs Q (Some f) = IsLacking decls props cs f × AreBoundedBelow decls props cs Q f.place

-- the one at the earlier place
abbrev pub sooner_of : Option Found → Option Found → Option Found
sooner_of None other = other
sooner_of (Some f) None = Some f
sooner_of (Some f) (Some g) = if nat_le f.place g.place then Some f else Some g

-- what is found of a claim: no side where it has another system or is bounded
abbrev pub IsSideIn : List Decl → List PropDecl → Claim → Claim → Option Side2 → Type 0
IsSideIn decls props lead c None = HaveOneSystem lead c → IsBounded decls props c
IsSideIn decls props lead c (Some side) = Lacks decls props c side
