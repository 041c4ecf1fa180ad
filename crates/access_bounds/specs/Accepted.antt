-- When a nest is accepted, and why it is refused.
use Rattle.std.specs.Prelude.{ℕ, ◌≡◌, ◌⊎◌, List}
use Rattle.std.specs.List.{All}
use Rattle.loop_core.specs.declared.decl.Decl.{Decl}
use Rattle.loop_core.specs.declared.decl.PropDecl.{PropDecl}
use Rattle.loop_core.specs.declared.nest.Nest.{Nest}
use Rattle.uf_constraints.specs.declared.system.Diff.{Diff}
use Rattle.index_props.specs.Derivable.{Derivable, IsContradictory}
use Rattle.bracket_claims.specs.declared.claim.Claim.{Claim}
use Rattle.access_bounds.specs.declared.refusal.BoundsRefusal.{BoundsRefusal}
use Rattle.access_bounds.specs.declared.refusal.BoundsRefusal.TheVariants.{TermsFull, Unbounded, Memory}
use Rattle.access_bounds.specs.declared.refusal.Side2.{Side2}
use Rattle.access_bounds.specs.declared.refusal.Side2.TheVariants.{Low, High}
use Rattle.bracket_claims.specs.Claims.{atoms_of, rules_of, low, high, claims, sizes, Size, Fits}
use Rattle.access_bounds.specs.First.{IsFirstNot}

-- Brackets.

-- the base contradicts itself, so the line is never reached
abbrev pub IsUnreached : List Decl → List PropDecl → Claim → Type 0
IsUnreached decls props c = IsContradictory (atoms_of props c) c.base (rules_of decls props c)

-- a constraint follows from the base
abbrev pub IsShown : List Decl → List PropDecl → Claim → Diff → Type 0
IsShown decls props c d = Derivable (atoms_of props c) c.base (rules_of decls props c) d.a d.b d.c

-- the line is never reached, or both bounds follow
abbrev pub IsBounded : List Decl → List PropDecl → Claim → Type 0
IsBounded decls props c = IsUnreached decls props c ⊎ (IsShown decls props c (low c) × IsShown decls props c (high c))

-- the line may be reached, and this is the first bound that doesn't follow
abbrev pub Lacks : List Decl → List PropDecl → Claim → Side2 → Type 0
Lacks decls props c Low = (IsUnreached decls props c → ⊥) × (IsShown decls props c (low c) → ⊥)
Lacks decls props c High = (IsUnreached decls props c → ⊥) × IsShown decls props c (low c) × (IsShown decls props c (high c) → ⊥)

-- Nests, by these properties.

-- each system has at most 96 atoms, and each bracket is bounded
pub record IsAcceptedBy (nest : Nest) (props : List PropDecl) : Type 0 where
  pub few : All Fits (sizes nest props)
  pub bounded : All (IsBounded nest.decls props) (claims nest)

-- the first system with more atoms names this line
abbrev pub IsFullBy : Nest → List PropDecl → ℕ → Type 0
IsFullBy nest props line = (z : Size) × IsFirstNot Fits (sizes nest props) z × (z.line ≡ line)

-- each system has at most 96 atoms, and the first bracket that isn't bounded is this one, on this side
pub record IsUnboundedBy (nest : Nest) (props : List PropDecl) (line bracket : ℕ) (side : Side2) : Type 0 where
  pub few : All Fits (sizes nest props)
  pub claim : Claim
  pub first : IsFirstNot (IsBounded nest.decls props) (claims nest) claim
  pub lacks : Lacks nest.decls props claim side
  pub at_line : claim.line ≡ line
  pub at_bracket : claim.bracket ≡ bracket

-- running out of memory has no cause here
abbrev pub IsCauseBy : Nest → List PropDecl → BoundsRefusal → Type 0
IsCauseBy nest props (TermsFull line) = IsFullBy nest props line
IsCauseBy nest props (Unbounded line bracket side) = IsUnboundedBy nest props line bracket side
IsCauseBy nest props Memory = Unit {0}

-- By the declared properties.

abbrev pub IsAccepted : Nest → Type 0
IsAccepted nest = IsAcceptedBy nest nest.props

abbrev pub IsFull : Nest → ℕ → Type 0
IsFull nest line = IsFullBy nest nest.props line

abbrev pub IsUnbounded : Nest → ℕ → ℕ → Side2 → Type 0
IsUnbounded nest line bracket side = IsUnboundedBy nest nest.props line bracket side

abbrev pub IsCause : Nest → BoundsRefusal → Type 0
IsCause nest refusal = IsCauseBy nest nest.props refusal
