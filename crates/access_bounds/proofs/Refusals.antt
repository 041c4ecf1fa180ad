-- A nest has one refusal at most, and none where it is accepted.
use Rattle.std.proofs.Common.{◌≡◌, ◌⊎◌, inl, inr, ℕ, ◌≤◌, List, refl, sym, ap, ◌∙◌, subst}
use Rattle.std.specs.List.{All}
use Rattle.std.proofs.lemmas.List.Elements.{All-weaker}
use Rattle.loop_core.specs.declared.decl.Decl.{Decl}
use Rattle.loop_core.specs.declared.decl.PropDecl.{PropDecl}
use Rattle.loop_core.specs.declared.nest.Nest.{Nest}
use Rattle.bracket_claims.specs.declared.claim.Claim.{Claim}
use Rattle.access_bounds.specs.declared.refusal.BoundsRefusal.{BoundsRefusal}
use Rattle.access_bounds.specs.declared.refusal.BoundsRefusal.TheVariants.{TermsFull, Unbounded, Memory}
use Rattle.access_bounds.specs.declared.refusal.Side2.{Side2}
use Rattle.access_bounds.specs.declared.refusal.Side2.TheVariants.{Low, High}
use Rattle.access_bounds.specs.Accepted.{IsUnreached, IsShown, IsBounded, Lacks, IsAcceptedBy, IsFullBy, IsUnboundedBy, IsCauseBy}
use Rattle.bracket_claims.specs.Claims.{claims, sizes, Size, Fits}
use Rattle.access_bounds.specs.First.{IsFirstNot}
use Rattle.access_bounds.proofs.Firsts.{first-one, first-none}

module _ (nest : Nest) (props : List PropDecl) where
  abbrev Bounded : Claim → Type 0
  Bounded = IsBounded nest.decls props

  -- a claim lacks one side at most
  one_side : (c : Claim) (s t : Side2) → Lacks nest.decls props c s → Lacks nest.decls props c t → s ≡ t
  one_side c Low Low h g = refl
  one_side c Low High h g = absurd (h.1 g.1)
  one_side c High Low h g = absurd (g.1 h.1)
  one_side c High High h g = refl

  one_full : (l m : ℕ) → IsFullBy nest props l → IsFullBy nest props m → l ≡ m
  one_full l m h g = sym h.2 ∙ ap (λ (z : Size). z.line) (first-one Fits (sizes nest props) h.0 g.0 h.1 g.1) ∙ g.2

  not_both : (l : ℕ) → IsFullBy nest props l → All Fits (sizes nest props) → ⊥
  not_both l h few = first-none Fits (sizes nest props) h.0 few h.1

  same_unbounded : (l b m k : ℕ) (s t : Side2) → IsUnboundedBy nest props l b s → IsUnboundedBy nest props m k t → Unbounded l b s ≡ Unbounded m k t
  same_unbounded l b m k s t h g =
      let same : h.claim ≡ g.claim = first-one Bounded (claims nest) h.claim g.claim h.first g.first in
      let line : l ≡ m = sym h.at_line ∙ ap (λ (c : Claim). c.line) same ∙ g.at_line in
      let number : b ≡ k = sym h.at_bracket ∙ ap (λ (c : Claim). c.bracket) same ∙ g.at_bracket in
      let side : s ≡ t = one_side g.claim s t (subst (λ (c : Claim). Lacks nest.decls props c s) same h.lacks) g.lacks in
      λ i. Unbounded (line i) (number i) (side i)

  pub one-cause : (r s : BoundsRefusal) → IsCauseBy nest props r → IsCauseBy nest props s → (r ≡ Memory → ⊥) → (s ≡ Memory → ⊥) → r ≡ s
  one-cause (TermsFull l) (TermsFull m) h g nr ns = ap TermsFull (one_full l m h g)
  one-cause (TermsFull l) (Unbounded m k t) h g nr ns = absurd (not_both l h g.few)
  one-cause (Unbounded l b s) (TermsFull m) h g nr ns = absurd (not_both m g h.few)
  one-cause (Unbounded l b s) (Unbounded m k t) h g nr ns = same_unbounded l b m k s t h g
  one-cause Memory s h g nr ns = absurd (nr refl)
  one-cause (TermsFull l) Memory h g nr ns = absurd (ns refl)
  one-cause (Unbounded l b s) Memory h g nr ns = absurd (ns refl)

  pub no-cause : (r : BoundsRefusal) → IsAcceptedBy nest props → IsCauseBy nest props r → r ≡ Memory
  no-cause (TermsFull l) h g = absurd (not_both l g h.few)
  no-cause (Unbounded l b s) h g = absurd (first-none Bounded (claims nest) g.claim h.bounded g.first)
  no-cause Memory h g = refl
