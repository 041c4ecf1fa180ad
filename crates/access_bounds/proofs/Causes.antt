-- From what the parts answer to why a nest is refused.
use Rattle.std.proofs.Common.{◌≡◌, List, map, subst}
use Rattle.std.specs.List.{All}
use Rattle.std.proofs.lemmas.List.Elements.{All-append}
use Rattle.loop_core.specs.declared.decl.PropDecl.{PropDecl}
use Rattle.loop_core.specs.declared.nest.Nest.{Nest}
use Rattle.uf_constraints.specs.declared.system.Relation.{Relation}
use Rattle.uf_constraints.specs.Relations.{relations}
use Rattle.bracket_claims.specs.declared.claim.Claim.{Claim}
use Rattle.access_bounds.specs.declared.refusal.BoundsRefusal.{BoundsRefusal}
use Rattle.access_bounds.specs.declared.refusal.BoundsRefusal.TheVariants.{TermsFull, Unbounded, Memory}
use Rattle.access_bounds.specs.Accepted.{IsBounded, IsAcceptedBy, IsCauseBy}
use Rattle.bracket_claims.specs.Claims.{claims, sizes, claim_size, relation_size, Size, Fits}
use Rattle.access_bounds.specs.Judged.{IsFullAmong, IsFirstRefuted}
use Rattle.access_bounds.proofs.Firsts.{first-left, first-right}

module _ (nest : Nest) (props : List PropDecl) (cs : List Claim) (are : cs ≡ claims nest) where
  abbrev claim_sizes : List Size
  claim_sizes = map (claim_size props) (claims nest)

  full_claim : (e : BoundsRefusal) → IsFullAmong claim_sizes e → IsCauseBy nest props e
  full_claim (TermsFull line) h = (h.0, first-left Fits claim_sizes (map (relation_size props) (relations nest)) h.0 h.1, h.2)
  full_claim (Unbounded line bracket side) h = absurd h
  full_claim Memory h = tt

  pub full-claim : (e : BoundsRefusal) → IsFullAmong (map (claim_size props) cs) e → IsCauseBy nest props e
  full-claim e h = full_claim e (subst (λ l. IsFullAmong (map (claim_size props) l) e) are h)

  few_claims : All Fits (map (claim_size props) cs) → All Fits claim_sizes
  few_claims h = subst (λ l. All Fits (map (claim_size props) l)) are h

  module _ (rs : List Relation) (found : rs ≡ relations nest) (few : All Fits (map (claim_size props) cs)) where
    abbrev relation_sizes : List Size
    relation_sizes = map (relation_size props) (relations nest)

    full_relation : (e : BoundsRefusal) → IsFullAmong relation_sizes e → IsCauseBy nest props e
    full_relation (TermsFull line) h = (h.0, first-right Fits claim_sizes relation_sizes h.0 (few_claims few) h.1, h.2)
    full_relation (Unbounded line bracket side) h = absurd h
    full_relation Memory h = tt

    pub full-relation : (e : BoundsRefusal) → IsFullAmong (map (relation_size props) rs) e → IsCauseBy nest props e
    full-relation e h = full_relation e (subst (λ l. IsFullAmong (map (relation_size props) l) e) found h)

    pub all-few : All Fits (map (relation_size props) rs) → All Fits (sizes nest props)
    all-few h = All-append Fits claim_sizes relation_sizes (few_claims few) (subst (λ l. All Fits (map (relation_size props) l)) found h)

    first_refuted : All Fits (map (relation_size props) rs) → (e : BoundsRefusal) → IsFirstRefuted nest.decls props (claims nest) e → IsCauseBy nest props e
    first_refuted h (TermsFull line) g = absurd g
    first_refuted h (Unbounded line bracket side) g = record { few = all-few h; claim = g.0; first = g.1; lacks = g.2; at_line = g.3; at_bracket = g.4 }
    first_refuted h Memory g = tt

    pub first-refuted : All Fits (map (relation_size props) rs) → (e : BoundsRefusal) → IsFirstRefuted nest.decls props cs e → IsCauseBy nest props e
    first-refuted h e g = first_refuted h e (subst (λ l. IsFirstRefuted nest.decls props l e) are g)

    pub accepted-by : All Fits (map (relation_size props) rs) → All (IsBounded nest.decls props) cs → IsAcceptedBy nest props
    accepted-by h g = record { few = all-few h; bounded = subst (All (IsBounded nest.decls props)) are g }
