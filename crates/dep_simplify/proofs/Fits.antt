-- The systems of the relations of an accepted nest can be closed.
use Rattle.std.proofs.Common.{◌≡◌, ◌++◌, List, length, map, slice_index_or, sym, subst}
use Rattle.std.specs.List.{All, Contains}
use Rattle.std.proofs.lemmas.List.Elements.{All-contains, Contains-append_right, Contains-get_or}
use Rattle.loop_core.specs.declared.decl.PropDecl.{PropDecl}
use Rattle.loop_core.specs.declared.nest.Nest.{Nest}
use Rattle.loop_core.specs.IsNest.{IsNest}
use Rattle.uf_constraints.specs.declared.system.Relation.{Relation}
use Rattle.uf_constraints.specs.Relations.{relations}
use Rattle.bracket_claims.specs.Claims.{Fits, Size, claim_size, claims, relation_size, sizes}
use Rattle.bracket_claims.specs.Small.{IsSmallBase}
use Rattle.bracket_claims.proofs.Systems.{in_map}
use Rattle.props_once.specs.Repeats.{without_repeats}
use Rattle.access_bounds.specs.Accepted.{IsAccepted}
use Rattle.dep_simplify.specs.Ready.{IsFit, IsReady}

module _ (nest : Nest) (accepted : IsAccepted nest) (small : All (λ (r : Relation). IsSmallBase r.base) (relations nest)) where
  few : (r : Relation) → Contains (relations nest) r → Fits (relation_size nest.props r)
  few r h =
      All-contains Fits (sizes nest nest.props) (relation_size nest.props r) accepted.few
      (Contains-append_right (map (claim_size nest.props) (claims nest)) (map (relation_size nest.props) (relations nest)) (relation_size nest.props r) (in_map (relation_size nest.props) (relations nest) r h))

  fit : (r : Relation) → Contains (relations nest) r → IsFit nest r
  fit r h =
      let s : IsSmallBase r.base = All-contains (λ (q : Relation). IsSmallBase q.base) (relations nest) r small h in
      record { few = few r h; within = s.within; sides = s.sides }

  pub all_fit : All (IsFit nest) (relations nest)
  all_fit k d lt = fit (slice_index_or (relations nest) k d) (Contains-get_or (relations nest) k d lt)

  pub ready : IsNest nest → (other : Nest) (props : List PropDecl) (all : List Relation) → other ≡ nest → props ≡ without_repeats other.props → all ≡ relations other → IsReady other props all
  ready is_nest other props all same once listed =
      record {
        is_nest = subst IsNest (sym same) is_nest;
        once = once;
        listed = listed;
        fit = subst (λ (x : Nest). All (IsFit x) (relations x)) (sym same) all_fit;
      }
