-- The verdict on a relation whose base is new.
use Rattle.std.proofs.Common.{ℕ, ℤ, ◌+◌, ◌<◌, ◌≡◌, ◌↔◌, refl, sym, ◌∙◌, subst, ap, List, [], length, slice_get, Some}
use Rattle.std.specs.List.{All}
use Rattle.std.proofs.lemmas.Option.{slice_get_within, same_Some}
use Rattle.std.proofs.lemmas.List.Elements.{All-weaker}
use Rattle.loop_core.specs.declared.nest.Nest.{Nest}
use Rattle.loop_core.specs.declared.nest.Atom.{Atom}
use Rattle.uf_constraints.specs.declared.system.Diff.{Diff}
use Rattle.uf_constraints.specs.declared.system.Relation.{Relation}
use Rattle.uf_constraints.specs.Relations.{relations}
use Rattle.uf_constraints.proofs.Listed.{due_over}
use Rattle.index_props.specs.declared.certificate.Cert.{Cert}
use Rattle.index_props.specs.Derivable.{Derivable, IsContradictory}
use Rattle.index_props.specs.Places.{IsLeast}
use Rattle.bound_ways.specs.Over.{AreRulesOver}
use Rattle.bound_close.specs.Closure.{ShowsContradiction}
use Rattle.dep_simplify.specs.declared.verdict.Verdict.{Verdict}
use Rattle.dep_simplify.specs.declared.verdict.Verdict.TheVariants.{Dropped, Covered, Kept}
use Rattle.dep_simplify.specs.Ready.{IsFoundCover, IsJudged, IsNext}
use Rattle.dep_simplify.specs.Systems.{atoms_of, rules_of, rules_once, IsDropped, IsShown, Covers}
use Rattle.dep_simplify.specs.Verdicts.{IsCover, IsVerdict, IsCertified}
use Rattle.dep_simplify.proofs.Follow.{derivable_over}

-- the same follows by the declared properties and by those without repeats
abbrev pub AreSame : Nest → Relation → Type 0
AreSame nest r = (a b : Atom) (c : ℤ) → Derivable (atoms_of nest r) r.base (rules_of nest r) a b c ↔ Derivable (atoms_of nest r) r.base (rules_once nest r) a b c

abbrev pub Contradict : Nest → Relation → Type 0
Contradict nest r = IsDropped nest r ↔ IsContradictory (atoms_of nest r) r.base (rules_once nest r)

module _ (nest : Nest) (vs : List Verdict) (r : Relation) (there : slice_get (relations nest) (length vs) ≡ Some r) where
  -- the relation at that place is this one
  next_is : (v : Verdict) → IsVerdict nest vs (length vs) r v → IsCertified nest r v → IsNext nest vs v
  next_is v h k = record {
    verdict = λ q at. subst (λ (x : Relation). IsVerdict nest vs (length vs) x v) (same_Some r q (sym there ∙ at)) h;
    certified = λ q at. subst (λ (x : Relation). IsCertified nest x v) (same_Some r q (sym there ∙ at)) k;
  }

  module _ (all : List Relation) (is_all : all ≡ relations nest) (law : AreSame nest r) (both : Contradict nest r) (fit : AreRulesOver (atoms_of nest r) (rules_once nest r)) where
    abbrev Found : ℕ → Type 0
    Found = IsFoundCover (atoms_of nest r) r.base (rules_once nest r) all vs

    to_cover : (k : ℕ) → Found k → IsCover nest vs (length vs) r k
    to_cover k f = record {
      earlier = slice_get_within vs k Kept f.kept;
      kept = f.kept;
      relation = f.relation;
      there = subst (λ (l : List Relation). slice_get l k ≡ Some f.relation) is_all f.there;
      covers = All-weaker (λ d. Derivable (atoms_of nest r) r.base (rules_once nest r) d.a d.b d.c) (IsShown nest r)
          (λ d h. record {
            over = derivable_over (atoms_of nest r) r.base (rules_once nest r) (due_over r.base [] nest.props) fit d.a d.b d.c h;
            derivable = (law d.a d.b d.c).1 h;
          }) f.relation.base f.follow;
    }

    to_found : (k : ℕ) → IsCover nest vs (length vs) r k → Found k
    to_found k c = record {
      kept = c.kept;
      relation = c.relation;
      there = subst (λ (l : List Relation). slice_get l k ≡ Some c.relation) (sym is_all) c.there;
      follow = All-weaker (IsShown nest r) (λ d. Derivable (atoms_of nest r) r.base (rules_once nest r) d.a d.b d.c) (λ d s. (law d.a d.b d.c).0 s.derivable) c.relation.base c.covers;
    }

    pub judged_next : (v : Verdict) → IsJudged (atoms_of nest r) r.base (rules_once nest r) all vs v → IsNext nest vs v
    judged_next (Dropped cert) h = next_is (Dropped cert) (both.1 h.0) h.1
    judged_next (Covered number) h =
        next_is (Covered number) (
          λ d. h.0 (both.0 d),
          (
            h.1.0,
            h.1.1,
            record {
              holds = to_cover h.1.0 h.1.2.holds;
              least = λ j l c. h.1.2.least j l (to_found j c);
            },
          ),
        ) tt
    judged_next Kept h = next_is Kept (λ d. h.0 (both.0 d), λ k c. h.1 k (to_found k c)) tt
