-- The system of the relation after those that have a verdict, and the verdict on it.
use Rattle.std.proofs.Common.{◌≡◌, ◌<◌, ℕ, sym, ◌∙◌, subst, ap, refl, List, length, get_or, slice_get, Some}
use Rattle.std.specs.List.{All}
use Rattle.std.proofs.lemmas.Option.{slice_get_read}
use Rattle.loop_core.specs.declared.decl.PropDecl.{PropDecl}
use Rattle.loop_core.specs.declared.nest.Nest.{Nest}
use Rattle.loop_core.specs.declared.nest.Atom.{Atom}
use Rattle.uf_constraints.specs.declared.system.Diff.{Diff}
use Rattle.uf_constraints.specs.declared.system.Relation.{Relation}
use Rattle.uf_constraints.specs.Relations.{relations}
use Rattle.index_props.specs.declared.rule.RuleInst.{RuleInst}
use Rattle.index_props.specs.Rules.{instances_of}
use Rattle.bound_ways.specs.Over.{AreRulesOver}
use Rattle.props_once.specs.Repeats.{without_repeats}
use Rattle.dep_simplify.specs.declared.verdict.Verdict.{Verdict}
use Rattle.dep_simplify.specs.Ready.{IsFit, IsReady, IsJudged, IsNext}
use Rattle.dep_simplify.specs.Systems.{atoms_of, rules_once}
use Rattle.dep_simplify.proofs.Judging.{AreSame, Contradict, judged_next}

module _ (nest : Nest) (props : List PropDecl) (all : List Relation) (ready : IsReady nest props all) where
  pub fit_at : (n : ℕ) (r : Relation) → n < length all → r ≡ get_or all n r → IsFit nest r
  fit_at n r lt is =
      let fit : All (IsFit nest) all = subst (All (IsFit nest)) (sym ready.listed) ready.fit in
      subst (IsFit nest) (sym is) (fit n r lt)

  pub there_at : (n : ℕ) (r : Relation) → n < length all → r ≡ get_or all n r → slice_get (relations nest) n ≡ Some r
  there_at n r lt is = subst (λ (l : List Relation). slice_get l n ≡ Some r) ready.listed (slice_get_read all (length all) n r refl lt is)

pub next_from : (nest : Nest) (vs : List Verdict) (r : Relation) → slice_get (relations nest) (length vs) ≡ Some r → (all : List Relation) → all ≡ relations nest → AreSame nest r → Contradict nest r
    → (u : List Atom) (base : List Diff) (rules : List RuleInst) → u ≡ atoms_of nest r → base ≡ r.base → rules ≡ instances_of nest.decls (without_repeats nest.props) u → AreRulesOver u rules
    → (v : Verdict) → IsJudged u base rules all vs v → IsNext nest vs v
next_from nest vs r there all listed law both u base rules atoms same is over v h =
    let once : rules ≡ rules_once nest r = is ∙ ap (instances_of nest.decls (without_repeats nest.props)) atoms in
    judged_next nest vs r there all listed law both
    (subst (λ (z : List Atom × List RuleInst). AreRulesOver z.0 z.1) (λ i. (atoms i, once i)) over) v
    (subst (λ (z : List Atom × List Diff × List RuleInst). IsJudged z.0 z.1 z.2 all vs v) (λ i. (atoms i, same i, once i)) h)
