use Rattle.std.proofs.Common.{◌≡◌, ◌<◌, ◌+◌, ◌∙◌, ℕ, List, Some, slice_get, length, arith, ap, subst, sym}
use Rattle.std.specs.Prelude.{Vec}
use Rattle.std.specs.declared.alloc.Global.{Global}
use Rattle.std.proofs.lemmas.Bool.Decides.{nat_tests}
use Rattle.wave_base.specs.declared.types.RowId.{RowId}
use Rattle.uf_constraints.specs.Relations.{relations}
use Rattle.uf_constraints.specs.declared.system.Relation.{Relation}
use Rattle.dep_simplify.specs.declared.verdict.Verdict.{Verdict}
use Rattle.dep_simplify.specs.declared.verdict.Verdict.TheVariants.{Kept}
use Rattle.loop_plan.specs.Kept.{ArePairsBefore}
use Rattle.loop_plan.proofs.Pairs.{there_at, kept_at, not_kept_at, none_more, some_more, of_all}
use Rattle.loop_plan.proofs.dependences.pairs_of_kept.Goals as goal
use Rattle.loop_plan.proofs.dependences.pairs_of_kept.Goals.{then-is_kept+in_ok-more+in_ok-append, else-is_kept}

pub pairs_of-requires-clause-kept : goal.pairs_of-requires-clause-kept
pairs_of-requires-clause-kept g c κs within =
    let nest = c.args.nest.now in
    let vs = c.args.verdicts.now in
    let at = c.loop-at.at in
    let r : Relation = c.index-relations-at.result in
    let lt : at < length c.args.relations.now = c.loop-at-test.true in
    let same : length c.args.relations.now ≡ length (relations nest) = ap (λ (l : List Relation). length l) c.requires.listed in
    let few : at < length vs = omega (arith, lt, same, c.requires.verdicts.long) in
    let there : slice_get (relations nest) at ≡ Some r = there_at nest c.args.relations.now at r c.requires.listed lt c.index-relations-at.is in
    let kept : slice_get vs at ≡ Some Kept = kept_at vs at c.index-verdicts-at.result few c.index-verdicts-at.is (c.is_kept.ensures.0 c.if-is_kept.true) in
    (c.requires.verdicts.each at r Kept there kept).0

pub loop-at-preserved : goal.loop-at-preserved
loop-at-preserved g c =
    let nest = c.args.nest.now in
    let vs = c.args.verdicts.now in
    let a = c.args.arrays.now in
    let at = c.loop-at.at in
    let lt : at < length c.args.relations.now = c.loop-at-test.true in
    let same : length c.args.relations.now ≡ length (relations nest) = ap (λ (l : List Relation). length l) c.requires.listed in
    let few : at < length vs = omega (arith, lt, same, c.requires.verdicts.long) in
    let Of : Vec (RowId × RowId) Global → Type 0 = λ pairs. ArePairsBefore nest vs a (at + 1) pairs.items in
    let Listed : List (RowId × RowId) → Type 0 = λ pairs. ArePairsBefore nest vs a (at + 1) pairs in
    elim c.if-is_kept.branch [
      | then-is_kept+in_ok-more+in_ok-append w ↦
          let r : Relation = w.index-relations-at.result in
          let there : slice_get (relations nest) at ≡ Some r = there_at nest c.args.relations.now at r c.requires.listed lt w.index-relations-at.is in
          let kept : slice_get vs at ≡ Some Kept = kept_at vs at c.index-verdicts-at.result few c.index-verdicts-at.is (c.is_kept.ensures.0 w.if-is_kept.true) in
          subst Of (sym w.pairs-is) (subst Listed (sym w.in_ok-append.ensures) (some_more nest vs a at r c.loop-at.pairs.items w.in_ok-more.more.items there kept c.loop-at.invariant w.in_ok-more.ensures))
      | else-is_kept w ↦
          let other : c.index-verdicts-at.result ≡ Kept → ⊥ = λ e. (let t = c.is_kept.ensures.1 e in let f = w.if-is_kept.false in cc) in
          subst Of (sym w.pairs-is) (none_more nest vs a at c.loop-at.pairs.items (not_kept_at vs at c.index-verdicts-at.result few c.index-verdicts-at.is other) c.loop-at.invariant)
    ]

pub returns : goal.returns
returns g c =
    let same : length c.args.relations.now ≡ length (relations c.args.nest.now) = ap (λ (l : List Relation). length l) c.requires.listed in
    let whole : c.loop-at.at ≡ length (relations c.args.nest.now) = omega (arith, nat_tests, same, c.loop-at-test.false, c.loop-at.auto.at-end) in
    of_all c.args.nest.now c.args.verdicts.now c.args.arrays.now c.loop-at.at c.loop-at.pairs.items whole c.loop-at.invariant
