use Rattle.std.proofs.Common.{◌≡◌, ◌<◌, refl, length, slice_get, Some, arith}
use Rattle.std.proofs.lemmas.Option.{slice_get_read, slice_get_within}
use Rattle.dep_simplify.specs.declared.verdict.Verdict.TheVariants.{Kept}
use Rattle.dep_simplify.proofs.Asked.{no_cover, none_more, least_is}
use Rattle.dep_simplify.proofs.covers.least_cover.Goals as goal

pub loop-k-preserved : goal.loop-k-preserved
loop-k-preserved c = λ base rules o.
    let all = c.args.relations.now in
    let vs = c.args.verdicts.now in
    let k = c.loop-k.k in
    let in_vs : k < length vs = omega arith in
    let in_all : k < length all = omega arith in
    let there : slice_get all k ≡ Some c.index-relations-k.result = slice_get_read all (length all) k c.index-relations-k.result refl in_all c.index-relations-k.is in
    let at : slice_get vs k ≡ Some c.index-verdicts-k.result = slice_get_read vs (length vs) k c.index-verdicts-k.result refl in_vs c.index-verdicts-k.is in
    none_more c.args.closure.now.atoms base rules all vs k (c.loop-k.invariant base rules o)
    (no_cover c.args.closure.now.atoms base rules all vs k c.index-relations-k.result c.index-verdicts-k.result there at (λ e. c.is_cover.ensures.no c.if-is_cover.false e base rules o))

pub returns-then-is_cover : goal.returns-then-is_cover
returns-then-is_cover c = λ base rules o.
    let all = c.args.relations.now in
    let vs = c.args.verdicts.now in
    let k = c.loop-k.k in
    let in_vs : k < length vs = omega arith in
    let in_all : k < length all = omega arith in
    let there : slice_get all k ≡ Some c.index-relations-k.result = slice_get_read all (length all) k c.index-relations-k.result refl in_all c.index-relations-k.is in
    let at : slice_get vs k ≡ Some c.index-verdicts-k.result = slice_get_read vs (length vs) k c.index-verdicts-k.result refl in_vs c.index-verdicts-k.is in
    least_is c.args.closure.now.atoms base rules all vs k c.index-relations-k.result c.index-verdicts-k.result there at (c.is_cover.ensures.kept c.if-is_cover.true) (c.is_cover.ensures.yes c.if-is_cover.true base rules o) (c.loop-k.invariant base rules o)

pub returns : goal.returns
returns c = λ base rules o k f.
    let within : k < length c.args.verdicts.now = slice_get_within c.args.verdicts.now k Kept f.kept in
    c.loop-k.invariant base rules o k (omega arith) f
