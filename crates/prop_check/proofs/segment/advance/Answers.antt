use Rattle.std.proofs.Common.{◌+◌, ◌≡◌, subst, arith, sym, ◌∙◌}
use Rattle.std.proofs.lemmas.Bool.{false≢true}
use Rattle.loop_core.specs.Lists.{list_of}
use Rattle.prop_check.specs.Segments.{IsBad, IsClean}
use Rattle.prop_check.proofs.Kept.{kept}
use Rattle.prop_check.proofs.segment.advance.Goals as goal

pub returns-clause-skips : goal.returns-clause-skips
returns-clause-skips g c =
    let rule = c.args.by.rule in
    let fs = list_of c.args.arrays.now.lists c.args.by.f in
    let clean : IsClean rule fs c.args.i c.args.k (c.args.k + 1) = λ j kj lt bad.
    let same : j ≡ c.args.k = omega (arith, kj, lt) in
    false≢true (sym c.if-is_bad.false ∙ c.is_bad.ensures.1 (subst (λ n. IsBad rule fs c.args.i n) same bad)) in
    kept rule fs c.args.i c.args.k (c.args.k + 1) _ _ c.requires.skips (omega arith) clean c.keep-2.ensures
