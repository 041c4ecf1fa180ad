use Rattle.std.proofs.Common.{ap, ◌∙◌}
use Rattle.inspector_run.specs.Pieces.{piece_pairs}
use Rattle.inspector_run.proofs.Gathered.{gathered}
use Rattle.inspector_run.proofs.split.lists_of.Goals as goal

pub collect-requires-clause-ready : goal.collect-requires-clause-ready
collect-requires-clause-ready g c κs within =
    rw (c.map.ensures.base, c.map.ensures.f, c.with_min_len.ensures.base, c.par_iter.ensures) (λ k d lt x e. (rw e (c.requires k d lt), λ y p. tt))

pub returns : goal.returns
returns g c =
    let h = c.in_ok-collect.ensures {u = tt} in
    let chain = rw (c.map.ensures.base, c.map.ensures.f) at h.1 in
    let slice = ap (λ it. it.slice.now) c.with_min_len.ensures.base ∙ c.par_iter.ensures in
    gathered _ (piece_pairs c.args.arrays.now c.args.after.now c.args.var) chain.0 c.args.pieces.now (chain.1 ∙ slice) h.0 chain.2 c.in_ok-collect.field-0 h.2
