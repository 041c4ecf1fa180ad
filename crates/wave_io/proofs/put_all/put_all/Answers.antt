use Rattle.std.proofs.Common.{take, ◌++◌, refl, ap, ◌∙◌, arith}
use Rattle.wave_io.specs.Written.{grown}
use Rattle.wave_io.proofs.Parts.{grown-grown, part-more}
use Rattle.wave_io.proofs.put_all.put_all.Goals as goal

pub loop-rest-preserved : goal.loop-rest-preserved
loop-rest-preserved g c =
    let before = c.loop-rest.invariant in
    let rest = c.loop-rest.rest.now in
    let piece = take c.in_ok-count.count rest in (
      before.0 ++ piece,
      part-more _ before.0 rest _ c.in_ok-count.count refl before.1,
      c.in_ok-count.ensures.takes ∙ (ap (λ w. grown w piece) before.2 ∙ grown-grown _ before.0 piece),
      omega (arith, c.put.ensures.never_falls),
    )
