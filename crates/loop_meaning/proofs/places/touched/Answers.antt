use Rattle.std.proofs.Common.{List, sym, subst}
use Rattle.std.specs.List.{Contains}
use Rattle.wave_base.specs.declared.types.Cell.{Cell}
use Rattle.loop_meaning.proofs.Touched.{cells_of, cells_in}
use Rattle.loop_meaning.proofs.places.touched.Goals as goal

pub returns-clause-cells : goal.returns-clause-cells
returns-clause-cells c =
    let a = c.args.arrays.now in
    let nest = c.args.nest.now in
    let places = c.args.places.now in
    λ x. (
      λ h. cells_of a nest places x (subst (λ (l : List Cell). Contains l x) c.in_ok-cells.ensures (c.settle.ensures.adds_none x h)),
      λ t. c.settle.ensures.keeps x (subst (λ (l : List Cell). Contains l x) (sym c.in_ok-cells.ensures) (cells_in a nest places x t.0 t.1)),
    )
