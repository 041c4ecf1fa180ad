use Rattle.std.proofs.Common.{List, sym, subst, ◌∙◌, pos}
use Rattle.std.specs.List.{Contains}
use Rattle.loop_core.specs.declared.place.Place.{Place}
use Rattle.loop_core.specs.Instances.{instances}
use Rattle.loop_core.specs.Touches.{place_of}
use Rattle.loop_meaning.proofs.Touched.{reads_of, reads_in, writes_of, writes_in}
use Rattle.loop_meaning.proofs.touches.touches.Goals as goal

pub returns-clause-reads : goal.returns-clause-reads
returns-clause-reads c =
    let xs = instances c.args.arrays.now c.args.nest.now (pos c.args.row.0) in
    let places = c.as_slice.ensures.value ∙ c.in_ok-made.ensures.reads in
    λ x. (
      λ h. let t = (c.in_ok-reads.ensures.cells x).0 h in
          (t.0, reads_of xs (place_of x) (subst (λ (l : List Place). Contains l (place_of x)) places t.1)),
      λ r. (c.in_ok-reads.ensures.cells x).1 (r.0, subst (λ (l : List Place). Contains l (place_of x)) (sym places) (reads_in xs (place_of x) r.1)),
    )

pub returns-clause-writes : goal.returns-clause-writes
returns-clause-writes c =
    let xs = instances c.args.arrays.now c.args.nest.now (pos c.args.row.0) in
    let places = c.as_slice-2.ensures.value ∙ c.in_ok-made.ensures.writes in
    λ x. (
      λ h. let t = (c.in_ok-writes.ensures.cells x).0 h in
          (t.0, writes_of xs (place_of x) (subst (λ (l : List Place). Contains l (place_of x)) places t.1)),
      λ r. (c.in_ok-writes.ensures.cells x).1 (r.0, subst (λ (l : List Place). Contains l (place_of x)) (sym places) (writes_in xs (place_of x) r.1)),
    )
