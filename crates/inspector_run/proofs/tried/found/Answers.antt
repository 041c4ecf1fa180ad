use Rattle.std.proofs.Common.{◌<◌, ◌≤◌, ◌^◌, ◌∷◌, [], length, sym, subst, to_z, of_z, unsigned_abs}
use mir.Syntax.{w64}
use Rattle.std.specs.List.{All}
use Rattle.std.proofs.lemmas.Int.{to_z-of_z}
use Rattle.loop_core.specs.Variables.{bindings}
use Rattle.inspector_run.specs.Left.{places_in}
use Rattle.inspector_run.proofs.Sorting.{serve_searchable, places_fit}
use Rattle.inspector_run.proofs.Near.{moved_near}
use Rattle.inspector_run.proofs.tried.found.Goals as goal

pub equal_in-places-requires : goal.equal_in-places-requires
equal_in-places-requires g c = serve_searchable c.args.arrays.now c.args.inverses.now (c.args.array ∷ []) c.requires.served

pub returns-clause-near : goal.returns-clause-near
returns-clause-near g c =
    let a = c.args.arrays.now in
    let small : unsigned_abs (to_z w64 (of_z w64 c.args.plus)) ≤ 2 ^ 31 = rw (to_z-of_z w64 c.args.plus c.ranges.plus) c.requires.small in
    let fit : All (λ s. s < 2 ^ 64) (places_in c.equal_in-places.result) =
    subst (All (λ s. s < 2 ^ 64)) (sym (c.equal_in-places.ensures a c.requires.served)) (places_fit a c.args.inverses.now c.args.array _ c.requires.served) in
    moved_near (length (bindings c.args.env.now)) (to_z w64 (of_z w64 c.args.plus)) (places_in c.equal_in-places.result) small fit
