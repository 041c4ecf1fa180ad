use Rattle.std.proofs.Common.{rules, ◌≡◌, ◌<◌, Some, length, not, arith}
use Rattle.std.specs.List.{position}
use Rattle.std.proofs.lemmas.List.Quantifiers.{position-Some}
use Rattle.inspector_gen.specs.declared.kind.Kind.TheVariants.{Looped}
use Rattle.inspector_gen.specs.Plans.{is_looped}
use Rattle.inspector_gen.proofs.turn.next_place.Goals as goal

pub returns-in-Some-clause-within : goal.returns-in-Some-clause-within
returns-in-Some-clause-within c =
    let kinds = c.in_ok-kinds.kinds in
    let found : position (λ k. not (is_looped k)) kinds ≡ Some c.in-Some.place = search rules in
    let t = position-Some (λ k. not (is_looped k)) kinds c.in-Some.place Looped found in
    let inside : c.in-Some.place < length kinds = t.0 in
    let long : length kinds ≡ length c.args.left.now = c.in_ok-kinds.ensures.length in
    omega (arith, inside, long)
