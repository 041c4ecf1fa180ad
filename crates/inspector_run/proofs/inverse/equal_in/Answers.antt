use Rattle.std.proofs.Common.{rules, arith, ◌≡◌, sym, subst, true, false, []}
use mir.Syntax.{w128}
use Rattle.std.specs.List.{list_any}
use Rattle.std.proofs.lemmas.Int.{to_z-of_z}
use Rattle.std.proofs.lemmas.Bool.{both_ways}
use Rattle.std.proofs.lemmas.List.Elements.{All-head, All-get_or}
use Rattle.std.proofs.lemmas.List.Folds.{list_any_none}
use Rattle.wave_base.specs.declared.types.ArrayId.{ArrayId}
use Rattle.loop_core.specs.Lists.{list_of}
use Rattle.loop_core.specs.Shape.{same_array}
use Rattle.inspector_run.specs.declared.inverse.Inverse.{Inverse}
use Rattle.inspector_run.specs.Inverses.{IsListing, IsInverse}
use Rattle.inspector_run.proofs.inverse.equal_in.Goals as goal

pub returns-then-eq : goal.returns-then-eq
returns-then-eq c =
    let item = c.inverse-item.result in
    let same : item.array ≡ c.args.array = search rules in
    λ a served.
    let own : IsInverse (list_of a.lists item.array) item.listing =
    subst (λ (i : Inverse). IsInverse (list_of a.lists i.array) i.listing) (sym c.inverse-item.is) (All-get_or (λ (i : Inverse). IsInverse (list_of a.lists i.array) i.listing) c.args.inverses.now c.loop-inverse.inverse-index item c.loop-inverse-test.true served.right) in
    rw (to_z-of_z w128 c.args.value c.ranges.value) at (c.places_at.ensures (list_of a.lists c.args.array) (subst (λ f. IsListing (list_of a.lists f) item.listing) same own.lists))

pub returns : goal.returns
returns c = λ a served.
    let none : list_any (λ (i : Inverse). same_array i.array c.args.array) c.args.inverses.now ≡ false =
    list_any_none (λ (i : Inverse). same_array i.array c.args.array) c.args.inverses.now (λ k d l. c.loop-inverse.invariant k d (omega (arith, l))) in
    absurd (both_ways (list_any (λ (i : Inverse). same_array i.array c.args.array) c.args.inverses.now) none
    (All-head (λ (f : ArrayId). list_any (λ (i : Inverse). same_array i.array f) c.args.inverses.now ≡ true) c.args.array [] served.each))
