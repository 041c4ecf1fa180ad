use Rattle.std.proofs.Common.{arith, ◌≡◌, ◌++◌, ◌∷◌, [], w64, subst, sym}
use Rattle.std.specs.Prelude.{◌≤ℤ◌}
use Rattle.std.specs.Int.Signed.{◌<ℤ◌}
use Rattle.std.proofs.lemmas.Int.{to_z-of_z, ints}
use mir.Val.{SFits}
use Rattle.index_props.specs.declared.certificate.Step.TheVariants.{Weaken}
use Rattle.index_props.specs.Derivable.{Derivable}
use Rattle.bound_close.specs.Between.{IsBetween}
use Rattle.bound_close.specs.Closure.{Found, IsClosure, Shows}
use Rattle.bound_ways.specs.Log.{Emitted}
use Rattle.bound_ways.specs.Places.{place_in, diff_at}
use Rattle.bound_close.specs.Workings.{bounds}
use Rattle.bound_close.proofs.Closes.{bound-least, certified}
use Rattle.bound_close.proofs.closure.Closure.proof.Goals as goal

pub returns-then-is_above : goal.returns-then-is_above
returns-then-is_above c = λ base rules h n d.
    let fc : SFits w64 c.args.c = search rules in
    let t : c.args.c <ℤ c.in-Some.between.bound = rw (to_z-of_z w64 c.args.c fc) at (c.is_above.ensures.yes c.if-is_above.true) in
    let l = bound-least c.args.self.now base rules h c.args.a.now c.args.b.now c.in-Some.between c.in-Some.ensures c.args.c d in
    absurd (omega (arith, ints))

pub returns : goal.returns
returns c = λ base rules h.
    let fc : SFits w64 c.args.c = search rules in
    let low : c.in-Some.between.bound ≤ℤ c.args.c = rw (to_z-of_z w64 c.args.c fc) at (c.is_above.ensures.no c.if-is_above.false) in
    let k : Found = record { atoms = c.self.inside.places; engine = c.self.inside.engine; given = c.self.inside.given; refuted = c.self.inside.refuted } in
    let v : c.args.self.now ≡ k = sym c.self.view_is in
    let q : IsBetween k c.args.a.now c.args.b.now c.in-Some.between = subst (λ (k : Found). IsBetween k c.args.a.now c.args.b.now c.in-Some.between) v c.in-Some.ensures in
    let g : IsClosure k base rules = subst (λ (k : Found). IsClosure k base rules) v h in
    let way : Emitted k.atoms k.engine.workings.table.edges.items k.engine.workings.steps c.emit.new.steps c.in_ok-way.way (diff_at k.atoms (place_in k.atoms c.args.a.now) (place_in k.atoms c.args.b.now) (bounds k.engine.workings (place_in k.atoms c.args.a.now) (place_in k.atoms c.args.b.now))) = rw (c.in_ok-steps.ensures, c.as_slice.ensures, q.x, q.y) at c.in_ok-way.ensures in
    let last : c.push_weaken.new.steps ≡ c.emit.new.steps ++ Weaken c.in_ok-way.way c.args.c ∷ [] = rw (to_z-of_z w64 c.args.c fc) at c.in_ok-push_weaken.ensures.steps in
    subst (λ (k : Found). Derivable k.atoms base rules c.args.a.now c.args.b.now c.args.c × Shows k.atoms base rules c.push_weaken.new.steps c.args.a.now c.args.b.now c.args.c) (sym v)
    (certified k base rules g c.args.a.now c.args.b.now c.in-Some.between c.args.c c.emit.new.steps c.push_weaken.new.steps c.in_ok-way.way q low way last)
