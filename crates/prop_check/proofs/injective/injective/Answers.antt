use Rattle.std.proofs.Common.{List, length, subst}
use Rattle.prop_check.specs.declared.injective.Held.{Held}
use Rattle.prop_check.specs.Twins.{FirstTwins}
use Rattle.prop_check.proofs.Twins.{shown}
use Rattle.prop_check.proofs.injective.injective.Goals as goal

pub returns : goal.returns
returns g c =
    let twins = subst (λ (es : List Held). FirstTwins es (length es) c.first_twins.result) c.as_slice.ensures.value c.first_twins.ensures in
    shown c.args.arrays.now c.args.f c.in_ok-entries.entries.items c.settle.new.entries.items c.first_twins.result c.in_ok-entries.ensures c.settle.ensures.same c.settle.ensures.order twins
