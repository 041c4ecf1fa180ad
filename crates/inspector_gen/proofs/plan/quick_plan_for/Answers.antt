use Rattle.std.proofs.Common.{rules, ◌≡◌, ◌∙◌, ap, sym, refl, subst}
use Rattle.inspector_run.specs.IsPlan.{IsPlan}
use Rattle.inspector_gen.specs.Known.{Bounds, IsTable}
use Rattle.inspector_gen.specs.Kinds.{kind_of}
use Rattle.inspector_gen.specs.Made.{AreFacts, facts_of}
use Rattle.inspector_gen.specs.Plans.{plan_in}
use Rattle.inspector_gen.specs.Quick.{quicker, quick_plan_of}
use Rattle.inspector_gen.specs.Own.{Inspects}
use Rattle.inspector_gen.proofs.plan.quick_plan_for.Goals as goal

pub returns : goal.returns
returns c =
    let nest = c.args.nest.now in
    let r = c.args.r.now in
    let k = c.args.closure.now in
    let ops = c.in_ok-plan.plan.ops in
    let exact : (bounds : Bounds) → IsTable k bounds → ops ≡ quick_plan_of nest (facts_of nest k bounds) r =
    λ bounds table.
    let f = facts_of nest k bounds in
    let facts : AreFacts nest.decls nest.props k f = record { decls_are = refl; props_are = refl; atoms_are = refl; table = table } in
    let along : c.as_slice.result.now ≡ c.in_ok-quick.quick = search rules in
    c.in_ok-plan.ensures f facts ∙ ap (plan_in (kind_of f) nest r) (along ∙ c.in_ok-quick.ensures f facts ∙ ap (quicker (kind_of f)) (c.in_ok-order.ensures f facts)) in
    record {
      plan = exact;
      form = λ own.
          let t = c.closures_have_tables.ensures nest r k own in
          subst IsPlan (sym (exact t.0 t.1)) (c.quick_plans_inspect.ensures.form nest r k t.0 own t.1);
      pairs = λ own a lengths passes.
          let t = c.closures_have_tables.ensures nest r k own in
          subst (Inspects nest r a) (sym (exact t.0 t.1)) (c.quick_plans_inspect.ensures.pairs nest r k t.0 own t.1 a lengths passes);
    }
