use Rattle.std.proofs.Common.{◌≡◌, ◌++◌, subst, sym}
use Rattle.std.specs.Prelude.{OnOk}
use Rattle.index_props.specs.Rules.{property_instances}
use Rattle.props_plain.proofs.listing.push_property.Goals as goal

pub returns-in-Sorted : goal.returns-in-Sorted
returns-in-Sorted c =
    subst (λ k. OnOk c.push_sorted_lines.result (c.push_sorted_lines.new.into ≡ c.args.into.now ++ property_instances c.args.decls.now c.args.es.now k)) (sym c.in-Sorted.is) c.push_sorted_lines.ensures
