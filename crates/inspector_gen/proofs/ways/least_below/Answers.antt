use Rattle.std.proofs.Common.{rules, ◌≡◌, pos, ◌+ℤ◌, ap, ◌∙◌}
use Rattle.inspector_gen.specs.Kinds.{if_below, entry_at}
use Rattle.inspector_gen.proofs.ways.least_below.Goals as goal

pub returns : goal.returns
returns c = λ bounds table.
    let a = c.args.a.now in
    let entry : c.in_ok-entry.entry ≡ entry_at c.args.v c.args.array c.args.plus = search rules in
    let after : c.in_ok-after.after ≡ entry_at c.args.v c.args.array (c.args.plus +ℤ pos 1) = search rules in
    c.below.ensures bounds table
    ∙ ap (if_below bounds a c.in_ok-after.after) (c.least.ensures bounds table ∙ ap (λ e. bounds e a) entry)
    ∙ ap (λ x. if_below bounds a x (bounds (entry_at c.args.v c.args.array c.args.plus) a)) after
