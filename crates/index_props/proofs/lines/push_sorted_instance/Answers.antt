use Rattle.std.proofs.Common.{◌≡◌, ◌++◌, [], ◌∷◌, ap, ◌∙◌}
use Rattle.index_props.specs.Rules.{sorted_instance}
use Rattle.index_props.proofs.lines.push_sorted_instance.Goals as goal

pub returns : goal.returns
returns c =
    let made : c.in_ok-one.one ≡ sorted_instance c.args.order c.args.s.now c.args.t.now c.args.g.now = c.in_ok-one.ensures in
    let pushed : c.push.new.self ≡ c.args.into.now ++ c.in_ok-one.one ∷ [] = c.in_ok-push.ensures.ok in
    pushed ∙ ap (λ r. c.args.into.now ++ r ∷ []) made
