use Rattle.std.proofs.Common.{◌≡◌, ◌++◌, [], ◌∷◌, ap, ◌∙◌}
use Rattle.index_props.specs.Rules.{limit_instance}
use Rattle.index_props.proofs.lines.push_limit_instance.Goals as goal

pub returns : goal.returns
returns c =
    let made : c.in_ok-one.one ≡ limit_instance c.args.strict c.args.e.now c.args.g.now = c.in_ok-one.ensures in
    let pushed : c.push.new.self ≡ c.args.into.now ++ c.in_ok-one.one ∷ [] = c.in_ok-push.ensures.ok in
    pushed ∙ ap (λ r. c.args.into.now ++ r ∷ []) made
