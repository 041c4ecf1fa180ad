use Rattle.std.proofs.Common.{refl, ap, ◌∙◌, List}
use Rattle.loop_core.specs.declared.nest.Item.{Item}
use Rattle.loop_syntax.specs.declared.items.OpenBlock.{OpenBlock}
use Rattle.loop_syntax.specs.Nesting.{so_far}
use Rattle.loop_syntax.proofs.NestLaws.{opened, opened_stage}
use Rattle.loop_syntax.proofs.body.OpenLoop.begin.Goals as goal

pub returns : goal.returns
returns c =
    let o : OpenBlock = record { line = c.args.line; head = c.args.head; before = c.args.self.items } in
    record {
      stage = opened_stage c.args.self.around c.push.new.self o c.in_ok-push.ensures.ok;
      outer = refl;
      marks = ap (λ (l : List Item). so_far c.push.new.self l) c.new.ensures ∙ opened c.args.self.around c.push.new.self o c.in_ok-push.ensures.ok;
    }
