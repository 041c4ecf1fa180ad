use Rattle.std.proofs.Common.{refl}
use Rattle.loop_syntax.proofs.NestLaws.{closed, closed_stage}
use Rattle.loop_syntax.proofs.body.OpenLoop.end.Goals as goal

pub returns : goal.returns
returns c = record {
  stage = closed_stage c.pop.new.self c.args.self.around c.in-Some.block c.in-Some.ensures;
  outer = refl;
  marks = closed c.pop.new.self c.args.self.around c.in-Some.block c.args.self.items c.in_ok-items.items c.in-Some.ensures c.in_ok-items.ensures;
}
