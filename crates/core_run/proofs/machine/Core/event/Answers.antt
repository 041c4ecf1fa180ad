use Rattle.std.proofs.Common.{ap, ◌∙◌}
use Rattle.core_law.specs.Scripts.{next}
use Rattle.core_law.specs.Machine.{place}
use Rattle.core_run.specs.declared.machine.Event.TheVariants.{Read as Found, Wrote}
use Rattle.core_run.specs.Cores.{core_of, hows_of, stand_in, next_of}
use Rattle.core_run.proofs.Joined.{room_is, lengths, hows_long, told_read, told_write}
use Rattle.core_run.proofs.Followed.{one}
use Rattle.core_run.proofs.machine.Core.event.Goals as goal

pub step-requires-clause-scripts : goal.step-requires-clause-scripts
step-requires-clause-scripts c = let g = c.requires.good in lengths g.work c.args.self.now g.of (c.shapes_stay.ensures g.work _ g.fit g.reached)

pub step-requires-clause-hows : goal.step-requires-clause-hows
step-requires-clause-hows c = let g = c.requires.good in hows_long g.work c.args.self.now g.of (c.shapes_stay.ensures g.work _ g.fit g.reached)

pub step-requires-clause-room : goal.step-requires-clause-room
step-requires-clause-room c = let g = c.requires.good in
    room_is g.work c.args.self.now g.of c.args.worker c.requires.worker (c.shapes_stay.ensures g.work _ g.fit g.reached)
    (λ p. c.actions_are_there.ensures g.work _ p g.fit) (c.registers_are_sequential.ensures g.work _ _ g.fit g.reached)

pub step-requires-clause-caught : goal.step-requires-clause-caught
step-requires-clause-caught c = c.requires.good.caught

pub returns-clause-step : goal.returns-clause-step
returns-clause-step c = let e = c.step.ensures in one c.args.self.now c.step.new.self c.args.worker c.step.result c.requires.good e.step e.answer e.scripts e.book e.hows e.stands e.room e.caught

pub returns-clause-value : goal.returns-clause-value
returns-clause-value c = λ w fit of reached. let d = core_of c.args.self.now in let k = c.args.worker in let t = stand_in c.args.self.now k in let does = of.does k (place d k) in record {
  at_read = λ g b x is. c.step.ensures.answer
      ∙ (told_read w c.args.self.now.book (hows_of c.args.self.now k) d k t (next w k (place d k)) (next_of c.args.self.now k) g b x does is ∙ ap (Found x) (c.reads_are_sequential.ensures w d fit reached k g b x is));
  at_write = λ g b x is. c.step.ensures.answer
      ∙ (told_write w c.args.self.now.book (hows_of c.args.self.now k) d k t (next w k (place d k)) (next_of c.args.self.now k) g b x does is ∙ ap (Wrote x) (c.writes_are_sequential.ensures w d fit reached k g b x is));
}
