use Rattle.std.proofs.Common.{arith, refl, pos, ◌≡◌, ◌<◌, ◌∙◌, length, slice_index_or, []}
use Rattle.std.proofs.lemmas.List.Elements.{Contains-get_or}
use Rattle.bound_table.specs.declared.waiting.Waiting.{Waiting}
use Rattle.bound_table.specs.Queues.{queue}
use Rattle.bound_close.specs.declared.engine.Engine.{Engine}
use Rattle.bound_close.proofs.Passing.{onwards-same, onwards-trans, take-tended, taken-waits, pair-looked, waiting-lower, seen-more, seen-all}
use Rattle.bound_close.proofs.Takes.{stopped-trans}
use Rattle.bound_close.proofs.engine.Engine.look_at_pair.Goals as goal

abbrev nowhere : Waiting
nowhere = record { rule = 0; held = 0; seen = record { x = 0; y = 0; bound = pos 0 } }

pub loop-waiting-init : goal.loop-waiting-init
loop-waiting-init c =
    let mid : Engine = record { workings = c.args.self.now.workings; fired = c.args.self.now.fired; queues = c.take-taken.new.self } in
    let is : c.as_slice-waiting-items.result.now ≡ queue c.args.self.now.queues.rows.items c.args.x c.args.y = c.as_slice-waiting-items.ensures ∙ c.take-taken.ensures.taken in
    record {
      onwards = onwards-same c.args.atoms.now c.args.rules.now mid (take-tended c.args.atoms.now c.args.rules.now c.args.self.now mid c.args.x c.args.y c.as_slice-waiting-items.result.now c.requires.tended c.requires.x c.requires.y is refl refl c.take-taken.ensures.left);
      seen = λ e h s t cx cy l. absurd (let m = h.1 in omega arith);
    }

pub visit-requires-clause-waits : goal.visit-requires-clause-waits
visit-requires-clause-waits c =
    let mid : Engine = record { workings = c.args.self.now.workings; fired = c.args.self.now.fired; queues = c.take-taken.new.self } in
    let is : c.as_slice-waiting-items.result.now ≡ queue c.args.self.now.queues.rows.items c.args.x c.args.y = c.as_slice-waiting-items.ensures ∙ c.take-taken.ensures.taken in
    let lt : c.loop-waiting.waiting-index < length c.as_slice-waiting-items.result.now = omega arith in
    let e : Waiting = slice_index_or c.as_slice-waiting-items.result.now c.loop-waiting.waiting-index nowhere in
    waiting-lower c.args.atoms.now c.args.rules.now mid.workings c.loop-waiting.self.workings e c.requires.over (c.loop-waiting.invariant.onwards.steady.forward.onward []).lower
    (taken-waits c.args.atoms.now c.args.rules.now c.args.self.now mid c.args.x c.args.y c.as_slice-waiting-items.result.now c.requires.tended c.requires.x c.requires.y is refl refl c.take-taken.ensures.left e (Contains-get_or c.as_slice-waiting-items.result.now c.loop-waiting.waiting-index nowhere lt))

pub returns-then-not-branch-clause-stopped : goal.returns-then-not-branch-clause-stopped
returns-then-not-branch-clause-stopped c = λ _. stopped-trans c.args.atoms.now c.args.rules.now c.args.self.now.workings c.loop-waiting.self.workings c.visit.new.self.workings c.loop-waiting.invariant.onwards.steady.forward (c.in_ok-visit.ensures.stopped c.if-not-branch.true)

pub loop-waiting-preserved : goal.loop-waiting-preserved
loop-waiting-preserved c =
    let mid : Engine = record { workings = c.args.self.now.workings; fired = c.args.self.now.fired; queues = c.take-taken.new.self } in
    let lt : c.loop-waiting.waiting-index < length c.as_slice-waiting-items.result.now = omega arith in
    let o = c.in_ok-visit.ensures.onwards c.if-not-branch.false in
    record {
      onwards = onwards-trans c.args.atoms.now c.args.rules.now mid c.loop-waiting.self c.visit.new.self c.loop-waiting.invariant.onwards o;
      seen = seen-more c.args.atoms.now c.args.rules.now mid c.loop-waiting.self c.visit.new.self c.loop-waiting.invariant.onwards.steady.longer o c.as_slice-waiting-items.result.now c.loop-waiting.waiting-index nowhere lt (c.in_ok-visit.ensures.covered c.if-not-branch.false) c.loop-waiting.invariant.seen;
    }

pub returns-clause-looked : goal.returns-clause-looked
returns-clause-looked c = λ _ since.
    let mid : Engine = record { workings = c.args.self.now.workings; fired = c.args.self.now.fired; queues = c.take-taken.new.self } in
    let is : c.as_slice-waiting-items.result.now ≡ queue c.args.self.now.queues.rows.items c.args.x c.args.y = c.as_slice-waiting-items.ensures ∙ c.take-taken.ensures.taken in
    let all : c.loop-waiting.waiting-index ≡ length c.as_slice-waiting-items.result.now = omega arith in
    pair-looked c.args.atoms.now c.args.rules.now c.args.self.now mid c.args.x c.args.y c.as_slice-waiting-items.result.now c.requires.tended c.requires.x c.requires.y is refl refl c.take-taken.ensures.left c.loop-waiting.self since c.loop-waiting.invariant.onwards
    (seen-all c.args.atoms.now mid c.loop-waiting.self c.as_slice-waiting-items.result.now c.loop-waiting.waiting-index all c.loop-waiting.invariant.seen)
