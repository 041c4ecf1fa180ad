use Rattle.std.proofs.Common.{arith, sym, ap, ◌∙◌, subst}
use Rattle.done_words.specs.Views.{IsAbout, number_of, tasks_done}
use Rattle.done_words.proofs.Touched.{worker_inside}
use Rattle.done_words.proofs.Seen.{view_looks, look_there, risen, taught, still_about_look, number_look, done_look}
use Rattle.done_words.proofs.work_seat.WorkSeat.look.Goals as goal

pub load-requires : goal.load-requires
load-requires c = let b = c.args.board.now in let w = b.words.shared.key.value in let v = c.args.self.now.seat.me.0 in
    let l = worker_inside w b.sound c.args.from (look_there w b.sound v c.args.from c.requires.own.1 c.requires.next) in let z = b.sized in
    (c.requires.own.0, omega arith, view_looks w b.sound _ _ v _ c.args.from c.requires.own.1 c.requires.next)

pub invariant_of-self : goal.invariant_of-self
invariant_of-self c = let s = c.args.self.now in let m = c.load.ensures.2.0 in let v = s.seat.me.0 in record {
  bare = ap (λ x. x.1) m ∙ s.bare;
  is = ap (λ x. number_of x.0) m ∙ (number_look v c.args.from c.load.result ∙ s.is);
  done_is = ap (λ x. tasks_done x.0) m ∙ (done_look v c.args.from c.load.result c.requires.next ∙ s.done_is);
}

pub returns : goal.returns
returns c = let b = c.args.board.now in let w = b.words.shared.key.value in let v = c.args.self.now.seat.me.0 in let m = c.load.ensures.2.0 in record {
  own = (c.load.ensures.0 ∙ c.requires.own.0, subst (IsAbout w) (sym (ap (λ x. x.0) m)) (still_about_look w b.sound v c.args.from c.load.result c.requires.own.1));
  view = ap (λ x. x.0) m;
  loaded = c.load.ensures.2.1;
  risen = risen w b.sound v c.args.from c.load.result c.requires.own.1 c.requires.next c.load.ensures.2.1;
  taught = taught w b.sound v c.args.from c.requires.own.1 c.requires.next;
}
