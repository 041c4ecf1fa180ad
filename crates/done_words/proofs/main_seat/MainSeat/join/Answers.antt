use Rattle.std.proofs.Common.{arith, sym, ap, ◌∙◌, subst}
use Rattle.done_words.specs.Views.{IsAbout, leads}
use Rattle.done_words.proofs.Touched.{some_worker, worker_inside}
use Rattle.done_words.proofs.Seen.{view_joins, leads_back, still_about_taken_back}
use Rattle.done_words.proofs.main_seat.MainSeat.join.Goals as goal

pub join_seat-requires : goal.join_seat-requires
join_seat-requires c = let b = c.args.board.now in let w = b.words.shared.key.value in let s = c.args.self.now in let u = c.args.seat in let l = worker_inside w b.sound 0 (some_worker w b.sound) in let z = b.sized in
    (c.requires.own.0.0, c.requires.own.1.0, u.bare, omega arith, view_joins w b.sound s.seat.id u.seat.id s.seat.me.0 u.seat.me.0 s.is c.requires.end)

pub invariant_of-self : goal.invariant_of-self
invariant_of-self c = let s = c.args.self.now in let e = c.join_seat.ensures.2 in record {
  bare = ap (λ x. x.1) e ∙ s.bare;
  is = ap (λ x. leads x.0) e ∙ (leads_back s.seat.me.0 c.args.seat.seat.me.0 ∙ s.is);
}

pub returns : goal.returns
returns c = let b = c.args.board.now in let w = b.words.shared.key.value in let s = c.args.self.now in let e = c.join_seat.ensures.2 in record {
  own = (c.join_seat.ensures.0 ∙ c.requires.own.0.0, subst (IsAbout w) (sym (ap (λ x. x.0) e)) (still_about_taken_back w b.sound s.seat.me.0 c.args.seat.seat.me.0 c.requires.own.0.1));
  main = ap (λ x. x.0) e;
}
