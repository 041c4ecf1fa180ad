use Rattle.std.proofs.Common.{arith, ◌+◌, ℕ, sym, ap, ◌∙◌, subst}
use Rattle.done_words.specs.Views.{IsAbout, number_of, tasks_done}
use Rattle.done_words.proofs.Touched.{worker_inside}
use Rattle.done_words.proofs.Seen.{view_finishes, finish_there, count_small, still_about_finish, number_finish, done_finish}
use Rattle.done_words.proofs.work_seat.WorkSeat.finish.Goals as goal

pub overflow_add-done : goal.overflow_add-done
overflow_add-done c = let b = c.args.board.now in let s = c.args.self.now in let h = count_small b.words.shared.key.value b.sound s.seat.me.0 c.requires.own.1 c.requires.next in let e = s.done_is in omega arith

pub store-requires : goal.store-requires
store-requires c = let b = c.args.board.now in let w = b.words.shared.key.value in let s = c.args.self.now in
    let l = worker_inside w b.sound s.worker (finish_there w b.sound s.seat.me.0 s.worker c.requires.own.1 c.requires.next s.is) in let z = b.sized in
    (c.requires.own.0, omega arith, view_finishes w b.sound b.words.shared.table_id.slots s.seat.id s.seat.me.0 s.seat.me.1 s.worker s.done c.requires.next s.is s.done_is)

pub invariant_of-self : goal.invariant_of-self
invariant_of-self c = let s = c.args.self.now in let m = c.store.ensures.2 in let v = s.seat.me.0 in record {
  bare = ap (λ x. x.1) m ∙ s.bare;
  is = ap (λ x. number_of x.0) m ∙ (number_finish v ∙ s.is);
  done_is = ap (λ x. tasks_done x.0) m ∙ (done_finish v c.requires.next ∙ ap (λ (n : ℕ). n + 1) s.done_is);
}

pub returns : goal.returns
returns c = let b = c.args.board.now in let w = b.words.shared.key.value in let v = c.args.self.now.seat.me.0 in let m = c.store.ensures.2 in record {
  own = (c.store.ensures.0 ∙ c.requires.own.0, subst (IsAbout w) (sym (ap (λ x. x.0) m)) (still_about_finish w b.sound v c.requires.own.1));
  view = ap (λ x. x.0) m;
}
