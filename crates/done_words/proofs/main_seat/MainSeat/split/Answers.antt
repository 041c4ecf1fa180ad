use Rattle.std.proofs.Common.{arith, ◌≡◌, ◌+◌, suc, sym, refl, ap, ◌∙◌, subst}
use Rattle.done_words.specs.Views.{IsAbout, number_of, tasks_done, leads, made_of, begun}
use Rattle.done_words.proofs.Touched.{worker_inside}
use Rattle.done_words.proofs.Seen.{view_splits, made_is, none_done, leads_on, still_about_one_more}
use Rattle.done_words.proofs.main_seat.MainSeat.split.Goals as goal

pub split_seat-seat-requires : goal.split_seat-seat-requires
split_seat-seat-requires c = let b = c.args.board.now in let w = b.words.shared.key.value in let s = c.args.self.now in let n = c.requires.next in let z = b.sized in
    let l = worker_inside w b.sound c.args.worker n.1 in
    (c.requires.own.0, omega arith, view_splits w b.sound _ s.seat.me.0 s.is (omega arith))

pub invariant_of-result : goal.invariant_of-result
invariant_of-result c = let b = c.args.board.now in let w = b.words.shared.key.value in let s = c.args.self.now in let e = c.split_seat-seat.ensures in let n = c.requires.next in
    let here = ap (λ x. x.0) e.4 ∙ made_is w b.sound s.seat.me.0 s.is c.requires.own.1 in let same : suc (made_of s.seat.me.0) ≡ c.args.worker + 1 = omega arith in record {
      bare = ap (λ x. x.1) e.4;
      is = ap number_of here ∙ same;
      done_is = ap tasks_done here ∙ none_done w (made_of s.seat.me.0);
    }

pub invariant_of-self : goal.invariant_of-self
invariant_of-self c = let s = c.args.self.now in let e = c.split_seat-seat.ensures.2 in record {
  bare = ap (λ x. x.1) e ∙ s.bare;
  is = ap (λ x. leads x.0) e ∙ (leads_on s.seat.me.0 ∙ s.is);
}

pub returns : goal.returns
returns c = let b = c.args.board.now in let w = b.words.shared.key.value in let s = c.args.self.now in let e = c.split_seat-seat.ensures in let n = c.requires.next in
    let here = ap (λ x. x.0) e.4 ∙ made_is w b.sound s.seat.me.0 s.is c.requires.own.1 in record {
      own = (
        (e.0 ∙ c.requires.own.0, subst (IsAbout w) (sym (ap (λ x. x.0) e.2)) (still_about_one_more w b.sound s.seat.me.0 c.requires.own.1)),
        (e.3 ∙ c.requires.own.0, subst (IsAbout w) (sym here) refl),
      );
      main = ap (λ x. x.0) e.2;
      new = here ∙ ap (begun w) (sym n.0);
    }
