use Rattle.std.proofs.Common.{rules, arith, ◌≡◌, ◌+◌, List, length, sym, ap, ◌∙◌, subst}
use Rattle.done_words.specs.declared.layout.Span.{Span}
use Rattle.done_words.specs.WordsOf.{word_of}
use Rattle.done_words.specs.Views.{IsAbout, number_of, tasks_done}
use Rattle.done_words.proofs.Listed.{spans_count, number_at}
use Rattle.done_words.proofs.Touched.{number_inside}
use Rattle.done_words.proofs.Seen.{view_writes, write_there, still_about_write, number_write, done_write}
use Rattle.done_words.proofs.work_seat.WorkSeat.write.Goals as goal

pub index-requires : goal.index-requires
index-requires c = let b = c.args.board.now in let w = b.words.shared.key.value in
    let shared = write_there w b.sound c.args.self.now.seat.me.0 c.args.cell c.args.value c.requires.own.1 c.requires.next in
    let small = shared.small in let e = ap (λ (l : List Span). length l) b.spanned in let n = spans_count w in omega arith

pub overflow_add-first : goal.overflow_add-first
overflow_add-first c = let b = c.args.board.now in let w = b.words.shared.key.value in
    let shared = write_there w b.sound c.args.self.now.seat.me.0 c.args.cell c.args.value c.requires.own.1 c.requires.next in
    let l = number_inside w b.sound c.args.cell shared in let e = number_at w b.spans.items c.args.cell c.index.result.now b.spanned c.index.ensures shared.small shared.target in let z = b.sized in omega arith

pub store-requires : goal.store-requires
store-requires c = let b = c.args.board.now in let w = b.words.shared.key.value in let v = c.args.self.now.seat.me.0 in
    let shared = write_there w b.sound v c.args.cell c.args.value c.requires.own.1 c.requires.next in
    let l = number_inside w b.sound c.args.cell shared in let e = number_at w b.spans.items c.args.cell c.index.result.now b.spanned c.index.ensures shared.small shared.target in let z = b.sized in
    let same : c.cast_unsigned.result ≡ word_of c.args.value = search rules in
    (c.requires.own.0, omega arith, view_writes w b.sound _ _ v _ c.args.cell c.args.value (c.index.result.now.first + c.args.cell.at) c.cast_unsigned.result e same c.requires.own.1 c.requires.next)

pub invariant_of-self : goal.invariant_of-self
invariant_of-self c = let s = c.args.self.now in let m = c.store.ensures.2 in let v = s.seat.me.0 in record {
  bare = ap (λ x. x.1) m ∙ s.bare;
  is = ap (λ x. number_of x.0) m ∙ (number_write v ∙ s.is);
  done_is = ap (λ x. tasks_done x.0) m ∙ (done_write v c.args.cell c.args.value c.requires.next ∙ s.done_is);
}

pub returns : goal.returns
returns c = let b = c.args.board.now in let w = b.words.shared.key.value in let v = c.args.self.now.seat.me.0 in let m = c.store.ensures.2 in record {
  own = (c.store.ensures.0 ∙ c.requires.own.0, subst (IsAbout w) (sym (ap (λ x. x.0) m)) (still_about_write w b.sound v c.requires.own.1));
  view = ap (λ x. x.0) m;
}
