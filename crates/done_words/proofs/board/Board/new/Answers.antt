use Rattle.std.proofs.Common.{rules, ◌≡◌, ℕ, List, [], sym, ap, ◌∙◌, subst}
use Rattle.atomic_table.specs.Table.{opening}
use Rattle.core_machine.specs.declared.work.Work.{Work}
use Rattle.done_words.specs.WordsOf.{opening_words}
use Rattle.done_words.specs.Views.{leading}
use Rattle.done_words.specs.Rule.{Keeps}
use Rattle.done_words.proofs.Kept.{opens}
use Rattle.done_words.proofs.board.Board.new.Goals as goal

pub of_words-requires : goal.of_words-requires
of_words-requires c =
    let w : Work = c.of-2.result.value in
    let is : w ≡ c.args.work.now = search rules in
    let e : c.deref.result.now ≡ opening_words c.args.work.now = search rules in
    subst (λ (l : List ℕ). Keeps w (opening l [] (leading w))) (ap opening_words is ∙ sym e) (opens w)
