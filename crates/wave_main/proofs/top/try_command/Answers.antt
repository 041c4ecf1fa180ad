use Rattle.std.proofs.Common.{refl, sym, subst, List, ℕ}
use Rattle.wave_words.specs.Words.{texts}
use Rattle.wave_main.specs.Answers.{Changes}
use Rattle.wave_main.specs.Making.{IsMade}
use Rattle.wave_main.proofs.EndLaws.{words_end, missed_ends, put_ends, handed_on, ends_with}
use Rattle.wave_main.proofs.FileLaws.{some_files}
use Rattle.wave_main.proofs.WordLaws.{asked_stands}
use Rattle.wave_main.proofs.top.try_command.Goals as goal

pub returns-in_err-asked-clause-ended : goal.returns-in_err-asked-clause-ended
returns-in_err-asked-clause-ended g c =
    let ws = texts c.args.words.now in
    let held = g.L.Library.held c.args.lib.now in
    let some = some_files held ws in
    let changes : Changes = record {
      reads_before = g.L.Library.faults c.args.lib.now;
      reads_after = g.L.Library.faults c.args.lib.now;
      before = g.O.Sink.written c.args.out.now;
      after = g.O.Sink.written c.args.out.now;
      faults_before = g.O.Sink.faults c.args.out.now;
      faults_after = g.O.Sink.faults c.args.out.now;
    } in
    ends_with held ws changes _ c.in_err-asked.field-0.0 (handed_on _ _ c.from_residual.ensures.1) (some.0, some.1, words_end ws some.0 changes _ c.in_err-asked.ensures.refused refl)

pub returns-in_err-text-clause-ended : goal.returns-in_err-text-clause-ended
returns-in_err-text-clause-ended g c =
    let ws = texts c.args.words.now in
    let held = g.L.Library.held c.args.lib.now in
    let changes : Changes = record {
      reads_before = g.L.Library.faults c.args.lib.now;
      reads_after = g.L.Library.faults c.make_text.new.lib;
      before = g.O.Sink.written c.args.out.now;
      after = g.O.Sink.written c.args.out.now;
      faults_before = g.O.Sink.faults c.args.out.now;
      faults_after = g.O.Sink.faults c.args.out.now;
    } in
    ends_with held ws changes _ c.in_err-text.field-0.0 (handed_on _ _ c.from_residual-in_err-text.ensures.1) (missed_ends held ws changes _ c.in_err-text.ensures.missed refl)

pub returns-in_err-text-clause-untouched : goal.returns-in_err-text-clause-untouched
returns-in_err-text-clause-untouched g c (status, refused) = absurd (asked_stands (texts c.args.words.now) _ status c.in_ok-asked.ensures.built.asked refused)

pub returns-clause-untouched : goal.returns-clause-untouched
returns-clause-untouched g c (status, refused) = absurd (asked_stands (texts c.args.words.now) _ status c.in_ok-asked.ensures.built.asked refused)

pub returns-clause-ended : goal.returns-clause-ended
returns-clause-ended g c =
    let ws = texts c.args.words.now in
    let held = g.L.Library.held c.args.lib.now in
    let P : List ℕ → Type 0 = λ text. IsMade held ws text in
    let changes : Changes = record {
      reads_before = g.L.Library.faults c.args.lib.now;
      reads_after = g.L.Library.faults c.make_text.new.lib;
      before = g.O.Sink.written c.args.out.now;
      after = g.O.Sink.written c.put_text.new.out;
      faults_before = g.O.Sink.faults c.args.out.now;
      faults_after = g.O.Sink.faults c.put_text.new.out;
    } in
    put_ends held ws changes _ c.put_text.result (subst P (sym c.as_slice.ensures.value) c.in_ok-text.ensures.made) c.put_text.ensures.whole c.put_text.ensures.part
