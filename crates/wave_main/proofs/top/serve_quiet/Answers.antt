use Rattle.std.proofs.Common.{sym, subst}
use Rattle.wave_words.specs.Words.{texts}
use Rattle.wave_main.specs.declared.status.Status.{Status}
use Rattle.wave_main.specs.Answers.{Call, Changes, Ends}
use Rattle.wave_main.proofs.AnswerOf.{answer_of}
use Rattle.wave_main.proofs.top.serve_quiet.Goals as goal

pub returns-clause-answer : goal.returns-clause-answer
returns-clause-answer g c =
    let ws = texts c.args.words.now in
    let changes : Changes = record {
      reads_before = g.L.Library.faults c.args.lib.now;
      reads_after = g.L.Library.faults c.try_quiet.new.lib;
      before = g.O.Sink.written c.args.out.now;
      after = g.O.Sink.written c.try_quiet.new.out;
      faults_before = g.O.Sink.faults c.args.out.now;
      faults_after = g.O.Sink.faults c.try_quiet.new.out;
    } in
    let call : Call = record { words = ws; held = g.L.Library.held c.args.lib.now; changes = changes; status = c.ended-status.result } in
    let ran = c.try_quiet.ensures.ended in
    let P : Status → Type 0 = λ s. Ends ws ran.0 changes s in
    answer_of call (ran.0, ran.1, subst P (sym c.ended-status.ensures) ran.2)
