use Rattle.std.proofs.Common.{◌≡◌, ◌<◌, List, [], length, get_or, sym, ◌∙◌, arith}
use Rattle.std.proofs.lemmas.List.{get_or_read}
use Rattle.core_book.specs.declared.book.How.{How}
use Rattle.core_run.proofs.machine.Core.step.Goals as goal

pub returns-then-passed-clause-caught : goal.returns-then-passed-clause-caught
returns-then-passed-clause-caught c = c.pass.ensures.caught c.args.self.now.book c.args.self.now.hows.items c.requires.caught

pub returns-in-Read-clause-caught : goal.returns-in-Read-clause-caught
returns-in-Read-clause-caught c = c.hold.ensures.caught c.args.self.now.book c.args.self.now.hows.items c.requires.caught

pub returns-in-Write-clause-caught : goal.returns-in-Write-clause-caught
returns-in-Write-clause-caught c =
    let all : List (List How) = c.args.self.now.hows.items in
    let within : c.args.worker < length all = let a = c.requires.worker in let b = c.requires.hows in omega arith in
    let read : c.index-in-Write.result.now ≡ get_or all c.args.worker [] = get_or_read all c.args.worker c.index-in-Write.result.now within c.index-in-Write.ensures [] in
    c.work-value.ensures.caught all (sym (c.as_slice-hows.ensures ∙ read)) c.requires.caught

pub returns-in-Finish-clause-caught : goal.returns-in-Finish-clause-caught
returns-in-Finish-clause-caught c = c.pass-in-Finish.ensures.caught c.args.self.now.book c.args.self.now.hows.items c.requires.caught
