use Rattle.std.proofs.Common.{inl, inr, subst}
use Rattle.wave_words.specs.Words.{texts}
use Rattle.wave_main.specs.declared.commands.Command.{Command}
use Rattle.wave_main.specs.Commands.{IsAsked, form_of}
use Rattle.wave_main.proofs.WordLaws.{demo_begins, run_begins}
use Rattle.wave_main.proofs.commands.quiet_command.Goals as goal

pub unreachable-requires : goal.unreachable-requires
unreachable-requires c =
    let ws = texts c.args.words.now in
    let asks = subst (λ (m : Command). IsAsked ws (form_of m)) c.in-Run.is c.in_ok-command.ensures.built.asked in
    absurd (c.requires.quiet (inl (run_begins ws asks)))

pub unreachable-requires-in-Demo : goal.unreachable-requires-in-Demo
unreachable-requires-in-Demo c =
    let ws = texts c.args.words.now in
    let asks = subst (λ (m : Command). IsAsked ws (form_of m)) c.in-Demo.is c.in_ok-command.ensures.built.asked in
    absurd (c.requires.quiet (inr (demo_begins c.in-Demo.field-0 ws asks)))
