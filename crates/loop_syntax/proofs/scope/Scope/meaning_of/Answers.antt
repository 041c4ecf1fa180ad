use Rattle.std.proofs.Common.{◌∙◌, ap}
use Rattle.loop_syntax.specs.Scope.{meaning_of}
use Rattle.loop_syntax.specs.Standing.{own_meaning}
use Rattle.loop_syntax.proofs.ScopeLaws.{meaning_kept}
use Rattle.loop_syntax.proofs.scope.Scope.meaning_of.Goals as goal

pub returns : goal.returns
returns c =
    c.own_meaning.ensures ∙ ap own_meaning c.standing_of.ensures
    ∙ meaning_kept c.self.inside.table c.self.inside.declared.items _ c.self.inside.loops c.args.name.now c.self.invariant
    ∙ ap (λ s. meaning_of s c.args.name.now) c.self.view_is
