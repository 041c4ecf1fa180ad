use Rattle.std.proofs.Common.{◌∙◌, ◌++◌, ap, List, length}
use Rattle.std.specs.Prelude.{codes, decimal}
use Rattle.loop_core.specs.declared.decl.PropDecl.{PropDecl}
use Rattle.loop_core.specs.declared.nest.Nest.{Nest}
use Rattle.wave_main.specs.Status.{line}
use Rattle.wave_main.proofs.check.check_text.Goals as goal

pub returns : goal.returns
returns c inputs are same none =
    let read = c.in_ok-input.ensures.answer inputs are same none in (
      record {
        nest = c.in_ok-input.input.nest;
        is_loop = read.0.is_loop;
        printed = c.in_ok-text.ensures ∙ ap (λ (l : List PropDecl). line (codes "passed " ++ decimal (length l))) c.as_slice.ensures
            ∙ ap (λ (n : Nest). line (codes "passed " ++ decimal (length n.props))) c.nest.ensures.nest;
      },
      read.1,
    )
