-- The canonical text of a nest: no empty lines and no comments, two spaces for each open block, one space
-- between words, round `=`, relations and operators and after a comma, and none elsewhere.
use Rattle.std.specs.Prelude.{ℕ, codes, List, [], ◌∷◌, ◌++◌}
use Rattle.loop_core.specs.declared.nest.Nest.{Nest}
use Rattle.loop_print.specs.PrintNames.{Repeated}
use Rattle.loop_print.specs.PrintHeads.{head_lines, heads_text}
use Rattle.loop_print.specs.PrintItems.{body_text}

abbrev pub nest_text : Nest → List ℕ
nest_text nest =
    heads_text (head_lines nest.decls nest.decls nest.locals nest.props)
    ++ codes "loop " ++ nest.name ++ codes "\n"
    ++ body_text nest.decls nest.locals nest.body (Repeated nest.line nest.name ∷ [])
    ++ codes "end\n"
