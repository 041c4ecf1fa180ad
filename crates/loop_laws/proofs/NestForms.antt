-- The lines of a nest's body, made from the lines of a text.
use Rattle.std.proofs.Common.{List, [], ◌∷◌, map}
use Rattle.loop_core.specs.Shape as shape
use Rattle.loop_lines.specs.declared.line.Line.{Line}
use Rattle.loop_lines.specs.declared.line.Line.TheVariants as lines
use Rattle.loop_syntax.specs.declared.numbered.Numbered.{Numbered}
use Rattle.loop_lines.specs.declared.block.Block.{Block}
use Rattle.loop_lines.specs.declared.block.Block.TheVariants.{Repeated, Guarded}
use Rattle.loop_syntax.specs.Scope.{Scope, empty}
use Rattle.loop_syntax.specs.Resolved.{array_in, local_in, term_in, value_in}
use Rattle.loop_syntax.specs.TextNest.{gathered}

-- the open loops, the innermost first
abbrev pub loops_of : List Block → List shape.Loop
loops_of [] = []
loops_of (Repeated line name ∷ more) = record { line = line; name = name } ∷ loops_of more
loops_of (Guarded ∷ more) = loops_of more

-- what a line of the body says with its names resolved
abbrev pub form_in : Scope → Line → List shape.Form
form_in s (lines.For name lo hi) = shape.Repeats name (term_in s lo) (term_in s hi) ∷ []
form_in s (lines.When rel left right) = shape.Guards (term_in s left) (term_in s right) ∷ []
form_in s (lines.Set array at value) = shape.Sets (array_in s array) (term_in s at) (value_in s value) ∷ []
form_in s (lines.Keep name value) = shape.Keeps (local_in s name) (value_in s value) ∷ []
form_in s _ = []

abbrev pub body_line : Scope → Numbered → List shape.Line
body_line s l = map (λ form. record { number = l.number; around = loops_of s.blocks; form = form }) (form_in s l.line)

abbrev pub text_body : List Numbered → List shape.Line
text_body ls = gathered body_line empty ls
