-- What the lines so far are of the outer loop.
use Rattle.std.specs.Prelude.{◌≡◌, ℕ, List, [], ◌∷◌, ◌++◌, length, Option, Some}
use Rattle.loop_lines.specs.declared.line.Line.{Line}
use Rattle.loop_syntax.specs.declared.body.Body.{Body}
use Rattle.loop_syntax.specs.declared.body.Body.TheVariants as bodies
use Rattle.loop_syntax.specs.declared.body.OpenLoop.{OpenLoop}
use Rattle.loop_syntax.specs.Scope.{Scope}
use Rattle.loop_syntax.specs.Resolved.{mark, outer}
use Rattle.loop_syntax.specs.Nesting.{Mark, Ends, marks, so_far}
use Rattle.loop_syntax.specs.Stages.{Stage, Above, Within, Behind, stage_after}

abbrev pub stage_of : Body → Stage
stage_of bodies.Above = Above
stage_of (bodies.Within o) = Within (length o.around)
stage_of (bodies.Behind line name items) = Behind

-- the outer loop's line and variable
abbrev pub outer_of : Body → List (ℕ × List ℕ)
outer_of bodies.Above = []
outer_of (bodies.Within o) = (o.line, o.name) ∷ []
outer_of (bodies.Behind line name items) = (line, name) ∷ []

-- the lines of the loop after its first one
abbrev pub marks_of : Body → List Mark
marks_of bodies.Above = []
marks_of (bodies.Within o) = so_far o.around o.items
marks_of (bodies.Behind line name items) = marks items ++ Ends ∷ []

-- a line of the loop comes after those before it, and leads to a stage
pub record Adds (o : OpenLoop) (next : Option Stage) (m : Mark) (new : Body) : Type 0 where
  pub stage : next ≡ Some (stage_of new)
  pub outer : outer_of new ≡ (o.line, o.name) ∷ []
  pub marks : marks_of new ≡ so_far o.around o.items ++ m ∷ []

-- a line comes after those of a body
pub record Joins (s : Scope) (n : ℕ) (l : Line) (old new : Body) : Type 0 where
  pub stage : stage_after (stage_of old) l ≡ Some (stage_of new)
  pub outer : outer_of new ≡ outer_of old ++ outer n l
  pub marks : marks_of new ≡ marks_of old ++ mark s n l

-- it does where it can stand there
abbrev pub Goes : Scope → ℕ → Line → Body → Body → Type 0
Goes s n l old new = (next : Stage) → stage_after (stage_of old) l ≡ Some next → Joins s n l old new
