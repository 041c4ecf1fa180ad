-- What lines give, one after another.
use Rattle.std.specs.Prelude.{◌≡◌, [], ◌∷◌, ◌++◌}
use Rattle.loop_core.specs.declared.nest.Nest.{Nest}
use Rattle.loop_syntax.specs.declared.numbered.Numbered.{Numbered}
use Rattle.loop_syntax.specs.declared.build.Gathered.{Gathered}
use Rattle.loop_syntax.specs.Scope.{Scope}
use Rattle.loop_syntax.specs.Resolved.{declaration, property, local}
use Rattle.loop_syntax.specs.Nesting.{Ends, marks}
use Rattle.loop_syntax.specs.Bodies.{Goes, outer_of, marks_of}

-- a line comes after those before it
pub record Grows (s : Scope) (l : Numbered) (old new : Gathered) : Type 0 where
  pub decls : new.decls ≡ old.decls ++ declaration l.number l.line
  pub props : new.props ≡ old.props ++ property s l.number l.line
  pub locals : new.locals ≡ old.locals ++ local l.number l.line
  pub body : Goes s l.number l.line old.body new.body

-- a nest has all parts
pub record IsMade (g : Gathered) (nest : Nest) : Type 0 where
  pub decls : nest.decls ≡ g.decls
  pub props : nest.props ≡ g.props
  pub locals : nest.locals ≡ g.locals
  pub loop : outer_of g.body ≡ (nest.line, nest.name) ∷ []
  pub body : marks nest.body ++ Ends ∷ [] ≡ marks_of g.body
