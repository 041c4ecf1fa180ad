-- The nest that a text is, or why it is none.
use Rattle.std.specs.Prelude.{◌≡◌, ℕ, List, [], ◌∷◌, ◌++◌, length, Option, Some, None, Result, Ok, Err}
use Rattle.std.specs.Option.{option_map}
use Rattle.loop_core.specs.declared.decl.Decl.{Decl}
use Rattle.loop_core.specs.declared.decl.LocalDecl.{LocalDecl}
use Rattle.loop_core.specs.declared.decl.PropDecl.{PropDecl}
use Rattle.loop_core.specs.declared.nest.Nest.{Nest}
use Rattle.loop_lines.specs.Words.{either}
use Rattle.loop_lines.specs.Fitting.{misfit, start}
use Rattle.loop_syntax.specs.declared.refusal.LoopRefusal.{LoopRefusal}
use Rattle.loop_syntax.specs.declared.refusal.LoopRefusal.TheVariants as refusals
use Rattle.loop_syntax.specs.declared.numbered.Numbered.{Numbered}
use Rattle.loop_syntax.specs.Numbered.{numbered}
use Rattle.loop_syntax.specs.Scope.{Scope, empty, scope_after}
use Rattle.loop_syntax.specs.NameRules.{first_fault}
use Rattle.loop_syntax.specs.Counts.{first_limit}
use Rattle.loop_syntax.specs.Resolved.{declaration, property, local, mark, outer}
use Rattle.loop_syntax.specs.Nesting.{Mark, Ends, marks}

-- what each line gives in the scope in which it stands, in the order of the lines
abbrev pub gathered : {X : Type 0} → (Scope → Numbered → List X) → Scope → List Numbered → List X
gathered give s [] = []
gathered give s (l ∷ ls) = give s l ++ gathered give (scope_after s l) ls

abbrev pub declarations : List Numbered → List Decl
declarations ls = gathered (λ s l. declaration l.number l.line) empty ls

abbrev pub properties : List Numbered → List PropDecl
properties ls = gathered (λ s l. property s l.number l.line) empty ls

abbrev pub locals : List Numbered → List LocalDecl
locals ls = gathered (λ s l. local l.number l.line) empty ls

abbrev pub outer_loops : List Numbered → List (ℕ × List ℕ)
outer_loops ls = gathered (λ s l. outer l.number l.line) empty ls

abbrev pub body_marks : List Numbered → List Mark
body_marks ls = gathered (λ s l. mark s l.number l.line) empty ls

-- the nest of lines that fit and break no rule
pub record IsNestOf (ls : List Numbered) (nest : Nest) : Type 0 where
  pub decls : nest.decls ≡ declarations ls
  pub props : nest.props ≡ properties ls
  pub locals : nest.locals ≡ locals ls
  pub loop : outer_loops ls ≡ (nest.line, nest.name) ∷ []
  pub body : marks nest.body ++ Ends ∷ [] ≡ body_marks ls

-- why lines that fit are no nest, of a text with so many lines: the first name that breaks a rule; else the first
-- line that passes a limit
abbrev pub broken : ℕ → List Numbered → Option LoopRefusal
broken count ls =
    either (option_map (λ fault. refusals.Name fault.0 fault.1) (first_fault empty ls)) (option_map (λ passed. refusals.Limit passed.0 passed.1) (first_limit count ls))

-- why a text is no nest: the least line that doesn't fit; else what is wrong with its lines
abbrev pub refusal : List (List ℕ) → Option LoopRefusal
refusal ls = either (option_map refusals.Text (misfit start 1 ls)) (broken (length ls) (numbered ls))

-- a reader's answer on the lines of a text
pub record IsRead (ls : List (List ℕ)) (nest : Nest) : Type 0 where
  pub accepted : refusal ls ≡ None
  pub of_text : IsNestOf (numbered ls) nest

abbrev pub Refused : List (List ℕ) → LoopRefusal → Type 0
Refused ls refusals.Memory = Unit {0}
Refused ls why = refusal ls ≡ Some why

abbrev pub Answers : List (List ℕ) → Result Nest LoopRefusal → Type 0
Answers ls (Ok nest) = IsRead ls nest
Answers ls (Err why) = Refused ls why
