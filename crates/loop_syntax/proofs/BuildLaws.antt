-- What lines give so far, and what is left to give.
use Rattle.std.proofs.Common.{◌≡◌, ℕ, List, [], ◌∷◌, ◌++◌, sym, ap, subst, ◌∙◌, append_assoc}
use Rattle.std.proofs.lemmas.List.{append-nil}
use Rattle.loop_core.specs.declared.decl.Decl.{Decl}
use Rattle.loop_core.specs.declared.decl.LocalDecl.{LocalDecl}
use Rattle.loop_core.specs.declared.decl.PropDecl.{PropDecl}
use Rattle.loop_core.specs.declared.nest.Nest.{Nest}
use Rattle.loop_lines.proofs.TermLaws.{some_is}
use Rattle.loop_syntax.specs.declared.numbered.Numbered.{Numbered}
use Rattle.loop_syntax.specs.declared.build.Gathered.{Gathered}
use Rattle.loop_syntax.specs.Scope.{Scope, empty, scope_after}
use Rattle.loop_syntax.specs.Resolved.{declaration, property, local, mark, outer}
use Rattle.loop_syntax.specs.Nesting.{Mark}
use Rattle.loop_syntax.specs.Stages.{Stage, Above, Behind, AreNested, AreFew}
use Rattle.loop_syntax.specs.Bodies.{stage_of, outer_of, marks_of, Joins}
use Rattle.loop_syntax.specs.Gathering.{Grows, IsMade}
use Rattle.loop_syntax.specs.TextNest.{gathered, declarations, properties, locals, outer_loops, body_marks, IsNestOf}
use Rattle.loop_syntax.proofs.StageLaws.{nested_next}
use Rattle.loop_syntax.proofs.NarrowLaws.{Kept, kept_empty, kept_behind}

abbrev gives_decl : Scope → Numbered → List Decl
gives_decl s l = declaration l.number l.line

abbrev gives_prop : Scope → Numbered → List PropDecl
gives_prop s l = property s l.number l.line

abbrev gives_local : Scope → Numbered → List LocalDecl
gives_local s l = local l.number l.line

abbrev gives_outer : Scope → Numbered → List (ℕ × List ℕ)
gives_outer s l = outer l.number l.line

abbrev gives_mark : Scope → Numbered → List Mark
gives_mark s l = mark s l.number l.line

-- what lines gave, with what the lines left give, is what all lines give
pub record Built (all : List Numbered) (s : Scope) (g : Gathered) (ls : List Numbered) : Type 0 where
  pub decls : g.decls ++ gathered gives_decl s ls ≡ declarations all
  pub props : g.props ++ gathered gives_prop s ls ≡ properties all
  pub locals : g.locals ++ gathered gives_local s ls ≡ locals all
  pub loop : outer_of g.body ++ gathered gives_outer s ls ≡ outer_loops all
  pub body : marks_of g.body ++ gathered gives_mark s ls ≡ body_marks all
  pub nested : AreNested (stage_of g.body) ls
  pub few : AreFew s ls
  pub kept : Kept s

-- nothing is given yet
pub built_start : (all : List Numbered) (g : Gathered) → g.decls ≡ [] → g.props ≡ [] → g.locals ≡ [] → outer_of g.body ≡ [] → marks_of g.body ≡ [] → stage_of g.body ≡ Above → AreNested Above all → AreFew empty all → Built all empty g all
built_start all g d p k o m s nested few = record {
  decls = ap (λ (l : List Decl). l ++ gathered gives_decl empty all) d;
  props = ap (λ (l : List PropDecl). l ++ gathered gives_prop empty all) p;
  locals = ap (λ (l : List LocalDecl). l ++ gathered gives_local empty all) k;
  loop = ap (λ (l : List (ℕ × List ℕ)). l ++ gathered gives_outer empty all) o;
  body = ap (λ (l : List Mark). l ++ gathered gives_mark empty all) m;
  nested = subst (λ (t : Stage). AreNested t all) (sym s) nested;
  few = few;
  kept = kept_empty;
}

grown : {X : Type 0} (new old here more total : List X) → new ≡ old ++ here → old ++ (here ++ more) ≡ total → new ++ more ≡ total
grown new old here more total is h = ap (λ l. l ++ more) is ∙ append_assoc old here more ∙ h

-- a line more
pub built_step : (all : List Numbered) (s : Scope) (g new : Gathered) (l : Numbered) (ls : List Numbered) → Built all s g (l ∷ ls) → Grows s l g new → Built all (scope_after s l) new ls
built_step all s g new l ls b grows =
    let next = nested_next (stage_of g.body) l ls b.nested in
    let goes : Joins s l.number l.line g.body new.body = grows.body next.0 next.1 in
    let here : next.0 ≡ stage_of new.body = some_is next.0 (stage_of new.body) (sym next.1 ∙ goes.stage) in
    record {
      decls = grown new.decls g.decls (gives_decl s l) (gathered gives_decl (scope_after s l) ls) (declarations all) grows.decls b.decls;
      props = grown new.props g.props (gives_prop s l) (gathered gives_prop (scope_after s l) ls) (properties all) grows.props b.props;
      locals = grown new.locals g.locals (gives_local s l) (gathered gives_local (scope_after s l) ls) (locals all) grows.locals b.locals;
      loop = grown (outer_of new.body) (outer_of g.body) (gives_outer s l) (gathered gives_outer (scope_after s l) ls) (outer_loops all) goes.outer b.loop;
      body = grown (marks_of new.body) (marks_of g.body) (gives_mark s l) (gathered gives_mark (scope_after s l) ls) (body_marks all) goes.marks b.body;
      nested = subst (λ (t : Stage). AreNested t ls) here next.2;
      few = b.few.4;
      kept = kept_behind s l.number l.line b.few.0 b.few.1 b.few.2 b.kept;
    }

pub built_more : (all : List Numbered) (s behind : Scope) (g new : Gathered) (before after : List Numbered) (l : Numbered)
    → before ≡ l ∷ after → Built all s g before → Grows s l g new → behind ≡ scope_after s l → Built all behind new after
built_more all s behind g new before after l here b grows moved =
    subst (λ (t : Scope). Built all t new after) (sym moved) (built_step all s g new l after (subst (Built all s g) here b) grows)

-- no line is left
pub built_stage : (all : List Numbered) (s : Scope) (g : Gathered) → Built all s g [] → stage_of g.body ≡ Behind
built_stage all s g b = some_is (stage_of g.body) Behind b.nested

pub built_nest : (all : List Numbered) (s : Scope) (g : Gathered) (nest : Nest) → Built all s g [] → IsMade g nest → IsNestOf all nest
built_nest all s g nest b made = record {
  decls = made.decls ∙ sym (append-nil g.decls) ∙ b.decls;
  props = made.props ∙ sym (append-nil g.props) ∙ b.props;
  locals = made.locals ∙ sym (append-nil g.locals) ∙ b.locals;
  loop = sym b.loop ∙ append-nil (outer_of g.body) ∙ made.loop;
  body = made.body ∙ sym (append-nil (marks_of g.body)) ∙ b.body;
}
