-- A text that passes no limit declares at most 64 arrays and 16 locals.
use Rattle.std.proofs.Common.{ℕ, ◌+◌, ◌≤◌, List, [], ◌∷◌, ◌++◌, length, sym, subst, arith}
use Rattle.loop_core.specs.declared.decl.Decl.{Decl}
use Rattle.loop_core.specs.declared.decl.LocalDecl.{LocalDecl}
use Rattle.loop_core.specs.declared.nest.Nest.{Nest}
use Rattle.loop_core.specs.Sizes.{sizes}
use Rattle.loop_lines.specs.declared.line.Line.{Line}
use Rattle.loop_lines.specs.declared.line.Line.TheVariants as lines
use Rattle.loop_syntax.specs.declared.numbered.Numbered.{Numbered}
use Rattle.loop_syntax.specs.Scope.{Scope, empty, scope_behind, scope_after}
use Rattle.loop_syntax.specs.Resolved.{declaration, local}
use Rattle.loop_syntax.specs.Stages.{AreFew}
use Rattle.loop_syntax.specs.TextNest.{gathered, declarations, locals, IsNestOf}

abbrev given : Scope → List Numbered → List Decl
given s ls = gathered (λ s l. declaration l.number l.line) s ls

one_line : (s : Scope) (n : ℕ) (l : Line) (rest : List Decl) → (scope_behind s n l).arrays + length (sizes rest) ≤ 64 → s.arrays + length (sizes (declaration n l ++ rest)) ≤ 64
one_line s n (lines.Matrix name form) rest h = omega (arith, h)
one_line s n (lines.Index name size) rest h = omega (arith, h)
one_line s n (lines.Vector name size source) rest h = omega (arith, h)
one_line s n (lines.Local name) rest h = omega (arith, h)
one_line s n (lines.Prop prop) rest h = h
one_line s n (lines.Loop name) rest h = h
one_line s n (lines.For name lo hi) rest h = h
one_line s n (lines.When rel left right) rest h = h
one_line s n (lines.Set array at value) rest h = h
one_line s n (lines.Keep name value) rest h = h
one_line s n lines.End rest h = h

few_from : (s : Scope) (ls : List Numbered) → s.arrays ≤ 64 → AreFew s ls → s.arrays + length (sizes (given s ls)) ≤ 64
few_from s [] h few = omega (arith, h)
few_from s (l ∷ ls) h few = one_line s l.number l.line (given (scope_after s l) ls) (few_from (scope_after s l) ls few.1 few.4)

pub few_arrays : (ls : List Numbered) (nest : Nest) → AreFew empty ls → IsNestOf ls nest → length (sizes nest.decls) ≤ 64
few_arrays ls nest few of_text =
    let all : 0 + length (sizes (declarations ls)) ≤ 64 = few_from empty ls (omega arith) few in
    subst (λ (ds : List Decl). length (sizes ds) ≤ 64) (sym of_text.decls) (omega (arith, all))

-- ---- locals

abbrev kept : Scope → List Numbered → List LocalDecl
kept s ls = gathered (λ s l. local l.number l.line) s ls

one_local : (s : Scope) (n : ℕ) (l : Line) (rest : List LocalDecl) → (scope_behind s n l).locals + length rest ≤ 16 → s.locals + length (local n l ++ rest) ≤ 16
one_local s n (lines.Matrix name form) rest h = omega (arith, h)
one_local s n (lines.Index name size) rest h = omega (arith, h)
one_local s n (lines.Vector name size source) rest h = omega (arith, h)
one_local s n (lines.Local name) rest h = omega (arith, h)
one_local s n (lines.Prop prop) rest h = h
one_local s n (lines.Loop name) rest h = h
one_local s n (lines.For name lo hi) rest h = h
one_local s n (lines.When rel left right) rest h = h
one_local s n (lines.Set array at value) rest h = h
one_local s n (lines.Keep name value) rest h = h
one_local s n lines.End rest h = h

locals_from : (s : Scope) (ls : List Numbered) → s.locals ≤ 16 → AreFew s ls → s.locals + length (kept s ls) ≤ 16
locals_from s [] h few = omega (arith, h)
locals_from s (l ∷ ls) h few = one_local s l.number l.line (kept (scope_after s l) ls) (locals_from (scope_after s l) ls few.2 few.4)

pub few_locals : (ls : List Numbered) (nest : Nest) → AreFew empty ls → IsNestOf ls nest → length nest.locals ≤ 16
few_locals ls nest few of_text =
    let all : 0 + length (locals ls) ≤ 16 = locals_from empty ls (omega arith) few in
    subst (λ (ds : List LocalDecl). length ds ≤ 16) (sym of_text.locals) (omega (arith, all))
