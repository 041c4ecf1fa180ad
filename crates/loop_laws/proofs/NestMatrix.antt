-- A text declares one matrix, and nothing in the loop.
use Rattle.std.proofs.Common.{◌≡◌, ℕ, zero, suc, ◌+◌, Bool, true, false, List, [], ◌∷◌, ◌++◌, length, Some, refl, sym, ap, subst, ◌∙◌, arith}
use Rattle.std.specs.List.{count_by, filter}
use Rattle.std.proofs.lemmas.List.Sums.{length-filter}
use Rattle.loop_core.specs.declared.decl.Decl.{Decl}
use Rattle.loop_core.specs.declared.decl.LocalDecl.{LocalDecl}
use Rattle.loop_core.specs.declared.nest.Nest.{Nest}
use Rattle.loop_core.specs.IsNest.{is_matrix}
use Rattle.loop_lines.specs.declared.line.Line.{Line}
use Rattle.loop_lines.specs.declared.line.Line.TheVariants as lines
use Rattle.loop_lines.specs.declared.place.Place.TheVariants as places
use Rattle.loop_lines.specs.Fitting.{start}
use Rattle.loop_lines.proofs.TermLaws.{some_is}
use Rattle.loop_syntax.specs.declared.numbered.Numbered.{Numbered}
use Rattle.loop_syntax.specs.Numbered.{numbered}
use Rattle.loop_syntax.specs.Scope.{Scope, empty, scope_behind, scope_after}
use Rattle.loop_syntax.specs.Resolved.{declaration, local, outer}
use Rattle.loop_syntax.specs.Stages.{Stage, Above, Within, Behind, stage_within, stage_after, AreNested}
use Rattle.loop_syntax.specs.TextNest.{IsRead}
use Rattle.loop_syntax.proofs.StageLaws.{nested_next}
use Rattle.loop_syntax.proofs.ReadLaws.{passes_all, fits}
use Rattle.loop_laws.proofs.ShownNames.{decls_from, locals_from}
use Rattle.loop_laws.proofs.ShownBody.{IsInside}
use Rattle.loop_laws.proofs.BackFits.{LeadsBehind, leads_behind}
use Rattle.loop_laws.proofs.NestNames.{outer_from}

-- ---- the lines in the loop

-- a line in the loop declares nothing
pub record Stays (s : Scope) (n : ℕ) (l : Line) (next : Stage) : Type 0 where
  pub inside : IsInside next
  pub decls : declaration n l ≡ []
  pub locals : local n l ≡ []
  pub loops : outer n l ≡ []
  pub declared : (scope_behind s n l).declared ≡ s.declared

leads_inside : (here next : Stage) → IsInside here → Some here ≡ Some next → IsInside next
leads_inside here next is e = subst IsInside (some_is here next e) is

stays : (k : ℕ) (s : Scope) (n : ℕ) (l : Line) (next : Stage) → stage_within k l ≡ Some next → Stays s n l next
stays k s n (lines.For name lo hi) next e = record { inside = leads_inside (Within (k + 1)) next tt e; decls = refl; locals = refl; loops = refl; declared = refl }
stays k s n (lines.When rel left right) next e = record { inside = leads_inside (Within (k + 1)) next tt e; decls = refl; locals = refl; loops = refl; declared = refl }
stays k s n (lines.Set array at value) next e = record { inside = leads_inside (Within k) next tt e; decls = refl; locals = refl; loops = refl; declared = refl }
stays k s n (lines.Keep name value) next e = record { inside = leads_inside (Within k) next tt e; decls = refl; locals = refl; loops = refl; declared = refl }
stays zero s n lines.End next e = record { inside = leads_inside Behind next tt e; decls = refl; locals = refl; loops = refl; declared = refl }
stays (suc k) s n lines.End next e = record { inside = leads_inside (Within k) next tt e; decls = refl; locals = refl; loops = refl; declared = refl }
stays k s n (lines.Matrix name form) next e = absurd cc
stays k s n (lines.Index name size) next e = absurd cc
stays k s n (lines.Vector name size source) next e = absurd cc
stays k s n (lines.Local name) next e = absurd cc
stays k s n (lines.Prop prop) next e = absurd cc
stays k s n (lines.Loop name) next e = absurd cc

pub stays_inside : (stage : Stage) (s : Scope) (n : ℕ) (l : Line) (next : Stage) → IsInside stage → stage_after stage l ≡ Some next → Stays s n l next
stays_inside Above s n l next is e = absurd is
stays_inside (Within k) s n l next is e = stays k s n l next e
stays_inside Behind s n l next is e = absurd cc

-- lines in the loop give nothing that stands above it
pub record Nothing (s : Scope) (ls : List Numbered) : Type 0 where
  pub decls : decls_from s ls ≡ []
  pub locals : locals_from s ls ≡ []
  pub loops : outer_from s ls ≡ []

pub nothing_inside : (stage : Stage) (s : Scope) (ls : List Numbered) → IsInside stage → AreNested stage ls → Nothing s ls
nothing_inside stage s [] is h = record { decls = refl; locals = refl; loops = refl }
nothing_inside stage s (l ∷ ls) is h =
    let n = nested_next stage l ls h in
    let here = stays_inside stage s l.number l.line n.0 is n.1 in
    let more = nothing_inside n.0 (scope_after s l) ls here.inside n.2 in
    record {
      decls = ap (λ (ds : List Decl). ds ++ decls_from (scope_after s l) ls) here.decls ∙ more.decls;
      locals = ap (λ (own : List LocalDecl). own ++ locals_from (scope_after s l) ls) here.locals ∙ more.locals;
      loops = ap (λ (os : List (ℕ × List ℕ)). os ++ outer_from (scope_after s l) ls) here.loops ∙ more.loops;
    }

-- ---- the matrix

abbrev matrices : List Decl → ℕ
matrices decls = length (filter (λ d. is_matrix d.kind) decls)

-- how many matrices are still to come above the loop
abbrev to_come : Bool → ℕ
to_come false = 1
to_come true = 0

abbrev ToMatrix : List Numbered → Type 0
ToMatrix ls = (m : Bool) (s : Scope) → LeadsBehind (places.Heading m) ls → AreNested Above ls → matrices (decls_from s ls) ≡ to_come m

heading : (m : Bool) (s : Scope) (n : ℕ) (l : Line) (ls : List Numbered) → ToMatrix ls → LeadsBehind (places.Heading m) (record { number = n; line = l } ∷ ls)
    → AreNested Above (record { number = n; line = l } ∷ ls) → matrices (decls_from s (record { number = n; line = l } ∷ ls)) ≡ to_come m
heading false s n (lines.Matrix name form) ls more led nested = omega (arith, more true (scope_behind s n (lines.Matrix name form)) led nested)
heading true s n (lines.Matrix name form) ls more led nested = absurd cc
heading false s n (lines.Index name size) ls more led nested = more false (scope_behind s n (lines.Index name size)) led nested
heading true s n (lines.Index name size) ls more led nested = more true (scope_behind s n (lines.Index name size)) led nested
heading false s n (lines.Vector name size source) ls more led nested = more false (scope_behind s n (lines.Vector name size source)) led nested
heading true s n (lines.Vector name size source) ls more led nested = more true (scope_behind s n (lines.Vector name size source)) led nested
heading false s n (lines.Local name) ls more led nested = more false (scope_behind s n (lines.Local name)) led nested
heading true s n (lines.Local name) ls more led nested = more true (scope_behind s n (lines.Local name)) led nested
heading false s n (lines.Prop prop) ls more led nested = more false s led nested
heading true s n (lines.Prop prop) ls more led nested = more true s led nested
heading false s n (lines.Loop name) ls more led nested = absurd cc
heading true s n (lines.Loop name) ls more led nested = ap matrices (nothing_inside (Within 0) (scope_behind s n (lines.Loop name)) ls tt nested).decls
heading m s n (lines.For name lo hi) ls more led nested = absurd cc
heading m s n (lines.When rel left right) ls more led nested = absurd cc
heading m s n (lines.Set array at value) ls more led nested = absurd cc
heading m s n (lines.Keep name value) ls more led nested = absurd cc
heading m s n lines.End ls more led nested = absurd cc

to_matrix : (ls : List Numbered) → ToMatrix ls
to_matrix [] m s led nested = absurd cc
to_matrix (l ∷ ls) m s led nested = heading m s l.number l.line ls (to_matrix ls) led nested

pub one_matrix : (ls : List (List ℕ)) (nest : Nest) → IsRead ls nest → count_by (λ d. is_matrix d.kind) nest.decls ≡ 1
one_matrix ls nest read =
    sym (length-filter (λ d. is_matrix d.kind) nest.decls)
    ∙ ap matrices read.of_text.decls
    ∙ to_matrix (numbered ls) false empty (leads_behind start 1 ls (passes_all ls read.accepted).fits) (fits ls read.accepted)
