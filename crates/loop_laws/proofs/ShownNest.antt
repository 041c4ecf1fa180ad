-- The canonical text of a nest that was read is that of its lines.
use Rattle.std.proofs.Common.{◌≡◌, ℕ, zero, suc, ◌+◌, codes, List, [], ◌∷◌, ◌++◌, map, length, Option, Some, None, refl, sym, ap, subst, ◌∙◌, append_assoc}
use Rattle.loop_core.specs.declared.decl.Decl.{Decl}
use Rattle.loop_core.specs.declared.decl.DeclKind.TheVariants as kinds
use Rattle.loop_core.specs.declared.decl.LocalDecl.{LocalDecl}
use Rattle.loop_core.specs.declared.decl.PropDecl.{PropDecl}
use Rattle.loop_core.specs.declared.nest.Nest.{Nest}
use Rattle.loop_lines.specs.declared.line.Line.{Line}
use Rattle.loop_lines.specs.declared.line.Line.TheVariants as lines
use Rattle.loop_lines.specs.Fitting.{text_line}
use Rattle.loop_lines.specs.Shown.{shown_line}
use Rattle.loop_lines.proofs.ShownLaws.{showable}
use Rattle.loop_syntax.specs.declared.numbered.Numbered.{Numbered}
use Rattle.loop_syntax.specs.Numbered.{worded, before, numbered_from, numbered}
use Rattle.loop_syntax.specs.Scope.{Scope, empty, scope_behind, scope_after}
use Rattle.loop_syntax.specs.Resolved.{prop_in, outer}
use Rattle.loop_syntax.specs.Nesting.{Mark, Ends, marks}
use Rattle.loop_syntax.specs.Stages.{Stage, Above, Within, Behind, AreNested}
use Rattle.loop_syntax.specs.TextNest.{gathered, IsNestOf, IsRead}
use Rattle.loop_print.specs.PrintNames.{Block, Repeated}
use Rattle.loop_print.specs.PrintHeads.{decl_text, HeadLine, decl_line, local_line, prop_line, head_lines, heads_text}
use Rattle.loop_print.specs.PrintItems.{body_text}
use Rattle.loop_print.specs.PrintText.{nest_text}
use Rattle.loop_laws.specs.ShownText.{shown_lines, unlines}
use Rattle.loop_syntax.proofs.FewLaws.{rises}
use Rattle.loop_syntax.proofs.ReadLaws.{fits, faultless}
use Rattle.loop_laws.proofs.ShownNames.{decls_from, locals_from, named_first}
use Rattle.loop_laws.proofs.ShownProps.{newline, matrix_shows, index_shows, vector_shows, local_shows, prop_shows}
use Rattle.loop_laws.proofs.ShownHeads.{props_from, one_sooner, decls_rise, locals_rise, props_rise, decl_first, local_first, prop_first}
use Rattle.loop_laws.proofs.ShownMarks.{marks_text, body_walked}
use Rattle.loop_laws.proofs.ShownBody.{AreShowable, Reads, reads_fault, reads_names, reads_next, marks_from, IsInside, body_shown}

-- the outer loops that lines give from a scope on
abbrev outer_from : Scope → List Numbered → List (ℕ × List ℕ)
outer_from s ls = gathered (λ s l. outer l.number l.line) s ls

-- ---- inside the loop stand no declarations, no locals, no properties and no outer loop

record GiveNothing (s : Scope) (ls : List Numbered) : Type 0 where
  no_decls : decls_from s ls ≡ []
  no_locals : locals_from s ls ≡ []
  no_props : props_from s ls ≡ []
  no_outer : outer_from s ls ≡ []

abbrev Nothing : List Numbered → Type 0
Nothing ls = (stage : Stage) (s : Scope) → IsInside stage → AreNested stage ls → GiveNothing s ls

-- a line that gives none of them
record Same (s : Scope) (l : Numbered) (ls : List Numbered) : Type 0 where
  decls : decls_from s (l ∷ ls) ≡ decls_from (scope_after s l) ls
  locals : locals_from s (l ∷ ls) ≡ locals_from (scope_after s l) ls
  props : props_from s (l ∷ ls) ≡ props_from (scope_after s l) ls
  loops : outer_from s (l ∷ ls) ≡ outer_from (scope_after s l) ls

same : (s : Scope) (l : Numbered) (ls : List Numbered) → Same s l ls → GiveNothing (scope_after s l) ls → GiveNothing s (l ∷ ls)
same s l ls is h = record { no_decls = is.decls ∙ h.no_decls; no_locals = is.locals ∙ h.no_locals; no_props = is.props ∙ h.no_props; no_outer = is.loops ∙ h.no_outer }

nothing_within : (k : ℕ) (s : Scope) (n : ℕ) (l : Line) (ls : List Numbered) → Nothing ls → AreNested (Within k) (record { number = n; line = l } ∷ ls) → GiveNothing s (record { number = n; line = l } ∷ ls)
nothing_within k s n (lines.Matrix name form) ls more nested = absurd cc
nothing_within k s n (lines.Index name size) ls more nested = absurd cc
nothing_within k s n (lines.Vector name size source) ls more nested = absurd cc
nothing_within k s n (lines.Local name) ls more nested = absurd cc
nothing_within k s n (lines.Prop prop) ls more nested = absurd cc
nothing_within k s n (lines.Loop name) ls more nested = absurd cc
nothing_within k s n (lines.For name lo hi) ls more nested =
    let l : Numbered = record { number = n; line = lines.For name lo hi } in
    same s l ls (record { decls = refl; locals = refl; props = refl; loops = refl }) (more (Within (k + 1)) (scope_after s l) tt nested)
nothing_within k s n (lines.When rel left right) ls more nested =
    let l : Numbered = record { number = n; line = lines.When rel left right } in
    same s l ls (record { decls = refl; locals = refl; props = refl; loops = refl }) (more (Within (k + 1)) (scope_after s l) tt nested)
nothing_within k s n (lines.Set array at value) ls more nested =
    let l : Numbered = record { number = n; line = lines.Set array at value } in
    same s l ls (record { decls = refl; locals = refl; props = refl; loops = refl }) (more (Within k) s tt nested)
nothing_within k s n (lines.Keep name value) ls more nested =
    let l : Numbered = record { number = n; line = lines.Keep name value } in
    same s l ls (record { decls = refl; locals = refl; props = refl; loops = refl }) (more (Within k) s tt nested)
nothing_within zero s n lines.End ls more nested =
    let l : Numbered = record { number = n; line = lines.End } in
    same s l ls (record { decls = refl; locals = refl; props = refl; loops = refl }) (more Behind (scope_after s l) tt nested)
nothing_within (suc k) s n lines.End ls more nested =
    let l : Numbered = record { number = n; line = lines.End } in
    same s l ls (record { decls = refl; locals = refl; props = refl; loops = refl }) (more (Within k) (scope_after s l) tt nested)

nothing : (ls : List Numbered) → Nothing ls
nothing [] stage s is nested = record { no_decls = refl; no_locals = refl; no_props = refl; no_outer = refl }
nothing (l ∷ ls) Above s is nested = absurd is
nothing (l ∷ ls) (Within k) s is nested = nothing_within k s l.number l.line ls (nothing ls) nested
nothing (l ∷ ls) Behind s is nested = absurd cc

-- ---- the parts of a text

abbrev loop_text : List (ℕ × List ℕ) → List ℕ
loop_text [] = []
loop_text (o ∷ os) = codes "loop " ++ o.1 ++ newline

abbrev loop_block : List (ℕ × List ℕ) → List Block
loop_block [] = []
loop_block (o ∷ os) = Repeated o.0 o.1 ∷ []

-- the lines above the loop, the loop's line and the loop's other lines
abbrev parts_text : List Decl → List LocalDecl → List HeadLine → List (ℕ × List ℕ) → List Mark → List ℕ
parts_text all kept heads loops ms = heads_text heads ++ (loop_text loops ++ marks_text all kept (loop_block loops) ms)

-- a line's text before what is after it
put : (heads more rest text shown behind : List ℕ) → heads ≡ text ++ more → text ≡ shown ++ newline → more ++ rest ≡ behind → heads ++ rest ≡ shown ++ 10 ∷ behind
put heads more rest text shown behind e f g =
    ap (λ (l : List ℕ). l ++ rest) e ∙ append_assoc text more rest ∙ ap (λ (l : List ℕ). l ++ (more ++ rest)) f ∙ append_assoc shown newline (more ++ rest) ∙ ap (λ (l : List ℕ). shown ++ 10 ∷ l) g

module _ (all : List Decl) (kept : List LocalDecl) where
  abbrev heads_from : Scope → List Numbered → List HeadLine
  heads_from s ls = head_lines all (decls_from s ls) (locals_from s ls) (props_from s ls)

  abbrev text_from : Scope → List Numbered → List ℕ
  text_from s ls = parts_text all kept (heads_from s ls) (outer_from s ls) (marks_from s ls)

  abbrev AreShown : Scope → List Numbered → Type 0
  AreShown s ls = text_from s ls ≡ unlines (shown_lines 0 ls)

  abbrev rest_from : Scope → List Numbered → List ℕ
  rest_from s ls = loop_text (outer_from s ls) ++ marks_text all kept (loop_block (outer_from s ls)) (marks_from s ls)

  -- a line above the loop, and the lines after it
  head_shown : (s : Scope) (h : HeadLine) (heads : List HeadLine) (shown : List ℕ) (ls : List Numbered) → heads ≡ h ∷ heads_from s ls → h.text ≡ shown ++ newline → AreShown s ls
      → parts_text all kept heads (outer_from s ls) (marks_from s ls) ≡ shown ++ 10 ∷ unlines (shown_lines 0 ls)
  head_shown s h heads shown ls is text more =
      put (heads_text heads) (heads_text (heads_from s ls)) (rest_from s ls) h.text shown (unlines (shown_lines 0 ls)) (ap heads_text is) text more

  -- a declaration, and the lines after it
  declared_shown : (s : Scope) (d : Decl) (shown : List ℕ) (ls : List Numbered) → Reads all kept s (d.line + 1) ls → decl_text d.name d.kind ≡ shown ++ newline → AreShown s ls
      → parts_text all kept (head_lines all (d ∷ decls_from s ls) (locals_from s ls) (props_from s ls)) (outer_from s ls) (marks_from s ls) ≡ shown ++ 10 ∷ unlines (shown_lines 0 ls)
  declared_shown s d shown ls h e more =
      let locals = one_sooner d.line (map local_line (locals_from s ls)) (locals_rise (d.line + 1) s ls h.rise) in
      let props = one_sooner d.line (map (prop_line all) (props_from s ls)) (props_rise all (d.line + 1) s ls h.rise) in
      head_shown s (decl_line d) (head_lines all (d ∷ decls_from s ls) (locals_from s ls) (props_from s ls)) shown ls (decl_first all d (decls_from s ls) (locals_from s ls) (props_from s ls) locals props) e more

  -- the loop's line, and the lines after it
  loop_shown : (s : Scope) (n m : ℕ) (name : List ℕ) (ls : List Numbered) → s.blocks ≡ [] → AreNested (Within 0) ls → Reads all kept (scope_behind s n (lines.Loop name)) m ls → AreShown s (record { number = n; line = lines.Loop name } ∷ ls)
  loop_shown s n m name ls outside nested h =
      let t = scope_behind s n (lines.Loop name) in
      let given = nothing ls (Within 0) t tt nested in
      let ms = marks_from t ls in
      let body : marks_text all kept (Repeated n name ∷ s.blocks) ms ≡ unlines (shown_lines (length (Repeated n name ∷ s.blocks)) ls) = body_shown all kept ls (Within 0) t m tt nested h in
      let inner : marks_text all kept (Repeated n name ∷ []) ms ≡ unlines (shown_lines 1 ls) = subst (λ (bs : List Block). marks_text all kept (Repeated n name ∷ bs) ms ≡ unlines (shown_lines (length (Repeated n name ∷ bs)) ls)) outside body in
      ap (λ (ds : List Decl). parts_text all kept (head_lines all ds (locals_from t ls) (props_from t ls)) ((n, name) ∷ outer_from t ls) ms) given.no_decls
      ∙ ap (λ (own : List LocalDecl). parts_text all kept (head_lines all [] own (props_from t ls)) ((n, name) ∷ outer_from t ls) ms) given.no_locals
      ∙ ap (λ (ps : List PropDecl). parts_text all kept (head_lines all [] [] ps) ((n, name) ∷ outer_from t ls) ms) given.no_props
      ∙ append_assoc (codes "loop " ++ name) newline (marks_text all kept (Repeated n name ∷ []) ms)
      ∙ ap (λ (l : List ℕ). (codes "loop " ++ name) ++ 10 ∷ l) inner

  abbrev Goal : List Numbered → Type 0
  Goal ls = (s : Scope) (m : ℕ) → s.blocks ≡ [] → AreNested Above ls → Reads all kept s m ls → AreShown s ls

  above : (s : Scope) (n m : ℕ) (l : Line) (ls : List Numbered) → Goal ls → s.blocks ≡ [] → AreNested Above (record { number = n; line = l } ∷ ls) → Reads all kept s m (record { number = n; line = l } ∷ ls) → AreShown s (record { number = n; line = l } ∷ ls)
  above s n m (lines.Matrix name form) ls more outside nested h =
      let l : Numbered = record { number = n; line = lines.Matrix name form } in
      let d : Decl = record { line = n; name = name; kind = kinds.Matrix form } in
      let next = reads_next all kept s m l ls h in
      declared_shown (scope_after s l) d (shown_line l.line) ls next (matrix_shows name form) (more (scope_after s l) (n + 1) outside nested next)
  above s n m (lines.Index name size) ls more outside nested h =
      let l : Numbered = record { number = n; line = lines.Index name size } in
      let d : Decl = record { line = n; name = name; kind = kinds.Index size } in
      let next = reads_next all kept s m l ls h in
      declared_shown (scope_after s l) d (shown_line l.line) ls next (index_shows name size) (more (scope_after s l) (n + 1) outside nested next)
  above s n m (lines.Vector name size source) ls more outside nested h =
      let l : Numbered = record { number = n; line = lines.Vector name size source } in
      let d : Decl = record { line = n; name = name; kind = kinds.Vector size source } in
      let next = reads_next all kept s m l ls h in
      declared_shown (scope_after s l) d (shown_line l.line) ls next (vector_shows name size source) (more (scope_after s l) (n + 1) outside nested next)
  above s n m (lines.Local name) ls more outside nested h =
      let l : Numbered = record { number = n; line = lines.Local name } in
      let t = scope_after s l in
      let own : LocalDecl = record { line = n; name = name } in
      let next = reads_next all kept s m l ls h in
      let props = one_sooner n (map (prop_line all) (props_from t ls)) (props_rise all (n + 1) t ls next.rise) in
      head_shown t (local_line own) (head_lines all (decls_from t ls) (own ∷ locals_from t ls) (props_from t ls)) (shown_line l.line) ls
      (local_first all own (decls_from t ls) (locals_from t ls) (props_from t ls) (decls_rise (n + 1) t ls next.rise) props) (local_shows own) (more t (n + 1) outside nested next)
  above s n m (lines.Prop prop) ls more outside nested h =
      let l : Numbered = record { number = n; line = lines.Prop prop } in
      let p : PropDecl = record { line = n; kind = prop_in s prop } in
      let next = reads_next all kept s m l ls h in
      let text = prop_shows all kept s (reads_names all kept s m (l ∷ ls) h) prop outside h.showable.0 (reads_fault all kept s m l ls h) in
      head_shown s (prop_line all p) (head_lines all (decls_from s ls) (locals_from s ls) (p ∷ props_from s ls)) (shown_line l.line) ls
      (prop_first all p (decls_from s ls) (locals_from s ls) (props_from s ls) (decls_rise (n + 1) s ls next.rise) (locals_rise (n + 1) s ls next.rise)) text (more s (n + 1) outside nested next)
  above s n m (lines.Loop name) ls more outside nested h =
      let l : Numbered = record { number = n; line = lines.Loop name } in
      loop_shown s n (n + 1) name ls outside nested (reads_next all kept s m l ls h)
  above s n m (lines.For name lo hi) ls more outside nested h = absurd cc
  above s n m (lines.When rel left right) ls more outside nested h = absurd cc
  above s n m (lines.Set array at value) ls more outside nested h = absurd cc
  above s n m (lines.Keep name value) ls more outside nested h = absurd cc
  above s n m lines.End ls more outside nested h = absurd cc

  all_shown : (ls : List Numbered) → Goal ls
  all_shown [] s m outside nested h = absurd cc
  all_shown (l ∷ ls) s m outside nested h = above s l.number m l.line ls (all_shown ls) outside nested h

-- ---- a nest that was read

showable_before : (n : ℕ) (text : List ℕ) (o : Option (Option Line)) (ls : List Numbered) → text_line text ≡ o → AreShowable ls → AreShowable (before n (worded o) ls)
showable_before n text None ls e h = h
showable_before n text (Some None) ls e h = h
showable_before n text (Some (Some l)) ls e h = (showable text l e, h)

are_showable : (n : ℕ) (ls : List (List ℕ)) → AreShowable (numbered_from n ls)
are_showable n [] = tt
are_showable n (l ∷ ls) = showable_before n l (text_line l) (numbered_from (n + 1) ls) refl (are_showable (n + 1) ls)

-- a nest's text by its parts
abbrev nest_heads : Nest → List HeadLine
nest_heads nest = head_lines nest.decls nest.decls nest.locals nest.props

by_parts : (nest : Nest) → nest_text nest ≡ parts_text nest.decls nest.locals (nest_heads nest) ((nest.line, nest.name) ∷ []) (marks nest.body ++ Ends ∷ [])
by_parts nest =
    let heads = heads_text (nest_heads nest) in
    let block : List Block = Repeated nest.line nest.name ∷ [] in
    let body = body_text nest.decls nest.locals nest.body block in
    let walked : marks_text nest.decls nest.locals block (marks nest.body ++ Ends ∷ []) ≡ body ++ codes "end\n" = body_walked nest.decls nest.locals nest.body block (Ends ∷ []) in
    let left : nest_text nest ≡ heads ++ ((codes "loop " ++ nest.name ++ newline) ++ (body ++ codes "end\n")) = simp append_assoc in
    left ∙ ap (λ (t : List ℕ). heads ++ ((codes "loop " ++ nest.name ++ newline) ++ t)) (sym walked)

same_parts : (ls : List Numbered) (nest : Nest) → IsNestOf ls nest
    → parts_text nest.decls nest.locals (nest_heads nest) ((nest.line, nest.name) ∷ []) (marks nest.body ++ Ends ∷ []) ≡ text_from (decls_from empty ls) (locals_from empty ls) empty ls
same_parts ls nest is =
    let all = decls_from empty ls in
    let kept = locals_from empty ls in
    let ms = marks nest.body ++ Ends ∷ [] in
    ap (λ (ds : List Decl). parts_text ds nest.locals (head_lines ds ds nest.locals nest.props) ((nest.line, nest.name) ∷ []) ms) is.decls
    ∙ ap (λ (own : List LocalDecl). parts_text all own (head_lines all all own nest.props) ((nest.line, nest.name) ∷ []) ms) is.locals
    ∙ ap (λ (ps : List PropDecl). parts_text all kept (head_lines all all kept ps) ((nest.line, nest.name) ∷ []) ms) is.props
    ∙ ap (λ (os : List (ℕ × List ℕ)). parts_text all kept (heads_from all kept empty ls) os ms) (sym is.loop)
    ∙ ap (λ (m : List Mark). parts_text all kept (heads_from all kept empty ls) (outer_from empty ls) m) is.body

pub nest_text_is_shown : (ls : List (List ℕ)) (nest : Nest) → IsRead ls nest → nest_text nest ≡ unlines (shown_lines 0 (numbered ls))
nest_text_is_shown ls nest h =
    let all = decls_from empty (numbered ls) in
    let kept = locals_from empty (numbered ls) in
    let reads : Reads all kept empty 1 (numbered ls) = record { fine = faultless ls h.accepted; rise = rises 1 ls; named = named_first (numbered ls); fall = tt; showable = are_showable 1 ls } in
    by_parts nest ∙ same_parts (numbered ls) nest h.of_text ∙ all_shown all kept (numbered ls) empty 1 refl (fits ls h.accepted) reads
