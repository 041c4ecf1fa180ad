-- The names of a nest of a text consist of letters, digits and `_`.
use Rattle.std.proofs.Common.{◌≡◌, ℕ, ◌+◌, Bool, true, List, [], ◌∷◌, ◌++◌, map, Option, Some, None, refl, sym, ap, subst, ◌∙◌, append_assoc}
use Rattle.std.proofs.lemmas.List.{append-nil}
use Rattle.std.specs.List.{list_all, flat_map}
use Rattle.std.proofs.lemmas.List.Folds.{list_all-append}
use Rattle.loop_core.specs.declared.decl.Decl.{Decl}
use Rattle.loop_core.specs.declared.decl.LocalDecl.{LocalDecl}
use Rattle.loop_core.specs.declared.nest.Item.{Item}
use Rattle.loop_core.specs.declared.nest.Item.TheOpen.{Item-F}
use Rattle.loop_core.specs.declared.nest.Item.TheViews.{roll-Item}
use Rattle.loop_core.specs.declared.nest.Item.TheFolds.{ind-Item, fold-roll-Item, map-Item}
use Rattle.loop_core.specs.declared.nest.Nest.{Nest}
use Rattle.loop_core.specs.IsNest.{declared_names}
use Rattle.loop_core.specs.Shape.{Loop, Line as BodyLine, lines_of_all, lines_step, item_lines, body_lines, line_names}
use Rattle.loop_lines.specs.declared.line.Line.{Line}
use Rattle.loop_lines.specs.declared.line.Line.TheVariants as lines
use Rattle.loop_lines.specs.Fitting.{text_line}
use Rattle.loop_lines.specs.Plain.{is_plain, IsPlainLine, HasNames}
use Rattle.loop_lines.proofs.PlainLaws.{worded_plain}
use Rattle.loop_syntax.specs.declared.items.Head.TheVariants as heads
use Rattle.loop_syntax.specs.declared.numbered.Numbered.{Numbered}
use Rattle.loop_syntax.specs.Numbered.{worded, before, numbered_from, numbered}
use Rattle.loop_syntax.specs.Scope.{Scope, empty, scope_after}
use Rattle.loop_syntax.specs.Nesting.{Mark, Opens, Sets, Keeps, Ends, joined, marks_step, item_marks, marks}
use Rattle.loop_syntax.specs.Resolved.{declaration, local, mark, outer}
use Rattle.loop_syntax.specs.TextNest.{gathered, IsNestOf}
use Rattle.loop_lines.proofs.Bools.{and_left, and_both}

abbrev ArePlain : List Numbered → Type 0
ArePlain [] = Unit {0}
ArePlain (l ∷ ls) = IsPlainLine l.line × ArePlain ls

before_plain : (n : ℕ) (line : List ℕ) (o : Option (Option Line)) (ls : List Numbered) → text_line line ≡ o → ArePlain ls → ArePlain (before n (worded o) ls)
before_plain n line None ls e h = h
before_plain n line (Some None) ls e h = h
before_plain n line (Some (Some l)) ls e h = (worded_plain line l e, h)

lines_plain : (n : ℕ) (ls : List (List ℕ)) → ArePlain (numbered_from n ls)
lines_plain n [] = tt
lines_plain n (l ∷ ls) = before_plain n l (text_line l) (numbered_from (n + 1) ls) refl (lines_plain (n + 1) ls)

-- ---- declared names

abbrev all_plain : List (List ℕ) → Bool
all_plain names = list_all is_plain names

abbrev names_of : List Decl → List (List ℕ)
names_of decls = map (λ d. d.name) decls

one_declared : (n : ℕ) (l : Line) (rest : List Decl) → IsPlainLine l → all_plain (names_of rest) ≡ true → all_plain (names_of (declaration n l ++ rest)) ≡ true
one_declared n (lines.Matrix name form) rest p h = and_both (is_plain name) (all_plain (names_of rest)) p h
one_declared n (lines.Index name size) rest p h = and_both (is_plain name) (all_plain (names_of rest)) p h
one_declared n (lines.Vector name size source) rest p h = and_both (is_plain name) (all_plain (names_of rest)) p h
one_declared n (lines.Local name) rest p h = h
one_declared n (lines.Prop prop) rest p h = h
one_declared n (lines.Loop name) rest p h = h
one_declared n (lines.For name lo hi) rest p h = h
one_declared n (lines.When rel left right) rest p h = h
one_declared n (lines.Set array at value) rest p h = h
one_declared n (lines.Keep name value) rest p h = h
one_declared n lines.End rest p h = h

declared_plain : (s : Scope) (ls : List Numbered) → ArePlain ls → all_plain (names_of (gathered (λ s l. declaration l.number l.line) s ls)) ≡ true
declared_plain s [] h = refl
declared_plain s (l ∷ ls) (p, h) = one_declared l.number l.line (gathered (λ s l. declaration l.number l.line) (scope_after s l) ls) p (declared_plain (scope_after s l) ls h)

-- ---- locals

abbrev local_names : List LocalDecl → List (List ℕ)
local_names locals = map (λ l. l.name) locals

one_local : (n : ℕ) (l : Line) (rest : List LocalDecl) → IsPlainLine l → all_plain (local_names rest) ≡ true → all_plain (local_names (local n l ++ rest)) ≡ true
one_local n (lines.Local name) rest p h = and_both (is_plain name) (all_plain (local_names rest)) p h
one_local n (lines.Matrix name form) rest p h = h
one_local n (lines.Index name size) rest p h = h
one_local n (lines.Vector name size source) rest p h = h
one_local n (lines.Prop prop) rest p h = h
one_local n (lines.Loop name) rest p h = h
one_local n (lines.For name lo hi) rest p h = h
one_local n (lines.When rel left right) rest p h = h
one_local n (lines.Set array at value) rest p h = h
one_local n (lines.Keep name value) rest p h = h
one_local n lines.End rest p h = h

locals_plain : (s : Scope) (ls : List Numbered) → ArePlain ls → all_plain (local_names (gathered (λ s l. local l.number l.line) s ls)) ≡ true
locals_plain s [] h = refl
locals_plain s (l ∷ ls) (p, h) = one_local l.number l.line (gathered (λ s l. local l.number l.line) (scope_after s l) ls) p (locals_plain (scope_after s l) ls h)

-- ---- the outer loop's variable

abbrev outer_names : List (ℕ × List ℕ) → List (List ℕ)
outer_names loops = map (λ o. o.1) loops

one_outer : (n : ℕ) (l : Line) (rest : List (ℕ × List ℕ)) → IsPlainLine l → all_plain (outer_names rest) ≡ true → all_plain (outer_names (outer n l ++ rest)) ≡ true
one_outer n (lines.Loop name) rest p h = and_both (is_plain name) (all_plain (outer_names rest)) p h
one_outer n (lines.Matrix name form) rest p h = h
one_outer n (lines.Index name size) rest p h = h
one_outer n (lines.Vector name size source) rest p h = h
one_outer n (lines.Local name) rest p h = h
one_outer n (lines.Prop prop) rest p h = h
one_outer n (lines.For name lo hi) rest p h = h
one_outer n (lines.When rel left right) rest p h = h
one_outer n (lines.Set array at value) rest p h = h
one_outer n (lines.Keep name value) rest p h = h
one_outer n lines.End rest p h = h

outer_plain : (s : Scope) (ls : List Numbered) → ArePlain ls → all_plain (outer_names (gathered (λ s l. outer l.number l.line) s ls)) ≡ true
outer_plain s [] h = refl
outer_plain s (l ∷ ls) (p, h) = one_outer l.number l.line (gathered (λ s l. outer l.number l.line) (scope_after s l) ls) p (outer_plain (scope_after s l) ls h)

-- ---- the inner loops' variables

abbrev mark_names : List Mark → List (List ℕ)
mark_names [] = []
mark_names (Opens line (heads.For name lo hi) ∷ ms) = name ∷ mark_names ms
mark_names (Opens line (heads.When rel left right) ∷ ms) = mark_names ms
mark_names (Sets line array at value ∷ ms) = mark_names ms
mark_names (Keeps line local value ∷ ms) = mark_names ms
mark_names (Ends ∷ ms) = mark_names ms

one_mark : (s : Scope) (n : ℕ) (l : Line) (rest : List Mark) → IsPlainLine l → all_plain (mark_names rest) ≡ true → all_plain (mark_names (mark s n l ++ rest)) ≡ true
one_mark s n (lines.For name lo hi) rest p h = and_both (is_plain name) (all_plain (mark_names rest)) p h
one_mark s n (lines.Matrix name form) rest p h = h
one_mark s n (lines.Index name size) rest p h = h
one_mark s n (lines.Vector name size source) rest p h = h
one_mark s n (lines.Local name) rest p h = h
one_mark s n (lines.Prop prop) rest p h = h
one_mark s n (lines.Loop name) rest p h = h
one_mark s n (lines.When rel left right) rest p h = h
one_mark s n (lines.Set array at value) rest p h = h
one_mark s n (lines.Keep name value) rest p h = h
one_mark s n lines.End rest p h = h

marks_plain : (s : Scope) (ls : List Numbered) → ArePlain ls → all_plain (mark_names (gathered (λ s l. mark s l.number l.line) s ls)) ≡ true
marks_plain s [] h = refl
marks_plain s (l ∷ ls) (p, h) = one_mark s l.number l.line (gathered (λ s l. mark s l.number l.line) (scope_after s l) ls) p (marks_plain (scope_after s l) ls h)

mark_names_append : (xs ys : List Mark) → mark_names (xs ++ ys) ≡ mark_names xs ++ mark_names ys
mark_names_append [] ys = refl
mark_names_append (Opens line (heads.For name lo hi) ∷ xs) ys = ap (λ (l : List (List ℕ)). name ∷ l) (mark_names_append xs ys)
mark_names_append (Opens line (heads.When rel left right) ∷ xs) ys = mark_names_append xs ys
mark_names_append (Sets line array at value ∷ xs) ys = mark_names_append xs ys
mark_names_append (Keeps line local value ∷ xs) ys = mark_names_append xs ys
mark_names_append (Ends ∷ xs) ys = mark_names_append xs ys

abbrev names_on : List BodyLine → List (List ℕ)
names_on ls = flat_map (λ l. line_names l.form) ls

names_on_append : (xs ys : List BodyLine) → names_on (xs ++ ys) ≡ names_on xs ++ names_on ys
names_on_append [] ys = refl
names_on_append (x ∷ xs) ys = ap (λ (l : List (List ℕ)). line_names x.form ++ l) (names_on_append xs ys) ∙ sym (append_assoc (line_names x.form) (names_on xs) (names_on ys))

abbrev AreNames : Item → Type 0
AreNames item = (around : List Loop) → names_on (item_lines item around) ≡ mark_names (item_marks item)

abbrev NamedItem : Type 0
NamedItem = (item : Item) × AreNames item

items_names : (es : List NamedItem) (around : List Loop) → names_on (lines_of_all (map item_lines (map (λ e. e.0) es)) around) ≡ mark_names (joined (map item_marks (map (λ e. e.0) es)))
items_names [] around = refl
items_names (e ∷ es) around =
    let more = lines_of_all (map item_lines (map (λ x. x.0) es)) around in
    let rest = joined (map item_marks (map (λ x. x.0) es)) in
    names_on_append (item_lines e.0 around) more ∙ ap (λ (l : List (List ℕ)). l ++ names_on more) (e.1 around) ∙ ap (λ (l : List (List ℕ)). mark_names (item_marks e.0) ++ l) (items_names es around) ∙ sym (mark_names_append (item_marks e.0) rest)

ended_names : (ms : List Mark) → mark_names (ms ++ Ends ∷ []) ≡ mark_names ms
ended_names ms = mark_names_append ms (Ends ∷ []) ∙ append-nil (mark_names ms)

item_case : (y : Item-F NamedItem) → AreNames (roll-Item (map-Item NamedItem Item (λ e. e.0) y))
item_case (Item-F.For line name lo hi body) around =
    let x = Item-F.For line name lo hi (map (λ e. e.0) body) in
    let a = ap (λ (f : List Loop → List BodyLine). names_on (f around)) (fold-roll-Item (List Loop → List BodyLine) lines_step x) in
    let b = ap mark_names (fold-roll-Item (List Mark) marks_step x) in
    let inner = joined (map item_marks (map (λ e. e.0) body)) in
    a ∙ ap (λ (l : List (List ℕ)). name ∷ l) (items_names body (record { line = line; name = name } ∷ around) ∙ sym (ended_names inner)) ∙ sym b
item_case (Item-F.When line rel left right body) around =
    let x = Item-F.When line rel left right (map (λ e. e.0) body) in
    let a = ap (λ (f : List Loop → List BodyLine). names_on (f around)) (fold-roll-Item (List Loop → List BodyLine) lines_step x) in
    let b = ap mark_names (fold-roll-Item (List Mark) marks_step x) in
    let inner = joined (map item_marks (map (λ e. e.0) body)) in
    a ∙ items_names body around ∙ sym (ended_names inner) ∙ sym b
item_case (Item-F.Set line array at value) around =
    let x : Item-F Item = Item-F.Set line array at value in
    ap (λ (f : List Loop → List BodyLine). names_on (f around)) (fold-roll-Item (List Loop → List BodyLine) lines_step x) ∙ sym (ap mark_names (fold-roll-Item (List Mark) marks_step x))
item_case (Item-F.Keep line local value) around =
    let x : Item-F Item = Item-F.Keep line local value in
    ap (λ (f : List Loop → List BodyLine). names_on (f around)) (fold-roll-Item (List Loop → List BodyLine) lines_step x) ∙ sym (ap mark_names (fold-roll-Item (List Mark) marks_step x))

item_names : (item : Item) → AreNames item
item_names = ind-Item AreNames (λ x y is. subst (λ z. AreNames (roll-Item z)) is (item_case y))

body_names : (items : List Item) (around : List Loop) → names_on (lines_of_all (map item_lines items) around) ≡ mark_names (marks items)
body_names [] around = refl
body_names (i ∷ is) around =
    let more = lines_of_all (map item_lines is) around in
    names_on_append (item_lines i around) more ∙ ap (λ (l : List (List ℕ)). l ++ names_on more) (item_names i around) ∙ ap (λ (l : List (List ℕ)). mark_names (item_marks i) ++ l) (body_names is around) ∙ sym (mark_names_append (item_marks i) (marks is))

-- ---- all names of a nest

pub has_names : (ls : List (List ℕ)) (nest : Nest) → IsNestOf (numbered ls) nest → HasNames nest
has_names ls nest of_text =
    let plain = lines_plain 1 ls in
    let arrays : all_plain (names_of nest.decls) ≡ true = ap (λ (ds : List Decl). all_plain (names_of ds)) of_text.decls ∙ declared_plain empty (numbered ls) plain in
    let locals : all_plain (local_names nest.locals) ≡ true = ap (λ (ks : List LocalDecl). all_plain (local_names ks)) of_text.locals ∙ locals_plain empty (numbered ls) plain in
    let decls : all_plain (declared_names nest) ≡ true = list_all-append is_plain (names_of nest.decls) (local_names nest.locals) ∙ and_both (all_plain (names_of nest.decls)) (all_plain (local_names nest.locals)) arrays locals in
    let loops : all_plain (outer_names ((nest.line, nest.name) ∷ [])) ≡ true = ap (λ (os : List (ℕ × List ℕ)). all_plain (outer_names os)) (sym of_text.loop) ∙ outer_plain empty (numbered ls) plain in
    let name : is_plain nest.name ≡ true = and_left (is_plain nest.name) true loops in
    let all : all_plain (mark_names (marks nest.body ++ Ends ∷ [])) ≡ true = ap (λ (ms : List Mark). all_plain (mark_names ms)) of_text.body ∙ marks_plain empty (numbered ls) plain in
    let inner : all_plain (names_on (body_lines nest)) ≡ true = ap all_plain (body_names nest.body (record { line = nest.line; name = nest.name } ∷ []) ∙ sym (ended_names (marks nest.body))) ∙ all in
    record { names = list_all-append is_plain (declared_names nest) (nest.name ∷ names_on (body_lines nest)) ∙ and_both (all_plain (declared_names nest)) (all_plain (nest.name ∷ names_on (body_lines nest))) decls (and_both (is_plain nest.name) (all_plain (names_on (body_lines nest))) name inner) }
