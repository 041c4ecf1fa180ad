-- A nest writes the arrays that its text writes, and few references in it name them.
use Rattle.std.proofs.Common.{◌≡◌, ℕ, ◌+◌, ◌≤◌, Bool, true, false, ◌||◌, ◌==◌, cond, List, [], ◌∷◌, ◌++◌, map, length, None, refl, sym, ap, subst, ◌∙◌, append_assoc, arith}
use Rattle.std.specs.List.{filter, flat_map, list_any}
use Rattle.std.proofs.lemmas.List.{append-nil, map-append, length-append}
use Rattle.std.proofs.lemmas.List.Concat.{flat_map-append}
use Rattle.wave_base.specs.declared.types.ArrayId.{ArrayId}
use Rattle.loop_core.specs.declared.nest.Item.{Item}
use Rattle.loop_core.specs.declared.nest.Item.TheOpen.{Item-F}
use Rattle.loop_core.specs.declared.nest.Item.TheViews.{roll-Item}
use Rattle.loop_core.specs.declared.nest.Item.TheFolds.{ind-Item, fold-roll-Item, map-Item}
use Rattle.loop_core.specs.declared.nest.Nest.{Nest}
use Rattle.loop_core.specs.IsNest.{references_on}
use Rattle.loop_core.specs.Shape as shape
use Rattle.loop_core.specs.Shape.{Line as BodyLine, body_lines, expr_arrays, expr_arrays_step, targets_step, item_targets, body_targets, same_array, is_target}
use Rattle.loop_lines.specs.declared.line.Line.{Line}
use Rattle.loop_lines.specs.declared.line.Line.TheVariants as lines
use Rattle.loop_lines.specs.declared.tree.ArrayName.{ArrayName}
use Rattle.loop_lines.specs.declared.tree.NamedExpr.{NamedExpr}
use Rattle.loop_lines.specs.declared.tree.NamedExpr.TheOpen.{NamedExpr-F}
use Rattle.loop_lines.specs.declared.tree.NamedExpr.TheViews.{roll-NamedExpr}
use Rattle.loop_lines.specs.declared.tree.NamedExpr.TheFolds.{ind-NamedExpr, fold-roll-NamedExpr, map-NamedExpr}
use Rattle.loop_syntax.specs.declared.numbered.Numbered.{Numbered}
use Rattle.loop_syntax.specs.Numbered.{numbered}
use Rattle.loop_syntax.specs.Scope.{Scope, empty, scope_after, use_of}
use Rattle.loop_syntax.specs.Resolved.{mark, array_in, value_in, number_of}
use Rattle.loop_syntax.specs.Nesting.{Mark, Opens, Sets, Keeps, Ends, joined, marks_step, item_marks, marks}
use Rattle.loop_syntax.specs.Counts.{reads, reads_step, target, targets, is_written, references, first_passed, is_within}
use Rattle.loop_syntax.specs.Stages.{Above, AreNested}
use Rattle.loop_syntax.specs.TextNest.{gathered, IsNestOf, IsRead}
use Rattle.loop_syntax.proofs.FewLaws.{Below, keeps, limits_first, limits_of}
use Rattle.loop_syntax.proofs.ReadLaws.{passes_all, fits}
use Rattle.loop_laws.proofs.NestForms.{body_line, text_body}
use Rattle.loop_laws.proofs.NestBody.{body_is}
use Rattle.loop_laws.proofs.NestLayers.{value_layer, in_value, expr_layer}

-- the arrays that marks write
abbrev written_in : List Mark → List ArrayId
written_in [] = []
written_in (Opens line head ∷ ms) = written_in ms
written_in (Sets line array at value ∷ ms) = array ∷ written_in ms
written_in (Keeps line local value ∷ ms) = written_in ms
written_in (Ends ∷ ms) = written_in ms

-- ---- items write the arrays that their marks write

abbrev Writes : Item → Type 0
Writes item = (rest : List Mark) → written_in (item_marks item ++ rest) ≡ item_targets item ++ written_in rest

abbrev WritingItem : Type 0
WritingItem = (item : Item) × Writes item

abbrev marks_of : List WritingItem → List Mark
marks_of es = joined (map item_marks (map (λ e. e.0) es))

abbrev targets_of : List WritingItem → List ArrayId
targets_of es = body_targets (map (λ e. e.0) es)

items_write : (es : List WritingItem) (rest : List Mark) → written_in (marks_of es ++ rest) ≡ targets_of es ++ written_in rest
items_write [] rest = refl
items_write (e ∷ es) rest =
    ap written_in (append_assoc (item_marks e.0) (marks_of es) rest)
    ∙ e.1 (marks_of es ++ rest)
    ∙ ap (λ (l : List ArrayId). item_targets e.0 ++ l) (items_write es rest)
    ∙ sym (append_assoc (item_targets e.0) (targets_of es) (written_in rest))

-- the items of a block, up to its end
block_writes : (es : List WritingItem) (rest : List Mark) → written_in ((marks_of es ++ Ends ∷ []) ++ rest) ≡ targets_of es ++ written_in rest
block_writes es rest = ap written_in (append_assoc (marks_of es) (Ends ∷ []) rest) ∙ items_write es (Ends ∷ rest)

item_case : (y : Item-F WritingItem) → Writes (roll-Item (map-Item WritingItem Item (λ e. e.0) y))
item_case (Item-F.For line name lo hi body) rest =
    let x = Item-F.For line name lo hi (map (λ e. e.0) body) in
    ap (λ (l : List Mark). written_in (l ++ rest)) (fold-roll-Item (List Mark) marks_step x)
    ∙ block_writes body rest
    ∙ sym (ap (λ (l : List ArrayId). l ++ written_in rest) (fold-roll-Item (List ArrayId) targets_step x))
item_case (Item-F.When line rel left right body) rest =
    let x = Item-F.When line rel left right (map (λ e. e.0) body) in
    ap (λ (l : List Mark). written_in (l ++ rest)) (fold-roll-Item (List Mark) marks_step x)
    ∙ block_writes body rest
    ∙ sym (ap (λ (l : List ArrayId). l ++ written_in rest) (fold-roll-Item (List ArrayId) targets_step x))
item_case (Item-F.Set line array at value) rest =
    let x : Item-F Item = Item-F.Set line array at value in
    ap (λ (l : List Mark). written_in (l ++ rest)) (fold-roll-Item (List Mark) marks_step x)
    ∙ sym (ap (λ (l : List ArrayId). l ++ written_in rest) (fold-roll-Item (List ArrayId) targets_step x))
item_case (Item-F.Keep line local value) rest =
    let x : Item-F Item = Item-F.Keep line local value in
    ap (λ (l : List Mark). written_in (l ++ rest)) (fold-roll-Item (List Mark) marks_step x)
    ∙ sym (ap (λ (l : List ArrayId). l ++ written_in rest) (fold-roll-Item (List ArrayId) targets_step x))

item_writes : (item : Item) → Writes item
item_writes = ind-Item Writes (λ x y is. subst (λ z. Writes (roll-Item z)) is (item_case y))

body_writes : (items : List Item) (rest : List Mark) → written_in (marks items ++ rest) ≡ body_targets items ++ written_in rest
body_writes [] rest = refl
body_writes (i ∷ is) rest =
    ap written_in (append_assoc (item_marks i) (marks is) rest)
    ∙ item_writes i (marks is ++ rest)
    ∙ ap (λ (l : List ArrayId). item_targets i ++ l) (body_writes is rest)
    ∙ sym (append_assoc (item_targets i) (body_targets is) (written_in rest))

-- ---- the arrays that a text writes

abbrev numbers : List ArrayId → List ℕ
numbers arrays = map (λ a. a.0) arrays

abbrev given : Scope → List Numbered → List Mark
given s ls = gathered (λ s l. mark s l.number l.line) s ls

one_line : (s : Scope) (n : ℕ) (l : Line) (rest : List Mark) → numbers (written_in (mark s n l ++ rest)) ≡ target s l ++ numbers (written_in rest)
one_line s n (lines.Matrix name form) rest = refl
one_line s n (lines.Index name size) rest = refl
one_line s n (lines.Vector name size source) rest = refl
one_line s n (lines.Local name) rest = refl
one_line s n (lines.Prop prop) rest = refl
one_line s n (lines.Loop name) rest = refl
one_line s n (lines.For name lo hi) rest = refl
one_line s n (lines.When rel left right) rest = refl
one_line s n (lines.Set array at value) rest = refl
one_line s n (lines.Keep name value) rest = refl
one_line s n lines.End rest = refl

text_writes : (s : Scope) (ls : List Numbered) → numbers (written_in (given s ls)) ≡ targets s ls
text_writes s [] = refl
text_writes s (l ∷ ls) = one_line s l.number l.line (given (scope_after s l) ls) ∙ ap (λ (x : List ℕ). target s l.line ++ x) (text_writes (scope_after s l) ls)

pub targets_are : (ls : List Numbered) (nest : Nest) → AreNested Above ls → IsNestOf ls nest → map (λ a. a.0) (shape.targets nest) ≡ targets empty ls
targets_are ls nest nested of_text =
    ap numbers (sym (append-nil (shape.targets nest)) ∙ sym (body_writes nest.body (Ends ∷ [])) ∙ ap written_in of_text.body) ∙ text_writes empty ls

-- ---- an expression reads the arrays that it names

abbrev arrays_in : Scope → List ArrayName → List ArrayId
arrays_in s arrays = map (array_in s) arrays

abbrev Reads : Scope → NamedExpr → Type 0
Reads s e = expr_arrays (value_in s e) ≡ arrays_in s (reads e)

abbrev ReadingExpr : Scope → Type 0
ReadingExpr s = (e : NamedExpr) × Reads s e

-- one layer of it
layer : (s : Scope) (x : NamedExpr-F NamedExpr)
    → expr_arrays_step (value_layer s (map-NamedExpr NamedExpr (List ArrayId) (in_value expr_arrays_step s) x)) ≡ arrays_in s (reads_step (map-NamedExpr NamedExpr (List ArrayName) reads x))
    → Reads s (roll-NamedExpr x)
layer s x same = expr_layer expr_arrays_step s x ∙ same ∙ sym (ap (arrays_in s) (fold-roll-NamedExpr (List ArrayName) reads_step x))

expr_case : (s : Scope) (y : NamedExpr-F (ReadingExpr s)) → Reads s (roll-NamedExpr (map-NamedExpr (ReadingExpr s) NamedExpr (λ e. e.0) y))
expr_case s (NamedExpr-F.Lit value) = layer s (NamedExpr-F.Lit value) refl
expr_case s (NamedExpr-F.Read array at) = layer s (NamedExpr-F.Read array at) refl
expr_case s (NamedExpr-F.Local name) = layer s (NamedExpr-F.Local name) refl
expr_case s (NamedExpr-F.Op op left right) =
    let c = reads left.0 in
    let same = ap (λ (l : List ArrayId). l ++ expr_arrays (value_in s right.0)) left.1 ∙ ap (λ (l : List ArrayId). arrays_in s c ++ l) right.1 ∙ sym (map-append (array_in s) c (reads right.0)) in
    layer s (NamedExpr-F.Op op left.0 right.0) same

value_reads : (s : Scope) (e : NamedExpr) → Reads s e
value_reads s = ind-NamedExpr (Reads s) (λ x y is. subst (λ z. Reads s (roll-NamedExpr z)) is (expr_case s y))

-- the data arrays on a statement's line
statement_arrays : (s : Scope) (array : ArrayName) (value : NamedExpr) → expr_arrays (value_in s value) ++ array_in s array ∷ [] ≡ arrays_in s (reads value ++ array ∷ [])
statement_arrays s array value = ap (λ (l : List ArrayId). l ++ array_in s array ∷ []) (value_reads s value) ∙ sym (map-append (array_in s) (reads value) (array ∷ []))

-- ---- the references on a line, counted

one_more : {X Y : Type 0} (b : Bool) (x : X) (y : Y) (xs : List X) (ys : List Y) → length xs ≡ length ys → length (cond b (x ∷ xs) xs) ≡ length (cond b (y ∷ ys) ys)
one_more true x y xs ys same = omega (arith, same)
one_more false x y xs ys same = same

-- two tests that agree
as_many : {X Y : Type 0} (p : X → Bool) (q : Y → Bool) (f : Y → X) → ((y : Y) → p (f y) ≡ q y) → (ys : List Y) → length (filter p (map f ys)) ≡ length (filter q ys)
as_many p q f same [] = refl
as_many p q f same (y ∷ ys) =
    ap (λ (b : Bool). length (cond b (f y ∷ filter p (map f ys)) (filter p (map f ys)))) (same y)
    ∙ one_more (q y) (f y) y (filter p (map f ys)) (filter q ys) (as_many p q f same ys)

target_is : (array : ArrayId) (arrays : List ArrayId) → list_any (same_array array) arrays ≡ is_written (numbers arrays) array.0
target_is array [] = refl
target_is array (a ∷ as') = ap (λ (b : Bool). (array.0 == a.0) || b) (target_is array as')

-- the nest writes the arrays with these numbers
abbrev AreWritten : Nest → List ℕ → Type 0
AreWritten nest written = (array : ArrayId) → is_target nest array ≡ is_written written array.0

abbrev referred : Nest → List BodyLine → ℕ
referred nest ls = length (flat_map (references_on nest) ls)

abbrev numbered_line : ℕ → Line → Numbered
numbered_line n l = record { number = n; line = l }

line_refers : (nest : Nest) (written : List ℕ) → AreWritten nest written → (s : Scope) (n : ℕ) (l : Line) → referred nest (body_line s (numbered_line n l)) ≡ references written s l
line_refers nest written are s n (lines.Matrix name form) = refl
line_refers nest written are s n (lines.Index name size) = refl
line_refers nest written are s n (lines.Vector name size source) = refl
line_refers nest written are s n (lines.Local name) = refl
line_refers nest written are s n (lines.Prop prop) = refl
line_refers nest written are s n (lines.Loop name) = refl
line_refers nest written are s n (lines.For name lo hi) = refl
line_refers nest written are s n (lines.When rel left right) = refl
line_refers nest written are s n (lines.Set array at value) =
    ap length (append-nil (filter (is_target nest) (expr_arrays (value_in s value) ++ array_in s array ∷ [])))
    ∙ ap (λ (l : List ArrayId). length (filter (is_target nest) l)) (statement_arrays s array value)
    ∙ as_many (is_target nest) (λ a. is_written written (number_of (use_of s a))) (array_in s) (λ a. are (array_in s a)) (reads value ++ array ∷ [])
line_refers nest written are s n (lines.Keep name value) =
    ap length (append-nil (filter (is_target nest) (expr_arrays (value_in s value))))
    ∙ ap (λ (l : List ArrayId). length (filter (is_target nest) l)) (value_reads s value)
    ∙ as_many (is_target nest) (λ a. is_written written (number_of (use_of s a))) (array_in s) (λ a. are (array_in s a)) (reads value)
line_refers nest written are s n lines.End = refl

-- ---- few references

few_from : (nest : Nest) (written : List ℕ) → AreWritten nest written → (s : Scope) (count : ℕ) (ls : List Numbered) → count ≤ 16 → Below 401 ls
    → first_passed written s count (filter is_within ls) ≡ None → count + referred nest (gathered body_line s ls) ≤ 16
few_from nest written are s count [] few b e = omega (arith, few)
few_from nest written are s count (l ∷ ls) few b e =
    let behind = scope_after s l in
    let so_far = count + references written s l.line in
    let t = limits_first written s count l ls b.0 e in
    let k = keeps l.line behind so_far t.0 in
    let further = gathered body_line behind ls in
    let more : so_far + referred nest further ≤ 16 = few_from nest written are behind so_far ls k.references b.1 t.1 in
    let first = flat_map (references_on nest) (body_line s l) in
    let others = flat_map (references_on nest) further in
    let both : referred nest (body_line s l ++ further) ≡ length first + length others = ap length (flat_map-append (references_on nest) (body_line s l) further) ∙ length-append first others in
    let here : length first ≡ references written s l.line = line_refers nest written are s l.number l.line in
    omega (arith, more, both, here)

pub few_references : (ls : List (List ℕ)) (nest : Nest) → IsRead ls nest → length (flat_map (references_on nest) (body_lines nest)) ≤ 16
few_references ls nest read =
    let all = numbered ls in
    let nested = fits ls read.accepted in
    let written = targets empty all in
    let are : AreWritten nest written = λ array. target_is array (shape.targets nest) ∙ ap (λ (w : List ℕ). is_written w array.0) (targets_are all nest nested read.of_text) in
    let a = limits_of ls (passes_all ls read.accepted).limited in
    let few : 0 + referred nest (text_body all) ≤ 16 = few_from nest written are empty 0 all (omega arith) a.1 a.0 in
    subst (λ (b : List BodyLine). referred nest b ≤ 16) (sym (body_is all nest nested read.of_text)) (omega (arith, few))
