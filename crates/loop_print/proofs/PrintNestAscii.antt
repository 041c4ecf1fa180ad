-- The text of a nest is ASCII, and so it is UTF-8.
use Rattle.std.proofs.Common.{◌≡◌, ℕ, true, false, ◌&&◌, ◌==◌, if◌then◌else◌, List, [], ◌∷◌, ◌++◌, refl, sym, ap, subst, ◌∙◌, map, codes, arith}
use Rattle.std.specs.List.{list_all, flat_map}
use Rattle.std.specs.Str.{IsUtf8}
use Rattle.std.proofs.lemmas.Str.{IsUtf8-from_ascii}
use Rattle.std.proofs.lemmas.List.Folds.{list_all-append}
use Rattle.std.proofs.lemmas.Grind.{common_steps}
use Rattle.wave_base.specs.declared.types.ArrayId.{ArrayId}
use Rattle.loop_core.specs.declared.decl.Decl.{Decl}
use Rattle.loop_core.specs.declared.decl.LocalDecl.{LocalDecl}
use Rattle.loop_core.specs.declared.nest.Rel.{Rel}
use Rattle.loop_core.specs.declared.nest.Rel.TheVariants.{Equal, Less, LessEqual}
use Rattle.loop_core.specs.declared.nest.Term.{Term}
use Rattle.loop_core.specs.declared.nest.Expr.{Expr}
use Rattle.loop_core.specs.declared.nest.Item.{Item}
use Rattle.loop_core.specs.declared.nest.Item.TheOpen.{Item-F}
use Rattle.loop_core.specs.declared.nest.Item.TheViews.{roll-Item}
use Rattle.loop_core.specs.declared.nest.Item.TheFolds.{ind-Item, fold-roll-Item, map-Item}
use Rattle.loop_core.specs.declared.nest.Nest.{Nest}
use Rattle.loop_lines.specs.Plain.{is_plain, HasNames}
use Rattle.loop_core.specs.Shape.{Loop, Line, lines_of_all, lines_step, item_lines, body_lines, line_names}
use Rattle.loop_core.specs.IsNest.{declared_names}
use Rattle.loop_print.specs.PrintNames.{Block, Repeated, Guarded, array_name, local_name, variable_name}
use Rattle.loop_print.specs.PrintTerms.{term_text, entry_text}
use Rattle.loop_print.specs.PrintExprs.{expr_text}
use Rattle.loop_print.specs.PrintItems.{rel_text, span_text, indent, line_text, in_turn, item_step, item_text, body_text}
use Rattle.loop_print.specs.PrintText.{nest_text}
use Rattle.loop_lines.proofs.Bools.{and_left, and_right}
use Rattle.loop_print.proofs.PrintAscii.{Small, word, ◌&◌, name_small, small_ascii}
use Rattle.loop_print.proofs.PrintTermsAscii.{term_small, entry_small, expr_small}
use Rattle.loop_print.proofs.PrintHeadsAscii.{array_small, local_small, heads_small}

-- the names on some lines
abbrev names_on : List Line → List (List ℕ)
names_on lines = flat_map (λ l. line_names l.form) lines

abbrev HaveNames : List Line → Type 0
HaveNames lines = list_all is_plain (names_on lines) ≡ true

names_on_append : (xs ys : List Line) → names_on (xs ++ ys) ≡ names_on xs ++ names_on ys
names_on_append xs ys = grind (arith, common_steps)

have_both : (xs ys : List Line) → HaveNames (xs ++ ys) → (list_all is_plain (names_on xs) && list_all is_plain (names_on ys)) ≡ true
have_both xs ys h = sym (list_all-append is_plain (names_on xs) (names_on ys)) ∙ sym (ap (list_all is_plain) (names_on_append xs ys)) ∙ h

abbrev AreNamed : List Block → Type 0
AreNamed blocks = (line : ℕ) → Small (variable_name blocks line)

inside : (line : ℕ) (name : List ℕ) (blocks : List Block) → Small name → AreNamed blocks → AreNamed (Repeated line name ∷ blocks)
inside line name blocks h k at =
    elim (line == at) as (λ b. Small (if b then name else variable_name blocks at)) [ true ↦ h | false ↦ k at ]

rel_small : (rel : Rel) → Small (rel_text rel)
rel_small Equal = word (codes " == ") refl
rel_small Less = word (codes " < ") refl
rel_small LessEqual = word (codes " <= ") refl

indent_small : (blocks : List Block) → Small (indent blocks)
indent_small [] = word [] refl
indent_small (b ∷ bs) = word (codes "  ") refl & indent_small bs

line_small : (blocks : List Block) (words : List ℕ) → Small words → Small (line_text blocks words)
line_small blocks words h = indent_small blocks & h & word (codes "\n") refl

module _ (decls : List Decl) (locals : List LocalDecl) (arrays : (array : ArrayId) → Small (array_name decls array)) (own : (local : ℕ) → Small (local_name locals local)) where
  abbrev IsSmallItem : Item → Type 0
  IsSmallItem item = (around : List Loop) (blocks : List Block) → AreNamed blocks → HaveNames (item_lines item around) → Small (item_text decls locals item blocks)

  abbrev SmallItem : Type 0
  SmallItem = (item : Item) × IsSmallItem item

  items_small : (body : List SmallItem) (around : List Loop) (blocks : List Block) → AreNamed blocks
      → HaveNames (lines_of_all (map item_lines (map (λ e. e.0) body)) around)
      → Small (in_turn (map (item_text decls locals) (map (λ e. e.0) body)) blocks)
  items_small [] around blocks k h = word [] refl
  items_small (e ∷ es) around blocks k h =
      let here = item_lines e.0 around in
      let rest = lines_of_all (map item_lines (map (λ x. x.0) es)) around in
      let named = have_both here rest h in
      e.1 around blocks k (and_left (list_all is_plain (names_on here)) (list_all is_plain (names_on rest)) named)
      & items_small es around blocks k (and_right (list_all is_plain (names_on here)) (list_all is_plain (names_on rest)) named)

  terms : (blocks : List Block) → AreNamed blocks → (t : Term) → Small (term_text decls blocks t)
  terms blocks k = term_small decls blocks arrays k

  for_small : (line : ℕ) (name : List ℕ) (lo hi : Term) (body : List SmallItem) (around : List Loop) (blocks : List Block) → AreNamed blocks
      → HaveNames (lines_step (Item-F.For line name lo hi (map item_lines (map (λ e. e.0) body))) around)
      → Small (item_step decls locals (Item-F.For line name lo hi (map (item_text decls locals) (map (λ e. e.0) body))) blocks)
  for_small line name lo hi body around blocks k h =
      let rest = lines_of_all (map item_lines (map (λ e. e.0) body)) (record { line = line; name = name } ∷ around) in
      let named : Small name = name_small name (and_left (is_plain name) (list_all is_plain (names_on rest)) h) in
      let span : Small (span_text decls blocks lo hi) = terms blocks k lo & word (codes "..") refl & terms blocks k hi in
      line_small blocks (codes "for " ++ name ++ codes " in " ++ span_text decls blocks lo hi) (word (codes "for ") refl & named & word (codes " in ") refl & span)
      & items_small body (record { line = line; name = name } ∷ around) (Repeated line name ∷ blocks) (inside line name blocks named k) (and_right (is_plain name) (list_all is_plain (names_on rest)) h)
      & line_small blocks (codes "end") (word (codes "end") refl)

  when_small : (line : ℕ) (rel : Rel) (left right : Term) (body : List SmallItem) (around : List Loop) (blocks : List Block) → AreNamed blocks
      → HaveNames (lines_step (Item-F.When line rel left right (map item_lines (map (λ e. e.0) body))) around)
      → Small (item_step decls locals (Item-F.When line rel left right (map (item_text decls locals) (map (λ e. e.0) body))) blocks)
  when_small line rel left right body around blocks k h =
      line_small blocks (codes "when " ++ term_text decls blocks left ++ rel_text rel ++ term_text decls blocks right) (word (codes "when ") refl & terms blocks k left & rel_small rel & terms blocks k right)
      & items_small body around (Guarded ∷ blocks) k h
      & line_small blocks (codes "end") (word (codes "end") refl)

  set_small : (line : ℕ) (array : ArrayId) (at : Term) (value : Expr) (blocks : List Block) → AreNamed blocks
      → Small (item_step decls locals (Item-F.Set line array at value) blocks)
  set_small line array at value blocks k =
      line_small blocks (codes "set " ++ entry_text decls array (term_text decls blocks at) ++ codes " = " ++ expr_text decls locals blocks value 0)
      (word (codes "set ") refl & entry_small decls blocks arrays k array (term_text decls blocks at) (terms blocks k at) & word (codes " = ") refl & expr_small decls blocks arrays k locals own value 0)

  keep_small : (line local : ℕ) (value : Expr) (blocks : List Block) → AreNamed blocks
      → Small (item_step decls locals (Item-F.Keep line local value) blocks)
  keep_small line local value blocks k =
      line_small blocks (codes "set " ++ local_name locals local ++ codes " = " ++ expr_text decls locals blocks value 0)
      (word (codes "set ") refl & own local & word (codes " = ") refl & expr_small decls blocks arrays k locals own value 0)

  item_case : (y : Item-F SmallItem) → IsSmallItem (roll-Item (map-Item SmallItem Item (λ e. e.0) y))
  item_case (Item-F.For line name lo hi body) around blocks k h =
      let x = Item-F.For line name lo hi (map (λ e. e.0) body) in
      let named = subst (λ f. HaveNames (f around)) (fold-roll-Item (List Loop → List Line) lines_step x) h in
      subst (λ f. Small (f blocks)) (sym (fold-roll-Item (List Block → List ℕ) (item_step decls locals) x)) (for_small line name lo hi body around blocks k named)
  item_case (Item-F.When line rel left right body) around blocks k h =
      let x = Item-F.When line rel left right (map (λ e. e.0) body) in
      let named = subst (λ f. HaveNames (f around)) (fold-roll-Item (List Loop → List Line) lines_step x) h in
      subst (λ f. Small (f blocks)) (sym (fold-roll-Item (List Block → List ℕ) (item_step decls locals) x)) (when_small line rel left right body around blocks k named)
  item_case (Item-F.Set line array at value) around blocks k h =
      subst (λ f. Small (f blocks)) (sym (fold-roll-Item (List Block → List ℕ) (item_step decls locals) (Item-F.Set line array at value))) (set_small line array at value blocks k)
  item_case (Item-F.Keep line local value) around blocks k h =
      subst (λ f. Small (f blocks)) (sym (fold-roll-Item (List Block → List ℕ) (item_step decls locals) (Item-F.Keep line local value))) (keep_small line local value blocks k)

  item_small : (item : Item) → IsSmallItem item
  item_small = ind-Item IsSmallItem (λ x y is. subst (λ z. IsSmallItem (roll-Item z)) is (item_case y))

  body_small : (items : List Item) (around : List Loop) (blocks : List Block) → AreNamed blocks
      → HaveNames (lines_of_all (map item_lines items) around) → Small (body_text decls locals items blocks)
  body_small [] around blocks k h = word [] refl
  body_small (i ∷ is) around blocks k h =
      let here = item_lines i around in
      let rest = lines_of_all (map item_lines is) around in
      let named = have_both here rest h in
      item_small i around blocks k (and_left (list_all is_plain (names_on here)) (list_all is_plain (names_on rest)) named)
      & body_small is around blocks k (and_right (list_all is_plain (names_on here)) (list_all is_plain (names_on rest)) named)

nest_small : (nest : Nest) → HasNames nest → Small (nest_text nest)
nest_small nest is =
    let declared = declared_names nest in
    let inner = names_on (body_lines nest) in
    let all : (list_all is_plain declared && list_all is_plain (nest.name ∷ inner)) ≡ true = sym (list_all-append is_plain declared (nest.name ∷ inner)) ∙ is.names in
    let heads = and_left (list_all is_plain declared) (list_all is_plain (nest.name ∷ inner)) all in
    let own = and_right (list_all is_plain declared) (list_all is_plain (nest.name ∷ inner)) all in
    let decl_names : List (List ℕ) = map (λ d. d.name) nest.decls in
    let local_names : List (List ℕ) = map (λ l. l.name) nest.locals in
    let parts : (list_all is_plain decl_names && list_all is_plain local_names) ≡ true = sym (list_all-append is_plain decl_names local_names) ∙ heads in
    let decls = and_left (list_all is_plain decl_names) (list_all is_plain local_names) parts in
    let locals = and_right (list_all is_plain decl_names) (list_all is_plain local_names) parts in
    let name : Small nest.name = name_small nest.name (and_left (is_plain nest.name) (list_all is_plain inner) own) in
    let arrays = array_small nest.decls decls in
    let named : AreNamed (Repeated nest.line nest.name ∷ []) = inside nest.line nest.name [] name (λ line. word [] refl) in
    heads_small nest.decls arrays nest.decls nest.locals nest.props decls locals
    & word (codes "loop ") refl & name & word (codes "\n") refl
    & body_small nest.decls nest.locals arrays (local_small nest.locals locals) nest.body (record { line = nest.line; name = nest.name } ∷ []) (Repeated nest.line nest.name ∷ []) named
    (and_right (is_plain nest.name) (list_all is_plain inner) own)
    & word (codes "end\n") refl

pub nest_utf8 : (nest : Nest) → HasNames nest → IsUtf8 (nest_text nest)
nest_utf8 nest is = IsUtf8-from_ascii (nest_text nest) (small_ascii (nest_text nest) (nest_small nest is))
