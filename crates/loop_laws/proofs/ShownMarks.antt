-- The text of items is that of their lines, one after another.
use Rattle.std.proofs.Common.{◌≡◌, ℕ, codes, List, [], ◌∷◌, ◌++◌, map, refl, sym, ap, subst, ◌∙◌, append_assoc}
use Rattle.loop_core.specs.declared.decl.Decl.{Decl}
use Rattle.loop_core.specs.declared.decl.LocalDecl.{LocalDecl}
use Rattle.loop_core.specs.declared.nest.Item.{Item}
use Rattle.loop_core.specs.declared.nest.Item.TheOpen.{Item-F}
use Rattle.loop_core.specs.declared.nest.Item.TheViews.{roll-Item}
use Rattle.loop_core.specs.declared.nest.Item.TheFolds.{ind-Item, fold-roll-Item, map-Item}
use Rattle.loop_syntax.specs.declared.items.Head.TheVariants as heads
use Rattle.loop_syntax.specs.Scope.{outer_blocks}
use Rattle.loop_syntax.specs.Nesting.{Mark, Opens, Sets, Keeps, Ends, joined, marks_step, item_marks, marks}
use Rattle.loop_print.specs.PrintNames.{Block, Repeated, Guarded, local_name}
use Rattle.loop_print.specs.PrintTerms.{term_text, entry_text}
use Rattle.loop_print.specs.PrintExprs.{expr_text}
use Rattle.loop_print.specs.PrintItems.{rel_text, span_text, line_text, in_turn, item_step, item_text, body_text}

-- the text of lines of the loop inside open blocks
abbrev pub marks_text : List Decl → List LocalDecl → List Block → List Mark → List ℕ
marks_text decls locals blocks [] = []
marks_text decls locals blocks (Opens line (heads.For name lo hi) ∷ ms) =
    line_text blocks (codes "for " ++ name ++ codes " in " ++ span_text decls blocks lo hi) ++ marks_text decls locals (Repeated line name ∷ blocks) ms
marks_text decls locals blocks (Opens line (heads.When rel left right) ∷ ms) =
    line_text blocks (codes "when " ++ term_text decls blocks left ++ rel_text rel ++ term_text decls blocks right) ++ marks_text decls locals (Guarded ∷ blocks) ms
marks_text decls locals blocks (Sets line array at value ∷ ms) =
    line_text blocks (codes "set " ++ entry_text decls array (term_text decls blocks at) ++ codes " = " ++ expr_text decls locals blocks value 0) ++ marks_text decls locals blocks ms
marks_text decls locals blocks (Keeps line local value ∷ ms) =
    line_text blocks (codes "set " ++ local_name locals local ++ codes " = " ++ expr_text decls locals blocks value 0) ++ marks_text decls locals blocks ms
marks_text decls locals blocks (Ends ∷ ms) = line_text (outer_blocks blocks) (codes "end") ++ marks_text decls locals (outer_blocks blocks) ms

four : (a b c d : List ℕ) → a ++ (b ++ (c ++ d)) ≡ ((a ++ b) ++ c) ++ d
four a b c d = sym (append_assoc (a ++ b) c d ∙ append_assoc a b (c ++ d))

module _ (decls : List Decl) (locals : List LocalDecl) where
  -- an item's lines have its text
  abbrev IsWalked : Item → Type 0
  IsWalked item = (blocks : List Block) (rest : List Mark) → marks_text decls locals blocks (item_marks item ++ rest) ≡ item_text decls locals item blocks ++ marks_text decls locals blocks rest

  abbrev WalkedItem : Type 0
  WalkedItem = (item : Item) × IsWalked item

  items_walked : (es : List WalkedItem) (blocks : List Block) (rest : List Mark)
      → marks_text decls locals blocks (joined (map item_marks (map (λ e. e.0) es)) ++ rest) ≡ in_turn (map (item_text decls locals) (map (λ e. e.0) es)) blocks ++ marks_text decls locals blocks rest
  items_walked [] blocks rest = refl
  items_walked (e ∷ es) blocks rest =
      let more = joined (map item_marks (map (λ x. x.0) es)) in
      let others = in_turn (map (item_text decls locals) (map (λ x. x.0) es)) blocks in
      let here = item_text decls locals e.0 blocks in
      ap (marks_text decls locals blocks) (append_assoc (item_marks e.0) more rest)
      ∙ e.1 blocks (more ++ rest)
      ∙ ap (λ (l : List ℕ). here ++ l) (items_walked es blocks rest)
      ∙ sym (append_assoc here others (marks_text decls locals blocks rest))

  -- a block, with the text of its first line
  block_walked : (first : List ℕ) (block : Block) (es : List WalkedItem) (blocks : List Block) (rest : List Mark)
      → first ++ marks_text decls locals (block ∷ blocks) ((joined (map item_marks (map (λ e. e.0) es)) ++ Ends ∷ []) ++ rest)
      ≡ (first ++ in_turn (map (item_text decls locals) (map (λ e. e.0) es)) (block ∷ blocks) ++ line_text blocks (codes "end")) ++ marks_text decls locals blocks rest
  block_walked first block es blocks rest =
      let inner = joined (map item_marks (map (λ e. e.0) es)) in
      let body = in_turn (map (item_text decls locals) (map (λ e. e.0) es)) (block ∷ blocks) in
      ap (λ (ms : List Mark). first ++ marks_text decls locals (block ∷ blocks) ms) (append_assoc inner (Ends ∷ []) rest)
      ∙ ap (λ (l : List ℕ). first ++ l) (items_walked es (block ∷ blocks) (Ends ∷ rest))
      ∙ four first body (line_text blocks (codes "end")) (marks_text decls locals blocks rest)

  text_is : (x : Item-F Item) (blocks : List Block) (rest : List Mark) → item_text decls locals (roll-Item x) blocks ++ marks_text decls locals blocks rest ≡ item_step decls locals (map-Item Item (List Block → List ℕ) (item_text decls locals) x) blocks ++ marks_text decls locals blocks rest
  text_is x blocks rest = ap (λ (f : List Block → List ℕ). f blocks ++ marks_text decls locals blocks rest) (fold-roll-Item (List Block → List ℕ) (item_step decls locals) x)

  lines_are : (x : Item-F Item) (blocks : List Block) (rest : List Mark) → marks_text decls locals blocks (item_marks (roll-Item x) ++ rest) ≡ marks_text decls locals blocks (marks_step (map-Item Item (List Mark) item_marks x) ++ rest)
  lines_are x blocks rest = ap (λ (l : List Mark). marks_text decls locals blocks (l ++ rest)) (fold-roll-Item (List Mark) marks_step x)

  item_case : (y : Item-F WalkedItem) → IsWalked (roll-Item (map-Item WalkedItem Item (λ e. e.0) y))
  item_case (Item-F.For line name lo hi body) blocks rest =
      let x = Item-F.For line name lo hi (map (λ e. e.0) body) in
      let first = line_text blocks (codes "for " ++ name ++ codes " in " ++ span_text decls blocks lo hi) in
      lines_are x blocks rest ∙ block_walked first (Repeated line name) body blocks rest ∙ sym (text_is x blocks rest)
  item_case (Item-F.When line rel left right body) blocks rest =
      let x = Item-F.When line rel left right (map (λ e. e.0) body) in
      let first = line_text blocks (codes "when " ++ term_text decls blocks left ++ rel_text rel ++ term_text decls blocks right) in
      lines_are x blocks rest ∙ block_walked first Guarded body blocks rest ∙ sym (text_is x blocks rest)
  item_case (Item-F.Set line array at value) blocks rest =
      let x : Item-F Item = Item-F.Set line array at value in
      lines_are x blocks rest ∙ sym (text_is x blocks rest)
  item_case (Item-F.Keep line local value) blocks rest =
      let x : Item-F Item = Item-F.Keep line local value in
      lines_are x blocks rest ∙ sym (text_is x blocks rest)

  item_walked : (item : Item) → IsWalked item
  item_walked = ind-Item IsWalked (λ x y is. subst (λ z. IsWalked (roll-Item z)) is (item_case y))

  pub body_walked : (items : List Item) (blocks : List Block) (rest : List Mark) → marks_text decls locals blocks (marks items ++ rest) ≡ body_text decls locals items blocks ++ marks_text decls locals blocks rest
  body_walked [] blocks rest = refl
  body_walked (i ∷ is) blocks rest =
      ap (marks_text decls locals blocks) (append_assoc (item_marks i) (marks is) rest)
      ∙ item_walked i blocks (marks is ++ rest)
      ∙ ap (λ (l : List ℕ). item_text decls locals i blocks ++ l) (body_walked is blocks rest)
      ∙ sym (append_assoc (item_text decls locals i blocks) (body_text decls locals is blocks) (marks_text decls locals blocks rest))
