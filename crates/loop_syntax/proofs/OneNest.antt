-- Items are known by their lines: they can be built from them again.
use Rattle.std.proofs.Common.{◌≡◌, ℕ, List, [], ◌∷◌, ◌++◌, map, sym, ap, subst, ◌∙◌, append_assoc}
use Rattle.std.proofs.lemmas.List.{append-nil}
use Rattle.loop_core.specs.declared.decl.Decl.{Decl}
use Rattle.loop_core.specs.declared.decl.LocalDecl.{LocalDecl}
use Rattle.loop_core.specs.declared.decl.PropDecl.{PropDecl}
use Rattle.loop_core.specs.declared.nest.Item.{Item}
use Rattle.loop_core.specs.declared.nest.Item.TheOpen.{Item-F}
use Rattle.loop_core.specs.declared.nest.Item.TheViews.{roll-Item}
use Rattle.loop_core.specs.declared.nest.Item.TheFolds.{ind-Item, fold-roll-Item, map-Item}
use Rattle.loop_core.specs.declared.nest.Nest.{Nest}
use Rattle.loop_syntax.specs.declared.numbered.Numbered.{Numbered}
use Rattle.loop_syntax.specs.declared.items.Head.{Head}
use Rattle.loop_syntax.specs.declared.items.Head.TheVariants as heads
use Rattle.loop_syntax.specs.declared.items.OpenBlock.{OpenBlock}
use Rattle.loop_syntax.specs.Nesting.{Mark, Opens, Sets, Keeps, Ends, joined, marks_step, item_marks, marks}
use Rattle.loop_syntax.specs.TextNest.{IsNestOf}

-- open blocks, the innermost first, and the items in the innermost
record State : Type 0 where
  around : List OpenBlock
  items : List Item

abbrev made : ℕ → Head → List Item → Item
made line (heads.For name lo hi) body = roll-Item (Item-F.For line name lo hi body)
made line (heads.When rel left right) body = roll-Item (Item-F.When line rel left right body)

abbrev ended : List OpenBlock → List Item → State
ended [] items = record { around = []; items = items }
ended (o ∷ os) items = record { around = os; items = o.before ++ made o.line o.head items ∷ [] }

abbrev after : State → Mark → State
after s (Opens line head) = record { around = record { line = line; head = head; before = s.items } ∷ s.around; items = [] }
after s (Sets line array at value) = record { around = s.around; items = s.items ++ roll-Item (Item-F.Set line array at value) ∷ [] }
after s (Keeps line local value) = record { around = s.around; items = s.items ++ roll-Item (Item-F.Keep line local value) ∷ [] }
after s Ends = ended s.around s.items

abbrev after_all : State → List Mark → State
after_all s [] = s
after_all s (m ∷ ms) = after_all (after s m) ms

abbrev with : List OpenBlock → List Item → State
with os items = record { around = os; items = items }

-- an item's lines put it after the items before it
abbrev IsBuilt : Item → Type 0
IsBuilt item = (os : List OpenBlock) (before : List Item) (rest : List Mark) → after_all (with os before) (item_marks item ++ rest) ≡ after_all (with os (before ++ item ∷ [])) rest

abbrev BuiltItem : Type 0
BuiltItem = (item : Item) × IsBuilt item

items_built : (es : List BuiltItem) (os : List OpenBlock) (before : List Item) (rest : List Mark)
    → after_all (with os before) (joined (map item_marks (map (λ e. e.0) es)) ++ rest) ≡ after_all (with os (before ++ map (λ e. e.0) es)) rest
items_built [] os before rest = ap (λ (l : List Item). after_all (with os l) rest) (sym (append-nil before))
items_built (e ∷ es) os before rest =
    let more = joined (map item_marks (map (λ x. x.0) es)) in
    ap (after_all (with os before)) (append_assoc (item_marks e.0) more rest)
    ∙ e.1 os before (more ++ rest)
    ∙ items_built es os (before ++ e.0 ∷ []) rest
    ∙ ap (λ (l : List Item). after_all (with os l) rest) (append_assoc before (e.0 ∷ []) (map (λ x. x.0) es))

block_built : (line : ℕ) (head : Head) (es : List BuiltItem) (os : List OpenBlock) (before : List Item) (rest : List Mark)
    → after_all (with os before) (Opens line head ∷ ((joined (map item_marks (map (λ e. e.0) es)) ++ Ends ∷ []) ++ rest)) ≡ after_all (with os (before ++ made line head (map (λ e. e.0) es) ∷ [])) rest
block_built line head es os before rest =
    let o : OpenBlock = record { line = line; head = head; before = before } in
    let inner = joined (map item_marks (map (λ e. e.0) es)) in
    ap (after_all (with (o ∷ os) [])) (append_assoc inner (Ends ∷ []) rest) ∙ items_built es (o ∷ os) [] (Ends ∷ rest)

item_case : (y : Item-F BuiltItem) → IsBuilt (roll-Item (map-Item BuiltItem Item (λ e. e.0) y))
item_case (Item-F.For line name lo hi body) os before rest =
    let x = Item-F.For line name lo hi (map (λ e. e.0) body) in
    ap (λ (l : List Mark). after_all (with os before) (l ++ rest)) (fold-roll-Item (List Mark) marks_step x) ∙ block_built line (heads.For name lo hi) body os before rest
item_case (Item-F.When line rel left right body) os before rest =
    let x = Item-F.When line rel left right (map (λ e. e.0) body) in
    ap (λ (l : List Mark). after_all (with os before) (l ++ rest)) (fold-roll-Item (List Mark) marks_step x) ∙ block_built line (heads.When rel left right) body os before rest
item_case (Item-F.Set line array at value) os before rest =
    ap (λ (l : List Mark). after_all (with os before) (l ++ rest)) (fold-roll-Item (List Mark) marks_step (Item-F.Set line array at value))
item_case (Item-F.Keep line local value) os before rest =
    ap (λ (l : List Mark). after_all (with os before) (l ++ rest)) (fold-roll-Item (List Mark) marks_step (Item-F.Keep line local value))

item_built : (item : Item) → IsBuilt item
item_built = ind-Item IsBuilt (λ x y is. subst (λ z. IsBuilt (roll-Item z)) is (item_case y))

body_built : (items : List Item) (os : List OpenBlock) (before : List Item) (rest : List Mark) → after_all (with os before) (marks items ++ rest) ≡ after_all (with os (before ++ items)) rest
body_built [] os before rest = ap (λ (l : List Item). after_all (with os l) rest) (sym (append-nil before))
body_built (i ∷ is) os before rest =
    ap (after_all (with os before)) (append_assoc (item_marks i) (marks is) rest)
    ∙ item_built i os before (marks is ++ rest)
    ∙ body_built is os (before ++ i ∷ []) rest
    ∙ ap (λ (l : List Item). after_all (with os l) rest) (append_assoc before (i ∷ []) is)

abbrev items_of : List Mark → List Item
items_of ms = (after_all (with [] []) ms).items

built_again : (items : List Item) → items_of (marks items ++ Ends ∷ []) ≡ items
built_again items = ap (λ (s : State). s.items) (body_built items [] [] (Ends ∷ []))

same_body : (a b : List Item) → marks a ++ Ends ∷ [] ≡ marks b ++ Ends ∷ [] → a ≡ b
same_body a b e = sym (built_again a) ∙ ap items_of e ∙ built_again b

abbrev nest_of : List Decl → List PropDecl → List LocalDecl → ℕ × List ℕ → List Item → Nest
nest_of decls props locals loop body = record { decls = decls; props = props; locals = locals; line = loop.0; name = loop.1; body = body }

abbrev first_of : ℕ × List ℕ → List (ℕ × List ℕ) → ℕ × List ℕ
first_of d [] = d
first_of d (x ∷ xs) = x

pub one_nest : (ls : List Numbered) (a b : Nest) → IsNestOf ls a → IsNestOf ls b → a ≡ b
one_nest ls a b x y =
    let loop : (a.line, a.name) ≡ (b.line, b.name) = ap (first_of (a.line, a.name)) (sym x.loop ∙ y.loop) in
    ap (λ d. nest_of d a.props a.locals (a.line, a.name) a.body) (x.decls ∙ sym y.decls)
    ∙ ap (λ p. nest_of b.decls p a.locals (a.line, a.name) a.body) (x.props ∙ sym y.props)
    ∙ ap (λ k. nest_of b.decls b.props k (a.line, a.name) a.body) (x.locals ∙ sym y.locals)
    ∙ ap (λ l. nest_of b.decls b.props b.locals l a.body) loop
    ∙ ap (nest_of b.decls b.props b.locals (b.line, b.name)) (same_body a.body b.body (x.body ∙ sym y.body))
