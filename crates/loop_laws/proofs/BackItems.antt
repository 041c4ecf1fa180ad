-- The lines of items whose lines have other numbers.
use Rattle.std.proofs.Common.{◌≡◌, ℕ, List, [], ◌∷◌, ◌++◌, map, refl, sym, ap, subst, ◌∙◌}
use Rattle.std.proofs.lemmas.List.{map-append}
use denote.Hole.Carrier as hole
use Rattle.wave_base.specs.declared.types.ArrayId.{ArrayId}
use Rattle.loop_core.specs.declared.nest.Rel.{Rel}
use Rattle.loop_core.specs.declared.nest.Term.{Term}
use Rattle.loop_core.specs.declared.nest.Expr.{Expr}
use Rattle.loop_core.specs.declared.nest.Item.{Item}
use Rattle.loop_core.specs.declared.nest.Item.TheVariants as items
use Rattle.loop_core.specs.declared.nest.Item.TheOpen.{Item-F}
use Rattle.loop_core.specs.declared.nest.Item.TheViews.{roll-Item}
use Rattle.loop_core.specs.declared.nest.Item.TheFolds.{ind-Item, fold-roll-Item, map-Item}
use Rattle.loop_syntax.specs.declared.items.Head.{Head}
use Rattle.loop_syntax.specs.declared.items.Head.TheVariants as heads
use Rattle.loop_syntax.specs.Nesting.{Mark, Opens, Sets, Keeps, Ends, joined, marks_step, item_marks, marks}
use Rattle.loop_laws.specs.Renumbered.{renumbered_term, renumbered_value, item_step, renumbered_item}

abbrev pub with_head : (ℕ → ℕ) → Head → Head
with_head f (heads.For name lo hi) = heads.For name (renumbered_term f lo) (renumbered_term f hi)
with_head f (heads.When rel left right) = heads.When rel (renumbered_term f left) (renumbered_term f right)

abbrev pub with_mark : (ℕ → ℕ) → Mark → Mark
with_mark f (Opens line head) = Opens (f line) (with_head f head)
with_mark f (Sets line array at value) = Sets (f line) array (renumbered_term f at) (renumbered_value f value)
with_mark f (Keeps line local value) = Keeps (f line) local (renumbered_value f value)
with_mark f Ends = Ends

for_item : (line : ℕ) (name : List ℕ) (lo hi : Term) (body : List Item) → items.For line name lo hi body ≡ roll-Item (Item-F.For line name lo hi body)
unfolding roll-Item hole.roll
for_item line name lo hi body = refl

when_item : (line : ℕ) (rel : Rel) (left right : Term) (body : List Item) → items.When line rel left right body ≡ roll-Item (Item-F.When line rel left right body)
unfolding roll-Item hole.roll
when_item line rel left right body = refl

set_item : (line : ℕ) (array : ArrayId) (at : Term) (value : Expr) → items.Set line array at value ≡ roll-Item (Item-F.Set line array at value)
unfolding roll-Item hole.roll
set_item line array at value = refl

keep_item : (line local : ℕ) (value : Expr) → items.Keep line local value ≡ roll-Item (Item-F.Keep line local value)
unfolding roll-Item hole.roll
keep_item line local value = refl

module _ (f : ℕ → ℕ) where
  abbrev SameItem : Item → Type 0
  SameItem item = item_marks (renumbered_item f item) ≡ map (with_mark f) (item_marks item)

  abbrev ItemSo : Type 0
  ItemSo = (item : Item) × SameItem item

  -- an item's lines, and those of the item again
  marks_are : (x : Item-F Item) → item_marks (roll-Item x) ≡ marks_step (map-Item Item (List Mark) item_marks x)
  marks_are x = fold-roll-Item (List Mark) marks_step x

  anew_is : (x y : Item-F Item) → item_step f (map-Item Item Item (renumbered_item f) x) ≡ roll-Item y → item_marks (renumbered_item f (roll-Item x)) ≡ marks_step (map-Item Item (List Mark) item_marks y)
  anew_is x y is = ap item_marks (fold-roll-Item Item (item_step f) x ∙ is) ∙ marks_are y

  items_with : (es : List ItemSo) → joined (map item_marks (map (renumbered_item f) (map (λ e. e.0) es))) ≡ map (with_mark f) (joined (map item_marks (map (λ e. e.0) es)))
  items_with [] = refl
  items_with (e ∷ es) =
      let more = joined (map item_marks (map (λ x. x.0) es)) in
      ap (λ (l : List Mark). l ++ joined (map item_marks (map (renumbered_item f) (map (λ x. x.0) es)))) e.1
      ∙ ap (λ (l : List Mark). map (with_mark f) (item_marks e.0) ++ l) (items_with es)
      ∙ sym (map-append (with_mark f) (item_marks e.0) more)

  block_with : (line : ℕ) (head : Head) (es : List ItemSo)
      → Opens (f line) (with_head f head) ∷ (joined (map item_marks (map (renumbered_item f) (map (λ e. e.0) es))) ++ Ends ∷ []) ≡ map (with_mark f) (Opens line head ∷ (joined (map item_marks (map (λ e. e.0) es)) ++ Ends ∷ []))
  block_with line head es =
      let inner = joined (map item_marks (map (λ x. x.0) es)) in
      ap (λ (l : List Mark). Opens (f line) (with_head f head) ∷ (l ++ Ends ∷ [])) (items_with es)
      ∙ ap (λ (l : List Mark). Opens (f line) (with_head f head) ∷ l) (sym (map-append (with_mark f) inner (Ends ∷ [])))

  item_case : (y : Item-F ItemSo) → SameItem (roll-Item (map-Item ItemSo Item (λ e. e.0) y))
  item_case (Item-F.For line name lo hi body) =
      let x : Item-F Item = Item-F.For line name lo hi (map (λ e. e.0) body) in
      let rest = map (renumbered_item f) (map (λ e. e.0) body) in
      anew_is x (Item-F.For (f line) name (renumbered_term f lo) (renumbered_term f hi) rest) (for_item (f line) name (renumbered_term f lo) (renumbered_term f hi) rest)
      ∙ block_with line (heads.For name lo hi) body
      ∙ sym (ap (map (with_mark f)) (marks_are x))
  item_case (Item-F.When line rel left right body) =
      let x : Item-F Item = Item-F.When line rel left right (map (λ e. e.0) body) in
      let rest = map (renumbered_item f) (map (λ e. e.0) body) in
      anew_is x (Item-F.When (f line) rel (renumbered_term f left) (renumbered_term f right) rest) (when_item (f line) rel (renumbered_term f left) (renumbered_term f right) rest)
      ∙ block_with line (heads.When rel left right) body
      ∙ sym (ap (map (with_mark f)) (marks_are x))
  item_case (Item-F.Set line array at value) =
      let x : Item-F Item = Item-F.Set line array at value in
      anew_is x (Item-F.Set (f line) array (renumbered_term f at) (renumbered_value f value)) (set_item (f line) array (renumbered_term f at) (renumbered_value f value))
      ∙ sym (ap (map (with_mark f)) (marks_are x))
  item_case (Item-F.Keep line local value) =
      let x : Item-F Item = Item-F.Keep line local value in
      anew_is x (Item-F.Keep (f line) local (renumbered_value f value)) (keep_item (f line) local (renumbered_value f value))
      ∙ sym (ap (map (with_mark f)) (marks_are x))

  item_with : (item : Item) → SameItem item
  item_with = ind-Item SameItem (λ x y is. subst (λ z. SameItem (roll-Item z)) is (item_case y))

  pub marks_with : (is : List Item) → marks (map (renumbered_item f) is) ≡ map (with_mark f) (marks is)
  marks_with [] = refl
  marks_with (i ∷ is) =
      ap (λ (l : List Mark). l ++ marks (map (renumbered_item f) is)) (item_with i)
      ∙ ap (λ (l : List Mark). map (with_mark f) (item_marks i) ++ l) (marks_with is)
      ∙ sym (map-append (with_mark f) (item_marks i) (marks is))
