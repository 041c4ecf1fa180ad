-- Each array that a nest writes is a data array.
use Rattle.std.proofs.Common.{◌≡◌, ℕ, Bool, true, false, ◌&&◌, ◌||◌, List, [], ◌∷◌, ◌++◌, map, refl, sym, ap, subst, ◌∙◌}
use Rattle.std.specs.Prelude.{IsTrue}
use Rattle.std.specs.List.{list_all, list_any}
use Rattle.std.proofs.lemmas.List.Folds.{list_all-append}
use Rattle.std.proofs.lemmas.Bool.{eqb-true}
use Rattle.wave_base.specs.declared.types.ArrayId.{ArrayId}
use Rattle.loop_core.specs.declared.decl.Decl.{Decl}
use Rattle.loop_core.specs.declared.nest.Item.{Item}
use Rattle.loop_core.specs.declared.nest.Item.TheOpen.{Item-F}
use Rattle.loop_core.specs.declared.nest.Item.TheViews.{roll-Item}
use Rattle.loop_core.specs.declared.nest.Item.TheFolds.{ind-Item, fold-roll-Item, map-Item}
use Rattle.loop_core.specs.declared.nest.Nest.{Nest}
use Rattle.loop_core.specs.Sizes.{is_data}
use Rattle.loop_core.specs.Shape.{Loop, Line, lines_of_all, lines_step, item_lines, targets_step, item_targets, body_targets, same_array, is_target, expr_arrays}
use Rattle.loop_core.specs.IsNest.{IsNest, uses_kinds}

both : (s t : Bool) → (s && t) ≡ true → (s ≡ true) × (t ≡ true)
both true t e = (refl, e)
both false t e = absurd (cc)

parts : {X : Type 0} (p : X → Bool) (xs ys : List X) → list_all p (xs ++ ys) ≡ true → (list_all p xs ≡ true) × (list_all p ys ≡ true)
parts p xs ys e = both (list_all p xs) (list_all p ys) (sym (list_all-append p xs ys) ∙ e)

whole : {X : Type 0} (p : X → Bool) (xs ys : List X) → list_all p xs ≡ true → list_all p ys ≡ true → list_all p (xs ++ ys) ≡ true
whole p xs ys e f = list_all-append p xs ys ∙ (λ i. e i && f i)

module _ (decls : List Decl) where
  -- where all lines use arrays by their kinds, the arrays that are written are data arrays
  abbrev Kinds : Item → Type 0
  Kinds item = (around : List Loop) → list_all (uses_kinds decls) (item_lines item around) ≡ true → list_all (is_data decls) (item_targets item) ≡ true

  abbrev KindsItem : Type 0
  KindsItem = (item : Item) × Kinds item

  abbrev items_of : List KindsItem → List Item
  items_of es = map (λ e. e.0) es

  body_kinds : (es : List KindsItem) (around : List Loop) → list_all (uses_kinds decls) (lines_of_all (map item_lines (items_of es)) around) ≡ true → list_all (is_data decls) (body_targets (items_of es)) ≡ true
  body_kinds [] around e = refl
  body_kinds (i ∷ is) around e =
      let t = parts (uses_kinds decls) (item_lines i.0 around) (lines_of_all (map item_lines (items_of is)) around) e in
      whole (is_data decls) (item_targets i.0) (body_targets (items_of is)) (i.1 around t.0) (body_kinds is around t.1)

  item_case : (y : Item-F KindsItem) → Kinds (roll-Item (map-Item KindsItem Item (λ e. e.0) y))
  item_case y around =
      let x : Item-F Item = map-Item KindsItem Item (λ e. e.0) y in
      subst (λ (z : List Line × List ArrayId). list_all (uses_kinds decls) z.0 ≡ true → list_all (is_data decls) z.1 ≡ true)
      (λ i. (sym (fold-roll-Item (List Loop → List Line) lines_step x) i around, sym (fold-roll-Item (List ArrayId) targets_step x) i))
      (by y)
    where
      by : (y : Item-F KindsItem) → let x : Item-F Item = map-Item KindsItem Item (λ e. e.0) y in
          list_all (uses_kinds decls) (lines_step (map-Item Item (List Loop → List Line) item_lines x) around) ≡ true
          → list_all (is_data decls) (targets_step (map-Item Item (List ArrayId) item_targets x)) ≡ true
      by (Item-F.For line name lo hi body) e = body_kinds body (record { line = line; name = name } ∷ around) (both _ _ e).1
      by (Item-F.When line rel left right body) e = body_kinds body around (both _ _ e).1
      by (Item-F.Set line array at value) e = (parts (is_data decls) (expr_arrays value) (array ∷ []) (both _ _ (both _ _ e).0).1).1
      by (Item-F.Keep line local value) e = refl

  item_kinds : (item : Item) → Kinds item
  item_kinds = ind-Item Kinds (λ x y is. subst (λ z. Kinds (roll-Item z)) is (item_case y))

  items_kinds : (items : List Item) (around : List Loop) → list_all (uses_kinds decls) (lines_of_all (map item_lines items) around) ≡ true → list_all (is_data decls) (body_targets items) ≡ true
  items_kinds [] around e = refl
  items_kinds (i ∷ is) around e =
      let t = parts (uses_kinds decls) (item_lines i around) (lines_of_all (map item_lines is) around) e in
      whole (is_data decls) (item_targets i) (body_targets is) (item_kinds i around t.0) (items_kinds is around t.1)

  one_of : (array : ArrayId) (arrays : List ArrayId) → list_all (is_data decls) arrays ≡ true → list_any (same_array array) arrays ≡ true → is_data decls array ≡ true
  one_of array [] all any = absurd (cc)
  one_of array (b ∷ more) all any = by (same_array array b) refl any (one_of array more (both _ _ all).1)
    where
      by : (t : Bool) → same_array array b ≡ t → (t || list_any (same_array array) more) ≡ true
          → (list_any (same_array array) more ≡ true → is_data decls array ≡ true) → is_data decls array ≡ true
      by true same any rest =
          let is : array ≡ b = ap (λ (n : ℕ). let a : ArrayId = record { 0 = n } in a) (eqb-true array.0 b.0 same) in
          ap (is_data decls) is ∙ (both _ _ all).0
      by false same any rest = rest any

pub target_is_data : (nest : Nest) (array : ArrayId) → IsNest nest → IsTrue (is_target nest array) → IsTrue (is_data nest.decls array)
target_is_data nest array n t =
    one_of nest.decls array (body_targets nest.body)
    (items_kinds nest.decls nest.body (record { line = nest.line; name = nest.name } ∷ []) n.of_kinds) t
