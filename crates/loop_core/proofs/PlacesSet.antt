-- Each place that an instance sets is of an array that the nest writes.
use Rattle.std.proofs.Common.{◌≡◌, ℕ, zero, suc, ◌<◌, ℤ, pos, ◌+ℤ◌, Bool, true, false, ◌||◌, if◌then◌else◌, List, [], ◌∷◌, ◌++◌, length, get_or, map, refl, sym, ap, subst, ◌∙◌, arith}
use Rattle.std.specs.Prelude.{Contains}
use Rattle.std.specs.List.{list_any}
use Rattle.std.proofs.lemmas.List.Folds.{list_any-append}
use Rattle.std.proofs.lemmas.Bool.Decides.{nat_tests}
use Rattle.wave_base.specs.declared.types.ArrayId.{ArrayId}
use Rattle.loop_core.specs.declared.place.Place.{Place}
use Rattle.loop_core.specs.declared.effect.Effect.{Effect}
use Rattle.loop_core.specs.declared.effect.Effect.TheVariants.{Sets, Keeps}
use Rattle.loop_core.specs.declared.nest.Item.{Item}
use Rattle.loop_core.specs.declared.nest.Item.TheOpen.{Item-F}
use Rattle.loop_core.specs.declared.nest.Item.TheViews.{roll-Item}
use Rattle.loop_core.specs.declared.nest.Item.TheFolds.{ind-Item, fold-roll-Item, map-Item}
use Rattle.loop_core.specs.declared.nest.Nest.{Nest}
use Rattle.loop_core.specs.Lists.{Lists}
use Rattle.loop_core.specs.Binding.{Binding}
use Rattle.loop_core.specs.Terms.{term_value}
use Rattle.loop_core.specs.Shape.{targets_step, item_targets, body_targets, same_array, is_target}
use Rattle.loop_core.specs.Instances.{Instance, turns, in_turn, trips, bound, related, item_step, item_instances, body_instances, instances}

-- of each element
abbrev Each : {A : Type 0} → (A → Type 0) → List A → Type 0
Each P [] = Unit {0}
Each P (x ∷ xs) = P x × Each P xs

each_of : {A : Type 0} (P : A → Type 0) (xs : List A) (x : A) → Each P xs → Contains xs x → P x
each_of P xs x all i = at xs i.0 all i.1 i.2
  where
    at : (ys : List _) (k : ℕ) → Each P ys → k < length ys → get_or ys k x ≡ x → P x
    at [] k all l e = absurd (omega arith)
    at (y ∷ ys) zero all l e = subst P e all.0
    at (y ∷ ys) (suc k) all l e = at ys k all.1 (omega arith) e

each_append : {A : Type 0} (P : A → Type 0) (xs ys : List A) → Each P xs → Each P ys → Each P (xs ++ ys)
each_append P [] ys a b = b
each_append P (x ∷ xs) ys a b = (a.0, each_append P xs ys a.1 b)

each_weaker : {A : Type 0} (P Q : A → Type 0) → ((x : A) → P x → Q x) → (xs : List A) → Each P xs → Each Q xs
each_weaker P Q h [] a = tt
each_weaker P Q h (x ∷ xs) a = (h x a.0, each_weaker P Q h xs a.1)

-- one of these arrays is that of the place that the instance sets
abbrev WritesIn : List ArrayId → Instance → Type 0
WritesIn arrays s = (p : Place) → s.effect ≡ Sets p → list_any (same_array p.array) arrays ≡ true

in_first : (a b : List ArrayId) (s : Instance) → WritesIn a s → WritesIn (a ++ b) s
in_first a b s h p is = list_any-append (same_array p.array) a b ∙ ap (λ (c : Bool). c || list_any (same_array p.array) b) (h p is)

in_second : (a b : List ArrayId) (s : Instance) → WritesIn b s → WritesIn (a ++ b) s
in_second a b s h p is = list_any-append (same_array p.array) a b ∙ (ap (λ (c : Bool). list_any (same_array p.array) a || c) (h p is) ∙ either (list_any (same_array p.array) a))
  where
    either : (c : Bool) → (c || true) ≡ true
    either true = refl
    either false = refl

each_turn : (P : Instance → Type 0) (n : ℕ) (first : ℤ) (body : ℤ → List Instance) → ((z : ℤ) → Each P (body z)) → Each P (turns n first body)
each_turn P zero first body h = tt
each_turn P (suc n) first body h = each_append P (body first) (turns n (first +ℤ pos 1) body) (h first) (each_turn P n (first +ℤ pos 1) body h)

if_then : (P : Instance → Type 0) (b : Bool) (xs : List Instance) → Each P xs → Each P (if b then xs else [])
if_then P true xs h = h
if_then P false xs h = tt

own_array : (a : ArrayId) → (same_array a a || false) ≡ true
own_array a = grind (arith, nat_tests)

abbrev array_set : ArrayId → Effect → ArrayId
array_set array (Sets p) = p.array
array_set array (Keeps local) = array

same_set : (q p : Place) → Sets q ≡ Sets p → (same_array p.array q.array || false) ≡ true
same_set q p e =
    let is : q.array ≡ p.array = ap (array_set q.array) e in
    subst (λ (a : ArrayId). (same_array p.array a || false) ≡ true) (sym is) (own_array p.array)

module _ (a : Lists) where
  abbrev Writing : Item → Type 0
  Writing item = (env : List Binding) → Each (WritesIn (item_targets item)) (item_instances a item env)

  abbrev WritingItem : Type 0
  WritingItem = (item : Item) × Writing item

  abbrev items_of : List WritingItem → List Item
  items_of es = map (λ e. e.0) es

  body_write : (es : List WritingItem) (env : List Binding) → Each (WritesIn (body_targets (items_of es))) (in_turn (map (item_instances a) (items_of es)) env)
  body_write [] env = tt
  body_write (e ∷ es) env =
      let f : List ArrayId = item_targets e.0 in
      let g : List ArrayId = body_targets (items_of es) in
      each_append (WritesIn (f ++ g)) (item_instances a e.0 env) (in_turn (map (item_instances a) (items_of es)) env)
      (each_weaker (WritesIn f) (WritesIn (f ++ g)) (in_first f g) (item_instances a e.0 env) (e.1 env))
      (each_weaker (WritesIn g) (WritesIn (f ++ g)) (in_second f g) (in_turn (map (item_instances a) (items_of es)) env) (body_write es env))

  item_case : (y : Item-F WritingItem) → Writing (roll-Item (map-Item WritingItem Item (λ e. e.0) y))
  item_case y env =
      let x : Item-F Item = map-Item WritingItem Item (λ e. e.0) y in
      subst (λ (z : List ArrayId × List Instance). Each (WritesIn z.0) z.1)
      (λ i. (sym (fold-roll-Item (List ArrayId) targets_step x) i, sym (fold-roll-Item (List Binding → List Instance) (item_step a) x) i env))
      (by y)
    where
      by : (y : Item-F WritingItem) → let x : Item-F Item = map-Item WritingItem Item (λ e. e.0) y in
          Each (WritesIn (targets_step (map-Item Item (List ArrayId) item_targets x))) (item_step a (map-Item Item (List Binding → List Instance) (item_instances a) x) env)
      by (Item-F.For line name lo hi body) =
          each_turn (WritesIn (body_targets (items_of body))) (trips (term_value a env lo) (term_value a env hi)) (term_value a env lo)
          (λ i. in_turn (map (item_instances a) (items_of body)) (bound line i env)) (λ z. body_write body (bound line z env))
      by (Item-F.When line rel left right body) =
          if_then (WritesIn (body_targets (items_of body))) (related rel (term_value a env left) (term_value a env right))
          (in_turn (map (item_instances a) (items_of body)) env) (body_write body env)
      by (Item-F.Set line array at value) = (λ p e. same_set (record { array = array; at = term_value a env at }) p e, tt)
      by (Item-F.Keep line local value) = (λ p e. absurd (cc), tt)

  item_writes : (item : Item) → Writing item
  item_writes = ind-Item Writing (λ x y is. subst (λ z. Writing (roll-Item z)) is (item_case y))

  items_write : (items : List Item) (env : List Binding) → Each (WritesIn (body_targets items)) (body_instances a items env)
  items_write [] env = tt
  items_write (i ∷ is) env =
      let f : List ArrayId = item_targets i in
      let g : List ArrayId = body_targets is in
      each_append (WritesIn (f ++ g)) (item_instances a i env) (body_instances a is env)
      (each_weaker (WritesIn f) (WritesIn (f ++ g)) (in_first f g) (item_instances a i env) (item_writes i env))
      (each_weaker (WritesIn g) (WritesIn (f ++ g)) (in_second f g) (body_instances a is env) (items_write is env))

  pub set_is_target : (nest : Nest) (i : ℤ) (s : Instance) (p : Place) → Contains (instances a nest i) s → s.effect ≡ Sets p → is_target nest p.array ≡ true
  set_is_target nest i s p h = each_of (WritesIn (body_targets nest.body)) (instances a nest i) s (items_write nest.body (bound nest.line i [])) h p
