-- Lemmas on the arrays that items write.
use Rattle.std.proofs.Common.{◌≡◌, ℕ, zero, suc, ◌+◌, ◌<◌, ◌≤◌, Bool, true, false, ◌||◌, List, [], ◌∷◌, ◌++◌, length, get_or, drop, refl, ap, ◌∙◌, add-one, arith}
use Rattle.std.specs.List.{list_any}
use Rattle.wave_base.specs.declared.types.ArrayId.{ArrayId}
use Rattle.loop_core.specs.declared.nest.Item.{Item}
use Rattle.loop_core.specs.Shape.{item_targets, body_targets}

any-append : {X : Type 0} (p : X → Bool) (xs ys : List X) → list_any p (xs ++ ys) ≡ (list_any p xs || list_any p ys)
any-append p [] ys = refl
any-append p (x ∷ xs) ys =
    elim (p x) as (λ b. (b || list_any p (xs ++ ys)) ≡ ((b || list_any p xs) || list_any p ys)) [ true ↦ refl | false ↦ any-append p xs ys ]

-- the items from k on are that at k and those after it
from_item : (items : List Item) (k : ℕ) (d : Item) → k < length items → body_targets (drop k items) ≡ item_targets (get_or items k d) ++ body_targets (drop (suc k) items)
from_item [] k d lt = absurd (omega arith)
from_item (i ∷ is) zero d lt = refl
from_item (i ∷ is) (suc k) d lt = from_item is k d (omega arith)

pub any_from : (p : ArrayId → Bool) (items : List Item) (k : ℕ) (d : Item) → k < length items → list_any p (body_targets (drop k items)) ≡ (list_any p (item_targets (get_or items k d)) || list_any p (body_targets (drop (k + 1) items)))
any_from p items k d lt =
    rw add-one (ap (list_any p) (from_item items k d lt) ∙ any-append p (item_targets (get_or items k d)) (body_targets (drop (suc k) items)))

-- past the last item there are none
drop_past : (items : List Item) (k : ℕ) → length items ≤ k → drop k items ≡ []
drop_past [] zero le = refl
drop_past [] (suc k) le = refl
drop_past (i ∷ is) zero le = absurd (omega arith)
drop_past (i ∷ is) (suc k) le = drop_past is k (omega arith)

pub any_past : (p : ArrayId → Bool) (items : List Item) (k : ℕ) → length items ≤ k → list_any p (body_targets (drop k items)) ≡ false
any_past p items k le = ap (λ l. list_any p (body_targets l)) (drop_past items k le)
