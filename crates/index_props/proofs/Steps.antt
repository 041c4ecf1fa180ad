-- One more element of a list that is gone over.
use Rattle.std.proofs.Common.{ℕ, ◌≡◌, ◌<◌, ◌+◌, List, [], ◌∷◌, ◌++◌, length, get_or, map, take, sym, ap, ◌∙◌}
use Rattle.std.specs.List.{flat_map}
use Rattle.std.proofs.lemmas.List.{take_more, flat_map_more}
use Rattle.std.proofs.lemmas.List.Concat.{flat_map_single}

pub flat_step : {X A : Type 0} (f : X → List A) (first old new : List A) (xs : List X) (k : ℕ) (x : X) → k < length xs → x ≡ get_or xs k x → old ≡ first ++ flat_map f (take k xs) → new ≡ old ++ f x → new ≡ first ++ flat_map f (take (k + 1) xs)
flat_step f first old new xs k x lt here before after =
    after ∙ ap (λ l. l ++ f x) before ∙ flat_map_more f first (take k xs) x
    ∙ ap (λ l. first ++ flat_map f l) (ap (λ y. take k xs ++ y ∷ []) here ∙ sym (take_more xs k x lt))

pub map_step : {X A : Type 0} (f : X → A) (first old new : List A) (xs : List X) (k : ℕ) (x : X) → k < length xs → x ≡ get_or xs k x → old ≡ first ++ map f (take k xs) → new ≡ old ++ f x ∷ [] → new ≡ first ++ map f (take (k + 1) xs)
map_step f first old new xs k x lt here before after =
    flat_step (λ y. f y ∷ []) first old new xs k x lt here (before ∙ ap (λ l. first ++ l) (sym (flat_map_single f (take k xs)))) after
    ∙ ap (λ l. first ++ l) (flat_map_single f (take (k + 1) xs))
