-- Lemmas on the first of lists one after another.
use Rattle.std.proofs.Common.{◌≡◌, ℕ, zero, suc, ◌+◌, ◌<◌, ◌≤◌, List, [], ◌∷◌, ◌++◌, length, get_or, drop, Option, Some, None, true, false, refl, sym, ap, ◌∙◌, add-one, arith}
use Rattle.std.specs.List.{flat_map}
use Rattle.std.specs.Option.{is_some}
use Rattle.inspector_gen.specs.declared.kind.Kind.{Kind}
use Rattle.inspector_gen.specs.Kinds.{first_of}

flat_map_front : {A : Type 0} (g : A → List Kind) (xs : List A) (k : ℕ) (d : A) → k < length xs → flat_map g (drop k xs) ≡ g (get_or xs k d) ++ flat_map g (drop (suc k) xs)
flat_map_front g [] k d lt = absurd (omega arith)
flat_map_front g (x ∷ xs) zero d lt = refl
flat_map_front g (x ∷ xs) (suc k) d lt = flat_map_front g xs k d (omega arith)

pub first_past : {A : Type 0} (g : A → List Kind) (xs : List A) (k : ℕ) (d : A) → k < length xs → g (get_or xs k d) ≡ [] → first_of (flat_map g (drop (k + 1) xs)) ≡ first_of (flat_map g (drop k xs))
first_past g xs k d lt none =
    ap (λ j. first_of (flat_map g (drop j xs))) (add-one k)
    ∙ sym (ap first_of (flat_map_front g xs k d lt ∙ ap (λ l. l ++ flat_map g (drop (suc k) xs)) none))

pub first_here : {A : Type 0} (g : A → List Kind) (xs : List A) (k : ℕ) (d : A) (kind : Kind) → k < length xs → g (get_or xs k d) ≡ kind ∷ [] → Some kind ≡ first_of (flat_map g (drop k xs))
first_here g xs k d kind lt here =
    sym (ap first_of (flat_map_front g xs k d lt ∙ ap (λ l. l ++ flat_map g (drop (suc k) xs)) here))

pub first_end : {A : Type 0} (g : A → List Kind) (xs : List A) (k : ℕ) → length xs ≤ k → None ≡ first_of (flat_map g (drop k xs))
first_end g [] zero le = refl
first_end g [] (suc k) le = refl
first_end g (x ∷ xs) zero le = absurd (omega arith)
first_end g (x ∷ xs) (suc k) le = first_end g xs k (omega arith)

-- a list whose first element is known, and one without a first element
pub first_is : (xs ys : List Kind) (o : Option Kind) → is_some o ≡ true → o ≡ first_of xs → o ≡ first_of (xs ++ ys)
first_is [] ys o some e = let none : is_some o ≡ false = ap is_some e in absurd (cc)
first_is (x ∷ xs) ys o some e = e

pub none_is : (xs ys : List Kind) (o : Option Kind) → is_some o ≡ false → o ≡ first_of xs → first_of ys ≡ first_of (xs ++ ys)
none_is [] ys o none e = refl
none_is (x ∷ xs) ys o none e = let some : is_some o ≡ true = ap is_some e in absurd (cc)

pub first_found : {A : Type 0} (g : A → List Kind) (xs : List A) (k : ℕ) (d : A) (o : Option Kind) → k < length xs → is_some o ≡ true → o ≡ first_of (g (get_or xs k d)) → o ≡ first_of (flat_map g (drop k xs))
first_found g xs k d o lt some e =
    first_is (g (get_or xs k d)) (flat_map g (drop (suc k) xs)) o some e ∙ sym (ap first_of (flat_map_front g xs k d lt))

pub none_found : {A : Type 0} (g : A → List Kind) (xs : List A) (k : ℕ) (d : A) (o : Option Kind) → k < length xs → is_some o ≡ false → o ≡ first_of (g (get_or xs k d)) → first_of (flat_map g (drop (k + 1) xs)) ≡ first_of (flat_map g (drop k xs))
none_found g xs k d o lt none e =
    ap (λ j. first_of (flat_map g (drop j xs))) (add-one k)
    ∙ none_is (g (get_or xs k d)) (flat_map g (drop (suc k) xs)) o none e
    ∙ sym (ap first_of (flat_map_front g xs k d lt))
