-- Lists that threads gave.
use Rattle.std.proofs.Common.{◌≡◌, List, [], ◌∷◌, ◌++◌, map, flat_map, vec_items, refl, ap, ◌∙◌, subst, Bor, Ok, Err}
use Rattle.std.specs.Prelude.{IfOk, MatchResult}
use Rattle.std.specs.List.{AllZip, Contains}
use Rattle.std.specs.declared.result.Result.{Result}
use Rattle.std.specs.declared.vec.Vec.{Vec}
use Rattle.rayon.proofs.ListFacts.{AllZip-through}

module _ {X Y Z : Type 0} (E : Type 0) (f : X → List Y) where
  abbrev Makes : X → Result (Vec Y Z) E → Type 0
  Makes x r = IfOk r (λ v. v.items ≡ f x)

  ok_items : (xs : List X) (ys : List (Vec Y Z)) → AllZip Makes xs (map Ok ys) → flat_map vec_items ys ≡ flat_map f xs
  ok_items [] [] h = refl
  ok_items [] (y ∷ ys) h = absurd h
  ok_items (x ∷ xs) [] h = absurd h
  ok_items (x ∷ xs) (y ∷ ys) h = ap (λ l. l ++ flat_map vec_items ys) h.0 ∙ ap (λ l. f x ++ l) (ok_items xs ys h.1)

  -- where each gave its list, the lists in order are those of the items
  pub gathered : {W : Type 0} (zs : List (Bor X)) (s : List X) → map (λ (z : Bor X). z.now) zs ≡ s → (rs : List (Result (Vec Y Z) E)) → AllZip (λ (z : Bor X) r. Makes z.now r) zs rs
      → (r : Result (Vec (Vec Y Z) W) E) → MatchResult r (λ c. (ys : List (Vec Y Z)) × (rs ≡ map Ok ys) × (c.items ≡ ys)) (λ e. Contains rs (Err e))
      → IfOk r (λ lists. flat_map vec_items lists.items ≡ flat_map f s)
  gathered zs s shown rs made (Ok lists) h =
      let all : AllZip Makes s rs = subst (λ l. AllZip Makes l rs) shown (AllZip-through (λ (z : Bor X). z.now) _ Makes (λ z y p. p) zs rs made) in
      ap (flat_map vec_items) h.2 ∙ ok_items s h.0 (subst (AllZip Makes s) h.1 all)
  gathered zs s shown rs made (Err e) h = tt
