-- One item, and one bracket, more.
use Rattle.std.proofs.Common.{◌≡◌, ℕ, zero, suc, ◌+◌, ◌<◌, List, [], ◌∷◌, ◌++◌, map, length, get_or, take, refl, sym, ap, ◌∙◌, append_assoc, arith}
use Rattle.std.proofs.lemmas.List.{take_more, map-append, append-nil}
use Rattle.loop_core.specs.declared.nest.Item.{Item}
use Rattle.uf_constraints.specs.declared.reach.Around.{Around}
use Rattle.uf_constraints.specs.declared.reach.Access.{Access}
use Rattle.uf_constraints.specs.declared.reach.Bracket.{Bracket}
use Rattle.uf_constraints.specs.declared.reach.Spot.{Spot}
use Rattle.uf_constraints.specs.Brackets.{bracket, numbered, spots_of_all, item_spots, body_spots}

spots_append : (fs gs : List (List Around → List Spot)) (around : List Around) → spots_of_all (fs ++ gs) around ≡ spots_of_all fs around ++ spots_of_all gs around
spots_append [] gs around = refl
spots_append (f ∷ fs) gs around =
    ap (λ rest. f around ++ rest) (spots_append fs gs around) ∙ sym (append_assoc (f around) (spots_of_all fs around) (spots_of_all gs around))

pub body_more : (items : List Item) (k : ℕ) (d : Item) (around : List Around) → k < length items
    → body_spots (take (k + 1) items) around ≡ body_spots (take k items) around ++ item_spots (get_or items k d) around
body_more items k d around lt =
    let last = get_or items k d in
    ap (λ is. body_spots is around) (take_more items k d lt)
    ∙ ap (λ fs. spots_of_all fs around) (map-append item_spots (take k items) (last ∷ []))
    ∙ spots_append (map item_spots (take k items)) (item_spots last ∷ []) around
    ∙ ap (λ rest. body_spots (take k items) around ++ rest) (append-nil (item_spots last around))

numbered_more : (k n : ℕ) (xs : List Access) (d : Access) → k < length xs
    → numbered n (take (suc k) xs) ≡ numbered n (take k xs) ++ bracket (n + k) (get_or xs k d) ∷ []
numbered_more k n [] d lt = absurd (omega arith)
numbered_more zero n (x ∷ xs) d lt = λ i. bracket (eq i) x ∷ []
  where
    eq : n ≡ n + 0
    eq = omega arith
numbered_more (suc k) n (x ∷ xs) d lt =
    ap (λ rest. bracket n x ∷ rest) (numbered_more k (n + 1) xs d (omega arith) ∙ ap (λ (m : ℕ). numbered (n + 1) (take k xs) ++ bracket m (get_or xs k d) ∷ []) (omega arith))

pub number_more : (xs : List Access) (k : ℕ) (d : Access) → k < length xs
    → numbered 1 (take (k + 1) xs) ≡ numbered 1 (take k xs) ++ bracket (k + 1) (get_or xs k d) ∷ []
number_more xs k d lt =
    let one : k + 1 ≡ suc k = omega arith in
    let same : 1 + k ≡ k + 1 = omega arith in
    ap (λ (m : ℕ). numbered 1 (take m xs)) one ∙ numbered_more k 1 xs d lt ∙ ap (λ (m : ℕ). numbered 1 (take k xs) ++ bracket m (get_or xs k d) ∷ []) same

pub number_step : (xs : List Access) (k : ℕ) (old new : List Bracket) (x : Access) → k < length xs → x ≡ get_or xs k x
    → old ≡ numbered 1 (take k xs) → new ≡ old ++ bracket (k + 1) x ∷ [] → new ≡ numbered 1 (take (k + 1) xs)
number_step xs k old new x lt is before after =
    after ∙ (λ i. before i ++ bracket (k + 1) (is i) ∷ []) ∙ sym (number_more xs k x lt)

pub body_step : (items : List Item) (k : ℕ) (start old new : List Spot) (item : Item) (around : List Around) → k < length items → item ≡ get_or items k item
    → old ≡ start ++ body_spots (take k items) around → new ≡ old ++ item_spots item around → new ≡ start ++ body_spots (take (k + 1) items) around
body_step items k start old new item around lt is before after =
    after ∙ (λ i. before i ++ item_spots (is i) around)
    ∙ append_assoc start (body_spots (take k items) around) (item_spots (get_or items k item) around)
    ∙ ap (λ rest. start ++ rest) (sym (body_more items k item around lt))
