-- Places of a list that pass a test, where they are one block.
use Rattle.std.proofs.Common.{◌≡◌, ℕ, ◌+◌, ◌<◌, ◌≤◌, ◌∙◌, ◌++◌, List, [], ◌∷◌, Bool, true, false, cond, length, take, drop, map, arith, refl, ap, sym}
use Rattle.std.specs.List.{filter, enumerate_from, between}
use Rattle.std.proofs.lemmas.List.{length-take-le, append-nil}
use Rattle.std.proofs.lemmas.List.Edits.{split_between, length-between}

-- the elements whose place passes
abbrev pub kept : {X : Type 0} → (ℕ → Bool) → ℕ → List X → List X
kept p n xs = map (λ e. e.1) (filter (λ e. p e.0) (enumerate_from n xs))

kept-step : {X : Type 0} (b : Bool) (e : ℕ × X) (es : List (ℕ × X)) → map (λ e. e.1) (cond b (e ∷ es) es) ≡ cond b (e.1 ∷ map (λ e. e.1) es) (map (λ e. e.1) es)
kept-step true e es = refl
kept-step false e es = refl

pub kept-cons : {X : Type 0} (p : ℕ → Bool) (n : ℕ) (x : X) (xs : List X) → kept p n (x ∷ xs) ≡ cond (p n) (x ∷ kept p (n + 1) xs) (kept p (n + 1) xs)
kept-cons p n x xs = kept-step (p n) (n, x) (filter (λ e. p e.0) (enumerate_from (n + 1) xs))

pub kept-none : {X : Type 0} (p : ℕ → Bool) (n : ℕ) (xs : List X) → ((s : ℕ) → n ≤ s → s < n + length xs → p s ≡ false) → kept p n xs ≡ []
kept-none p n [] h = refl
kept-none p n (x ∷ xs) h =
    let r = kept-none p (n + 1) xs (λ s l m. h s (omega arith) (omega arith)) in
    kept-cons p n x xs ∙ ap (λ b. cond b (x ∷ kept p (n + 1) xs) (kept p (n + 1) xs)) (h n (omega arith) (omega arith)) ∙ r

pub kept-all : {X : Type 0} (p : ℕ → Bool) (n : ℕ) (xs : List X) → ((s : ℕ) → n ≤ s → s < n + length xs → p s ≡ true) → kept p n xs ≡ xs
kept-all p n [] h = refl
kept-all p n (x ∷ xs) h =
    let r = kept-all p (n + 1) xs (λ s l m. h s (omega arith) (omega arith)) in
    kept-cons p n x xs ∙ ap (λ b. cond b (x ∷ kept p (n + 1) xs) (kept p (n + 1) xs)) (h n (omega arith) (omega arith)) ∙ ap (λ ys. x ∷ ys) r

cond-append : {X : Type 0} (b : Bool) (x : X) (xs ys : List X) → cond b (x ∷ (xs ++ ys)) (xs ++ ys) ≡ cond b (x ∷ xs) xs ++ ys
cond-append true x xs ys = refl
cond-append false x xs ys = refl

pub kept-append : {X : Type 0} (p : ℕ → Bool) (n : ℕ) (xs ys : List X) → kept p n (xs ++ ys) ≡ kept p n xs ++ kept p (n + length xs) ys
kept-append p n [] ys = ap (λ k. kept p k ys) (omega arith)
kept-append p n (x ∷ xs) ys =
    let r = kept-append p (n + 1) xs ys in
    let e : n + 1 + length xs ≡ n + length (x ∷ xs) = omega arith in
    let q : kept p (n + 1) (xs ++ ys) ≡ kept p (n + 1) xs ++ kept p (n + length (x ∷ xs)) ys = r ∙ ap (λ k. kept p (n + 1) xs ++ kept p k ys) e in
    kept-cons p n x (xs ++ ys) ∙ ap (λ zs. cond (p n) (x ∷ zs) zs) q ∙ cond-append (p n) x (kept p (n + 1) xs) (kept p (n + length (x ∷ xs)) ys) ∙ ap (λ zs. zs ++ kept p (n + length (x ∷ xs)) ys) (sym (kept-cons p n x xs))

pub kept-block : {X : Type 0} (p : ℕ → Bool) (xs : List X) (a b : ℕ) → a ≤ b → b ≤ length xs → ((s : ℕ) → s < a → p s ≡ false) → ((s : ℕ) → a ≤ s → s < b → p s ≡ true) → ((s : ℕ) → b ≤ s → p s ≡ false) → kept p 0 xs ≡ between a b xs
kept-block p xs a b h l lower within upper =
    let x = length-take-le a xs (omega arith) in
    let y = length-between xs a b l in
    let first = kept-none p 0 (take a xs) (λ s _ m. lower s (omega arith)) in
    let second = kept-all p (0 + length (take a xs)) (between a b xs) (λ s m n. within s (omega arith) (omega arith)) in
    let third = kept-none p (0 + length (take a xs) + length (between a b xs)) (drop b xs) (λ s m n. upper s (omega arith)) in
    ap (kept p 0) (split_between xs a b h)
    ∙ kept-append p 0 (take a xs) (between a b xs ++ drop b xs)
    ∙ ap (λ zs. zs ++ kept p (0 + length (take a xs)) (between a b xs ++ drop b xs)) first
    ∙ kept-append p (0 + length (take a xs)) (between a b xs) (drop b xs)
    ∙ ap (λ zs. zs ++ kept p (0 + length (take a xs) + length (between a b xs)) (drop b xs)) second
    ∙ ap (λ zs. between a b xs ++ zs) third
    ∙ append-nil (between a b xs)
