-- Bytes that a stream takes one part after another.
use Rattle.std.proofs.Common.{◌≡◌, ◌-◌, ℕ, List, length, take, drop, ◌++◌, Option, Some, None, refl, sym, ap, append_assoc, ◌∙◌, arith}
use Rattle.std.proofs.lemmas.List.{take-append-drop, length-drop, take_all}
use Rattle.wave_io.specs.Written.{grown}

pub grown-grown : (written : Option (List ℕ)) (xs ys : List ℕ) → grown (grown written xs) ys ≡ grown written (xs ++ ys)
grown-grown None xs ys = refl
grown-grown (Some bytes) xs ys = ap Some (append_assoc bytes xs ys)

-- one part more was taken
pub part-more : (bytes part rest : List ℕ) (n k : ℕ) → n ≡ length rest → bytes ≡ part ++ rest
    → bytes ≡ (part ++ take k rest) ++ take (n - k) (drop k rest)
part-more bytes part rest n k e split =
    let whole : take (n - k) (drop k rest) ≡ drop k rest = take_all (n - k) (drop k rest) (omega (arith, length-drop k rest)) in
    split ∙ (ap (λ xs. part ++ xs) (sym (take-append-drop k rest)) ∙ (sym (append_assoc part (take k rest) (drop k rest)) ∙ ap (λ xs. (part ++ take k rest) ++ xs) (sym whole)))
