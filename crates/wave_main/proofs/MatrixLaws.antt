-- Vectors of files, one after another.
use Rattle.std.proofs.Common.{ℕ, zero, suc, ℤ, ◌≡◌, ◌⊎◌, inl, inr, ◌<◌, ◌≤◌, ◌+◌, ◌^◌, List, [], ◌∷◌, ◌++◌, Option, Some, None, length, drop, refl, sym, ◌∙◌, ap, subst, arith, append_assoc}
use Rattle.std.specs.Prelude.{Vec, get_or}
use Rattle.std.specs.declared.alloc.Global.{Global}
use Rattle.std.proofs.lemmas.List.{length-append, append-nil}
use Rattle.mtx_read.specs.Files.{vector}
use Rattle.wave_main.specs.declared.status.Status.{Status}
use Rattle.wave_main.specs.declared.status.Status.TheVariants.{Memory}
use Rattle.wave_main.specs.Files.{IsFetched, AreFetched}
use Rattle.wave_main.specs.Matrices.{first_status, fault_of, ok_or, vectors_fault, vectors_of}
use Rattle.wave_main.proofs.FileLaws.{fetched_lengths, plus_one}

fetched_next : (bytes : List (List ℕ)) (got : List (Option (Vec ℕ Global))) (i : ℕ) (f : Option (Vec ℕ Global)) → AreFetched (2 ^ 28) bytes got → i < length got → f ≡ get_or got i f
    → (b : List ℕ) × (drop i bytes ≡ b ∷ drop (suc i) bytes) × IsFetched (2 ^ 28) b f
fetched_next [] [] i f are h e = absurd (omega (arith, h))
fetched_next (b ∷ bs) (g ∷ gs) zero f (first, rest) h e = (b, refl, subst (IsFetched (2 ^ 28) b) (sym e) first)
fetched_next (b ∷ bs) (g ∷ gs) (suc i) f (first, rest) h e = fetched_next bs gs i f rest (omega (arith, h)) e
fetched_next [] (g ∷ gs) i f are h e = absurd are
fetched_next (b ∷ bs) [] i f are h e = absurd are

-- the file at a place, and its bytes
pub fetched_here : (bytes : List (List ℕ)) (got : List (Option (Vec ℕ Global))) (i : ℕ) (f : Option (Vec ℕ Global)) → AreFetched (2 ^ 28) bytes got → i < length got → f ≡ get_or got i f
    → (b : List ℕ) × (drop i bytes ≡ b ∷ drop (i + 1) bytes) × IsFetched (2 ^ 28) b f
fetched_here bytes got i f are h e =
    let here = fetched_next bytes got i f are h e in (here.0, here.1 ∙ ap (λ n. here.0 ∷ drop n bytes) (plus_one i), here.2)

pub refused_here : (word i : ℕ) (bytes : List (List ℕ)) (b : List ℕ) (total : Option Status) (status : Status) → drop i bytes ≡ b ∷ drop (i + 1) bytes
    → (status ≡ Memory) ⊎ (fault_of word (vector b) ≡ Some status) → vectors_fault word (drop i bytes) ≡ total → (status ≡ Memory) ⊎ (total ≡ Some status)
refused_here word i bytes b total status split cause left = elim cause [
  | inl want ↦ inl want
  | inr fault ↦ inr (sym left ∙ ap (vectors_fault word) split ∙ ap (λ (o : Option Status). first_status o (vectors_fault (word + 1) (drop (i + 1) bytes))) fault)
]

pub more_vectors : {X : Type 0} (xs ys : List X) (x : X) (n : ℕ) → ys ≡ xs ++ x ∷ [] → length xs ≡ n → length ys ≡ n + 1
more_vectors xs ys x n grown len = let e = ap length grown in let f = length-append xs (x ∷ []) in omega (arith, e, f, len)

pub goes_on : (word i : ℕ) (bytes : List (List ℕ)) (b : List ℕ) (total : Option Status) (all : List (List ℤ)) (v : List ℤ) (old new : List (List ℤ))
    → drop i bytes ≡ b ∷ drop (i + 1) bytes → fault_of word (vector b) ≡ None → v ≡ ok_or [] (vector b) → new ≡ old ++ v ∷ []
    → vectors_fault word (drop i bytes) ≡ total → old ++ vectors_of (drop i bytes) ≡ all
    → (vectors_fault (word + 1) (drop (i + 1) bytes) ≡ total) × (new ++ vectors_of (drop (i + 1) bytes) ≡ all)
goes_on word i bytes b total all v old new split none is grown left rest =
    let rest_of = drop (i + 1) bytes in (
      ap (λ (o : Option Status). first_status o (vectors_fault (word + 1) rest_of)) (sym none) ∙ ap (vectors_fault word) (sym split) ∙ left,
      ap (λ (l : List (List ℤ)). l ++ vectors_of rest_of) grown ∙ append_assoc old (v ∷ []) (vectors_of rest_of) ∙ ap (λ (x : List ℤ). old ++ x ∷ vectors_of rest_of) is ∙ ap (λ (l : List (List ℕ)). old ++ vectors_of l) (sym split) ∙ rest,
    )

past_end : (bytes : List (List ℕ)) (i : ℕ) → length bytes ≤ i → drop i bytes ≡ []
past_end [] zero h = refl
past_end [] (suc i) h = refl
past_end (b ∷ bs) zero h = absurd (omega (arith, h))
past_end (b ∷ bs) (suc i) h = past_end bs i (omega (arith, h))

pub none_left : (word i : ℕ) (bytes : List (List ℕ)) (got : List (Option (Vec ℕ Global))) (total : Option Status) (vectors : List (List ℤ)) → AreFetched (2 ^ 28) bytes got → length got ≤ i
    → vectors_fault word (drop i bytes) ≡ total → vectors ++ vectors_of (drop i bytes) ≡ vectors_of bytes → (total ≡ None) × (vectors ≡ vectors_of bytes)
none_left word i bytes got total vectors are end left rest =
    let len = fetched_lengths bytes got are in
    let none = past_end bytes i (omega (arith, len, end)) in (
      sym left ∙ ap (vectors_fault word) none,
      sym (append-nil vectors) ∙ ap (λ (l : List (List ℕ)). vectors ++ vectors_of l) (sym none) ∙ rest,
    )
