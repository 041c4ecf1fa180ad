-- Words of arrays.
use Rattle.std.proofs.Common.{◌≡◌, ℕ, zero, suc, ◌+◌, ◌<◌, ◌≤◌, List, [], ◌∷◌, ◌++◌, length, get_or, set, sym, refl, ap, ◌∙◌, subst, ⊎_elim, arith}
use Rattle.std.specs.Prelude.{ℤ, pos, Contains}
use Rattle.std.proofs.lemmas.List.{length-append, length-set, get_or-set_same, get_or-set_other, get_or_past, get_or_append_left, get_or-append-add, set-append_left}
use Rattle.std.proofs.lemmas.Bool.{cases_lt, cases_eq}
use Rattle.std.proofs.lemmas.Bool.Decides.{nat_tests}
use Rattle.wave_base.specs.declared.types.Cell.{Cell}
use Rattle.core_cells.specs.Cells.{at_cell, put, IsInside}
use Rattle.core_words.specs.WordsOf.{list_of, words_of, offset, AreApart, AreWords}

-- the first element, or one of the others
in_rest : (a b : ℕ) (bs : List ℕ) → (a ≡ b → ⊥) → Contains (b ∷ bs) a → Contains bs a
in_rest a b bs ne i = at i.0 i.1 i.2
  where
    at : (k : ℕ) → k < length (b ∷ bs) → get_or (b ∷ bs) k a ≡ a → Contains bs a
    at zero l e = absurd (ne (sym e))
    at (suc k) l e = (k, omega arith, e)

in_more : (a b : ℕ) (bs : List ℕ) → Contains bs a → Contains (b ∷ bs) a
in_more a b bs i = let l = i.1 in (suc i.0, omega arith, i.2)

-- the offset past another array, and at its own
at_own : (a b : ℕ) (bs : List ℕ) (x : List (List ℤ)) → a ≡ b → offset (b ∷ bs) x a ≡ 0
at_own a b bs x e = grind (arith, nat_tests)

at_other : (a b : ℕ) (bs : List ℕ) (x : List (List ℤ)) → (a ≡ b → ⊥) → offset (b ∷ bs) x a ≡ length (list_of x b) + offset bs x a
at_other a b bs x ne = grind (arith, nat_tests)

set_right : (xs ys : List ℤ) (i j : ℕ) (v : ℤ) → i ≡ length xs + j → set (xs ++ ys) i v ≡ xs ++ set ys j v
set_right [] ys i j v e = ap (λ (k : ℕ). set ys k v) (let h : i ≡ j = omega arith in h)
set_right (x ∷ xs) ys zero j v e = absurd (omega arith)
set_right (x ∷ xs) ys (suc i) j v e = ap (λ (zs : List ℤ). x ∷ zs) (set_right xs ys i j v (omega arith))

module _ (x : List (List ℤ)) (c : Cell) (inside : IsInside x c) where
  there : c.array.0 < length x
  there = ⊎_elim (λ l. l) (λ (past : length x ≤ c.array.0). let e = ap (λ (l : List ℤ). length l) (get_or_past x c.array.0 [] past) in absurd (omega arith)) (cases_lt c.array.0 (length x))

  own_list : (v : ℤ) → list_of (put x c v) c.array.0 ≡ set (list_of x c.array.0) c.at v
  own_list v = get_or-set_same x c.array.0 (set (list_of x c.array.0) c.at v) [] there

  other_list : (v : ℤ) (b : ℕ) → (c.array.0 ≡ b → ⊥) → list_of (put x c v) b ≡ list_of x b
  other_list v b ne = get_or-set_other x c.array.0 b (set (list_of x c.array.0) c.at v) [] (λ e. ne (sym e))

  others : (v : ℤ) (bs : List ℕ) → (Contains bs c.array.0 → ⊥) → words_of bs (put x c v) ≡ words_of bs x
  others v [] out = refl
  others v (b ∷ bs) out = let one = other_list v b (λ e. out (0, omega arith, sym e)) in let more = others v bs (λ i. out (in_more c.array.0 b bs i)) in λ i. one i ++ more i

  long : (v : ℤ) (b : ℕ) → length (list_of (put x c v) b) ≡ length (list_of x b)
  long v b = ⊎_elim
      (λ (e : c.array.0 ≡ b). subst (λ (n : ℕ). length (list_of (put x c v) n) ≡ length (list_of x n)) e (ap (λ (l : List ℤ). length l) (own_list v) ∙ length-set (list_of x c.array.0) c.at v))
      (λ (ne : c.array.0 ≡ b → ⊥). ap (λ (l : List ℤ). length l) (other_list v b ne))
      (cases_eq c.array.0 b)

  stays : (v : ℤ) (bs : List ℕ) (n : ℕ) → offset bs (put x c v) n ≡ offset bs x n
  stays v [] n = refl
  stays v (b ∷ bs) n = let l = long v b in let m = stays v bs n in ⊎_elim
      (λ (e : n ≡ b). let h = at_own n b bs (put x c v) e in let h' = at_own n b bs x e in omega arith)
      (λ (ne : n ≡ b → ⊥). let h = at_other n b bs (put x c v) ne in let h' = at_other n b bs x ne in omega arith)
      (cases_eq n b)

  within : (bs : List ℕ) → Contains bs c.array.0 → offset bs x c.array.0 + c.at < length (words_of bs x)
  within [] i = absurd (let l = i.1 in omega arith)
  within (b ∷ bs) i = let n = length-append (list_of x b) (words_of bs x) in ⊎_elim
      (λ (e : c.array.0 ≡ b). let h = at_own c.array.0 b bs x e in let m = ap (λ (k : ℕ). length (list_of x k)) e in omega arith)
      (λ (ne : c.array.0 ≡ b → ⊥). let h = at_other c.array.0 b bs x ne in let m = within bs (in_rest c.array.0 b bs ne i) in omega arith)
      (cases_eq c.array.0 b)

  word : (bs : List ℕ) → Contains bs c.array.0 → get_or (words_of bs x) (offset bs x c.array.0 + c.at) (pos 0) ≡ at_cell x c
  word [] i = absurd (let l = i.1 in omega arith)
  word (b ∷ bs) i = let l : List ℤ = list_of x b in let r : List ℤ = words_of bs x in ⊎_elim
      (λ (e : c.array.0 ≡ b). let h = at_own c.array.0 b bs x e in let m = ap (λ (k : ℕ). length (list_of x k)) e in let q : offset (b ∷ bs) x c.array.0 + c.at ≡ c.at = omega arith in
      ap (λ (k : ℕ). get_or (l ++ r) k (pos 0)) q ∙ (get_or_append_left l r (pos 0) c.at (omega arith) ∙ ap (λ (k : ℕ). get_or (list_of x k) c.at (pos 0)) (sym e)))
      (λ (ne : c.array.0 ≡ b → ⊥). let h = at_other c.array.0 b bs x ne in let q : offset (b ∷ bs) x c.array.0 + c.at ≡ length l + (offset bs x c.array.0 + c.at) = omega arith in
      ap (λ (k : ℕ). get_or (l ++ r) k (pos 0)) q ∙ (get_or-append-add l r (offset bs x c.array.0 + c.at) (pos 0) ∙ word bs (in_rest c.array.0 b bs ne i)))
      (cases_eq c.array.0 b)

  writes : (bs : List ℕ) → AreApart bs → Contains bs c.array.0 → (v : ℤ) → set (words_of bs x) (offset bs x c.array.0 + c.at) v ≡ words_of bs (put x c v)
  writes [] apart i v = absurd (let l = i.1 in omega arith)
  writes (b ∷ bs) apart i v = let l : List ℤ = list_of x b in let r : List ℤ = words_of bs x in ⊎_elim
      (λ (e : c.array.0 ≡ b). let h = at_own c.array.0 b bs x e in let m = ap (λ (k : ℕ). length (list_of x k)) e in let q : offset (b ∷ bs) x c.array.0 + c.at ≡ c.at = omega arith in
      let one : set l c.at v ≡ list_of (put x c v) b = ap (λ (k : ℕ). set (list_of x k) c.at v) (sym e) ∙ (sym (own_list v) ∙ ap (list_of (put x c v)) e) in
      let more : r ≡ words_of bs (put x c v) = sym (others v bs (λ j. apart.0 (subst (Contains bs) e j))) in
      ap (λ (k : ℕ). set (l ++ r) k v) q ∙ (set-append_left l r c.at v (omega arith) ∙ (λ d. one d ++ more d)))
      (λ (ne : c.array.0 ≡ b → ⊥). let h = at_other c.array.0 b bs x ne in
      let one : l ≡ list_of (put x c v) b = sym (other_list v b ne) in let more = writes bs apart.1 (in_rest c.array.0 b bs ne i) v in
      set_right l r (offset (b ∷ bs) x c.array.0 + c.at) (offset bs x c.array.0 + c.at) v (omega arith) ∙ (λ d. one d ++ more d))
      (cases_eq c.array.0 b)

pub are_words : (arrays : List ℕ) (x : List (List ℤ)) (c : Cell) → AreApart arrays → Contains arrays c.array.0 → IsInside x c → AreWords arrays x c
are_words arrays x c apart i l = record {
  inside = within x c l arrays i;
  word = word x c l arrays i;
  set = writes x c l arrays apart i;
  stays = λ v other. ap (λ (n : ℕ). n + other.at) (stays x c l v arrays other.array.0);
}
