-- What is read is written so, and what is written is read.
use Rattle.std.proofs.Common.{◌≡◌, ℕ, ℤ, zero, suc, pos, ◌≤◌, Bool, true, false, List, [], ◌∷◌, ◌++◌, Option, Some, None, refl, sym, ap, subst, ◌∙◌, append_assoc, arith}
use Rattle.std.specs.Prelude.{neg_ℤ}
use Rattle.loop_lines.specs.declared.tree.NamedAtom.{NamedAtom}
use Rattle.loop_lines.specs.declared.tree.NamedAtom.TheVariants as atoms
use Rattle.loop_lines.specs.declared.tree.NamedTerm.{NamedTerm}
use Rattle.loop_lines.specs.declared.token.Token.{Token}
use Rattle.loop_lines.specs.declared.token.Token.TheVariants as tokens
use Rattle.loop_lines.specs.declared.tree.ArrayName.{ArrayName}
use Rattle.loop_lines.specs.declared.tree.ArrayName.TheVariants as arrays
use Rattle.loop_lines.specs.Grammar.{Numeral, Shift, Simple, Written, numeral, shift, simple, array, term, value, shift_of, atom_of, meaning}
use Rattle.loop_lines.specs.Reading.{◌>>=◌, numeral_at, negated_at, with_atom, constant, shifted_at, open_at, close_at, closed_at, zero_at, array_at, entry_at, plain_at, or_else, term_at}

pub bind_some : {A B : Type 0} (o : Option A) (f : A → Option B) (y : B) → (o >>= f) ≡ Some y → (x : A) × (o ≡ Some x) × (f x ≡ Some y)
bind_some None f y e = absurd cc
bind_some (Some x) f y e = (x, refl, e)

pub some_is : {A : Type 0} (x y : A) → Some x ≡ Some y → x ≡ y
some_is x y e = cc

-- what was read from the front of tokens, and what it means
pub record Wrote {W A : Type 0} (write : W → List Token) (mean : W → A) (ts : List Token) (x : A × List Token) : Type 0 where
  pub written : W
  pub tokens : ts ≡ write written ++ x.1
  pub means : mean written ≡ x.0

abbrev pub plus_of : Numeral → ℤ
plus_of n = pos (value n)

abbrev pub less_of : Numeral → ℤ
less_of n = neg_ℤ (pos (value n))

pub numeral_sound : (ts : List Token) (x : ℤ × List Token) → numeral_at ts ≡ Some x → Wrote numeral plus_of ts x
numeral_sound [] x e = absurd cc
numeral_sound (tokens.Zero ∷ ts) x e = subst (Wrote numeral plus_of (tokens.Zero ∷ ts)) (some_is _ x e) (record { written = Numeral.Zero; tokens = refl; means = refl })
numeral_sound (tokens.One ∷ ts) x e = subst (Wrote numeral plus_of (tokens.One ∷ ts)) (some_is _ x e) (record { written = Numeral.One; tokens = refl; means = refl })
numeral_sound (tokens.Number n ∷ ts) x e = subst (Wrote numeral plus_of (tokens.Number n ∷ ts)) (some_is _ x e) (record { written = Numeral.Number n; tokens = refl; means = refl })
numeral_sound (_ ∷ ts) x e = absurd cc

pub negated_sound : (ts : List Token) (x : ℤ × List Token) → negated_at ts ≡ Some x → Wrote numeral less_of ts x
negated_sound [] x e = absurd cc
negated_sound (tokens.Zero ∷ ts) x e = subst (Wrote numeral less_of (tokens.Zero ∷ ts)) (some_is _ x e) (record { written = Numeral.Zero; tokens = refl; means = refl })
negated_sound (tokens.One ∷ ts) x e = subst (Wrote numeral less_of (tokens.One ∷ ts)) (some_is _ x e) (record { written = Numeral.One; tokens = refl; means = refl })
negated_sound (tokens.Number n ∷ ts) x e = subst (Wrote numeral less_of (tokens.Number n ∷ ts)) (some_is _ x e) (record { written = Numeral.Number n; tokens = refl; means = refl })
negated_sound (_ ∷ ts) x e = absurd cc

abbrev pub with_shift : NamedAtom → Shift → NamedTerm
with_shift atom s = with_atom atom (shift_of s)

pub shifted_sound : (atom : NamedAtom) (ts : List Token) (x : NamedTerm × List Token) → shifted_at atom ts ≡ Some x → Wrote shift (with_shift atom) ts x
shifted_sound atom (tokens.Plus ∷ ts) x e =
    let f : ℤ × List Token → Option (NamedTerm × List Token) = λ n. Some (with_atom atom n.0, n.1) in
    let b = bind_some (numeral_at ts) f x e in
    let n = numeral_sound ts b.0 b.1 in
    subst (Wrote shift (with_shift atom) (tokens.Plus ∷ ts)) (some_is _ x b.2)
    (record { written = Shift.Plus n.written; tokens = ap (λ (l : List Token). tokens.Plus ∷ l) n.tokens; means = ap (with_atom atom) n.means })
shifted_sound atom (tokens.Minus ∷ ts) x e =
    let f : ℤ × List Token → Option (NamedTerm × List Token) = λ n. Some (with_atom atom n.0, n.1) in
    let b = bind_some (negated_at ts) f x e in
    let n = negated_sound ts b.0 b.1 in
    subst (Wrote shift (with_shift atom) (tokens.Minus ∷ ts)) (some_is _ x b.2)
    (record { written = Shift.Less n.written; tokens = ap (λ (l : List Token). tokens.Minus ∷ l) n.tokens; means = ap (with_atom atom) n.means })
shifted_sound atom ts x e = subst (Wrote shift (with_shift atom) ts) (some_is _ x e) (record { written = Shift.Bare; tokens = refl; means = refl })

zero_sound : (ts : List Token) (x : NamedTerm × List Token) → zero_at ts ≡ Some x → Wrote term meaning (tokens.Zero ∷ ts) x
zero_sound (tokens.Minus ∷ ts) x e =
    let f : ℤ × List Token → Option (NamedTerm × List Token) = λ n. Some (constant n.0, n.1) in
    let b = bind_some (negated_at ts) f x e in
    let n = negated_sound ts b.0 b.1 in
    subst (Wrote term meaning (tokens.Zero ∷ tokens.Minus ∷ ts)) (some_is _ x b.2)
    (record { written = Written.Negative n.written; tokens = ap (λ (l : List Token). tokens.Zero ∷ tokens.Minus ∷ l) n.tokens; means = ap constant n.means })
zero_sound ts x e = subst (Wrote term meaning (tokens.Zero ∷ ts)) (some_is _ x e) (record { written = Written.Constant Numeral.Zero; tokens = refl; means = refl })

pub close_sound : (ts rest : List Token) → close_at ts ≡ Some rest → ts ≡ tokens.Close ∷ rest
close_sound [] rest e = absurd cc
close_sound (tokens.Close ∷ ts) rest e = ap (λ (l : List Token). tokens.Close ∷ l) (some_is _ rest e)
close_sound (_ ∷ ts) rest e = absurd cc

simple_sound : (a : Simple) (ts : List Token) (x : NamedTerm × List Token) → shifted_at (atom_of a) ts ≡ Some x → Wrote term meaning (simple a ∷ ts) x
simple_sound a ts x e =
    let s = shifted_sound (atom_of a) ts x e in
    record { written = Written.Shifted a s.written; tokens = ap (λ (l : List Token). simple a ∷ l) s.tokens; means = s.means }

-- an array, a bracket, a term that was read and its end
closed_sound : (array_name : ArrayName) (w : Written) (inner : NamedTerm) (ts rest : List Token) (x : NamedTerm × List Token) → meaning w ≡ inner → ts ≡ term w ++ rest → closed_at array_name inner rest ≡ Some x → Wrote term meaning (array array_name ∷ tokens.Open ∷ ts) x
closed_sound array_name w inner ts rest x m is e =
    let c = bind_some (close_at rest) (λ l. shifted_at (atoms.At array_name inner) l) x e in
    let s = shifted_sound (atoms.At array_name inner) c.0 x c.2 in
    let inside : ts ≡ term w ++ (tokens.Close ∷ (shift s.written ++ x.1)) = is ∙ ap (λ (l : List Token). term w ++ l) (close_sound rest c.0 c.1 ∙ ap (λ (l : List Token). tokens.Close ∷ l) s.tokens) in
    record {
      written = Written.Entry array_name w s.written;
      tokens = ap (λ (l : List Token). array array_name ∷ tokens.Open ∷ l) (inside ∙ sym (append_assoc (term w) (tokens.Close ∷ shift s.written) x.1));
      means = ap (λ (t : NamedTerm). with_shift (atoms.At array_name t) s.written) m ∙ s.means;
    }

pub open_sound : (ts rest : List Token) → open_at ts ≡ Some rest → ts ≡ tokens.Open ∷ rest
open_sound [] rest e = absurd cc
open_sound (tokens.Open ∷ ts) rest e = ap (λ (l : List Token). tokens.Open ∷ l) (some_is _ rest e)
open_sound (_ ∷ ts) rest e = absurd cc

pub array_sound : (ts : List Token) (x : ArrayName × List Token) → array_at ts ≡ Some x → ts ≡ array x.0 ∷ x.1
array_sound [] x e = absurd cc
array_sound (tokens.Name name ∷ ts) x e = ap (λ (y : ArrayName × List Token). array y.0 ∷ y.1) (some_is _ x e)
array_sound (tokens.Dotted matrix part ∷ ts) x e = ap (λ (y : ArrayName × List Token). array y.0 ∷ y.1) (some_is _ x e)
array_sound (_ ∷ ts) x e = absurd cc

pub entry_sound : (ts : List Token) (x : ArrayName × List Token) → entry_at ts ≡ Some x → ts ≡ array x.0 ∷ tokens.Open ∷ x.1
entry_sound ts x e =
    let f : ArrayName × List Token → Option (ArrayName × List Token) = λ a. open_at a.1 >>= λ rest. Some (a.0, rest) in
    let a = bind_some (array_at ts) f x e in
    let o = bind_some (open_at a.0.1) (λ rest. Some (a.0.0, rest)) x a.2 in
    array_sound ts a.0 a.1 ∙ ap (λ (l : List Token). array a.0.0 ∷ l) (open_sound a.0.1 o.0 o.1) ∙ ap (λ (y : ArrayName × List Token). array y.0 ∷ tokens.Open ∷ y.1) (some_is _ x o.2)

plain_sound : (ts : List Token) (x : NamedTerm × List Token) → plain_at ts ≡ Some x → Wrote term meaning ts x
plain_sound [] x e = absurd cc
plain_sound (tokens.Zero ∷ ts) x e = zero_sound ts x e
plain_sound (tokens.One ∷ ts) x e = subst (Wrote term meaning (tokens.One ∷ ts)) (some_is _ x e) (record { written = Written.Constant Numeral.One; tokens = refl; means = refl })
plain_sound (tokens.Number n ∷ ts) x e = subst (Wrote term meaning (tokens.Number n ∷ ts)) (some_is _ x e) (record { written = Written.Constant (Numeral.Number n); tokens = refl; means = refl })
plain_sound (tokens.N ∷ ts) x e = simple_sound Simple.N ts x e
plain_sound (tokens.Nnz ∷ ts) x e = simple_sound Simple.Nnz ts x e
plain_sound (tokens.Name name ∷ ts) x e = simple_sound (Simple.Name name) ts x e
plain_sound (_ ∷ ts) x e = absurd cc

pub term_sound : (k : ℕ) (ts : List Token) (x : NamedTerm × List Token) → term_at k ts ≡ Some x → Wrote term meaning ts x
term_sound zero ts x e = absurd cc
term_sound (suc k) ts x e =
    let g : ArrayName × List Token → Option (NamedTerm × List Token) = λ y. term_at k y.1 >>= λ t. closed_at y.0 t.0 t.1 in
    let P : Option (ArrayName × List Token) → Type 0 = λ o. entry_at ts ≡ o → or_else o g (plain_at ts) ≡ Some x → Wrote term meaning ts x in
    let each : (o : Option (ArrayName × List Token)) → P o = λ o. elim o as P [
      | None ↦ (λ d f. plain_sound ts x f)
      | Some y ↦ (λ d f.
          let b = bind_some (term_at k y.1) (λ t. closed_at y.0 t.0 t.1) x f in
          let t = term_sound k y.1 b.0 b.1 in
          let h = closed_sound y.0 t.written b.0.0 y.1 b.0.1 x t.means t.tokens b.2 in
          record { written = h.written; tokens = entry_sound ts y d ∙ h.tokens; means = h.means })
    ] in
    each (entry_at ts) refl e

-- ---- what is written is read

-- no shift begins here
abbrev pub ends_term : List Token → Bool
ends_term (tokens.Plus ∷ ts) = false
ends_term (tokens.Minus ∷ ts) = false
ends_term (tokens.Open ∷ ts) = false
ends_term _ = true

pub numeral_again : (n : Numeral) (rest : List Token) → numeral_at (numeral n ++ rest) ≡ Some (plus_of n, rest)
numeral_again Numeral.Zero rest = refl
numeral_again Numeral.One rest = refl
numeral_again (Numeral.Number n) rest = refl

pub negated_again : (n : Numeral) (rest : List Token) → negated_at (numeral n ++ rest) ≡ Some (less_of n, rest)
negated_again Numeral.Zero rest = refl
negated_again Numeral.One rest = refl
negated_again (Numeral.Number n) rest = refl

bare_again : (atom : NamedAtom) (rest : List Token) → ends_term rest ≡ true → shifted_at atom rest ≡ Some (with_shift atom Shift.Bare, rest)
bare_again atom (tokens.Plus ∷ ts) e = absurd cc
bare_again atom (tokens.Minus ∷ ts) e = absurd cc
bare_again atom _ e = refl

pub shifted_again : (atom : NamedAtom) (s : Shift) (rest : List Token) → ends_term rest ≡ true → shifted_at atom (shift s ++ rest) ≡ Some (with_shift atom s, rest)
shifted_again atom Shift.Bare rest e = bare_again atom rest e
shifted_again atom (Shift.Plus n) rest e = rw (numeral_again n rest) refl
shifted_again atom (Shift.Less n) rest e = rw (negated_again n rest) refl

pub zero_again : (rest : List Token) → ends_term rest ≡ true → zero_at rest ≡ Some (meaning (Written.Constant Numeral.Zero), rest)
zero_again (tokens.Minus ∷ ts) e = absurd cc
zero_again _ e = refl

no_bracket : (s : Shift) (rest : List Token) → ends_term rest ≡ true → open_at (shift s ++ rest) ≡ None
no_bracket Shift.Bare (tokens.Open ∷ ts) e = absurd cc
no_bracket Shift.Bare _ e = refl
no_bracket (Shift.Plus n) rest e = refl
no_bracket (Shift.Less n) rest e = refl

-- how deep brackets stand in one another
abbrev pub height : Written → ℕ
height (Written.Constant n) = 1
height (Written.Negative n) = 1
height (Written.Shifted a s) = 1
height (Written.Entry f t s) = suc (height t)

pub array_again : (f : ArrayName) (rest : List Token) → array_at (array f ∷ rest) ≡ Some (f, rest)
array_again (arrays.Own name) rest = refl
array_again (arrays.Dotted matrix part) rest = refl

entry_again : (f : ArrayName) (t : Written) (s : Shift) (k : ℕ) (rest : List Token) → term_at k (term t ++ (tokens.Close ∷ (shift s ++ rest))) ≡ Some (meaning t, tokens.Close ∷ (shift s ++ rest)) → ends_term rest ≡ true → term_at (suc k) (term (Written.Entry f t s) ++ rest) ≡ Some (meaning (Written.Entry f t s), rest)
entry_again (arrays.Own name) t s k rest inner e =
    let regrouped : (term t ++ tokens.Close ∷ shift s) ++ rest ≡ term t ++ (tokens.Close ∷ (shift s ++ rest)) = append_assoc (term t) (tokens.Close ∷ shift s) rest in
    rw (regrouped, inner) (shifted_again (atoms.At (arrays.Own name) (meaning t)) s rest e)
entry_again (arrays.Dotted matrix part) t s k rest inner e =
    let regrouped : (term t ++ tokens.Close ∷ shift s) ++ rest ≡ term t ++ (tokens.Close ∷ (shift s ++ rest)) = append_assoc (term t) (tokens.Close ∷ shift s) rest in
    rw (regrouped, inner) (shifted_again (atoms.At (arrays.Dotted matrix part) (meaning t)) s rest e)

pub term_again : (w : Written) (k : ℕ) (rest : List Token) → height w ≤ k → ends_term rest ≡ true → term_at k (term w ++ rest) ≡ Some (meaning w, rest)
term_again w zero rest le e = absurd (elim w as (λ w. height w ≤ 0 → ⊥) [ Written.Constant n ↦ (λ h. omega arith) | Written.Negative n ↦ (λ h. omega arith) | Written.Shifted a s ↦ (λ h. omega arith) | Written.Entry f t s ↦ (λ h. omega arith) ] le)
term_again (Written.Constant Numeral.Zero) (suc k) rest le e = zero_again rest e
term_again (Written.Constant Numeral.One) (suc k) rest le e = refl
term_again (Written.Constant (Numeral.Number n)) (suc k) rest le e = refl
term_again (Written.Negative n) (suc k) rest le e = rw (negated_again n rest) refl
term_again (Written.Shifted Simple.N s) (suc k) rest le e = shifted_again atoms.N s rest e
term_again (Written.Shifted Simple.Nnz s) (suc k) rest le e = shifted_again atoms.Nnz s rest e
term_again (Written.Shifted (Simple.Name v) s) (suc k) rest le e = rw (no_bracket s rest e) (shifted_again (atoms.Var v) s rest e)
term_again (Written.Entry (arrays.Own name) t s) (suc k) rest le e = entry_again (arrays.Own name) t s k rest (term_again t k (tokens.Close ∷ (shift s ++ rest)) (omega arith) refl) e
term_again (Written.Entry (arrays.Dotted matrix part) t s) (suc k) rest le e = entry_again (arrays.Dotted matrix part) t s k rest (term_again t k (tokens.Close ∷ (shift s ++ rest)) (omega arith) refl) e
