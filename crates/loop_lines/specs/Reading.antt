-- Reading from the left, with a bound on how deep brackets stand in one another.
use Rattle.std.specs.Prelude.{◌≡◌, ℕ, zero, suc, ℤ, pos, neg_ℤ, List, ◌∷◌, Option, Some, None, Result, Ok, Err}
use Rattle.loop_lines.specs.declared.refusal.LineRefusal.{LineRefusal}
use Rattle.loop_lines.specs.declared.refusal.LineRefusal.TheVariants as refusals
use Rattle.loop_lines.specs.declared.token.Token.{Token}
use Rattle.loop_lines.specs.declared.token.Token.TheVariants as tokens
use Rattle.loop_lines.specs.declared.tree.ArrayName.{ArrayName}
use Rattle.loop_lines.specs.declared.tree.ArrayName.TheVariants as arrays
use Rattle.loop_lines.specs.declared.tree.NamedAtom.{NamedAtom}
use Rattle.loop_lines.specs.declared.tree.NamedAtom.TheVariants as atoms
use Rattle.loop_lines.specs.declared.tree.NamedTerm.{NamedTerm}

-- a function's answer, seen by view, is what reading gives, unless memory ran out
abbrev pub Fails : {Y : Type 0} → LineRefusal → Option Y → Type 0
Fails refusals.Memory read = Unit {0}
Fails refusals.Text read = read ≡ None

abbrev pub Gives : {X Y : Type 0} → (X → Y) → Result X LineRefusal → Option Y → Type 0
Gives view (Ok x) read = read ≡ Some (view x)
Gives view (Err e) read = Fails e read

infixl 10 ◌>>=◌
abbrev pub ◌>>=◌ : {A B : Type 0} → Option A → (A → Option B) → Option B
(Some x) >>= f = f x
None >>= f = None

abbrev pub numeral_at : List Token → Option (ℤ × List Token)
numeral_at (tokens.Zero ∷ ts) = Some (pos 0, ts)
numeral_at (tokens.One ∷ ts) = Some (pos 1, ts)
numeral_at (tokens.Number n ∷ ts) = Some (pos n, ts)
numeral_at _ = None

abbrev pub negated_at : List Token → Option (ℤ × List Token)
negated_at (tokens.Zero ∷ ts) = Some (neg_ℤ (pos 0), ts)
negated_at (tokens.One ∷ ts) = Some (neg_ℤ (pos 1), ts)
negated_at (tokens.Number n ∷ ts) = Some (neg_ℤ (pos n), ts)
negated_at _ = None

abbrev pub with_atom : NamedAtom → ℤ → NamedTerm
with_atom atom plus = record { atom = atom; plus = plus }

abbrev pub constant : ℤ → NamedTerm
constant = with_atom atoms.Zero

abbrev pub shifted_at : NamedAtom → List Token → Option (NamedTerm × List Token)
shifted_at atom (tokens.Plus ∷ ts) = numeral_at ts >>= λ n. Some (with_atom atom n.0, n.1)
shifted_at atom (tokens.Minus ∷ ts) = negated_at ts >>= λ n. Some (with_atom atom n.0, n.1)
shifted_at atom ts = Some (with_atom atom (pos 0), ts)

abbrev pub open_at : List Token → Option (List Token)
open_at (tokens.Open ∷ ts) = Some ts
open_at _ = None

abbrev pub close_at : List Token → Option (List Token)
close_at (tokens.Close ∷ ts) = Some ts
close_at _ = None

abbrev pub closed_at : ArrayName → NamedTerm → List Token → Option (NamedTerm × List Token)
closed_at array inner ts = close_at ts >>= λ rest. shifted_at (atoms.At array inner) rest

abbrev pub zero_at : List Token → Option (NamedTerm × List Token)
zero_at (tokens.Minus ∷ ts) = negated_at ts >>= λ n. Some (constant n.0, n.1)
zero_at ts = Some (constant (pos 0), ts)

abbrev pub array_at : List Token → Option (ArrayName × List Token)
array_at (tokens.Name name ∷ ts) = Some (arrays.Own name, ts)
array_at (tokens.Dotted matrix part ∷ ts) = Some (arrays.Dotted matrix part, ts)
array_at _ = None

-- an array before a bracket
abbrev pub entry_at : List Token → Option (ArrayName × List Token)
entry_at ts = array_at ts >>= λ a. open_at a.1 >>= λ rest. Some (a.0, rest)

-- a term without a bracket
abbrev pub plain_at : List Token → Option (NamedTerm × List Token)
plain_at (tokens.Zero ∷ ts) = zero_at ts
plain_at (tokens.One ∷ ts) = Some (constant (pos 1), ts)
plain_at (tokens.Number n ∷ ts) = Some (constant (pos n), ts)
plain_at (tokens.N ∷ ts) = shifted_at atoms.N ts
plain_at (tokens.Nnz ∷ ts) = shifted_at atoms.Nnz ts
plain_at (tokens.Name name ∷ ts) = shifted_at (atoms.Var name) ts
plain_at _ = None

abbrev pub or_else : {A B : Type 0} → Option A → (A → B) → B → B
or_else (Some x) f other = f x
or_else None f other = other

abbrev pub term_at : ℕ → List Token → Option (NamedTerm × List Token)
term_at zero ts = None
term_at (suc k) ts = or_else (entry_at ts) (λ x. term_at k x.1 >>= λ t. closed_at x.0 t.0 t.1) (plain_at ts)
