-- The grammar of terms: how each is written, and what it means.
use Rattle.std.specs.Prelude.{ℕ, ℤ, pos, neg_ℤ, List, [], ◌∷◌, ◌++◌}
use Rattle.loop_lines.specs.declared.token.Token.{Token}
use Rattle.loop_lines.specs.declared.token.Token.TheVariants as tokens
use Rattle.loop_lines.specs.declared.tree.ArrayName.{ArrayName}
use Rattle.loop_lines.specs.declared.tree.ArrayName.TheVariants as arrays
use Rattle.loop_lines.specs.declared.tree.NamedAtom.{NamedAtom}
use Rattle.loop_lines.specs.declared.tree.NamedAtom.TheVariants as atoms
use Rattle.loop_lines.specs.declared.tree.NamedTerm.{NamedTerm}

-- a number, as the digit 0, the digit 1 or another way
pub data Numeral : Type 0 where
  Zero : Numeral
  One : Numeral
  Number : ℕ → Numeral

pub data Shift : Type 0 where
  Bare : Shift
  Plus : Numeral → Shift
  Less : Numeral → Shift

pub data Simple : Type 0 where
  N : Simple
  Nnz : Simple
  Name : List ℕ → Simple

-- a term as it is written: a number, 0 less a number, an atom with its shift, an array at a term with its shift
pub data Written : Type 0 where
  Constant : Numeral → Written
  Negative : Numeral → Written
  Shifted : Simple → Shift → Written
  Entry : ArrayName → Written → Shift → Written

abbrev pub numeral : Numeral → List Token
numeral Zero = tokens.Zero ∷ []
numeral One = tokens.One ∷ []
numeral (Number n) = tokens.Number n ∷ []

abbrev pub shift : Shift → List Token
shift Bare = []
shift (Plus n) = tokens.Plus ∷ numeral n
shift (Less n) = tokens.Minus ∷ numeral n

abbrev pub simple : Simple → Token
simple N = tokens.N
simple Nnz = tokens.Nnz
simple (Name v) = tokens.Name v

abbrev pub array : ArrayName → Token
array (arrays.Own name) = tokens.Name name
array (arrays.Dotted matrix part) = tokens.Dotted matrix part

abbrev pub term : Written → List Token
term (Constant n) = numeral n
term (Negative n) = tokens.Zero ∷ tokens.Minus ∷ numeral n
term (Shifted a s) = simple a ∷ shift s
term (Entry f t s) = array f ∷ tokens.Open ∷ (term t ++ tokens.Close ∷ shift s)

-- What it means.

abbrev pub value : Numeral → ℕ
value Zero = 0
value One = 1
value (Number n) = n

abbrev pub shift_of : Shift → ℤ
shift_of Bare = pos 0
shift_of (Plus n) = pos (value n)
shift_of (Less n) = neg_ℤ (pos (value n))

abbrev pub atom_of : Simple → NamedAtom
atom_of N = atoms.N
atom_of Nnz = atoms.Nnz
atom_of (Name v) = atoms.Var v

abbrev pub meaning : Written → NamedTerm
meaning (Constant n) = record { atom = atoms.Zero; plus = pos (value n) }
meaning (Negative n) = record { atom = atoms.Zero; plus = neg_ℤ (pos (value n)) }
meaning (Shifted a s) = record { atom = atom_of a; plus = shift_of s }
meaning (Entry f t s) = record { atom = atoms.At f (meaning t); plus = shift_of s }
