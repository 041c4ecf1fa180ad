-- The lines of entries and of values.
use Rattle.std.specs.Prelude.{◌<◌, ℕ, ℤ, pos, negsuc, ◌-◌, ◌^◌, Bool, false, List, [], ◌∷◌, if◌then◌else◌, ◌==◌, ◌&&◌, nat_le, nat_lt, Option, Some, None, Result, Ok, Err}
use Rattle.std.specs.Int.{w64, int_wrapping_neg}
use Rattle.text_base.specs.Numbers.{integer}
use Rattle.mtx_read.specs.declared.refusal.EntryKind.{EntryKind}
use Rattle.mtx_read.specs.declared.refusal.EntryKind.TheVariants as kinds
use Rattle.mtx_read.specs.declared.header.Symmetry.{Symmetry}
use Rattle.mtx_read.specs.declared.header.Symmetry.TheVariants.{General, Symmetric, Skew}
use Rattle.mtx_read.specs.declared.header.Field.{Field}
use Rattle.mtx_read.specs.declared.header.Field.TheVariants as fields
use Rattle.mtx_read.specs.declared.size.Shape.{Shape}

-- from -2 ^ 63 to 2 ^ 63 - 1
abbrev pub fits_word : ℤ → Bool
fits_word (pos n) = nat_lt n (2 ^ 63)
fits_word (negsuc n) = nat_lt n (2 ^ 63)

-- from 1 to a limit
abbrev pub is_index : ℕ → ℤ → Bool
is_index limit (pos n) = nat_le 1 n && nat_le n limit
is_index limit (negsuc n) = false

-- counted from 0
abbrev pub place_of : ℤ → ℕ
place_of (pos n) = n - 1
place_of (negsuc n) = 0

-- where the triangle of the symmetry has such a place
abbrev pub placed : Symmetry → ℕ → ℕ → ℤ → Result (ℕ × ℕ × ℤ) EntryKind
placed General i j a = Ok (i, j, a)
placed Symmetric i j a = if nat_lt i j then Err kinds.AboveDiagonal else Ok (i, j, a)
placed Skew i j a = if nat_lt i j then Err kinds.AboveDiagonal else (if i == j then Err kinds.OnDiagonal else Ok (i, j, a))

abbrev pub ranged : Shape → ℤ → ℤ → ℤ → Result (ℕ × ℕ × ℤ) EntryKind
ranged shape i j a = if is_index shape.rows i && is_index shape.columns j then placed shape.symmetry (place_of i) (place_of j) a else Err kinds.Range

abbrev pub valued : Shape → Option ℤ → Option ℤ → Option ℤ → Result (ℕ × ℕ × ℤ) EntryKind
valued shape (Some i) (Some j) (Some a) = if fits_word a then ranged shape i j a else Err kinds.Wide
valued shape _ _ _ = Err kinds.Number

abbrev pub entry_by : Field → Shape → List (List ℕ) → Result (ℕ × ℕ × ℤ) EntryKind
entry_by fields.Integer shape (i ∷ j ∷ a ∷ []) = valued shape (integer i) (integer j) (integer a)
entry_by fields.Pattern shape (i ∷ j ∷ []) = valued shape (integer i) (integer j) (Some (pos 1))
entry_by _ _ _ = Err kinds.Words

-- row, column and value of an entry line of these words
abbrev pub entry : Shape → List (List ℕ) → Result (ℕ × ℕ × ℤ) EntryKind
entry shape ws = entry_by shape.field shape ws

-- an entry, and its mirror off the diagonal
abbrev pub mirrored : Symmetry → ℕ × ℕ × ℤ → List (ℕ × ℕ × ℤ)
mirrored General e = e ∷ []
mirrored Symmetric e = if e.0 == e.1 then e ∷ [] else e ∷ (e.1, e.0, e.2) ∷ []
mirrored Skew e = e ∷ (e.1, e.0, int_wrapping_neg w64 e.2) ∷ []

abbrev pub fitted : Option ℤ → Result ℤ EntryKind
fitted (Some a) = if fits_word a then Ok a else Err kinds.Wide
fitted None = Err kinds.Number

-- the value of a vector's line of these words
abbrev pub value : List (List ℕ) → Result ℤ EntryKind
value (a ∷ []) = fitted (integer a)
value _ = Err kinds.Words

-- by itself, without a mirror
abbrev pub alone : ℤ → List ℤ
alone a = a ∷ []

-- far enough from the ends of 128 bits
abbrev pub IsClamped : Option ℤ → Type 0
IsClamped None = Unit {0}
IsClamped (Some (pos n)) = n < 2 ^ 64
IsClamped (Some (negsuc n)) = Unit {0}
