-- The size line.
use Rattle.std.specs.Prelude.{ℕ, ◌^◌, Bool, true, List, [], ◌∷◌, if◌then◌else◌, ◌==◌, nat_lt, nat_le, length, Option, Some, None, Result, Ok, Err}
use Rattle.text_base.specs.Numbers.{natural}
use Rattle.mtx_read.specs.declared.refusal.BigKind.TheVariants as bigs
use Rattle.mtx_read.specs.declared.refusal.MtxRefusal.{MtxRefusal}
use Rattle.mtx_read.specs.declared.refusal.MtxRefusal.TheVariants as refusals
use Rattle.mtx_read.specs.declared.header.Symmetry.{Symmetry}
use Rattle.mtx_read.specs.declared.header.Symmetry.TheVariants.{General}
use Rattle.mtx_read.specs.declared.header.Format.{Format}
use Rattle.mtx_read.specs.declared.size.Shape.{Shape}

-- 1 to 18 digits
abbrev pub size_number : List ℕ → Option ℕ
size_number w = if nat_le (length w) 18 then natural w else None

-- a matrix with mirrors has as many rows as columns
abbrev pub is_square : Symmetry → ℕ → ℕ → Bool
is_square General m n = true
is_square _ m n = m == n

abbrev pub sized : Format → ℕ → Option ℕ → Option ℕ → Option ℕ → Result Shape MtxRefusal
sized f k (Some m) (Some n) (Some l) =
    if is_square f.symmetry m n then
    (if nat_lt (2 ^ 20) m then Err (refusals.Big bigs.Rows m)
    else (if nat_lt (2 ^ 20) n then Err (refusals.Big bigs.Columns n)
    else (if nat_lt (2 ^ 23) l then Err (refusals.Big bigs.Stored l)
    else Ok (record { field = f.field; symmetry = f.symmetry; rows = m; columns = n; stored = l }))))
    else Err (refusals.Size k)
sized f k _ _ _ = Err (refusals.Size k)

-- rows, columns and announced entries, on line k
abbrev pub matrix_size : Format → ℕ → List (List ℕ) → Result Shape MtxRefusal
matrix_size f k (m ∷ n ∷ l ∷ []) = sized f k (size_number m) (size_number n) (size_number l)
matrix_size f k _ = Err (refusals.Size k)

abbrev pub tall : ℕ → Option ℕ → Option ℕ → Result ℕ MtxRefusal
tall k (Some m) (Some n) = if n == 1 then (if nat_lt (2 ^ 24) m then Err (refusals.Big bigs.Rows m) else Ok m) else Err (refusals.Size k)
tall k _ _ = Err (refusals.Size k)

-- rows and one column, on line k
abbrev pub vector_size : ℕ → List (List ℕ) → Result ℕ MtxRefusal
vector_size k (m ∷ n ∷ []) = tall k (size_number m) (size_number n)
vector_size k _ = Err (refusals.Size k)
