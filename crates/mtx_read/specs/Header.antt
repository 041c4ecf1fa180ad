-- The first line.
use Rattle.std.specs.Prelude.{ℕ, Bool, List, [], ◌∷◌, if◌then◌else◌, ◌&&◌, map, codes, Option, Some, None, Result, Ok, Err}
use Rattle.std.specs.Char.{to_ascii_lowercase}
use Rattle.std.specs.Str.{bytes_eq}
use Rattle.mtx_read.specs.declared.refusal.MtxRefusal.{MtxRefusal}
use Rattle.mtx_read.specs.declared.refusal.MtxRefusal.TheVariants as refusals
use Rattle.mtx_read.specs.declared.header.Symmetry.{Symmetry}
use Rattle.mtx_read.specs.declared.header.Symmetry.TheVariants.{General, Symmetric, Skew}
use Rattle.mtx_read.specs.declared.header.Field.{Field}
use Rattle.mtx_read.specs.declared.header.Field.TheVariants.{Integer, Pattern}
use Rattle.mtx_read.specs.declared.header.Format.{Format}
use Rattle.mtx_read.specs.Reading.{◌>>=◌}

-- in any case
abbrev pub is_word : List ℕ → List ℕ → Bool
is_word word text = bytes_eq (map to_ascii_lowercase word) (map to_ascii_lowercase text)

-- the last three of five words, where the first two are the mark and the object
abbrev pub banner : List (List ℕ) → Option (List ℕ × List ℕ × List ℕ)
banner (a ∷ b ∷ c ∷ d ∷ e ∷ []) = if is_word a (codes "%%MatrixMarket") && is_word b (codes "matrix") then Some (c, d, e) else None
banner _ = None

-- a pattern has no signs
abbrev pub skew_of : Field → Option Symmetry
skew_of Integer = Some Skew
skew_of Pattern = None

abbrev pub symmetry_of : Field → List ℕ → Option Symmetry
symmetry_of field w = if is_word w (codes "general") then Some General else (if is_word w (codes "symmetric") then Some Symmetric else (if is_word w (codes "skew-symmetric") then skew_of field else None))

abbrev pub field_of : List ℕ → Option Field
field_of w = if is_word w (codes "integer") then Some Integer else (if is_word w (codes "pattern") then Some Pattern else None)

-- an accepted word, or the number of the one that isn't
abbrev pub accepted : {A : Type 0} → ℕ → Option A → Result A MtxRefusal
accepted k (Some x) = Ok x
accepted k None = Err (refusals.Field k)

abbrev pub format_of : List ℕ → List ℕ → List ℕ → Result Format MtxRefusal
format_of c d e = if is_word c (codes "coordinate") then (accepted 4 (field_of d) >>= λ f. accepted 5 (symmetry_of f e) >>= λ s. Ok (record { field = f; symmetry = s })) else Err (refusals.Field 3)

abbrev pub array_of : List ℕ → List ℕ → List ℕ → Result (Unit {0}) MtxRefusal
array_of c d e = if is_word c (codes "array") then (if is_word d (codes "integer") then (if is_word e (codes "general") then Ok tt else Err (refusals.Field 5)) else Err (refusals.Field 4)) else Err (refusals.Field 3)

abbrev pub kind_by : {A : Type 0} → (List ℕ → List ℕ → List ℕ → Result A MtxRefusal) → Option (List ℕ × List ℕ × List ℕ) → Result A MtxRefusal
kind_by kind None = Err refusals.Header
kind_by kind (Some k) = kind k.0 k.1 k.2

abbrev pub matrix_header : List (List ℕ) → Result Format MtxRefusal
matrix_header ws = kind_by format_of (banner ws)

abbrev pub vector_header : List (List ℕ) → Result (Unit {0}) MtxRefusal
vector_header ws = kind_by array_of (banner ws)
