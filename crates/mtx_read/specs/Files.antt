-- Whole files.
use Rattle.std.specs.Prelude.{◌≡◌, ℕ, ℤ, ◌+◌, ◌^◌, List, [], ◌∷◌, if◌then◌else◌, nat_lt, length, Result, Ok, Err}
use Rattle.std.specs.Borrow.{Bor}
use Rattle.text_base.specs.Lines.{lines, first_line, after_line, trimmed}
use Rattle.text_base.specs.Words.{words}
use Rattle.mtx_read.specs.declared.refusal.BigKind.TheVariants as bigs
use Rattle.mtx_read.specs.declared.refusal.MtxRefusal.{MtxRefusal}
use Rattle.mtx_read.specs.declared.refusal.MtxRefusal.TheVariants as refusals
use Rattle.mtx_read.specs.declared.size.Shape.{Shape}
use Rattle.mtx_read.specs.Reading.{◌>>=◌, kept, announced}
use Rattle.mtx_read.specs.Entry.{entry, mirrored, value, alone}
use Rattle.mtx_read.specs.Header.{matrix_header, vector_header}
use Rattle.mtx_read.specs.Size.{matrix_size, vector_size}

-- the size line is the first that isn't skipped; where it is missing, its line is the one after the last
abbrev pub body : {S B : Type 0} → (ℕ → List (List ℕ) → Result S MtxRefusal) → (S → List (ℕ × List (List ℕ)) → Result B MtxRefusal) → ℕ → List (ℕ × List (List ℕ)) → Result B MtxRefusal
body size rest end [] = Err (refusals.Size end)
body size rest end (l ∷ ls) = size l.0 l.1 >>= λ s. rest s ls

-- a file is a header, a size line and what follows it
abbrev pub of_lines : {F S B : Type 0} → (List (List ℕ) → Result F MtxRefusal) → (F → ℕ → List (List ℕ) → Result S MtxRefusal) → (S → List (ℕ × List (List ℕ)) → Result B MtxRefusal) → List (List ℕ) → Result B MtxRefusal
of_lines header size rest [] = Err refusals.Header
of_lines header size rest (l ∷ ls) = header (words (trimmed l)) >>= λ f. body (size f) rest (length ls + 2) (kept 2 ls)

abbrev pub of_bytes : {B : Type 0} → (List (List ℕ) → Result B MtxRefusal) → List ℕ → Result B MtxRefusal
of_bytes file bytes = if nat_lt (2 ^ 28) (length bytes) then Err (refusals.Big bigs.Bytes (2 ^ 28 + 1)) else file (lines bytes)

abbrev pub triples : Shape → List (ℕ × List (List ℕ)) → Result (ℕ × ℕ × List (ℕ × ℕ × ℤ)) MtxRefusal
triples shape ls = announced (entry shape) (mirrored shape.symmetry) shape.stored ls >>= λ es. Ok (shape.rows, shape.columns, es)

-- the rows, the columns and the triples of a matrix file, or its first refusal
abbrev pub matrix : List ℕ → Result (ℕ × ℕ × List (ℕ × ℕ × ℤ)) MtxRefusal
matrix = of_bytes (of_lines matrix_header matrix_size triples)

-- the values of a vector file, or its first refusal
abbrev pub vector : List ℕ → Result (List ℤ) MtxRefusal
vector = of_bytes (of_lines vector_header (λ f. vector_size) (announced value alone))

-- the first line of a file and the text after it
abbrev pub head_of : List ℕ → Result (List ℕ × List ℕ) MtxRefusal
head_of [] = Err refusals.Header
head_of (b ∷ bs) = Ok (first_line (b ∷ bs), after_line (b ∷ bs))

abbrev pub head : List ℕ → Result (List ℕ × List ℕ) MtxRefusal
head bytes = if nat_lt (2 ^ 28) (length bytes) then Err (refusals.Big bigs.Bytes (2 ^ 28 + 1)) else head_of bytes

abbrev pub IsHead : List ℕ → Result (Bor (List ℕ) × Bor (List ℕ)) MtxRefusal → Type 0
IsHead bytes (Ok x) = head bytes ≡ Ok (x.0.now, x.1.now)
IsHead bytes (Err e) = head bytes ≡ Err e
