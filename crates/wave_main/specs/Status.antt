-- The numbers and the fault lines of the ends of a call.
use Rattle.std.specs.Prelude.{ℕ, List, [], ◌∷◌, ◌++◌, codes, decimal}
use Rattle.std.specs.Fmt.{signed_decimal}
use Rattle.loop_syntax.specs.declared.refusal.NameKind.{NameKind}
use Rattle.loop_syntax.specs.declared.refusal.NameKind.TheVariants.{Unknown, Twice, WrongKind, WrittenIndex}
use Rattle.loop_syntax.specs.declared.refusal.LimitKind.{LimitKind}
use Rattle.loop_syntax.specs.declared.refusal.LimitKind.TheVariants as limits
use Rattle.mtx_read.specs.declared.refusal.EntryKind.{EntryKind}
use Rattle.mtx_read.specs.declared.refusal.EntryKind.TheVariants as entries
use Rattle.mtx_read.specs.declared.refusal.BigKind.{BigKind}
use Rattle.mtx_read.specs.declared.refusal.BigKind.TheVariants as bigs
use Rattle.access_bounds.specs.declared.refusal.Side2.{Side2}
use Rattle.access_bounds.specs.declared.refusal.Side2.TheVariants.{Low, High}
use Rattle.wave_main.specs.declared.status.MtxFault.{MtxFault}
use Rattle.wave_main.specs.declared.status.MtxFault.TheVariants as faults
use Rattle.wave_main.specs.declared.status.ShapeKind.{ShapeKind}
use Rattle.wave_main.specs.declared.status.ShapeKind.TheVariants as shapes
use Rattle.wave_main.specs.declared.status.Status.{Status}
use Rattle.wave_main.specs.declared.status.Status.TheVariants.{Done, Usage, ReadFault, LoopText, LoopName, LoopLimit, Unbounded, MatrixText, Shape, Property, WriteFault, Memory}

abbrev pub code_of : Status → ℕ
code_of Done = 0
code_of (Usage word) = 2
code_of (LoopText line) = 3
code_of (LoopName line kind) = 4
code_of (LoopLimit line kind) = 5
code_of (Unbounded line bracket side) = 6
code_of (ReadFault word) = 7
code_of WriteFault = 8
code_of (MatrixText word cause) = 9
code_of (Shape kind) = 10
code_of (Property property first second) = 11
code_of Memory = 12

-- a line with its end
abbrev pub line : List ℕ → List ℕ
line text = text ++ 10 ∷ []

-- a space stands after each word but the last, and the line's end after that
abbrev pub after_word : List (List ℕ) → List ℕ
after_word [] = 10 ∷ []
after_word (word ∷ words) = 32 ∷ []

abbrev pub spaced : List (List ℕ) → List ℕ
spaced [] = []
spaced (word ∷ words) = (word ++ after_word words) ++ spaced words

abbrev pub name_word : NameKind → List ℕ
name_word Unknown = codes "unknown"
name_word Twice = codes "twice"
name_word WrongKind = codes "wrong_kind"
name_word WrittenIndex = codes "written_index"

abbrev pub limit_word : LimitKind → List ℕ
limit_word limits.Length = codes "length"
limit_word limits.Lines = codes "lines"
limit_word limits.Constant = codes "constant"
limit_word limits.Arrays = codes "arrays"
limit_word limits.Locals = codes "locals"
limit_word limits.Depth = codes "depth"
limit_word limits.References = codes "references"
limit_word limits.Atoms = codes "atoms"

abbrev pub side_word : Side2 → List ℕ
side_word Low = codes "low"
side_word High = codes "high"

abbrev pub entry_word : EntryKind → List ℕ
entry_word entries.Words = codes "words"
entry_word entries.Number = codes "number"
entry_word entries.Wide = codes "wide"
entry_word entries.Range = codes "range"
entry_word entries.AboveDiagonal = codes "above_diagonal"
entry_word entries.OnDiagonal = codes "on_diagonal"

abbrev pub big_word : BigKind → List ℕ
big_word bigs.Bytes = codes "bytes"
big_word bigs.Rows = codes "rows"
big_word bigs.Columns = codes "columns"
big_word bigs.Stored = codes "stored"

abbrev pub matrix_words : ℕ → MtxFault → List (List ℕ)
matrix_words word faults.Header = codes "matrix" ∷ codes "word" ∷ decimal word ∷ codes "header" ∷ []
matrix_words word (faults.Field place) = codes "matrix" ∷ codes "word" ∷ decimal word ∷ codes "field" ∷ decimal place ∷ []
matrix_words word (faults.Size n) = codes "matrix" ∷ codes "word" ∷ decimal word ∷ codes "size" ∷ codes "line" ∷ decimal n ∷ []
matrix_words word (faults.Entry n kind) = codes "matrix" ∷ codes "word" ∷ decimal word ∷ codes "entry" ∷ codes "line" ∷ decimal n ∷ entry_word kind ∷ []
matrix_words word (faults.Short have want) = codes "matrix" ∷ codes "word" ∷ decimal word ∷ codes "short" ∷ codes "have" ∷ decimal have ∷ codes "want" ∷ decimal want ∷ []
matrix_words word (faults.Extra n) = codes "matrix" ∷ codes "word" ∷ decimal word ∷ codes "extra" ∷ codes "line" ∷ decimal n ∷ []
matrix_words word (faults.Big what value) = codes "matrix" ∷ codes "word" ∷ decimal word ∷ codes "big" ∷ big_word what ∷ decimal value ∷ []

abbrev pub shape_words : ShapeKind → List (List ℕ)
shape_words (shapes.NotSquare rows columns) = codes "shape" ∷ codes "rows" ∷ decimal rows ∷ codes "columns" ∷ decimal columns ∷ []
shape_words (shapes.Files have want) = codes "shape" ∷ codes "files" ∷ codes "have" ∷ decimal have ∷ codes "want" ∷ decimal want ∷ []
shape_words (shapes.Order place value) = codes "shape" ∷ codes "order" ∷ codes "place" ∷ decimal place ∷ codes "value" ∷ signed_decimal value ∷ []
shape_words (shapes.Length word have want) = codes "shape" ∷ codes "length" ∷ codes "word" ∷ decimal word ∷ codes "have" ∷ decimal have ∷ codes "want" ∷ decimal want ∷ []

-- the words of the line that says why a call ended; none after Done
abbrev pub fault_words : Status → List (List ℕ)
fault_words Done = []
fault_words (Usage word) = codes "usage" ∷ codes "word" ∷ decimal word ∷ []
fault_words (ReadFault word) = codes "read" ∷ codes "word" ∷ decimal word ∷ []
fault_words (LoopText n) = codes "loop" ∷ codes "text" ∷ codes "line" ∷ decimal n ∷ []
fault_words (LoopName n kind) = codes "loop" ∷ codes "name" ∷ codes "line" ∷ decimal n ∷ name_word kind ∷ []
fault_words (LoopLimit n kind) = codes "loop" ∷ codes "limit" ∷ codes "line" ∷ decimal n ∷ limit_word kind ∷ []
fault_words (Unbounded n bracket side) = codes "loop" ∷ codes "unbounded" ∷ codes "line" ∷ decimal n ∷ codes "bracket" ∷ decimal bracket ∷ side_word side ∷ []
fault_words (MatrixText word cause) = matrix_words word cause
fault_words (Shape kind) = shape_words kind
fault_words (Property property first second) = codes "property" ∷ decimal property ∷ codes "first" ∷ decimal first ∷ codes "second" ∷ decimal second ∷ []
fault_words WriteFault = codes "write" ∷ []
fault_words Memory = codes "memory" ∷ []

-- the line that says why a call ended, which is nothing after Done
abbrev pub fault_line : Status → List ℕ
fault_line status = spaced (fault_words status)
