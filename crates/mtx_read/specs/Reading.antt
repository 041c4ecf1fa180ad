-- Lines that aren't skipped, and what reading them gives.
use Rattle.std.specs.Prelude.{◌≡◌, ◌≤◌, ℕ, ◌+◌, Bool, true, false, List, [], ◌∷◌, ◌++◌, if◌then◌else◌, ◌==◌, nat_lt, length, take, drop, Option, Some, None, Result, Ok, Err}
use Rattle.std.specs.Borrow.{Bor}
use Rattle.text_base.specs.Lines.{lines, after_line, trimmed}
use Rattle.text_base.specs.Words.{words}
use Rattle.text_base.specs.LineWords.{line_words}
use Rattle.mtx_read.specs.declared.refusal.EntryKind.{EntryKind}
use Rattle.mtx_read.specs.declared.refusal.MtxRefusal.{MtxRefusal}
use Rattle.mtx_read.specs.declared.refusal.MtxRefusal.TheVariants as refusals
use Rattle.mtx_read.specs.declared.entry.Line.{Line}
use Rattle.mtx_read.specs.declared.entry.Line.TheVariants as found

infixl 10 ◌>>=◌
abbrev pub ◌>>=◌ : {A B : Type 0} → Result A MtxRefusal → (A → Result B MtxRefusal) → Result B MtxRefusal
(Ok x) >>= f = f x
(Err e) >>= f = Err e

-- a function's answer, seen by view, is what reading gives, unless memory ran out
abbrev pub Fails : {Y : Type 0} → MtxRefusal → Result Y MtxRefusal → Type 0
Fails refusals.Memory read = Unit {0}
Fails e read = read ≡ Err e

abbrev pub Gives : {X Y : Type 0} → (X → Y) → Result X MtxRefusal → Result Y MtxRefusal → Type 0
Gives view (Ok x) read = read ≡ Ok (view x)
Gives view (Err e) read = Fails e read

-- without words, or a comment
abbrev pub is_comment : List ℕ → Bool
is_comment [] = false
is_comment (b ∷ bs) = b == 37

abbrev pub is_skipped : List (List ℕ) → Bool
is_skipped [] = true
is_skipped (w ∷ ws) = is_comment w

-- the words of the lines that aren't skipped, with the lines' numbers from k on
abbrev pub kept : ℕ → List (List ℕ) → List (ℕ × List (List ℕ))
kept k [] = []
kept k (l ∷ ls) = if is_skipped (words (trimmed l)) then kept (k + 1) ls else (k, words (trimmed l)) ∷ kept (k + 1) ls

abbrev pub at_line : {A : Type 0} → ℕ → Result A EntryKind → Result A MtxRefusal
at_line k (Ok x) = Ok x
at_line k (Err kind) = Err (refusals.Entry k kind)

-- what lines stand for, each read and then spread to one or more items, or the first refusal
abbrev pub items_of : {A X : Type 0} → (List (List ℕ) → Result A EntryKind) → (A → List X) → List (ℕ × List (List ℕ)) → Result (List X) MtxRefusal
items_of read spread [] = Ok []
items_of read spread (l ∷ ls) = at_line l.0 (read l.1) >>= λ e. items_of read spread ls >>= λ es. Ok (spread e ++ es)

abbrev pub without_extra : {A : Type 0} → List (ℕ × List (List ℕ)) → A → Result A MtxRefusal
without_extra [] x = Ok x
without_extra (l ∷ ls) x = Err (refusals.Extra l.0)

-- as many lines as announced
abbrev pub announced : {A X : Type 0} → (List (List ℕ) → Result A EntryKind) → (A → List X) → ℕ → List (ℕ × List (List ℕ)) → Result (List X) MtxRefusal
announced read spread count ls = items_of read spread (take count ls) >>= λ es. if nat_lt (length ls) count then Err (refusals.Short (length ls) count) else without_extra (drop count ls) es

-- what one line is
abbrev pub as_line : {A : Type 0} → Result A EntryKind → Line A
as_line (Ok e) = found.Entry e
as_line (Err kind) = found.Refused kind

abbrev pub line_is : {A : Type 0} → (List (List ℕ) → Result A EntryKind) → List (List ℕ) → Line A
line_is read ws = if is_skipped ws then found.Skipped else as_line (read ws)

-- the first line of a text, and the text after it
pub record IsLine {A : Type 0} (read : List (List ℕ) → Result A EntryKind) (text : List ℕ) (line : Line A) (rest : List ℕ) : Type 0 where
  pub reads : line ≡ line_is read (line_words text)
  pub leaves : rest ≡ after_line text

-- the first kept line of a text from line k on, and the text after it
abbrev pub IsNext : ℕ → List ℕ → ℕ → Option (Bor (List ℕ) × Bor (List ℕ)) → Type 0
IsNext k text at None = (kept k (lines text) ≡ []) × (at ≡ k + length (lines text))
IsNext k text at (Some x) = (kept k (lines text) ≡ (at, words (trimmed x.0.now)) ∷ kept (at + 1) (lines x.1.now)) × (at + 1 + length x.1.now ≤ k + length text)
