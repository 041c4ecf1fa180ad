-- From a whole file to its entries.
use Rattle.std.proofs.Common.{◌≡◌, ℕ, ◌+◌, ◌^◌, ◌<◌, ◌≤◌, Bool, true, false, List, [], ◌∷◌, length, Result, Ok, Err, refl, ◌∙◌, arith}
use Rattle.std.specs.Prelude.{if◌then◌else◌, nat_lt}
use Rattle.std.proofs.lemmas.Bool.Decides.{nat_tests}
use Rattle.text_base.specs.Lines.{lines, first_line, after_line, trimmed}
use Rattle.text_base.specs.Words.{words}
use Rattle.text_base.proofs.LineLaws.{lines_first}
use Rattle.mtx_read.specs.declared.refusal.BigKind.TheVariants as bigs
use Rattle.mtx_read.specs.declared.refusal.MtxRefusal.{MtxRefusal}
use Rattle.mtx_read.specs.declared.refusal.MtxRefusal.TheVariants as refusals
use Rattle.mtx_read.specs.Reading.{◌>>=◌, Fails, kept}
use Rattle.mtx_read.specs.Files.{body, of_lines, of_bytes, head}

abbrev Words : Type 0
Words = List (List ℕ)

pub fails_is : {Y : Type 0} (e : MtxRefusal) (r : Result Y MtxRefusal) → r ≡ Err e → Fails e r
fails_is refusals.Memory r h = tt
fails_is refusals.Header r h = h
fails_is (refusals.Field word) r h = h
fails_is (refusals.Size line) r h = h
fails_is (refusals.Entry line kind) r h = h
fails_is (refusals.Short have want) r h = h
fails_is (refusals.Extra line) r h = h
fails_is (refusals.Big what value) r h = h

bound : {A B : Type 0} (r : Result A MtxRefusal) (f : A → Result B MtxRefusal) (e : MtxRefusal) → r ≡ Err e → (r >>= f) ≡ Err e
bound r f e h = rw h refl

pub fails_bind : {A B : Type 0} (e : MtxRefusal) (r : Result A MtxRefusal) (f : A → Result B MtxRefusal) → Fails e r → Fails e (r >>= f)
fails_bind refusals.Memory r f h = tt
fails_bind refusals.Header r f h = bound r f _ h
fails_bind (refusals.Field word) r f h = bound r f _ h
fails_bind (refusals.Size line) r f h = bound r f _ h
fails_bind (refusals.Entry line kind) r f h = bound r f _ h
fails_bind (refusals.Short have want) r f h = bound r f _ h
fails_bind (refusals.Extra line) r f h = bound r f _ h
fails_bind (refusals.Big what value) r f h = bound r f _ h

-- ---- the first line

pub too_long : (s : List ℕ) → 2 ^ 28 < length s → head s ≡ Err (refusals.Big bigs.Bytes (2 ^ 28 + 1))
too_long s h =
    let long : nat_lt (2 ^ 28) (length s) ≡ true = grind (arith, nat_tests) in rw long refl

pub has_head : (s first rest : List ℕ) → 0 < length s → length s ≤ 2 ^ 28 → first ≡ first_line s → rest ≡ after_line s → head s ≡ Ok (first, rest)
has_head [] first rest some fits e f = absurd (omega arith)
has_head (b ∷ s) first rest some fits e f =
    let fit : nat_lt (2 ^ 28) (length (b ∷ s)) ≡ false = grind (arith, nat_tests) in rw (fit, e, f) refl

by_test : {B : Type 0} (v : Bool) (e : MtxRefusal) (x : List ℕ × List ℕ) (g : List ℕ × List ℕ → Result B MtxRefusal) → (if v then Err e else g x) ≡ ((if v then Err e else Ok x) >>= g)
by_test true e x g = refl
by_test false e x g = refl

by_head : {F S B : Type 0} (header : Words → Result F MtxRefusal) (size : F → ℕ → Words → Result S MtxRefusal) (more : S → List (ℕ × Words) → Result B MtxRefusal) (s : List ℕ)
    → of_bytes (of_lines header size more) s ≡ (head s >>= λ h. header (words (trimmed h.0)) >>= λ f. body (size f) more (length (lines h.1) + 2) (kept 2 (lines h.1)))
by_head header size more [] = refl
by_head header size more (b ∷ s) =
    rw (lines_first b s) (by_test (nat_lt (2 ^ 28) (length (b ∷ s))) (refusals.Big bigs.Bytes (2 ^ 28 + 1)) (first_line (b ∷ s), after_line (b ∷ s)) (λ h. header (words (trimmed h.0)) >>= λ f. body (size f) more (length (lines h.1) + 2) (kept 2 (lines h.1))))

pub no_head : {F S B : Type 0} (header : Words → Result F MtxRefusal) (size : F → ℕ → Words → Result S MtxRefusal) (more : S → List (ℕ × Words) → Result B MtxRefusal) (s : List ℕ) (e : MtxRefusal) → head s ≡ Err e → of_bytes (of_lines header size more) s ≡ Err e
no_head header size more s e h = by_head header size more s ∙ rw h refl

pub to_header : {F S B : Type 0} (header : Words → Result F MtxRefusal) (size : F → ℕ → Words → Result S MtxRefusal) (more : S → List (ℕ × Words) → Result B MtxRefusal) (s first rest : List ℕ) → head s ≡ Ok (first, rest) → of_bytes (of_lines header size more) s ≡ (header (words (trimmed first)) >>= λ f. body (size f) more (length (lines rest) + 2) (kept 2 (lines rest)))
to_header header size more s first rest h = by_head header size more s ∙ rw h refl

pub to_body : {F S B : Type 0} (header : Words → Result F MtxRefusal) (size : F → ℕ → Words → Result S MtxRefusal) (more : S → List (ℕ × Words) → Result B MtxRefusal) (s first rest : List ℕ) (format : F) → head s ≡ Ok (first, rest) → Ok format ≡ header (words (trimmed first)) → of_bytes (of_lines header size more) s ≡ body (size format) more (length (lines rest) + 2) (kept 2 (lines rest))
to_body header size more s first rest format is h = to_header header size more s first rest is ∙ rw (← h) refl

pub to_entries : {S B : Type 0} (size : ℕ → Words → Result S MtxRefusal) (more : S → List (ℕ × Words) → Result B MtxRefusal) (end at : ℕ) (ls tail : List (ℕ × Words)) (ws : Words) (shape : S) → ls ≡ (at, ws) ∷ tail → Ok shape ≡ size at ws → body size more end ls ≡ more shape tail
to_entries size more end at ls tail ws shape e h = rw (e, ← h) refl

pub not_sized : {S B : Type 0} (size : ℕ → Words → Result S MtxRefusal) (more : S → List (ℕ × Words) → Result B MtxRefusal) (end at : ℕ) (ls tail : List (ℕ × Words)) (ws : Words) (e : MtxRefusal) → ls ≡ (at, ws) ∷ tail → Err e ≡ size at ws → body size more end ls ≡ Err e
not_sized size more end at ls tail ws e f h = rw (f, ← h) refl
