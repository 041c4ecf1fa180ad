use Rattle.std.specs.List.{All}
use Rattle.mtx_read.proofs.Places.{announced_within}
use Rattle.std.proofs.Common.{◌≡◌, ◌<◌, ℕ, ℤ, sym, ap, ◌+◌, List, Option, length, subst, ◌∙◌, refl, arith}
use Rattle.std.specs.Borrow.{Bor}
use Rattle.text_base.specs.Lines.{lines}
use Rattle.mtx_read.specs.Reading.{IsNext}
use Rattle.mtx_read.specs.Header.{matrix_header}
use Rattle.mtx_read.specs.Size.{matrix_size}
use Rattle.mtx_read.specs.Files.{triples}
use Rattle.mtx_read.proofs.Whole.{no_head, fails_is, fails_bind, to_header, to_body, to_entries, not_sized}
use Rattle.mtx_read.proofs.matrix.read_matrix.Goals as goal

pub returns-in-Err-clause-gives : goal.returns-in-Err-clause-gives
returns-in-Err-clause-gives c = fails_is c.in-Err.refusal _ (no_head matrix_header matrix_size triples c.args.bytes.now c.in-Err.refusal c.in-Err.ensures.head)

pub returns-in-Err-matrix_header-clause-gives : goal.returns-in-Err-matrix_header-clause-gives
returns-in-Err-matrix_header-clause-gives c =
    let s = c.args.bytes.now in
    let whole = to_header matrix_header matrix_size triples s c.in-Ok.head.0.now c.in-Ok.head.1.now c.in-Ok.ensures.head in
    fails_is c.in-Err-matrix_header.refusal _ (whole ∙ rw (← c.in-Err-matrix_header.ensures) refl)

pub returns-in_default-clause-gives : goal.returns-in_default-clause-gives
returns-in_default-clause-gives c =
    let s = c.args.bytes.now in
    let rest = c.in-Ok.head.1.now in
    let at = c.next_line-at.result.0 in
    let next = subst (λ (o : Option (Bor (List ℕ) × Bor (List ℕ))). IsNext 2 rest at o) c.in_default.is c.next_line-at.ensures in
    let whole = to_body matrix_header matrix_size triples s c.in-Ok.head.0.now rest c.in-Ok-matrix_header.format c.in-Ok.ensures.head c.in-Ok-matrix_header.ensures in
    let end : length (lines rest) + 2 ≡ at = omega (arith, next.1) in
    whole ∙ rw (next.0, end) refl

pub returns-in-Err-matrix_size-clause-gives : goal.returns-in-Err-matrix_size-clause-gives
returns-in-Err-matrix_size-clause-gives c =
    let s = c.args.bytes.now in
    let rest = c.in-Ok.head.1.now in
    let at = c.next_line-at.result.0 in
    let next = subst (λ (o : Option (Bor (List ℕ) × Bor (List ℕ))). IsNext 2 rest at o) c.in-Some.is c.next_line-at.ensures in
    let whole = to_body matrix_header matrix_size triples s c.in-Ok.head.0.now rest c.in-Ok-matrix_header.format c.in-Ok.ensures.head c.in-Ok-matrix_header.ensures in
    fails_is c.in-Err-matrix_size.refusal _ (whole ∙ not_sized (matrix_size c.in-Ok-matrix_header.format) triples _ at _ _ _ c.in-Err-matrix_size.refusal next.0 c.in-Err-matrix_size.ensures.gives)

pub overflow_add-at : goal.overflow_add-at
overflow_add-at c =
    let s = c.args.bytes.now in
    let rest = c.in-Ok.head.1.now in
    let at = c.next_line-at.result.0 in
    let next = subst (λ (o : Option (Bor (List ℕ) × Bor (List ℕ))). IsNext 2 rest at o) c.in-Some.is c.next_line-at.ensures in
    omega (arith, next.1, c.in-Ok.ensures.few)

pub read_entries-requires : goal.read_entries-requires
read_entries-requires c =
    let s = c.args.bytes.now in
    let rest = c.in-Ok.head.1.now in
    let at = c.next_line-at.result.0 in
    let next = subst (λ (o : Option (Bor (List ℕ) × Bor (List ℕ))). IsNext 2 rest at o) c.in-Some.is c.next_line-at.ensures in
    record { lines = omega (arith, next.1, c.in-Ok.ensures.few) }

pub returns-in-Ok-read_entries-clause-gives : goal.returns-in-Ok-read_entries-clause-gives
returns-in-Ok-read_entries-clause-gives c =
    let s = c.args.bytes.now in
    let rest = c.in-Ok.head.1.now in
    let at = c.next_line-at.result.0 in
    let next = subst (λ (o : Option (Bor (List ℕ) × Bor (List ℕ))). IsNext 2 rest at o) c.in-Some.is c.next_line-at.ensures in
    let whole = to_body matrix_header matrix_size triples s c.in-Ok.head.0.now rest c.in-Ok-matrix_header.format c.in-Ok.ensures.head c.in-Ok-matrix_header.ensures in
    whole ∙ to_entries (matrix_size c.in-Ok-matrix_header.format) triples _ at _ _ _ c.in-Ok-matrix_size.shape next.0 c.in-Ok-matrix_size.ensures.gives ∙ rw (c.in-Ok-read_entries.ensures, c.from_vec.ensures) refl

pub returns-in-Err-read_entries-clause-gives : goal.returns-in-Err-read_entries-clause-gives
returns-in-Err-read_entries-clause-gives c =
    let s = c.args.bytes.now in
    let rest = c.in-Ok.head.1.now in
    let at = c.next_line-at.result.0 in
    let next = subst (λ (o : Option (Bor (List ℕ) × Bor (List ℕ))). IsNext 2 rest at o) c.in-Some.is c.next_line-at.ensures in
    let whole = to_body matrix_header matrix_size triples s c.in-Ok.head.0.now rest c.in-Ok-matrix_header.format c.in-Ok.ensures.head c.in-Ok-matrix_header.ensures in
    let all = whole ∙ to_entries (matrix_size c.in-Ok-matrix_header.format) triples _ at _ _ _ c.in-Ok-matrix_size.shape next.0 c.in-Ok-matrix_size.ensures.gives in
    rw all (fails_bind c.in-Err-read_entries.refusal _ _ c.in-Err-read_entries.ensures)

pub returns-in-Ok-read_entries-clause-inside : goal.returns-in-Ok-read_entries-clause-inside
returns-in-Ok-read_entries-clause-inside c =
    let shape = c.in-Ok-matrix_size.shape in
    let w = announced_within shape c.in-Ok-matrix_size.ensures.square _ c.in-Ok-read_entries.entries.items c.in-Ok-read_entries.ensures in
    subst (λ (l : List (ℕ × ℕ × ℤ)). All (λ t. (t.0 < shape.rows) × (t.1 < shape.columns)) l) (sym c.from_vec.ensures) w.0

pub returns-in-Ok-read_entries-clause-few : goal.returns-in-Ok-read_entries-clause-few
returns-in-Ok-read_entries-clause-few c =
    let w = announced_within c.in-Ok-matrix_size.shape c.in-Ok-matrix_size.ensures.square _ c.in-Ok-read_entries.entries.items c.in-Ok-read_entries.ensures in
    omega (arith, ap length c.from_vec.ensures, w.1, c.in-Ok-matrix_size.ensures.few)
