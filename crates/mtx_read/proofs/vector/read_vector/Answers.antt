use Rattle.std.proofs.Common.{◌≡◌, ℕ, ◌+◌, List, Option, length, subst, ◌∙◌, refl, arith}
use Rattle.std.specs.Borrow.{Bor}
use Rattle.text_base.specs.Lines.{lines}
use Rattle.mtx_read.specs.Reading.{IsNext, announced}
use Rattle.mtx_read.specs.Entry.{value, alone}
use Rattle.mtx_read.specs.Header.{vector_header}
use Rattle.mtx_read.specs.Size.{vector_size}
use Rattle.mtx_read.proofs.Whole.{no_head, fails_is, to_header, to_body, to_entries, not_sized}
use Rattle.mtx_read.proofs.vector.read_vector.Goals as goal

pub returns-in-Err : goal.returns-in-Err
returns-in-Err c = fails_is c.in-Err.refusal _ (no_head vector_header (λ f. vector_size) (announced value alone) c.args.bytes.now c.in-Err.refusal c.in-Err.ensures.head)

pub returns-in-Err-vector_header : goal.returns-in-Err-vector_header
returns-in-Err-vector_header c =
    let s = c.args.bytes.now in
    let whole = to_header vector_header (λ f. vector_size) (announced value alone) s c.in-Ok.head.0.now c.in-Ok.head.1.now c.in-Ok.ensures.head in
    fails_is c.in-Err-vector_header.refusal _ (whole ∙ rw (← c.in-Err-vector_header.ensures) refl)

pub returns-in_default : goal.returns-in_default
returns-in_default c =
    let s = c.args.bytes.now in
    let rest = c.in-Ok.head.1.now in
    let at = c.next_line-at.result.0 in
    let next = subst (λ (o : Option (Bor (List ℕ) × Bor (List ℕ))). IsNext 2 rest at o) c.in_default.is c.next_line-at.ensures in
    let whole = to_body vector_header (λ f. vector_size) (announced value alone) s c.in-Ok.head.0.now rest c.in-Ok-vector_header.field-0 c.in-Ok.ensures.head c.in-Ok-vector_header.ensures in
    let end : length (lines rest) + 2 ≡ at = omega (arith, next.1) in
    whole ∙ rw (next.0, end) refl

pub returns-in-Err-vector_size : goal.returns-in-Err-vector_size
returns-in-Err-vector_size c =
    let s = c.args.bytes.now in
    let rest = c.in-Ok.head.1.now in
    let at = c.next_line-at.result.0 in
    let next = subst (λ (o : Option (Bor (List ℕ) × Bor (List ℕ))). IsNext 2 rest at o) c.in-Some.is c.next_line-at.ensures in
    let whole = to_body vector_header (λ f. vector_size) (announced value alone) s c.in-Ok.head.0.now rest c.in-Ok-vector_header.field-0 c.in-Ok.ensures.head c.in-Ok-vector_header.ensures in
    fails_is c.in-Err-vector_size.refusal _ (whole ∙ not_sized vector_size (announced value alone) _ at _ _ _ c.in-Err-vector_size.refusal next.0 c.in-Err-vector_size.ensures)

pub overflow_add-at : goal.overflow_add-at
overflow_add-at c =
    let s = c.args.bytes.now in
    let rest = c.in-Ok.head.1.now in
    let at = c.next_line-at.result.0 in
    let next = subst (λ (o : Option (Bor (List ℕ) × Bor (List ℕ))). IsNext 2 rest at o) c.in-Some.is c.next_line-at.ensures in
    omega (arith, next.1, c.in-Ok.ensures.few)

pub read_values-requires : goal.read_values-requires
read_values-requires c =
    let s = c.args.bytes.now in
    let rest = c.in-Ok.head.1.now in
    let at = c.next_line-at.result.0 in
    let next = subst (λ (o : Option (Bor (List ℕ) × Bor (List ℕ))). IsNext 2 rest at o) c.in-Some.is c.next_line-at.ensures in
    record { lines = omega (arith, next.1, c.in-Ok.ensures.few) }

pub returns : goal.returns
returns c =
    let s = c.args.bytes.now in
    let rest = c.in-Ok.head.1.now in
    let at = c.next_line-at.result.0 in
    let next = subst (λ (o : Option (Bor (List ℕ) × Bor (List ℕ))). IsNext 2 rest at o) c.in-Some.is c.next_line-at.ensures in
    let whole = to_body vector_header (λ f. vector_size) (announced value alone) s c.in-Ok.head.0.now rest c.in-Ok-vector_header.field-0 c.in-Ok.ensures.head c.in-Ok-vector_header.ensures in
    let all : _ ≡ announced value alone c.in-Ok-vector_size.rows _ = whole ∙ to_entries vector_size (announced value alone) _ at _ _ _ c.in-Ok-vector_size.rows next.0 c.in-Ok-vector_size.ensures in
    rw all c.read_values.ensures
