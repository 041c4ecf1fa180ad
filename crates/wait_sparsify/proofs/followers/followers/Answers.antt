use Rattle.std.proofs.Common.{◌≡◌, ◌<◌, ◌∙◌, ℕ, All, List, length, ap, sym, subst}
use Rattle.wave_base.specs.declared.types.RowId.{RowId}
use Rattle.row_graph.specs.Buckets.{buckets}
use Rattle.wait_sparsify.specs.Survivors.{nexts}
use Rattle.wait_sparsify.proofs.Following.{entries_within, length-nexts, nexts_within}
use Rattle.wait_sparsify.proofs.followers.followers.Goals as goal

pub by_key-requires : goal.by_key-requires
by_key-requires c =
    let cross = c.args.cross.now in
    let entries = c.as_slice.ensures.value ∙ c.in_ok-entries.ensures in
    let within = subst (λ (es : List (ℕ × RowId)). All (λ (e : ℕ × RowId). e.0 < length cross) es) (sym entries) (entries_within cross c.requires.within) in
    subst (λ (n : ℕ). All (λ (e : ℕ × RowId). e.0 < n) c.as_slice.result.now) (sym c.len.ensures.len) within

pub returns-clause-nexts : goal.returns-clause-nexts
returns-clause-nexts c =
    let entries = c.as_slice.ensures.value ∙ c.in_ok-entries.ensures in
    let same : buckets c.len.result c.as_slice.result.now ≡ nexts c.args.cross.now = λ x. buckets (c.len.ensures.len x) (entries x) in
    c.in_ok-after.ensures ∙ same

pub returns-clause-each : goal.returns-clause-each
returns-clause-each c =
    let entries = c.as_slice.ensures.value ∙ c.in_ok-entries.ensures in
    let same : buckets c.len.result c.as_slice.result.now ≡ nexts c.args.cross.now = λ x. buckets (c.len.ensures.len x) (entries x) in
    ap (λ (lists : List (List RowId)). length lists) (c.in_ok-after.ensures ∙ same) ∙ length-nexts c.args.cross.now

pub returns-clause-within : goal.returns-clause-within
returns-clause-within c =
    let cross = c.args.cross.now in
    let entries = c.as_slice.ensures.value ∙ c.in_ok-entries.ensures in
    let same : buckets c.len.result c.as_slice.result.now ≡ nexts cross = λ x. buckets (c.len.ensures.len x) (entries x) in
    subst (λ (lists : List (List RowId)). All (λ (list : List RowId). All (λ (v : RowId). v.0 < length cross) list) lists) (sym (c.in_ok-after.ensures ∙ same)) (nexts_within cross)
