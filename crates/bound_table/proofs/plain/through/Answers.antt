use Rattle.std.proofs.Common.{rules, ◌≡◌, ◌<◌, ◌∙◌, length, slice_index_or, [], w64, ℕ}
use Rattle.std.proofs.lemmas.Int.{to_z-of_z}
use Rattle.std.proofs.lemmas.List.{get_or_default}
use mir.Val.{SFits}
use Rattle.bound_table.specs.Rows.{Adds, IsTable, entry, lowered}
use Rattle.std.specs.Prelude.{Result, Ok, Err, IfOk}
use Rattle.bound_table.proofs.Improve.{Adds-improved, IsTable-improved, row-range, entry-range}
use Rattle.bound_table.proofs.plain.through.Goals as goal

if-ok-three : {X E : Type 0} (r : Result X E) (P Q S R : X → Type 0) → IfOk r P → IfOk r Q → IfOk r S → ((x : X) → P x → Q x → S x → R x) → IfOk r R
if-ok-three (Ok x) P Q S R p q s f = f x p q s
if-ok-three (Err e) P Q S R p q s f = tt

pub all_by_way-requires-clause-small : goal.all_by_way-requires-clause-small
all_by_way-requires-clause-small c = row-range c.args.rows.now c.index-rows-b.result c.args.b c.requires.table c.requires.b (c.index-rows-b.is ∙ get_or_default c.args.rows.now c.args.b c.index-rows-b.result [] c.requires.b)

pub all_by_way-requires-clause-start : goal.all_by_way-requires-clause-start
all_by_way-requires-clause-start c = λ x lx h. entry-range c.args.rows.now x c.args.a c.requires.table lx c.requires.a h

pub returns-clause-adds : goal.returns-clause-adds
returns-clause-adds c =
    let fc : SFits w64 c.args.c = search rules in
    let is : c.index-rows-b.result ≡ slice_index_or c.args.rows.now c.args.b [] = c.index-rows-b.is ∙ get_or_default c.args.rows.now c.args.b c.index-rows-b.result [] c.requires.b in
    if-ok-three c.all_by_way.result (λ new. length new.items ≡ length c.args.rows.now) (λ new. (x : ℕ) → x < length c.args.rows.now → length (slice_index_or new.items x []) ≡ length c.index-rows-b.result)
    (λ new. (x y : ℕ) → x < length c.args.rows.now → y < length c.index-rows-b.result → entry new.items x y ≡ lowered c.args.a c.index-rows-b.result c.args.c (slice_index_or c.args.rows.now x []) y)
    (λ new. Adds (length c.args.rows.now) (entry c.args.rows.now) c.args.a c.args.b c.args.c (entry new.items)) c.all_by_way.ensures.long c.all_by_way.ensures.wide (simp to_z-of_z at c.all_by_way.ensures.each)
    (λ new long wide each. Adds-improved c.args.rows.now new.items c.index-rows-b.result c.args.a c.args.b c.args.c is c.requires.table c.requires.a c.requires.b c.requires.few c.requires.fits long wide each)

pub returns-clause-table : goal.returns-clause-table
returns-clause-table c =
    let fc : SFits w64 c.args.c = search rules in
    let is : c.index-rows-b.result ≡ slice_index_or c.args.rows.now c.args.b [] = c.index-rows-b.is ∙ get_or_default c.args.rows.now c.args.b c.index-rows-b.result [] c.requires.b in
    if-ok-three c.all_by_way.result (λ new. length new.items ≡ length c.args.rows.now) (λ new. (x : ℕ) → x < length c.args.rows.now → length (slice_index_or new.items x []) ≡ length c.index-rows-b.result)
    (λ new. (x y : ℕ) → x < length c.args.rows.now → y < length c.index-rows-b.result → entry new.items x y ≡ lowered c.args.a c.index-rows-b.result c.args.c (slice_index_or c.args.rows.now x []) y)
    (λ new. IsTable new.items) c.all_by_way.ensures.long c.all_by_way.ensures.wide (simp to_z-of_z at c.all_by_way.ensures.each)
    (λ new long wide each. IsTable-improved c.args.rows.now new.items c.index-rows-b.result c.args.a c.args.b c.args.c is c.requires.table c.requires.a c.requires.b c.requires.few c.requires.fits long wide each)
