use Rattle.std.proofs.Common.{◌≡◌, ◌+◌, ◌^◌, ◌<◌, ◌++◌, ◌∷◌, [], ℤ, List, length, pos, to_z, ap, ◌∙◌, arith, rules}
use Rattle.std.specs.Prelude.{nat_le}
use Rattle.std.specs.List.{position_or_len}
use Rattle.std.specs.Int.{w64}
use Rattle.std.proofs.lemmas.Int.{to_z_pos}
use Rattle.csr_arrays.specs.Arrays.{columns, index_below}
use Rattle.csr_arrays.proofs.Places.{row_pushed}
use Rattle.csr_arrays.proofs.Scanned.{diagonal_is, index_more, index_below_few}
use Rattle.csr_arrays.proofs.plain.by_places.Goals as goal

pub overflow_add-before : goal.overflow_add-before
overflow_add-before c =
    let few = index_below_few c.args.n c.args.entries.now c.loop-row.row c.requires.inside (omega arith) in
    let small : c.len.result + c.stored_before.result < 2 ^ 63 = omega (arith, c.len.ensures, ap length c.loop-row.invariant.index_is, few, c.requires.few, c.stored_before.ensures.few) in
    search rules

pub overflow_cast-before : goal.overflow_cast-before
overflow_cast-before c =
    let few = index_below_few c.args.n c.args.entries.now c.loop-row.row c.requires.inside (omega arith) in
    let small : c.len.result + c.stored_before.result < 2 ^ 63 = omega (arith, c.len.ensures, ap length c.loop-row.invariant.index_is, few, c.requires.few, c.stored_before.ensures.few) in
    search rules

pub overflow_cast-len : goal.overflow_cast-len
overflow_cast-len c =
    let n = c.args.n in
    let ts = c.args.entries.now in
    let r = c.loop-row.row in
    let few = index_below_few n ts (r + 1) c.requires.inside (omega arith) in
    let index : c.push_places.new.m.index ≡ index_below n ts (r + 1) = index_more n ts r c.loop-row.m.index c.push_places.new.m.index c.loop-row.invariant.index_is c.in_ok-push_places.ensures.index in
    let small : c.len-in-loop-row.result < 2 ^ 63 = omega (arith, c.len-in-loop-row.ensures, ap length index, few, c.requires.few) in
    search rules

pub loop-row-preserved : goal.loop-row-preserved
loop-row-preserved c =
    let n = c.args.n in
    let ts = c.args.entries.now in
    let r = c.loop-row.row in
    let m = c.loop-row.m in
    let d = c.len.result + c.stored_before.result in
    let k = c.len-in-loop-row.result in
    let here = index_below_few n ts r c.requires.inside (omega arith) in
    let next = index_below_few n ts (r + 1) c.requires.inside (omega arith) in
    let index = c.in_ok-push_places.ensures.index in
    let val = c.in_ok-push_places.ensures.val in
    let more : c.push_places.new.m.index ≡ index_below n ts (r + 1) = index_more n ts r m.index c.push_places.new.m.index c.loop-row.invariant.index_is index in
    let diag_small : d < 2 ^ 63 = omega (arith, c.len.ensures, ap length c.loop-row.invariant.index_is, here, c.requires.few, c.stored_before.ensures.few) in
    let ptr_small : k < 2 ^ 63 = omega (arith, c.len-in-loop-row.ensures, ap length more, next, c.requires.few) in
    let place : d ≡ length m.index + position_or_len (λ j. nat_le r j) (columns n ts r) = omega (arith, c.len.ensures, c.stored_before.ensures.is, diagonal_is n ts r (omega arith)) in
    let diag : c.push_places.new.m.diag ≡ m.diag ++ pos d ∷ [] = c.in_ok-push_places.ensures.diag ∙ c.in_ok-push-2.ensures ∙ ap (λ (z : ℤ). m.diag ++ z ∷ []) (to_z_pos w64 d diag_small) in
    let ptr : c.push-in-loop-row-2.new.self ≡ m.ptr ++ pos k ∷ [] = c.in_ok-push-3.ensures ∙ ap (λ (l : List ℤ). l ++ to_z w64 k ∷ []) c.in_ok-push_places.ensures.ptr ∙ ap (λ (z : ℤ). m.ptr ++ z ∷ []) (to_z_pos w64 k ptr_small) in
    row_pushed n r ts m.ptr m.index m.diag m.val c.push_places.new.m.index c.push_places.new.m.val c.push-in-loop-row-2.new.self c.push_places.new.m.diag d k c.loop-row.invariant index val place diag c.len-in-loop-row.ensures ptr

pub returns-clause-few : goal.returns-clause-few
returns-clause-few c =
    omega (arith, ap length c.loop-row.invariant.index_is, index_below_few c.args.n c.args.entries.now c.loop-row.row c.requires.inside (omega arith))
