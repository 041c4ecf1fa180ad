use Rattle.std.proofs.Common.{◌≡◌, ◌+◌, ◌^◌, ◌<◌, ◌≤◌, ◌++◌, ◌∷◌, [], ℤ, length, map, pos, drop, refl, ap, ◌∙◌, arith}
use Rattle.std.specs.Prelude.{nat_le}
use Rattle.std.specs.List.{position_or_len}
use Rattle.std.specs.Int.{w64}
use Rattle.std.proofs.lemmas.Int.{to_z_pos}
use Rattle.std.proofs.lemmas.List.{drop_at}
use Rattle.csr_arrays.specs.Arrays.{columns, value_at}
use Rattle.csr_arrays.proofs.Places.{columns_below, columns_are, values_are, row_pushed}
use Rattle.csr_arrays.proofs.rows.add_row.Goals as goal

pub diagonal_of-requires : goal.diagonal_of-requires
diagonal_of-requires c = omega (arith, c.len-start.ensures, c.in_ok-put_row.ensures.grows)

pub returns-clause-rows : goal.returns-clause-rows
returns-clause-rows c = λ n ts inside mine before.
    let r = c.args.row in
    let m = c.args.m.now in
    let cs = columns n ts r in
    let places = c.in_ok-put_row.ensures.places n (rw mine (columns_below n ts r inside)) in
    let index : c.put_row.new.index ≡ m.index ++ map pos cs = places.0 ∙ rw (mine, columns_are n ts r) refl in
    let val : c.put_row.new.val ≡ m.val ++ map (value_at ts r) cs = places.1 ∙ rw (mine, values_are n ts r) refl in
    let tail : drop c.len-start.result c.put_row.new.index ≡ map pos cs = rw (c.len-start.ensures, index) (drop_at m.index (map pos cs) (length m.index) refl) in
    let d : c.diagonal_of.result ≡ length m.index + position_or_len (λ k. nat_le r k) cs = c.diagonal_of.ensures.first cs tail ∙ rw c.len-start.ensures refl in
    let small : length c.put_row.new.index ≤ 2 ^ 24 = omega (arith, c.in_ok-put_row.ensures.few, c.requires) in
    let diag_small : c.diagonal_of.result < 2 ^ 63 = omega (arith, c.diagonal_of.ensures.within, small) in
    let ptr_small : c.len.result < 2 ^ 63 = omega (arith, c.len.ensures, small) in
    let diag : c.push.new.self ≡ m.diag ++ pos c.diagonal_of.result ∷ [] = c.in_ok-push.ensures ∙ ap (λ (z : ℤ). m.diag ++ z ∷ []) (to_z_pos w64 c.diagonal_of.result diag_small) in
    let ptr : c.push-2.new.self ≡ m.ptr ++ pos c.len.result ∷ [] = c.in_ok-push-2.ensures ∙ ap (λ (z : ℤ). m.ptr ++ z ∷ []) (to_z_pos w64 c.len.result ptr_small) in
    row_pushed n r ts m.ptr m.index m.diag m.val c.put_row.new.index c.put_row.new.val c.push-2.new.self c.push.new.self c.diagonal_of.result c.len.result before index val d diag c.len.ensures ptr
