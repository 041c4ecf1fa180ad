use Rattle.std.proofs.Common.{rules, arith, ◌≡◌, ◌++◌, ◌∷◌, [], ap, ◌∙◌, sym, refl, pos, map, length, to_z, FitsSigned}
use mir.Syntax.{w64, w128}
use Rattle.std.specs.List.{range_with_len}
use Rattle.std.proofs.lemmas.Int.{ints, to_z-of_z}
use Rattle.std.proofs.lemmas.List.FromFn.{map-range_with_len_more, fill_by_all}
use Rattle.loop_core.specs.Lists.{list_of, entry}
use Rattle.inspector_run.specs.Tries.{word}
use Rattle.inspector_run.proofs.inverse.read_all.Goals as goal

pub loop-place-preserved : goal.loop-place-preserved
loop-place-preserved g c =
    let a = c.args.arrays.now in
    let list = list_of a.lists c.args.array in
    let k = c.loop-place.place in
    let place : to_z w128 k ≡ pos k = omega (arith, ints) in
    let read : c.at-value.result ≡ word list k = c.at-value.ensures.value ∙ ap (entry a.lists c.args.array) place in
    let fits : FitsSigned w64 c.at-value.result = search rules in
    let pushed = simp to_z-of_z at c.in_ok-push.ensures.items in
    record {
      entries = pushed ∙ ap (λ vs. vs ++ c.at-value.result ∷ []) c.loop-place.invariant.entries ∙ ap (λ v. map (word list) (range_with_len 0 k) ++ v ∷ []) read
          ∙ sym (map-range_with_len_more (word list) 0 k k (omega arith));
      ticks = omega (arith, c.at-value.ensures.cost, c.loop-place.invariant.ticks);
    }

pub returns-clause-entries : goal.returns-clause-entries
returns-clause-entries g c =
    let list = list_of c.args.arrays.now.lists c.args.array in
    let len : c.len-many.result ≡ length list = c.len-many.ensures in
    let end : c.loop-place.place ≡ length list = omega arith in
    c.loop-place.invariant.entries ∙ ap (λ n. map (word list) (range_with_len 0 n)) end ∙ sym (fill_by_all (word list) list (length list) (pos 0) refl (λ k l. refl))
