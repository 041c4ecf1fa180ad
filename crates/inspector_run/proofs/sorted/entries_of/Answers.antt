use Rattle.std.proofs.Common.{rules, arith, ◌≡◌, ◌<◌, ◌++◌, ◌∷◌, ◌∙◌, [], ap, sym, pos, map, length, FitsSigned}
use mir.Syntax.{w64}
use Rattle.std.specs.List.{range_with_len}
use Rattle.std.proofs.lemmas.Int.{to_z-of_z}
use Rattle.std.proofs.lemmas.List.{get_or_read}
use Rattle.std.proofs.lemmas.List.FromFn.{map-range_with_len_more}
use Rattle.inspector_run.specs.declared.sorted.Held.{Held}
use Rattle.inspector_run.specs.Tries.{word}
use Rattle.inspector_run.specs.Inverses.{entry_at}
use Rattle.inspector_run.proofs.sorted.entries_of.Goals as goal

pub loop-place-preserved : goal.loop-place-preserved
loop-place-preserved c =
    let k = c.loop-place.place in
    let list = c.args.values.items in
    let inside : k < length list = search rules in
    let read : c.index-value.result.now ≡ word list k = get_or_read list k c.index-value.result.now inside c.index-value.ensures (pos 0) in
    let fits : FitsSigned w64 c.index-value.result.now = search rules in
    let pushed = simp to_z-of_z at c.in_ok-push.ensures.items in
    let held : Held = record { value = c.index-value.result.now; place = k } in
    pushed ∙ ap (λ es. es ++ held ∷ []) c.loop-place.invariant ∙ ap (λ v. map (entry_at list) (range_with_len 0 k) ++ record { value = v; place = k } ∷ []) read
    ∙ sym (map-range_with_len_more (entry_at list) 0 k k (omega arith))
