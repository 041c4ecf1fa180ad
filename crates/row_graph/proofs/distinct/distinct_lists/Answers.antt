use Rattle.std.proofs.Common.{◌≡◌, ◌+◌, ◌++◌, ◌∷◌, ◌∙◌, ℕ, List, [], length, get_or, map, take, ap, sym, rules, subst}
use Rattle.std.proofs.lemmas.List.{map_more}
use Rattle.wave_base.specs.declared.types.RowId.{RowId}
use Rattle.row_graph.specs.Cut.{IsCut, cut}
use Rattle.row_graph.specs.Distinct.{distinct}
use Rattle.row_graph.proofs.Parts.{cut-more, IsCut-more}
use Rattle.row_graph.proofs.distinct.distinct_lists.Goals as goal

pub loop-at-preserved : goal.loop-at-preserved
loop-at-preserved c =
    let at = c.loop-at.at in
    let lists = c.args.lists.now in
    let starts = c.loop-at.starts.items in
    let flat = c.loop-at.flat.items in
    let more = distinct (get_or lists at []) in
    let m = map_more distinct lists at [] (search rules) in
    let pushed : c.push_distinct.new.into.items ≡ flat ++ more = c.in_ok-push_distinct.ensures ∙ ap (λ rows. flat ++ distinct rows) c.list.ensures in
    let long : c.len-in-loop-at.result ≡ length (flat ++ more) = search rules in
    let begun : c.push-in-loop-at.new.self.items ≡ starts ++ (length (flat ++ more)) ∷ [] = c.in_ok-push-2.ensures.items ∙ ap (λ n. starts ++ n ∷ []) long in
    let new_cut = cut-more starts flat more c.loop-at.invariant.1 ∙ ap (λ ls. ls ++ more ∷ []) c.loop-at.invariant.0 ∙ sym m in
    let new_is : IsCut (starts ++ (length (flat ++ more)) ∷ []) (flat ++ more) = IsCut-more starts flat more c.loop-at.invariant.1 in
    subst (λ (s : List ℕ). (cut s c.push_distinct.new.into.items ≡ map distinct (take (at + 1) lists)) × IsCut s c.push_distinct.new.into.items) (sym begun)
    (subst (λ (f : List RowId). (cut (starts ++ (length (flat ++ more)) ∷ []) f ≡ map distinct (take (at + 1) lists)) × IsCut (starts ++ (length (flat ++ more)) ∷ []) f) (sym pushed) (new_cut, new_is))
