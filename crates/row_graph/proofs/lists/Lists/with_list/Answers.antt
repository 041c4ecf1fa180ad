use Rattle.std.proofs.Common.{◌≡◌, ◌++◌, ◌∷◌, ◌∙◌, ℕ, List, [], length, ap, rules}
use Rattle.wave_base.specs.declared.types.RowId.{RowId}
use Rattle.row_graph.specs.Cut.{cut}
use Rattle.row_graph.proofs.Parts.{cut-more}
use Rattle.row_graph.proofs.lists.Lists.with_list.Goals as goal

pub returns : goal.returns
returns c =
    let starts = c.self.inside.starts.items in
    let flat = c.self.inside.flat.items in
    let more = c.args.list.now in
    let grown : c.extend_from_slice.new.self.items ≡ flat ++ more = c.in_ok-extend_from_slice.ensures.items in
    let long : c.len.result ≡ length (flat ++ more) = search rules in
    let begun : c.push.new.self.items ≡ starts ++ (length (flat ++ more)) ∷ [] = c.in_ok-push.ensures.items ∙ ap (λ n. starts ++ n ∷ []) long in
    ap (λ (s : List ℕ). cut s c.extend_from_slice.new.self.items) begun
    ∙ ap (λ (f : List RowId). cut (starts ++ (length (flat ++ more)) ∷ []) f) grown
    ∙ cut-more starts flat more c.self.invariant
    ∙ ap (λ (ls : List (List RowId)). ls ++ more ∷ []) c.self.view_is
