use Rattle.std.proofs.Common.{◌≡◌, ◌+◌, ◌++◌, ◌∙◌, [], drop, get_or, map, ap, sym, rules}
use Rattle.std.proofs.lemmas.List.{at_drop_more, append_assoc}
use Rattle.row_graph.specs.Rows.{row}
use Rattle.row_graph.specs.Turned.{turned}
use Rattle.row_graph.proofs.turned.turned.Goals as goal

pub loop-at-preserved : goal.loop-at-preserved
loop-at-preserved c =
    let at = c.loop-at.at in
    let lists = c.args.lists.now in
    let had = c.loop-at.entries.items in
    let step = at_drop_more (turned at) lists at [] (search rules) in
    let pushed : c.push_turned.new.into.items ≡ had ++ map (λ r. (r.0, row at)) (get_or lists at []) = c.in_ok-push_turned.ensures ∙ ap (λ rows. had ++ map (λ r. (r.0, row at)) rows) c.list.ensures in
    ap (λ xs. xs ++ turned (at + 1) (drop (at + 1) lists)) pushed
    ∙ append_assoc had (map (λ r. (r.0, row at)) (get_or lists at [])) (turned (at + 1) (drop (at + 1) lists))
    ∙ ap (λ xs. had ++ xs) (sym step)
    ∙ c.loop-at.invariant
