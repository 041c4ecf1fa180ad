use Rattle.std.proofs.Common.{◌≡◌, ◌+◌, ◌++◌, ◌∙◌, [], drop, get_or, map, ap, sym, rules}
use Rattle.std.proofs.lemmas.List.{at_drop_more, append_assoc}
use Rattle.row_graph.specs.Rows.{row}
use Rattle.row_graph.specs.Turned.{turned}
use Rattle.wait_sparsify.proofs.followers.entries_of.Goals as goal

pub loop-at-preserved : goal.loop-at-preserved
loop-at-preserved c =
    let at = c.loop-at.at in
    let cross = c.args.cross.now in
    let had = c.loop-at.entries.items in
    let step = at_drop_more (turned at) cross at [] (search rules) in
    let pushed : c.push_entries.new.into.items ≡ had ++ map (λ r. (r.0, row at)) (get_or cross at []) = c.in_ok-push_entries.ensures ∙ ap (λ rows. had ++ map (λ r. (r.0, row at)) rows) c.list.ensures in
    ap (λ xs. xs ++ turned (at + 1) (drop (at + 1) cross)) pushed
    ∙ append_assoc had (map (λ r. (r.0, row at)) (get_or cross at [])) (turned (at + 1) (drop (at + 1) cross))
    ∙ ap (λ xs. had ++ xs) (sym step)
    ∙ c.loop-at.invariant
