use Rattle.std.proofs.Common.{◌≡◌, flat_map, vec_items, take}
use Rattle.inspector_run.proofs.joined.joined.Given as goal

-- the lists so far
abbrev pub invariant-loop-list : goal.invariant-loop-list
invariant-loop-list l = l.all.items ≡ flat_map vec_items (take l.list-index l.lists)
