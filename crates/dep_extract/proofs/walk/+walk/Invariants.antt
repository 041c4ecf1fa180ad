use Rattle.std.proofs.Common.{◌≡◌, ◌++◌, take}
use Rattle.uf_constraints.specs.Brackets.{body_spots}
use Rattle.dep_extract.proofs.walk.+walk.Given as goal

abbrev pub invariant-push_items-loop-item : goal.invariant-push_items-loop-item
invariant-push_items-loop-item l = l.into ≡ l.fn.into ++ body_spots (take l.item-index l.items) l.around
