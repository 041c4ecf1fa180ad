use Rattle.std.proofs.Common.{◌≡◌, take}
use Rattle.std.specs.List.{flat_map}
use Rattle.index_props.specs.Rules.{segment_from}
use Rattle.index_props.proofs.segment.segments.Given as goal

abbrev pub invariant-loop-start : goal.invariant-loop-start
invariant-loop-start l = l.found ≡ flat_map (segment_from l.decls l.p l.es) (take l.start-index l.start-items)
