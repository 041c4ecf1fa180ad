-- Pieces of the numbers of an outer loop.
use Rattle.std.specs.Prelude.{◌^◌, ◌≤◌, ℤ, List, [], map, unsigned_abs}
use Rattle.std.specs.List.{flat_map}
use Rattle.wave_base.specs.declared.types.RowId.{RowId}
use Rattle.loop_core.specs.declared.nest.VarId.{VarId}
use Rattle.loop_core.specs.Lists.{Lists}
use Rattle.inspector_run.specs.declared.plan.InspOp.{InspOp}
use Rattle.inspector_run.specs.declared.inverse.Inverse.{Inverse}
use Rattle.inspector_run.specs.declared.pieces.Piece.{Piece}
use Rattle.inspector_run.specs.Tries.{numbers_between}
use Rattle.inspector_run.specs.Pairs.{met, met_along, as_rows}
use Rattle.inspector_run.specs.Ticks.{found_in}
use Rattle.inspector_run.specs.Ready.{AreReady}
use Rattle.inspector_run.specs.Inverses.{Serve}

abbrev pub values_in : Piece → List ℤ
values_in p = numbers_between p.next p.end

-- its ends are as near to 0 as values of terms
pub record IsHeld (p : Piece) : Type 0 where
  pub low : unsigned_abs p.next ≤ 2 ^ 66
  pub high : unsigned_abs p.end ≤ 2 ^ 66

-- the pairs that operations emit at the values of a piece
abbrev pub piece_pairs : Lists → List InspOp → VarId → Piece → List (RowId × RowId)
piece_pairs a ops v p = map as_rows (met_along (met a ops) v [] (values_in p))

-- operations may be run at the values of a piece
pub record MayRun (a : Lists) (inverses : List Inverse) (ops : List InspOp) (v : VarId) (p : Piece) : Type 0 where
  pub ready : AreReady a ops v [] (values_in p)
  pub served : Serve a inverses (flat_map found_in ops)
