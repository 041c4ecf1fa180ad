-- The text of an operation is that of its parts.
use Rattle.std.proofs.Common.{◌≡◌, ℕ, List, ◌++◌, refl}
use Rattle.loop_core.specs.declared.nest.Op.{Op}
use Rattle.loop_core.specs.declared.nest.Op.TheVariants.{Add, Sub, Mul, Quot, Min, Max}
use Rattle.loop_print.specs.PrintExprs.{op_text}
use Rattle.loop_print.specs.PrintOps.{left_rank, right_rank, op_start, op_sign, op_end}

pub op_parts : (op : Op) (left right : ℕ → List ℕ) (least : ℕ)
    → op_text op left right least ≡ op_start op least ++ left (left_rank op) ++ op_sign op ++ right (right_rank op) ++ op_end op least
op_parts Add left right least = refl
op_parts Sub left right least = refl
op_parts Mul left right least = refl
op_parts Quot left right least = refl
op_parts Min left right least = refl
op_parts Max left right least = refl
