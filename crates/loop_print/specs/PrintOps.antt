-- The parts of an operation's text, from left to right.
use Rattle.std.specs.Prelude.{ℕ, nat_lt, codes, List}
use Rattle.loop_core.specs.declared.nest.Op.{Op}
use Rattle.loop_core.specs.declared.nest.Op.TheVariants.{Add, Sub, Mul, Quot, Min, Max}
use Rattle.loop_print.specs.PrintExprs.{opened, closed}

-- the rank that the left operand is asked, and that of the right one
abbrev pub left_rank : Op → ℕ
left_rank Add = 0
left_rank Sub = 0
left_rank Mul = 1
left_rank Quot = 1
left_rank Min = 0
left_rank Max = 0

abbrev pub right_rank : Op → ℕ
right_rank Add = 1
right_rank Sub = 1
right_rank Mul = 2
right_rank Quot = 2
right_rank Min = 0
right_rank Max = 0

-- what stands before the operands where at least a rank is asked, what between them, and what after them
abbrev pub op_start : Op → ℕ → List ℕ
op_start Min least = codes "min("
op_start Max least = codes "max("
op_start op least = opened (nat_lt (left_rank op) least)

abbrev pub op_sign : Op → List ℕ
op_sign Add = codes " + "
op_sign Sub = codes " - "
op_sign Mul = codes " * "
op_sign Quot = codes " / "
op_sign Min = codes ", "
op_sign Max = codes ", "

abbrev pub op_end : Op → ℕ → List ℕ
op_end Min least = codes ")"
op_end Max least = codes ")"
op_end op least = closed (nat_lt (left_rank op) least)
