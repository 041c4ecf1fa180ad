-- The open blocks round a line.
use Rattle.std.specs.Prelude.{List, [], ◌∷◌}
use Rattle.loop_print.specs.declared.names.Blocks.{Blocks}
use Rattle.loop_print.specs.declared.names.Blocks.TheOpen.{Blocks-F}
use Rattle.loop_print.specs.declared.names.Blocks.TheFolds.{fold-Blocks}
use Rattle.loop_print.specs.PrintNames.{Block, Repeated, Guarded}

abbrev pub blocks_step : Blocks-F (List Block) → List Block
blocks_step Blocks-F.Outside = []
blocks_step (Blocks-F.Loop line name outer) = Repeated line name.now ∷ outer.now
blocks_step (Blocks-F.Guard outer) = Guarded ∷ outer.now

-- the innermost first
abbrev pub open_blocks : Blocks → List Block
open_blocks = fold-Blocks (List Block) blocks_step
