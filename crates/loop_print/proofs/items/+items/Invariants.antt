use Rattle.std.proofs.Common.{◌≡◌, ◌++◌, drop}
use Rattle.loop_print.specs.PrintBlocks.{open_blocks}
use Rattle.loop_print.specs.PrintItems.{body_text}
use Rattle.loop_print.proofs.items.+items.Given as goal

-- the text so far and that of the items left are the whole text
abbrev pub invariant-put_items-loop-item : goal.invariant-put_items-loop-item
invariant-put_items-loop-item l =
    l.text.items ++ body_text l.nest.decls l.nest.locals (drop l.item-index l.items) (open_blocks l.blocks)
    ≡ l.fn.text.items ++ body_text l.nest.decls l.nest.locals l.items (open_blocks l.blocks)
