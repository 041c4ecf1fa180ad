-- The lines above the loop that are left to put.
use Rattle.std.specs.Prelude.{List, map}
use Rattle.loop_core.specs.declared.decl.Decl.{Decl}
use Rattle.loop_print.specs.declared.order.Head.{Head}
use Rattle.loop_print.specs.declared.order.Head.TheVariants.{Declares, Keeps, States}
use Rattle.loop_print.specs.declared.order.Heads.{Heads}
use Rattle.loop_print.specs.PrintHeads.{HeadLine, decl_line, local_line, prop_line, merged, head_lines}

abbrev pub line_of : List Decl → Head → HeadLine
line_of all (Declares d) = decl_line d.now
line_of all (Keeps l) = local_line l.now
line_of all (States p) = prop_line all p.now

abbrev pub side_lines : List Decl → Heads → List HeadLine
side_lines all h = merged (map local_line h.locals.now) (map (prop_line all) h.props.now)

abbrev pub lines_left : List Decl → Heads → List HeadLine
lines_left all h = head_lines all h.decls.now h.locals.now h.props.now
