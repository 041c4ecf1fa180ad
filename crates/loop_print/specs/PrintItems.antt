-- The lines of loops, guards and statements.
use Rattle.std.specs.Prelude.{ℕ, codes, List, [], ◌∷◌, ◌++◌, map}
use Rattle.std.specs.List.{flat_map}
use Rattle.loop_core.specs.declared.decl.Decl.{Decl}
use Rattle.loop_core.specs.declared.decl.LocalDecl.{LocalDecl}
use Rattle.loop_core.specs.declared.nest.Term.{Term}
use Rattle.loop_core.specs.declared.nest.Rel.{Rel}
use Rattle.loop_core.specs.declared.nest.Rel.TheVariants.{Equal, Less, LessEqual}
use Rattle.loop_core.specs.declared.nest.Item.{Item}
use Rattle.loop_core.specs.declared.nest.Item.TheOpen.{Item-F}
use Rattle.loop_core.specs.declared.nest.Item.TheFolds.{fold-Item}
use Rattle.loop_print.specs.PrintNames.{Block, Repeated, Guarded, local_name}
use Rattle.loop_print.specs.PrintTerms.{term_text, entry_text}
use Rattle.loop_print.specs.PrintExprs.{expr_text}

abbrev pub rel_text : Rel → List ℕ
rel_text Equal = codes " == "
rel_text Less = codes " < "
rel_text LessEqual = codes " <= "

-- `TERM..TERM`
abbrev pub span_text : List Decl → List Block → Term → Term → List ℕ
span_text decls blocks lo hi = term_text decls blocks lo ++ codes ".." ++ term_text decls blocks hi

-- two spaces for each open block
abbrev pub indent : List Block → List ℕ
indent blocks = flat_map (λ block. codes "  ") blocks

abbrev pub line_text : List Block → List ℕ → List ℕ
line_text blocks words = indent blocks ++ words ++ codes "\n"

abbrev pub in_turn : List (List Block → List ℕ) → List Block → List ℕ
in_turn [] blocks = []
in_turn (f ∷ fs) blocks = f blocks ++ in_turn fs blocks

-- one item inside the open blocks, with the texts of the inner items in their places
abbrev pub item_step : List Decl → List LocalDecl → Item-F (List Block → List ℕ) → List Block → List ℕ
item_step decls locals (Item-F.For line name lo hi body) blocks =
    line_text blocks (codes "for " ++ name ++ codes " in " ++ span_text decls blocks lo hi)
    ++ in_turn body (Repeated line name ∷ blocks)
    ++ line_text blocks (codes "end")
item_step decls locals (Item-F.When line rel left right body) blocks =
    line_text blocks (codes "when " ++ term_text decls blocks left ++ rel_text rel ++ term_text decls blocks right)
    ++ in_turn body (Guarded ∷ blocks)
    ++ line_text blocks (codes "end")
item_step decls locals (Item-F.Set line array at value) blocks =
    line_text blocks (codes "set " ++ entry_text decls array (term_text decls blocks at) ++ codes " = " ++ expr_text decls locals blocks value 0)
item_step decls locals (Item-F.Keep line local value) blocks =
    line_text blocks (codes "set " ++ local_name locals local ++ codes " = " ++ expr_text decls locals blocks value 0)

abbrev pub item_text : List Decl → List LocalDecl → Item → List Block → List ℕ
item_text decls locals = fold-Item (List Block → List ℕ) (item_step decls locals)

abbrev pub body_text : List Decl → List LocalDecl → List Item → List Block → List ℕ
body_text decls locals items = in_turn (map (item_text decls locals) items)
