-- The lines of a nest's body, and what is written on each.
use Rattle.std.specs.Prelude.{ℕ, ℤ, Bool, ◌==◌, List, [], ◌∷◌, ◌++◌, map}
use Rattle.std.specs.List.{flat_map, list_any}
use Rattle.wave_base.specs.declared.types.ArrayId.{ArrayId}
use Rattle.loop_core.specs.declared.nest.VarId.{VarId}
use Rattle.loop_core.specs.declared.nest.Term.{Term}
use Rattle.loop_core.specs.declared.nest.Atom.TheOpen.{Atom-F}
use Rattle.loop_core.specs.declared.nest.Atom.TheFolds.{fold-Term}
use Rattle.loop_core.specs.declared.nest.Expr.{Expr}
use Rattle.loop_core.specs.declared.nest.Expr.TheOpen.{Expr-F}
use Rattle.loop_core.specs.declared.nest.Expr.TheFolds.{fold-Expr}
use Rattle.loop_core.specs.declared.nest.Item.{Item}
use Rattle.loop_core.specs.declared.nest.Item.TheOpen.{Item-F}
use Rattle.loop_core.specs.declared.nest.Item.TheFolds.{fold-Item}
use Rattle.loop_core.specs.declared.nest.Nest.{Nest}

-- a loop round a line
pub record Loop : Type 0 where
  pub line : ℕ
  pub name : List ℕ

-- what is written on a line of the body: a loop, a guard, or a statement that sets a place or keeps a local
pub data Form : Type 0 where
  Repeats : (name : List ℕ) (lo hi : Term) → Form
  Guards : (left right : Term) → Form
  Sets : (array : ArrayId) (at : Term) (value : Expr) → Form
  Keeps : (local : ℕ) (value : Expr) → Form

-- one line of the body, with the loops round it, the innermost first
pub record Line : Type 0 where
  pub number : ℕ
  pub around : List Loop
  pub form : Form

abbrev pub lines_of_all : List (List Loop → List Line) → List Loop → List Line
lines_of_all [] around = []
lines_of_all (f ∷ fs) around = f around ++ lines_of_all fs around

abbrev pub lines_step : Item-F (List Loop → List Line) → List Loop → List Line
lines_step (Item-F.For line name lo hi body) around =
    record { number = line; around = around; form = Repeats name lo hi } ∷ lines_of_all body (record { line = line; name = name } ∷ around)
lines_step (Item-F.When line rel left right body) around =
    record { number = line; around = around; form = Guards left right } ∷ lines_of_all body around
lines_step (Item-F.Set line array at value) around =
    record { number = line; around = around; form = Sets array at value } ∷ []
lines_step (Item-F.Keep line local value) around =
    record { number = line; around = around; form = Keeps local value } ∷ []

abbrev pub item_lines : Item → List Loop → List Line
item_lines = fold-Item (List Loop → List Line) lines_step

-- the lines of the body in the order of the text
abbrev pub body_lines : Nest → List Line
body_lines nest = lines_of_all (map item_lines nest.body) (record { line = nest.line; name = nest.name } ∷ [])

-- the variables of a term
abbrev pub vars_step : Atom-F (List VarId) (List VarId) → List VarId
vars_step (Atom-F.Var var) = var ∷ []
vars_step (Atom-F.At array inner) = inner
vars_step _ = []

abbrev pub term_vars : Term → List VarId
term_vars = fold-Term (List VarId) (List VarId) vars_step (λ t. t.atom)

-- the arrays of a term, the inner ones first
abbrev pub arrays_step : Atom-F (List ArrayId) (List ArrayId) → List ArrayId
arrays_step (Atom-F.At array inner) = inner ++ array ∷ []
arrays_step _ = []

abbrev pub term_arrays : Term → List ArrayId
term_arrays = fold-Term (List ArrayId) (List ArrayId) arrays_step (λ t. t.atom)

-- the constants of a term, the inner ones first
abbrev pub constants_step : Atom-F (List ℤ) (List ℤ) → List ℤ
constants_step (Atom-F.At array inner) = inner
constants_step _ = []

abbrev pub term_constants : Term → List ℤ
term_constants = fold-Term (List ℤ) (List ℤ) constants_step (λ t. t.atom ++ t.plus ∷ [])

-- the index terms of an expression, from left to right
abbrev pub expr_terms_step : Expr-F (List Term) → List Term
expr_terms_step (Expr-F.Lit value) = []
expr_terms_step (Expr-F.Read array at) = at ∷ []
expr_terms_step (Expr-F.Local local) = []
expr_terms_step (Expr-F.Op op left right) = left ++ right

abbrev pub expr_terms : Expr → List Term
expr_terms = fold-Expr (List Term) expr_terms_step

-- the arrays that an expression reads, from left to right
abbrev pub expr_arrays_step : Expr-F (List ArrayId) → List ArrayId
expr_arrays_step (Expr-F.Lit value) = []
expr_arrays_step (Expr-F.Read array at) = array ∷ []
expr_arrays_step (Expr-F.Local local) = []
expr_arrays_step (Expr-F.Op op left right) = left ++ right

abbrev pub expr_arrays : Expr → List ArrayId
expr_arrays = fold-Expr (List ArrayId) expr_arrays_step

-- the numbers of an expression, from left to right
abbrev pub expr_numbers_step : Expr-F (List ℤ) → List ℤ
expr_numbers_step (Expr-F.Lit value) = value ∷ []
expr_numbers_step (Expr-F.Read array at) = []
expr_numbers_step (Expr-F.Local local) = []
expr_numbers_step (Expr-F.Op op left right) = left ++ right

abbrev pub expr_numbers : Expr → List ℤ
expr_numbers = fold-Expr (List ℤ) expr_numbers_step

-- the locals that an expression names, from left to right
abbrev pub expr_locals_step : Expr-F (List ℕ) → List ℕ
expr_locals_step (Expr-F.Lit value) = []
expr_locals_step (Expr-F.Read array at) = []
expr_locals_step (Expr-F.Local local) = local ∷ []
expr_locals_step (Expr-F.Op op left right) = left ++ right

abbrev pub expr_locals : Expr → List ℕ
expr_locals = fold-Expr (List ℕ) expr_locals_step

-- the index terms on a line, from left to right
abbrev pub line_terms : Form → List Term
line_terms (Repeats name lo hi) = lo ∷ hi ∷ []
line_terms (Guards left right) = left ∷ right ∷ []
line_terms (Sets array at value) = at ∷ expr_terms value
line_terms (Keeps local value) = expr_terms value

-- the data arrays on a line: those read, from left to right, and then the one written
abbrev pub line_arrays : Form → List ArrayId
line_arrays (Repeats name lo hi) = []
line_arrays (Guards left right) = []
line_arrays (Sets array at value) = expr_arrays value ++ array ∷ []
line_arrays (Keeps local value) = expr_arrays value

-- the numbers in the expression on a line
abbrev pub line_numbers : Form → List ℤ
line_numbers (Repeats name lo hi) = []
line_numbers (Guards left right) = []
line_numbers (Sets array at value) = expr_numbers value
line_numbers (Keeps local value) = expr_numbers value

-- the locals on a line: those that its expression names, from left to right, and then the one that it keeps
abbrev pub line_locals : Form → List ℕ
line_locals (Repeats name lo hi) = []
line_locals (Guards left right) = []
line_locals (Sets array at value) = expr_locals value
line_locals (Keeps local value) = expr_locals value ++ local ∷ []

-- the name of the variable that a line declares
abbrev pub line_names : Form → List (List ℕ)
line_names (Repeats name lo hi) = name ∷ []
line_names (Guards left right) = []
line_names (Sets array at value) = []
line_names (Keeps local value) = []

-- the arrays that items write, in the order of the text
abbrev pub joined : List (List ArrayId) → List ArrayId
joined lists = flat_map (λ list. list) lists

abbrev pub targets_step : Item-F (List ArrayId) → List ArrayId
targets_step (Item-F.For line name lo hi body) = joined body
targets_step (Item-F.When line rel left right body) = joined body
targets_step (Item-F.Set line array at value) = array ∷ []
targets_step (Item-F.Keep line local value) = []

abbrev pub item_targets : Item → List ArrayId
item_targets = fold-Item (List ArrayId) targets_step

abbrev pub body_targets : List Item → List ArrayId
body_targets items = joined (map item_targets items)

abbrev pub targets : Nest → List ArrayId
targets nest = body_targets nest.body

abbrev pub same_array : ArrayId → ArrayId → Bool
same_array a b = a.0 == b.0

-- whether the nest writes the array
abbrev pub is_target : Nest → ArrayId → Bool
is_target nest array = list_any (same_array array) (targets nest)
