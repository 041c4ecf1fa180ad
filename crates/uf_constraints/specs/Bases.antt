-- The constraints that hold where a bracket is reached, and where two references meet.
use Rattle.std.specs.Prelude.{ℕ, pos, ◌-ℤ◌, List, [], ◌∷◌, ◌++◌}
use Rattle.std.specs.List.{flat_map}
use Rattle.loop_core.specs.declared.nest.Side.{Side}
use Rattle.loop_core.specs.declared.nest.Side.TheVariants.{Own, First, Second}
use Rattle.loop_core.specs.declared.nest.Rel.{Rel}
use Rattle.loop_core.specs.declared.nest.Rel.TheVariants.{Equal as EqualRel, Less as LessRel, LessEqual as LessEqualRel}
use Rattle.loop_core.specs.declared.nest.Term.{Term}
use Rattle.loop_core.specs.declared.nest.Atom.{Atom}
use Rattle.loop_core.specs.declared.nest.Atom.TheVariants.{Zero, N, Nnz, Var, At}
use Rattle.loop_core.specs.declared.nest.Atom.TheOpen.{Atom-F, Term-F}
use Rattle.loop_core.specs.declared.nest.Atom.TheFolds.{fold-Atom, fold-Term}
use Rattle.loop_core.specs.declared.nest.Nest.{Nest}
use Rattle.uf_constraints.specs.declared.system.Diff.{Diff}
use Rattle.uf_constraints.specs.declared.reach.Around.{Around}
use Rattle.uf_constraints.specs.declared.reach.Around.TheVariants.{Loop, Guard}
use Rattle.uf_constraints.specs.declared.reach.Spot.{Spot}
use Rattle.uf_constraints.specs.declared.reach.Site.{Site}
use Rattle.uf_constraints.specs.Universe.{plain}

-- Constraints between terms.

-- s <= t
abbrev pub at_most : Term → Term → Diff
at_most s t = record { a = s.atom; b = t.atom; c = t.plus -ℤ s.plus }

-- s < t
abbrev pub less : Term → Term → Diff
less s t = record { a = s.atom; b = t.atom; c = t.plus -ℤ s.plus -ℤ pos 1 }

-- s = t
abbrev pub equal : Term → Term → List Diff
equal s t = at_most s t ∷ at_most t s ∷ []

-- Sides: a term with its variables on one side.

abbrev pub side_step : Side → Atom-F Atom Term → Atom
side_step side Atom-F.Zero = Zero
side_step side Atom-F.N = N
side_step side Atom-F.Nnz = Nnz
side_step side (Atom-F.Var var) = Var (record { line = var.line; side = side })
side_step side (Atom-F.At array inner) = At array inner

abbrev pub term_side_step : Term-F Atom Term → Term
term_side_step t = record { atom = t.atom; plus = t.plus }

abbrev pub atom_on : Side → Atom → Atom
atom_on side = fold-Atom Atom Term (side_step side) term_side_step

abbrev pub on : Side → Term → Term
on side = fold-Term Atom Term (side_step side) term_side_step

-- the variable of the loop at a line, as a term
abbrev pub variable : Side → ℕ → Term
variable side line = plain (Var (record { line = line; side = side }))

-- What a loop and a guard say of the variables on one side.

abbrev pub compared_by : Rel → Term → Term → List Diff
compared_by EqualRel s t = equal s t
compared_by LessRel s t = less s t ∷ []
compared_by LessEqualRel s t = at_most s t ∷ []

abbrev pub said_by : Side → Around → List Diff
said_by side (Loop line lo hi) = at_most (on side lo) (variable side line) ∷ less (variable side line) (on side hi) ∷ []
said_by side (Guard rel left right) = compared_by rel (on side left) (on side right)

abbrev pub said_by_all : Side → List Around → List Diff
said_by_all side around = flat_map (said_by side) around

-- The bases.

-- no array has a length below 0
abbrev pub of_sizes : List Diff
of_sizes = at_most (plain Zero) (plain N) ∷ at_most (plain Zero) (plain Nnz) ∷ []

-- of the brackets on a line: its row is one of the nest's, and what stands round the line
abbrev pub bracket_base : Nest → Spot → List Diff
bracket_base nest s =
    let i : Term = variable Own nest.line in
    of_sizes ++ at_most (plain Zero) i ∷ less i (plain N) ∷ said_by_all Own s.around

-- of a relation: a row and a later one, what stands round each reference on its side, and the equality of the cells
abbrev pub relation_base : Nest → Site → Site → List Diff
relation_base nest s t =
    let i : Term = variable First nest.line in
    let j : Term = variable Second nest.line in
    of_sizes ++ at_most (plain Zero) i ∷ less i j ∷ less j (plain N) ∷ said_by_all First s.around ++ said_by_all Second t.around ++ equal (on First s.at) (on Second t.at)
