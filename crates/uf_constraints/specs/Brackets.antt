-- The lines of a nest's body with what stands round them, and the brackets on them.
use Rattle.std.specs.Prelude.{ℕ, ◌+◌, List, [], ◌∷◌, ◌++◌, map}
use Rattle.wave_base.specs.declared.types.ArrayId.{ArrayId}
use Rattle.loop_core.specs.declared.nest.Term.{Term}
use Rattle.loop_core.specs.declared.nest.Atom.{Atom, out-Atom}
use Rattle.loop_core.specs.declared.nest.Atom.TheOpen.{Atom-F, Term-F}
use Rattle.loop_core.specs.declared.nest.Atom.TheFolds.{fold-Atom, fold-Term}
use Rattle.loop_core.specs.declared.nest.Expr.{Expr}
use Rattle.loop_core.specs.declared.nest.Expr.TheOpen.{Expr-F}
use Rattle.loop_core.specs.declared.nest.Expr.TheFolds.{fold-Expr}
use Rattle.loop_core.specs.declared.nest.Item.{Item}
use Rattle.loop_core.specs.declared.nest.Item.TheOpen.{Item-F}
use Rattle.loop_core.specs.declared.nest.Item.TheFolds.{fold-Item}
use Rattle.loop_core.specs.declared.nest.Nest.{Nest}
use Rattle.uf_constraints.specs.declared.reach.Around.{Around}
use Rattle.uf_constraints.specs.declared.reach.Around.TheVariants.{Loop, Guard}
use Rattle.uf_constraints.specs.declared.reach.Usage.{Usage}
use Rattle.uf_constraints.specs.declared.reach.Usage.TheVariants.{Entry, Reads, Sets}
use Rattle.uf_constraints.specs.declared.reach.Access.{Access}
use Rattle.uf_constraints.specs.declared.reach.Bracket.{Bracket}
use Rattle.uf_constraints.specs.declared.reach.Spot.{Spot}

abbrev pub access : Usage → ArrayId → Term → Access
access usage array at = record { array = array; at = at; usage = usage }

-- what is written in brackets in a term, from left to right, so an outer bracket before the one inside it
abbrev pub entries_of : Atom-F (Atom → List Access) (Term → List Access) → Atom-F Atom Term → List Access
entries_of (Atom-F.At f inner) (Atom-F.At g t) = access Entry g t ∷ inner t
entries_of _ _ = []

abbrev pub entries_step : Atom-F (Atom → List Access) (Term → List Access) → Atom → List Access
entries_step layer a = entries_of layer (out-Atom a)

abbrev pub term_accesses_step : Term-F (Atom → List Access) (Term → List Access) → Term → List Access
term_accesses_step layer t = layer.atom t.atom

abbrev pub atom_accesses : Atom → List Access
atom_accesses a = fold-Atom (Atom → List Access) (Term → List Access) entries_step term_accesses_step a a

abbrev pub term_accesses : Term → List Access
term_accesses t = fold-Term (Atom → List Access) (Term → List Access) entries_step term_accesses_step t t

-- in a bracket of this use and inside it
abbrev pub bracket_accesses : Usage → ArrayId → Term → List Access
bracket_accesses usage array at = access usage array at ∷ term_accesses at

-- in an expression
abbrev pub expr_accesses_step : Expr-F (List Access) → List Access
expr_accesses_step (Expr-F.Lit value) = []
expr_accesses_step (Expr-F.Read array at) = bracket_accesses Reads array at
expr_accesses_step (Expr-F.Local local) = []
expr_accesses_step (Expr-F.Op op left right) = left ++ right

abbrev pub expr_accesses : Expr → List Access
expr_accesses = fold-Expr (List Access) expr_accesses_step

-- brackets numbered from k on
abbrev pub bracket : ℕ → Access → Bracket
bracket k x = record { number = k; array = x.array; at = x.at; usage = x.usage }

abbrev pub numbered : ℕ → List Access → List Bracket
numbered k [] = []
numbered k (x ∷ xs) = bracket k x ∷ numbered (k + 1) xs

-- a line with what stands round it and what is written in its brackets
abbrev pub spot : ℕ → List Around → List Access → Spot
spot line around accesses = record { line = line; around = around; brackets = numbered 1 accesses }

abbrev pub spots_of_all : List (List Around → List Spot) → List Around → List Spot
spots_of_all [] around = []
spots_of_all (f ∷ fs) around = f around ++ spots_of_all fs around

-- a loop's bounds and a guard's terms stand outside the loop and the guard
abbrev pub spots_step : Item-F (List Around → List Spot) → List Around → List Spot
spots_step (Item-F.For line name lo hi body) around =
    spot line around (term_accesses lo ++ term_accesses hi) ∷ spots_of_all body (around ++ Loop line lo hi ∷ [])
spots_step (Item-F.When line rel left right body) around =
    spot line around (term_accesses left ++ term_accesses right) ∷ spots_of_all body (around ++ Guard rel left right ∷ [])
spots_step (Item-F.Set line array at value) around = spot line around (bracket_accesses Sets array at ++ expr_accesses value) ∷ []
spots_step (Item-F.Keep line local value) around = spot line around (expr_accesses value) ∷ []

abbrev pub item_spots : Item → List Around → List Spot
item_spots = fold-Item (List Around → List Spot) spots_step

-- the lines of items, in the order of the text
abbrev pub body_spots : List Item → List Around → List Spot
body_spots items = spots_of_all (map item_spots items)

-- the lines of the body; the outer loop stands round all of them and isn't listed
abbrev pub spots : Nest → List Spot
spots nest = body_spots nest.body []
