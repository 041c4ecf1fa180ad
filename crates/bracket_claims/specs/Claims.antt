-- What is claimed of each bracket, and how many atoms each system of constraints has.
use Rattle.std.specs.Prelude.{ℕ, ◌≤◌, List, [], ◌∷◌, ◌++◌, length, map}
use Rattle.std.specs.List.{flat_map}
use Rattle.loop_core.specs.declared.decl.Decl.{Decl}
use Rattle.loop_core.specs.declared.decl.PropDecl.{PropDecl}
use Rattle.loop_core.specs.declared.nest.Nest.{Nest}
use Rattle.loop_core.specs.declared.nest.Atom.{Atom}
use Rattle.loop_core.specs.declared.nest.Atom.TheVariants.{Zero}
use Rattle.loop_core.specs.declared.nest.Side.TheVariants.{Own}
use Rattle.uf_constraints.specs.declared.system.Diff.{Diff}
use Rattle.uf_constraints.specs.declared.system.Relation.{Relation}
use Rattle.uf_constraints.specs.declared.reach.Bracket.{Bracket}
use Rattle.uf_constraints.specs.declared.reach.Spot.{Spot}
use Rattle.uf_constraints.specs.Bases.{at_most, less, on, bracket_base}
use Rattle.uf_constraints.specs.Brackets.{spots}
use Rattle.uf_constraints.specs.Relations.{relations}
use Rattle.uf_constraints.specs.Universe.{plain, atoms_due}
use Rattle.index_props.specs.declared.rule.RuleInst.{RuleInst}
use Rattle.index_props.specs.Entries.{length_term}
use Rattle.index_props.specs.Rules.{instances_of}
use Rattle.bracket_claims.specs.declared.claim.Claim.{Claim}

-- Claims: the term in a bracket lies in the list of its array, wherever the base of the bracket holds.

abbrev pub claim : Nest → Spot → Bracket → Claim
claim nest s b = record {
  line = s.line;
  bracket = b.number;
  base = bracket_base nest s;
  at = on Own b.at;
  extent = length_term nest.decls b.array;
}

abbrev pub claims_on : Nest → Spot → List Claim
claims_on nest s = map (claim nest s) s.brackets

-- those of all brackets, line by line and on a line from left to right
abbrev pub claims : Nest → List Claim
claims nest = flat_map (claims_on nest) (spots nest)

-- 0 <= t
abbrev pub low : Claim → Diff
low c = at_most (plain Zero) c.at

-- t < len f
abbrev pub high : Claim → Diff
high c = less c.at c.extent

-- The system of a claim: the atoms of its base and its term, with what the properties ask for beside them, and the instances at them.

abbrev pub atoms_of : List PropDecl → Claim → List Atom
atoms_of props c = atoms_due c.base (c.at ∷ []) props

abbrev pub rules_of : List Decl → List PropDecl → Claim → List RuleInst
rules_of decls props c = instances_of decls props (atoms_of props c)

-- How many atoms a system has, with the line that is named where they are too many: that of its bracket, or of the second reference of its relation.

pub record Size : Type 0 where
  pub line : ℕ
  pub atoms : ℕ

abbrev pub claim_size : List PropDecl → Claim → Size
claim_size props c = record { line = c.line; atoms = length (atoms_of props c) }

abbrev pub relation_size : List PropDecl → Relation → Size
relation_size props r = record { line = r.second.line; atoms = length (atoms_due r.base [] props) }

-- the systems of all brackets, and then those of all relations
abbrev pub sizes : Nest → List PropDecl → List Size
sizes nest props = map (claim_size props) (claims nest) ++ map (relation_size props) (relations nest)

abbrev pub Fits : Size → Type 0
Fits z = z.atoms ≤ 96
