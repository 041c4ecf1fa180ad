-- What each instance is: a line of the table of rules, all of whose array entries are atoms of the universe.
use Rattle.std.specs.Prelude.{Bool, true, false, List}
use Rattle.std.specs.List.{Contains}
use Rattle.wave_base.specs.declared.types.ArrayId.{ArrayId}
use Rattle.loop_core.specs.declared.decl.Decl.{Decl}
use Rattle.loop_core.specs.declared.decl.PropDecl.{PropDecl}
use Rattle.loop_core.specs.declared.decl.PropKind.{PropKind}
use Rattle.loop_core.specs.declared.decl.PropKind.TheVariants.{Range, Rising, Strict, Injective, Sorted, Below, Upto, Diagonal, Before}
use Rattle.loop_core.specs.declared.nest.Term.{Term}
use Rattle.loop_core.specs.declared.nest.Atom.{Atom}
use Rattle.loop_core.specs.declared.nest.Atom.TheVariants.{At}
use Rattle.uf_constraints.specs.Over.{AllOver}
use Rattle.uf_constraints.specs.Universe.{plain, next}
use Rattle.index_props.specs.declared.rule.RuleInst.{RuleInst}
use Rattle.index_props.specs.declared.rule.PairLine.TheVariants.{Equal as EqualLine, Injective as InjectiveLine, Ordered as OrderedLine}
use Rattle.index_props.specs.Entries.{entry_of}
use Rattle.index_props.specs.Rules.{pair_instance, range_instance, sorted_instance, limit_instance, diagonal_instance, before_instance, order}
use Rattle.index_props.specs.Sound.{segment_of}

-- a line of the table for a property
pub data IsLine (decls : List Decl) (atoms : List Atom) : PropKind → RuleInst → Type 0 where
  range : (f : ArrayId) (lo hi t : Term) → Contains atoms (At f t) → IsLine decls atoms (Range f lo hi) (range_instance lo hi (entry_of decls f t))
  rising_forth : (p : ArrayId) (s t : Term) → Contains atoms (At p s) → Contains atoms (At p t) → IsLine decls atoms (Rising p) (pair_instance (OrderedLine (order false false)) (entry_of decls p s) (entry_of decls p t))
  rising_back : (p : ArrayId) (s t : Term) → Contains atoms (At p s) → Contains atoms (At p t) → IsLine decls atoms (Rising p) (pair_instance (OrderedLine (order true true)) (entry_of decls p s) (entry_of decls p t))
  strict : (strict back : Bool) (p : ArrayId) (s t : Term) → Contains atoms (At p s) → Contains atoms (At p t) → IsLine decls atoms (Strict p) (pair_instance (OrderedLine (order strict back)) (entry_of decls p s) (entry_of decls p t))
  injective : (f : ArrayId) (s t : Term) → Contains atoms (At f s) → Contains atoms (At f t) → IsLine decls atoms (Injective f) (pair_instance InjectiveLine (entry_of decls f s) (entry_of decls f t))
  sorted : (strict back : Bool) (f p : ArrayId) (s t u : Term) → Contains atoms (At f s) → Contains atoms (At f t) → Contains atoms (At p u) → Contains atoms (At p (next u)) → IsLine decls atoms (Sorted f p) (sorted_instance (order strict back) (entry_of decls f s) (entry_of decls f t) (segment_of decls p u))
  below : (f p : ArrayId) (s u : Term) → Contains atoms (At f s) → Contains atoms (At p u) → Contains atoms (At p (next u)) → IsLine decls atoms (Below f p) (limit_instance true (entry_of decls f s) (segment_of decls p u))
  upto : (f p : ArrayId) (s u : Term) → Contains atoms (At f s) → Contains atoms (At p u) → Contains atoms (At p (next u)) → IsLine decls atoms (Upto f p) (limit_instance false (entry_of decls f s) (segment_of decls p u))
  diagonal : (d f p : ArrayId) (t : Term) → Contains atoms (At d t) → Contains atoms (At f (plain (At d t))) → Contains atoms (At p t) → Contains atoms (At p (next t)) → IsLine decls atoms (Diagonal d f p) (diagonal_instance decls f p (entry_of decls d t))
  before : (f g : ArrayId) (t : Term) → Contains atoms (At f t) → Contains atoms (At g t) → IsLine decls atoms (Before f g) (before_instance decls g (entry_of decls f t))

-- a line of equal arguments, or one for a declared property
pub data IsInstance (decls : List Decl) (props : List PropDecl) (atoms : List Atom) : RuleInst → Type 0 where
  equal : (f : ArrayId) (s t : Term) → Contains atoms (At f s) → Contains atoms (At f t) → IsInstance decls props atoms (pair_instance EqualLine (entry_of decls f s) (entry_of decls f t))
  declared : (prop : PropDecl) (r : RuleInst) → Contains props prop → IsLine decls atoms prop.kind r → IsInstance decls props atoms r

-- all constraints of an instance are over the atoms
abbrev pub IsRuleOver : List Atom → RuleInst → Type 0
IsRuleOver atoms r = AllOver atoms r.premises × AllOver atoms r.results
