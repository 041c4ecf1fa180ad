-- When an instance of a rule is sound.
use Rattle.std.specs.Prelude.{◌≡◌, IsTrue, List, length}
use Rattle.std.specs.List.{All}
use Rattle.wave_base.specs.declared.types.ArrayId.{ArrayId}
use Rattle.loop_core.specs.declared.decl.Decl.{Decl}
use Rattle.loop_core.specs.declared.decl.PropDecl.{PropDecl}
use Rattle.loop_core.specs.declared.decl.PropKind.{PropKind}
use Rattle.loop_core.specs.declared.decl.PropKind.TheVariants.{Range, Rising, Strict, Injective, Sorted, Below, Upto, Diagonal, Before}
use Rattle.loop_core.specs.declared.nest.Term.{Term}
use Rattle.loop_core.specs.Lists.{Lists, list_of}
use Rattle.loop_core.specs.Binding.{Binding}
use Rattle.loop_core.specs.IsNest.{is_bound}
use Rattle.loop_core.specs.Sizes.{is_index, declared_length}
use Rattle.uf_constraints.specs.Truth.{AllHold}
use Rattle.uf_constraints.specs.Universe.{next}
use Rattle.index_props.specs.declared.rule.RuleInst.{RuleInst}
use Rattle.index_props.specs.Entries.{SegmentTerms, entry_of}
use Rattle.index_props.specs.Meanings.{Means}

-- each index array has its declared length
abbrev pub IndexLengths : List Decl → Lists → Type 0
IndexLengths decls a = (f : ArrayId) → IsTrue (is_index decls f) → length (list_of a.lists f) ≡ declared_length decls a.n a.nnz f

-- where the premises are true, so are the results
abbrev pub Follows : Lists → List Binding → RuleInst → Type 0
Follows a env r = AllHold a env r.premises → AllHold a env r.results

-- so it is for arrays of the declared lengths that have the property
abbrev pub IsSound : List Decl → PropKind → RuleInst → Type 0
IsSound decls kind r = (a : Lists) (env : List Binding) → IndexLengths decls a → Means a kind → Follows a env r

-- the segment from p[u] to p[u+1]
abbrev pub segment_of : List Decl → ArrayId → Term → SegmentTerms
segment_of decls p u = record { start = entry_of decls p u; stop = entry_of decls p (next u) }

-- the arrays of a property are index arrays, and the bounds of a `range` have no variable and no entry
abbrev pub NamesIndexes : List Decl → PropKind → Type 0
NamesIndexes decls (Range f lo hi) = IsTrue (is_index decls f) × IsTrue (is_bound lo) × IsTrue (is_bound hi)
NamesIndexes decls (Rising p) = IsTrue (is_index decls p)
NamesIndexes decls (Strict p) = IsTrue (is_index decls p)
NamesIndexes decls (Injective f) = IsTrue (is_index decls f)
NamesIndexes decls (Sorted f p) = IsTrue (is_index decls f) × IsTrue (is_index decls p)
NamesIndexes decls (Below f p) = IsTrue (is_index decls f) × IsTrue (is_index decls p)
NamesIndexes decls (Upto f p) = IsTrue (is_index decls f) × IsTrue (is_index decls p)
NamesIndexes decls (Diagonal d f p) = IsTrue (is_index decls d) × IsTrue (is_index decls f) × IsTrue (is_index decls p)
NamesIndexes decls (Before f g) = IsTrue (is_index decls f) × IsTrue (is_index decls g)

abbrev pub AllNameIndexes : List Decl → List PropDecl → Type 0
AllNameIndexes decls props = All (λ p. NamesIndexes decls p.kind) props
