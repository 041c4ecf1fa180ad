-- The table of rules: which constraints follow from which, where an array has a property.
use Rattle.std.specs.Prelude.{pos, ◌-ℤ◌, ◌&&◌, Bool, true, false, List, [], ◌∷◌, ◌++◌, map, if◌then◌else◌}
use Rattle.std.specs.List.{flat_map}
use Rattle.wave_base.specs.declared.types.ArrayId.{ArrayId}
use Rattle.loop_core.specs.declared.decl.Decl.{Decl}
use Rattle.loop_core.specs.declared.decl.PropDecl.{PropDecl}
use Rattle.loop_core.specs.declared.decl.PropKind.{PropKind}
use Rattle.loop_core.specs.declared.decl.PropKind.TheVariants.{Range, Rising, Strict, Injective, Sorted, Below, Upto, Diagonal, Before}
use Rattle.loop_core.specs.declared.nest.Term.{Term}
use Rattle.loop_core.specs.declared.nest.Atom.{Atom}
use Rattle.loop_core.specs.declared.nest.Atom.TheVariants.{Zero}
use Rattle.uf_constraints.specs.declared.system.Diff.{Diff}
use Rattle.uf_constraints.specs.Universe.{plain, next}
use Rattle.index_props.specs.declared.rule.RuleInst.{RuleInst}
use Rattle.index_props.specs.declared.rule.Order.{Order}
use Rattle.index_props.specs.declared.rule.PairLine.{PairLine}
use Rattle.index_props.specs.declared.rule.PairLine.TheVariants.{Equal as EqualLine, Injective as InjectiveLine, Ordered as OrderedLine}
use Rattle.index_props.specs.Entries.{EntryTerms, SegmentTerms, entry_of, entries, of_array, has_entry}

-- Constraints between terms.

-- s <= t
abbrev pub at_most : Term → Term → Diff
at_most s t = record { a = s.atom; b = t.atom; c = t.plus -ℤ s.plus }

-- s < t
abbrev pub less : Term → Term → Diff
less s t = record { a = s.atom; b = t.atom; c = t.plus -ℤ s.plus -ℤ pos 1 }

-- s = t
abbrev pub equal : Term → Term → List Diff
equal s t = at_most s t ∷ at_most t s ∷ []

abbrev pub compared : Bool → Term → Term → Diff
compared strict s t = if strict then less s t else at_most s t

-- Lists of premises.

-- the argument is a place of the array
abbrev pub ok : EntryTerms → List Diff
ok e = at_most (plain Zero) e.index ∷ less e.index e.extent ∷ []

-- the argument lies in the segment from p[u] up to but not including p[u+1], and all three are places
abbrev pub seg : SegmentTerms → EntryTerms → List Diff
seg g e = at_most g.start.value e.index ∷ less e.index g.stop.value ∷ ok e ++ ok g.start ++ ok g.stop

-- The lines of the table.

abbrev pub order_premise : Order → EntryTerms → EntryTerms → Diff
order_premise o s t = if o.back then compared o.strict s.value t.value else compared o.strict s.index t.index

abbrev pub order_result : Order → EntryTerms → EntryTerms → Diff
order_result o s t = if o.back then compared o.strict s.index t.index else compared o.strict s.value t.value

abbrev pub pair_instance : PairLine → EntryTerms → EntryTerms → RuleInst
pair_instance EqualLine s t = record { premises = equal s.index t.index; results = equal s.value t.value }
pair_instance InjectiveLine s t = record { premises = ok s ++ ok t ++ equal s.value t.value; results = equal s.index t.index }
pair_instance (OrderedLine o) s t = record { premises = ok s ++ ok t ++ order_premise o s t ∷ []; results = order_result o s t ∷ [] }

abbrev pub range_instance : Term → Term → EntryTerms → RuleInst
range_instance lo hi e = record { premises = ok e; results = at_most lo e.value ∷ less e.value hi ∷ [] }

abbrev pub sorted_instance : Order → EntryTerms → EntryTerms → SegmentTerms → RuleInst
sorted_instance o s t g = record { premises = seg g s ++ seg g t ++ order_premise o s t ∷ []; results = order_result o s t ∷ [] }

-- the entry is below u, or at most u
abbrev pub limit_instance : Bool → EntryTerms → SegmentTerms → RuleInst
limit_instance strict s g = record { premises = seg g s; results = compared strict s.value g.start.index ∷ [] }

-- at d[t], with f[d[t]], p[t] and p[t+1]
abbrev pub diagonal_instance : List Decl → ArrayId → ArrayId → EntryTerms → RuleInst
diagonal_instance decls f p e =
    let at = entry_of decls p e.index in
    let after = entry_of decls p (next e.index) in
    let back = entry_of decls f e.value in
    record {
      premises = ok e ++ ok at ++ ok after;
      results = at_most at.value e.value ∷ less e.value after.value ∷ equal back.value e.index;
    }

abbrev pub before_instance : List Decl → ArrayId → EntryTerms → RuleInst
before_instance decls g e = record { premises = ok e; results = at_most e.value (entry_of decls g e.index).value ∷ [] }

-- The instances in their order.

abbrev pub pair_instances : PairLine → List EntryTerms → List RuleInst
pair_instances line es = flat_map (λ s. map (pair_instance line s) es) es

-- equal arguments, for two entries of any one array
abbrev pub equal_instances : List EntryTerms → List RuleInst
equal_instances es = flat_map (λ s. map (pair_instance EqualLine s) (of_array s.array es)) es

-- the segment that begins at p[u], where p[u+1] is among the entries too
abbrev pub segment_from : List Decl → ArrayId → List EntryTerms → EntryTerms → List SegmentTerms
segment_from decls p es e =
    if has_entry es p (next e.index) then record { start = e; stop = entry_of decls p (next e.index) } ∷ [] else []

abbrev pub segments : List Decl → ArrayId → List EntryTerms → List SegmentTerms
segments decls p es = flat_map (segment_from decls p es) (of_array p es)

abbrev pub sorted_from : Order → List SegmentTerms → List EntryTerms → EntryTerms → List RuleInst
sorted_from o gs es s = flat_map (λ t. map (sorted_instance o s t) gs) es

abbrev pub sorted_instances : Order → List SegmentTerms → List EntryTerms → List RuleInst
sorted_instances o gs es = flat_map (sorted_from o gs es) es

abbrev pub limit_instances : Bool → List SegmentTerms → List EntryTerms → List RuleInst
limit_instances strict gs es = flat_map (λ s. map (limit_instance strict s) gs) es

abbrev pub diagonal_at : List Decl → ArrayId → ArrayId → List EntryTerms → EntryTerms → List RuleInst
diagonal_at decls f p es e =
    if has_entry es f e.value && (has_entry es p e.index && has_entry es p (next e.index)) then diagonal_instance decls f p e ∷ [] else []

abbrev pub before_at : List Decl → ArrayId → List EntryTerms → EntryTerms → List RuleInst
before_at decls g es e = if has_entry es g e.index then before_instance decls g e ∷ [] else []

-- the four lines for an order, each forth or back
abbrev pub order : Bool → Bool → Order
order strict back = record { strict = strict; back = back }

abbrev pub ordered_instances : Bool → Bool → List EntryTerms → List RuleInst
ordered_instances strict back es = pair_instances (OrderedLine (order strict back)) es

abbrev pub property_instances : List Decl → List EntryTerms → PropKind → List RuleInst
property_instances decls es (Range f lo hi) = map (range_instance lo hi) (of_array f es)
property_instances decls es (Rising p) =
    ordered_instances false false (of_array p es) ++ ordered_instances true true (of_array p es)
property_instances decls es (Strict p) =
    ordered_instances false false (of_array p es) ++ ordered_instances true true (of_array p es)
    ++ ordered_instances true false (of_array p es) ++ ordered_instances false true (of_array p es)
property_instances decls es (Injective f) = pair_instances InjectiveLine (of_array f es)
property_instances decls es (Sorted f p) =
    let gs = segments decls p es in
    let fs = of_array f es in
    sorted_instances (order true false) gs fs ++ sorted_instances (order false false) gs fs
    ++ sorted_instances (order false true) gs fs ++ sorted_instances (order true true) gs fs
property_instances decls es (Below f p) = limit_instances true (segments decls p es) (of_array f es)
property_instances decls es (Upto f p) = limit_instances false (segments decls p es) (of_array f es)
property_instances decls es (Diagonal d f p) = flat_map (diagonal_at decls f p es) (of_array d es)
property_instances decls es (Before f g) = flat_map (before_at decls g es) (of_array f es)

-- all instances at the atoms: equal arguments first, then by property
abbrev pub instances_of : List Decl → List PropDecl → List Atom → List RuleInst
instances_of decls props atoms =
    let es = entries decls atoms in equal_instances es ++ flat_map (λ p. property_instances decls es p.kind) props
