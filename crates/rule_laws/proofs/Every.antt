-- Each instance is a line of the table at array entries of the universe.
use Rattle.std.proofs.Common.{◌≡◌, ◌==◌, ◌&&◌, ◌⊎◌, inl, inr, Bool, true, false, cond, List, [], ◌∷◌, ◌++◌, map, refl, sym, ap, ◌∙◌, subst}
use Rattle.std.specs.Prelude.{◌||◌}
use Rattle.std.specs.List.{All, Contains, flat_map}
use Rattle.std.proofs.lemmas.List.Elements.{All-nil, All-cons, All-head, All-tail, All-append, All-map, All-weaker, All-contains_itself}
use Rattle.wave_base.specs.declared.types.ArrayId.{ArrayId}
use Rattle.loop_core.specs.declared.decl.Decl.{Decl}
use Rattle.loop_core.specs.declared.decl.PropDecl.{PropDecl}
use Rattle.loop_core.specs.declared.decl.PropKind.{PropKind}
use Rattle.loop_core.specs.declared.decl.PropKind.TheVariants.{Range, Rising, Strict, Injective, Sorted, Below, Upto, Diagonal, Before}
use Rattle.loop_core.specs.declared.nest.Term.{Term}
use Rattle.loop_core.specs.declared.nest.Atom.{Atom, out-Atom, roll-Atom, roll-out-Atom}
use Rattle.loop_core.specs.declared.nest.Atom.TheOpen.{Atom-F}
use Rattle.loop_core.specs.declared.nest.Atom.TheVariants.{At, rolls-At}
use Rattle.uf_constraints.specs.Same.{same_term}
use Rattle.uf_constraints.specs.Universe.{plain, next}
use Rattle.uf_constraints.proofs.Equal.{both, array_is, same_term_is}
use Rattle.index_props.specs.declared.rule.RuleInst.{RuleInst}
use Rattle.index_props.specs.declared.rule.Order.{Order}
use Rattle.index_props.specs.declared.rule.PairLine.{PairLine}
use Rattle.index_props.specs.declared.rule.PairLine.TheVariants.{Equal as EqualLine, Injective as InjectiveLine, Ordered as OrderedLine}
use Rattle.index_props.specs.Entries.{EntryTerms, SegmentTerms, entry_of, entry_in, entry_at, entries, if_of, of_array, has_entry}
use Rattle.index_props.specs.Rules.{pair_instance, range_instance, sorted_instance, limit_instance, diagonal_instance, before_instance, order, pair_instances, equal_instances, segment_from, segments, sorted_from, sorted_instances, limit_instances, diagonal_at, before_at, ordered_instances, property_instances, instances_of}
use Rattle.index_props.specs.Sound.{segment_of}
use Rattle.index_props.specs.Table.{IsLine, IsInstance}
use Rattle.index_props.specs.Table.IsLine.{range, rising_forth, rising_back, strict, injective, sorted, below, upto, diagonal, before}
use Rattle.index_props.specs.Table.IsInstance.{equal, declared}

-- Lists.

pub All-flat_map : {X Y : Type 0} (P : X → Type 0) (f : Y → List X) (ys : List Y) → All (λ y. All P (f y)) ys → All P (flat_map f ys)
All-flat_map P f [] h = All-nil P
All-flat_map P f (y ∷ ys) h =
    All-append P (f y) (flat_map f ys) (All-head (λ z. All P (f z)) y ys h) (All-flat_map P f ys (All-tail (λ z. All P (f z)) y ys h))

-- one element or none
all_if : {X : Type 0} (P : X → Type 0) (x : X) (b : Bool) → (b ≡ true → P x) → All P (cond b (x ∷ []) [])
all_if P x true h = All-cons P x [] (h refl) (All-nil P)
all_if P x false h = All-nil P

either : (a b : Bool) → (a || b) ≡ true → (a ≡ true) ⊎ (b ≡ true)
either true b h = inl refl
either false b h = inr h

module _ (decls : List Decl) (atoms : List Atom) where
  -- an entry whose atom is in the universe
  record IsEntry (e : EntryTerms) : Type 0 where
    pub made : e ≡ entry_of decls e.array e.index
    pub listed : Contains atoms (At e.array e.index)

  -- an entry of one array
  record IsEntryOf (f : ArrayId) (e : EntryTerms) : Type 0 where
    pub made : e ≡ entry_of decls f e.index
    pub listed : Contains atoms (At f e.index)

  -- a segment both of whose ends are in the universe
  record IsSegment (p : ArrayId) (g : SegmentTerms) : Type 0 where
    pub made : g ≡ segment_of decls p g.start.index
    pub start : Contains atoms (At p g.start.index)
    pub stop : Contains atoms (At p (next g.start.index))

  entry_cases : (a : Atom) (x : Atom-F Atom Term) → roll-Atom x ≡ a → Contains atoms a → All IsEntry (entry_in decls x)
  entry_cases a (Atom-F.At f t) e h =
      All-cons IsEntry (entry_of decls f t) [] (record { made = refl; listed = subst (Contains atoms) (sym e ∙ rolls-At f t) h }) (All-nil IsEntry)
  entry_cases a Atom-F.Zero e h = All-nil IsEntry
  entry_cases a Atom-F.N e h = All-nil IsEntry
  entry_cases a Atom-F.Nnz e h = All-nil IsEntry
  entry_cases a (Atom-F.Var v) e h = All-nil IsEntry

  entries_are : All IsEntry (entries decls atoms)
  entries_are = All-flat_map IsEntry (entry_at decls) atoms (All-weaker (Contains atoms) (λ a. All IsEntry (entry_at decls a)) (λ a h. entry_cases a (out-Atom a) (roll-out-Atom a) h) atoms (All-contains_itself atoms))

  of_one : (f : ArrayId) (e : EntryTerms) → IsEntry e → (e.array.0 == f.0) ≡ true → IsEntryOf f e
  of_one f e is h =
      let same = array_is e.array f h in
      record { made = subst (λ g. e ≡ entry_of decls g e.index) same is.made; listed = subst (λ g. Contains atoms (At g e.index)) same is.listed }

  array_entries : (f : ArrayId) (es : List EntryTerms) → All IsEntry es → All (IsEntryOf f) (of_array f es)
  array_entries f es h =
      All-flat_map (IsEntryOf f) (if_of f) es (All-weaker IsEntry (λ e. All (IsEntryOf f) (if_of f e)) (λ e is. all_if (IsEntryOf f) e (e.array.0 == f.0) (of_one f e is)) es h)

  found : (es : List EntryTerms) (f : ArrayId) (t : Term) → All IsEntry es → has_entry es f t ≡ true → Contains atoms (At f t)
  found [] f t all h = absurd (cc)
  found (e ∷ es) f t all h =
      elim (either ((e.array.0 == f.0) && same_term t e.index) (has_entry es f t) h) [
        | inl here ↦
            let two = both (e.array.0 == f.0) (same_term t e.index) here in
            let listed = (All-head IsEntry e es all).listed in
            subst (λ g. Contains atoms (At g t)) (array_is e.array f two.0) (subst (λ u. Contains atoms (At e.array u)) (sym (same_term_is t e.index two.1)) listed)
        | inr later ↦ found es f t (All-tail IsEntry e es all) later
      ]

  segments_are : (p : ArrayId) (es : List EntryTerms) → All IsEntry es → All (IsSegment p) (segments decls p es)
  segments_are p es all =
      All-flat_map (IsSegment p) (segment_from decls p es) (of_array p es)
      (All-weaker (IsEntryOf p) (λ e. All (IsSegment p) (segment_from decls p es e))
      (λ e is. all_if (IsSegment p) (record { start = e; stop = entry_of decls p (next e.index) }) (has_entry es p (next e.index))
      (λ h. record {
        made = ap (λ (x : EntryTerms). let g : SegmentTerms = record { start = x; stop = entry_of decls p (next e.index) } in g) is.made;
        start = is.listed;
        stop = found es p (next e.index) all h;
      }))
      (of_array p es) (array_entries p es all))

  -- Pairs of entries of one array.

  pairs_are : (P : RuleInst → Type 0) (f : ArrayId) (line : PairLine) (es : List EntryTerms) → All (IsEntryOf f) es → ((s t : Term) → Contains atoms (At f s) → Contains atoms (At f t) → P (pair_instance line (entry_of decls f s) (entry_of decls f t))) → All P (pair_instances line es)
  pairs_are P f line es all h =
      All-flat_map P (λ s. map (pair_instance line s) es) es
      (All-weaker (IsEntryOf f) (λ s. All P (map (pair_instance line s) es))
      (λ s is. All-map P (pair_instance line s) es
      (All-weaker (IsEntryOf f) (λ t. P (pair_instance line s t))
      (λ t it. subst (λ x. P (pair_instance line x t)) (sym is.made) (subst (λ y. P (pair_instance line (entry_of decls f s.index) y)) (sym it.made) (h s.index t.index is.listed it.listed)))
      es all))
      es all)

  -- Entries and segments.

  sorted_are : (o : Order) (P : RuleInst → Type 0) (f p : ArrayId) (gs : List SegmentTerms) (es : List EntryTerms) → All (IsSegment p) gs → All (IsEntryOf f) es → ((s t u : Term) → Contains atoms (At f s) → Contains atoms (At f t) → Contains atoms (At p u) → Contains atoms (At p (next u)) → P (sorted_instance o (entry_of decls f s) (entry_of decls f t) (segment_of decls p u))) → All P (sorted_instances o gs es)
  sorted_are o P f p gs es segs all h =
      All-flat_map P (sorted_from o gs es) es
      (All-weaker (IsEntryOf f) (λ s. All P (sorted_from o gs es s))
      (λ s is. All-flat_map P (λ t. map (sorted_instance o s t) gs) es
      (All-weaker (IsEntryOf f) (λ t. All P (map (sorted_instance o s t) gs))
      (λ t it. All-map P (sorted_instance o s t) gs
      (All-weaker (IsSegment p) (λ g. P (sorted_instance o s t g))
      (λ g ig. subst (λ x. P (sorted_instance o x t g)) (sym is.made)
      (subst (λ y. P (sorted_instance o (entry_of decls f s.index) y g)) (sym it.made)
      (subst (λ z. P (sorted_instance o (entry_of decls f s.index) (entry_of decls f t.index) z)) (sym ig.made)
      (h s.index t.index g.start.index is.listed it.listed ig.start ig.stop))))
      gs segs))
      es all))
      es all)

  limits_are : (b : Bool) (P : RuleInst → Type 0) (f p : ArrayId) (gs : List SegmentTerms) (es : List EntryTerms) → All (IsSegment p) gs → All (IsEntryOf f) es → ((s u : Term) → Contains atoms (At f s) → Contains atoms (At p u) → Contains atoms (At p (next u)) → P (limit_instance b (entry_of decls f s) (segment_of decls p u))) → All P (limit_instances b gs es)
  limits_are b P f p gs es segs all h =
      All-flat_map P (λ s. map (limit_instance b s) gs) es
      (All-weaker (IsEntryOf f) (λ s. All P (map (limit_instance b s) gs))
      (λ s is. All-map P (limit_instance b s) gs
      (All-weaker (IsSegment p) (λ g. P (limit_instance b s g))
      (λ g ig. subst (λ x. P (limit_instance b x g)) (sym is.made)
      (subst (λ z. P (limit_instance b (entry_of decls f s.index) z)) (sym ig.made) (h s.index g.start.index is.listed ig.start ig.stop)))
      gs segs))
      es all)

  -- One entry.

  three : (a b c : Bool) → (a && (b && c)) ≡ true → (a ≡ true) × (b ≡ true) × (c ≡ true)
  three a b c h = let x = both a (b && c) h in let y = both b c x.1 in (x.0, y.0, y.1)

  ranges_are : (f : ArrayId) (lo hi : Term) (es : List EntryTerms) → All (IsEntryOf f) es → All (IsLine decls atoms (Range f lo hi)) (map (range_instance lo hi) es)
  ranges_are f lo hi es all =
      let P : RuleInst → Type 0 = IsLine decls atoms (Range f lo hi) in
      All-map P (range_instance lo hi) es
      (All-weaker (IsEntryOf f) (λ e. P (range_instance lo hi e))
      (λ e is. subst (λ x. P (range_instance lo hi x)) (sym is.made) (range f lo hi e.index is.listed)) es all)

  -- f[d[t]] beside d[t]
  back_found : (d f : ArrayId) (es : List EntryTerms) (e : EntryTerms) → All IsEntry es → IsEntryOf d e → has_entry es f e.value ≡ true → Contains atoms (At f (plain (At d e.index)))
  back_found d f es e all is h = subst (λ x. Contains atoms (At f x.value)) is.made (found es f e.value all h)

  diagonals_are : (d f p : ArrayId) (es : List EntryTerms) → All IsEntry es → All (IsLine decls atoms (Diagonal d f p)) (flat_map (diagonal_at decls f p es) (of_array d es))
  diagonals_are d f p es all =
      let P : RuleInst → Type 0 = IsLine decls atoms (Diagonal d f p) in
      All-flat_map P (diagonal_at decls f p es) (of_array d es)
      (All-weaker (IsEntryOf d) (λ e. All P (diagonal_at decls f p es e))
      (λ e is. all_if P (diagonal_instance decls f p e) (has_entry es f e.value && (has_entry es p e.index && has_entry es p (next e.index)))
      (λ h.
      let t = three (has_entry es f e.value) (has_entry es p e.index) (has_entry es p (next e.index)) h in
      subst (λ x. P (diagonal_instance decls f p x)) (sym is.made)
      (diagonal d f p e.index is.listed (back_found d f es e all is t.0) (found es p e.index all t.1) (found es p (next e.index) all t.2))))
      (of_array d es) (array_entries d es all))

  befores_are : (f g : ArrayId) (es : List EntryTerms) → All IsEntry es → All (IsLine decls atoms (Before f g)) (flat_map (before_at decls g es) (of_array f es))
  befores_are f g es all =
      let P : RuleInst → Type 0 = IsLine decls atoms (Before f g) in
      All-flat_map P (before_at decls g es) (of_array f es)
      (All-weaker (IsEntryOf f) (λ e. All P (before_at decls g es e))
      (λ e is. all_if P (before_instance decls g e) (has_entry es g e.index)
      (λ h. subst (λ x. P (before_instance decls g x)) (sym is.made) (before f g e.index is.listed (found es g e.index all h))))
      (of_array f es) (array_entries f es all))

  -- All instances of a property.

  strict_are : (s b : Bool) (p : ArrayId) (es : List EntryTerms) → All (IsEntryOf p) es → All (IsLine decls atoms (Strict p)) (ordered_instances s b es)
  strict_are s b p es all = pairs_are (IsLine decls atoms (Strict p)) p (OrderedLine (order s b)) es all (strict s b p)

  sorted_order : (s b : Bool) (f p : ArrayId) (gs : List SegmentTerms) (es : List EntryTerms) → All (IsSegment p) gs → All (IsEntryOf f) es → All (IsLine decls atoms (Sorted f p)) (sorted_instances (order s b) gs es)
  sorted_order s b f p gs es segs all = sorted_are (order s b) (IsLine decls atoms (Sorted f p)) f p gs es segs all (sorted s b f p)

  property_lines : (kind : PropKind) (es : List EntryTerms) → All IsEntry es → All (IsLine decls atoms kind) (property_instances decls es kind)
  property_lines (Range f lo hi) es all = ranges_are f lo hi (of_array f es) (array_entries f es all)
  property_lines (Rising p) es all =
      let P : RuleInst → Type 0 = IsLine decls atoms (Rising p) in
      let ps = array_entries p es all in
      All-append P (ordered_instances false false (of_array p es)) (ordered_instances true true (of_array p es))
      (pairs_are P p (OrderedLine (order false false)) (of_array p es) ps (rising_forth p))
      (pairs_are P p (OrderedLine (order true true)) (of_array p es) ps (rising_back p))
  property_lines (Strict p) es all =
      let P : RuleInst → Type 0 = IsLine decls atoms (Strict p) in
      let fs = of_array p es in
      let ps = array_entries p es all in
      let L : Bool → Bool → List RuleInst = λ s b. ordered_instances s b fs in
      All-append P (L false false ++ L true true ++ L true false) (L false true)
      (All-append P (L false false ++ L true true) (L true false)
      (All-append P (L false false) (L true true) (strict_are false false p fs ps) (strict_are true true p fs ps))
      (strict_are true false p fs ps))
      (strict_are false true p fs ps)
  property_lines (Injective f) es all = pairs_are (IsLine decls atoms (Injective f)) f InjectiveLine (of_array f es) (array_entries f es all) (injective f)
  property_lines (Sorted f p) es all =
      let P : RuleInst → Type 0 = IsLine decls atoms (Sorted f p) in
      let gs = segments decls p es in
      let fs = of_array f es in
      let segs = segments_are p es all in
      let here = array_entries f es all in
      let L : Bool → Bool → List RuleInst = λ s b. sorted_instances (order s b) gs fs in
      All-append P (L true false ++ L false false ++ L false true) (L true true)
      (All-append P (L true false ++ L false false) (L false true)
      (All-append P (L true false) (L false false) (sorted_order true false f p gs fs segs here) (sorted_order false false f p gs fs segs here))
      (sorted_order false true f p gs fs segs here))
      (sorted_order true true f p gs fs segs here)
  property_lines (Below f p) es all = limits_are true (IsLine decls atoms (Below f p)) f p (segments decls p es) (of_array f es) (segments_are p es all) (array_entries f es all) (below f p)
  property_lines (Upto f p) es all = limits_are false (IsLine decls atoms (Upto f p)) f p (segments decls p es) (of_array f es) (segments_are p es all) (array_entries f es all) (upto f p)
  property_lines (Diagonal d f p) es all = diagonals_are d f p es all
  property_lines (Before f g) es all = befores_are f g es all

  module _ (props : List PropDecl) where
    equal_lines : (es : List EntryTerms) → All IsEntry es → All (IsInstance decls props atoms) (equal_instances es)
    equal_lines es all =
        let P : RuleInst → Type 0 = IsInstance decls props atoms in
        All-flat_map P (λ s. map (pair_instance EqualLine s) (of_array s.array es)) es
        (All-weaker IsEntry (λ s. All P (map (pair_instance EqualLine s) (of_array s.array es)))
        (λ s is. All-map P (pair_instance EqualLine s) (of_array s.array es)
        (All-weaker (IsEntryOf s.array) (λ t. P (pair_instance EqualLine s t))
        (λ t it. subst (λ x. P (pair_instance EqualLine x t)) (sym is.made) (subst (λ y. P (pair_instance EqualLine (entry_of decls s.array s.index) y)) (sym it.made) (equal s.array s.index t.index is.listed it.listed)))
        (of_array s.array es) (array_entries s.array es all)))
        es all)

    pub instances_are : All (IsInstance decls props atoms) (instances_of decls props atoms)
    instances_are =
        let P : RuleInst → Type 0 = IsInstance decls props atoms in
        let es = entries decls atoms in
        All-append P (equal_instances es) (flat_map (λ p. property_instances decls es p.kind) props)
        (equal_lines es entries_are)
        (All-flat_map P (λ p. property_instances decls es p.kind) props
        (All-weaker (Contains props) (λ p. All P (property_instances decls es p.kind))
        (λ p h. All-weaker (IsLine decls atoms p.kind) P (λ r line. declared p r h line) (property_instances decls es p.kind) (property_lines p.kind es entries_are))
        props (All-contains_itself props)))
