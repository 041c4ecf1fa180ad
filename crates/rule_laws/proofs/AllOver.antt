-- All instances stand over the atoms of the universe.
use Rattle.std.proofs.Common.{ℤ, ◌≡◌, IsTrue, sym, Bool, true, false, List, [], ◌∷◌, ◌++◌, subst, rules}
use Rattle.std.specs.Prelude.{Option, Some, None, slice_get, if◌then◌else◌}
use Rattle.std.specs.List.{All, Contains}
use Rattle.std.proofs.lemmas.List.Elements.{All-nil, All-cons, All-append, All-weaker, All-contains}
use Rattle.wave_base.specs.declared.types.ArrayId.{ArrayId}
use Rattle.loop_core.specs.declared.decl.Decl.{Decl}
use Rattle.loop_core.specs.declared.decl.Size.{Size}
use Rattle.loop_core.specs.declared.decl.Size.TheVariants.{N as of_n, NPlusOne, Nnz as of_nnz}
use Rattle.loop_core.specs.declared.decl.PropDecl.{PropDecl}
use Rattle.loop_core.specs.declared.decl.PropKind.{PropKind}
use Rattle.loop_core.specs.declared.nest.Term.{Term}
use Rattle.loop_core.specs.declared.nest.Atom.{Atom, out-Atom, roll-Atom, roll-out-Atom}
use Rattle.loop_core.specs.declared.nest.Atom as ATOM
use Rattle.loop_core.specs.declared.nest.Atom.TheOpen.{Atom-F}
use Rattle.loop_core.specs.declared.nest.Atom.TheVariants.{At, Zero, rolls-Zero, rolls-N, rolls-Nnz}
use Rattle.loop_core.specs.IsNest.{is_bound}
use Rattle.loop_core.specs.Sizes.{sizes}
use Rattle.uf_constraints.specs.declared.system.Diff.{Diff}
use Rattle.uf_constraints.specs.Over.{IsOver, AllOver, IsClosed}
use Rattle.uf_constraints.specs.Universe.{plain, next}
use Rattle.index_props.specs.declared.rule.RuleInst.{RuleInst}
use Rattle.index_props.specs.declared.rule.Order.{Order}
use Rattle.index_props.specs.Entries.{EntryTerms, SegmentTerms, size_term, entry_of}
use Rattle.index_props.specs.declared.rule.PairLine.TheVariants.{Ordered as OrderedLine}
use Rattle.index_props.specs.Rules.{at_most, less, equal as both_ways, compared, ok, seg, order, order_premise, order_result, pair_instance, sorted_instance, limit_instance, instances_of}
use Rattle.index_props.specs.Sound.{NamesIndexes, AllNameIndexes, segment_of}
use Rattle.index_props.specs.Table.{IsLine, IsInstance, IsRuleOver}
use Rattle.index_props.specs.Table.IsLine.{range, rising_forth, rising_back, strict, injective, sorted, below, upto, diagonal, before}
use Rattle.index_props.specs.Table.IsInstance.{equal, declared}
use Rattle.rule_laws.proofs.Every.{instances_are}

module _ (decls : List Decl) (atoms : List Atom) (closed : IsClosed atoms) where
  -- a term whose atom is listed
  abbrev In : Term → Type 0
  In t = Contains atoms t.atom

  one : (d : Diff) → IsOver atoms d → AllOver atoms (d ∷ [])
  one d h = All-cons (IsOver atoms) d [] h (All-nil (IsOver atoms))

  two : (d e : Diff) → IsOver atoms d → IsOver atoms e → AllOver atoms (d ∷ e ∷ [])
  two d e h g = All-cons (IsOver atoms) d (e ∷ []) h (one e g)

  equal_in : (s t : Term) → In s → In t → AllOver atoms (both_ways s t)
  equal_in s t hs ht = two (at_most s t) (at_most t s) (hs, ht) (ht, hs)

  compared_in : (b : Bool) (s t : Term) → In s → In t → IsOver atoms (compared b s t)
  compared_in true s t hs ht = (hs, ht)
  compared_in false s t hs ht = (hs, ht)

  size_in : (size : Option Size) → In (size_term size)
  size_in None = closed.zero
  size_in (Some of_n) = closed.n
  size_in (Some NPlusOne) = closed.n
  size_in (Some of_nnz) = closed.nnz

  -- the argument, the length and the entry itself
  record EntryIn (e : EntryTerms) : Type 0 where
    pub index : In e.index
    pub extent : In e.extent
    pub value : In e.value

  entry_in : (f : ArrayId) (t : Term) → Contains atoms (At f t) → EntryIn (entry_of decls f t)
  entry_in f t h = record { index = closed.inner f t h; extent = size_in (slice_get (sizes decls) f.0); value = h }

  ok_in : (e : EntryTerms) → EntryIn e → AllOver atoms (ok e)
  ok_in e h = two (at_most (plain Zero) e.index) (less e.index e.extent) (closed.zero, h.index) (h.index, h.extent)

  seg_in : (g : SegmentTerms) (e : EntryTerms) → EntryIn g.start → EntryIn g.stop → EntryIn e → AllOver atoms (seg g e)
  seg_in g e start stop h =
      let P : Diff → Type 0 = IsOver atoms in
      let first = at_most g.start.value e.index in
      let second = less e.index g.stop.value in
      All-append P (first ∷ second ∷ ok e ++ ok g.start) (ok g.stop)
      (All-append P (first ∷ second ∷ ok e) (ok g.start)
      (All-cons P first (second ∷ ok e) (start.value, h.index) (All-cons P second (ok e) (h.index, stop.value) (ok_in e h)))
      (ok_in g.start start))
      (ok_in g.stop stop)

  either_in : (b : Bool) (d e : Diff) → IsOver atoms d → IsOver atoms e → IsOver atoms (if b then d else e)
  either_in true d e hd he = hd
  either_in false d e hd he = he

  premise_in : (o : Order) (s t : EntryTerms) → EntryIn s → EntryIn t → IsOver atoms (order_premise o s t)
  premise_in o s t hs ht =
      either_in o.back (compared o.strict s.value t.value) (compared o.strict s.index t.index) (compared_in o.strict s.value t.value hs.value ht.value) (compared_in o.strict s.index t.index hs.index ht.index)

  result_in : (o : Order) (s t : EntryTerms) → EntryIn s → EntryIn t → IsOver atoms (order_result o s t)
  result_in o s t hs ht =
      either_in o.back (compared o.strict s.index t.index) (compared o.strict s.value t.value) (compared_in o.strict s.index t.index hs.index ht.index) (compared_in o.strict s.value t.value hs.value ht.value)

  ordered_in : (o : Order) (s t : EntryTerms) → EntryIn s → EntryIn t → AllOver atoms (ok s ++ ok t ++ order_premise o s t ∷ []) × AllOver atoms (order_result o s t ∷ [])
  ordered_in o s t hs ht = (
    All-append (IsOver atoms) (ok s ++ ok t) (order_premise o s t ∷ []) (All-append (IsOver atoms) (ok s) (ok t) (ok_in s hs) (ok_in t ht)) (one (order_premise o s t) (premise_in o s t hs ht)),
    one (order_result o s t) (result_in o s t hs ht),
  )

  bound_cases : (x : Atom-F Atom Term) (plus : ℤ) → IsTrue (is_bound (record { atom = roll-Atom x; plus = plus })) → Contains atoms (roll-Atom x)
  bound_cases Atom-F.Zero plus h = subst (Contains atoms) (sym rolls-Zero) closed.zero
  bound_cases Atom-F.N plus h = subst (Contains atoms) (sym rolls-N) closed.n
  bound_cases Atom-F.Nnz plus h = subst (Contains atoms) (sym rolls-Nnz) closed.nnz
  bound_cases (Atom-F.Var v) plus h =
      let no : is_bound (record { atom = roll-Atom (Atom-F.Var v); plus = plus }) ≡ false = search (rules, ATOM.TheFolds.the_lemmas) in
      absurd (search (rules, h, no))
  bound_cases (Atom-F.At f t) plus h =
      let no : is_bound (record { atom = roll-Atom (Atom-F.At f t); plus = plus }) ≡ false = search (rules, ATOM.TheFolds.the_lemmas) in
      absurd (search (rules, h, no))

  bound_in : (t : Term) → IsTrue (is_bound t) → In t
  bound_in t h =
      let same : roll-Atom (out-Atom t.atom) ≡ t.atom = roll-out-Atom t.atom in
      let there : IsTrue (is_bound (record { atom = roll-Atom (out-Atom t.atom); plus = t.plus })) = subst (λ x. IsTrue (is_bound (record { atom = x; plus = t.plus }))) (sym same) h in
      subst (Contains atoms) same (bound_cases (out-Atom t.atom) t.plus there)

  seg_of : (p : ArrayId) (u : Term) (e : EntryTerms) → Contains atoms (At p u) → Contains atoms (At p (next u)) → EntryIn e → AllOver atoms (seg (segment_of decls p u) e)
  seg_of p u e start stop h = seg_in (segment_of decls p u) e (entry_in p u start) (entry_in p (next u) stop) h

  pair_in : (o : Order) (f : ArrayId) (s t : Term) → Contains atoms (At f s) → Contains atoms (At f t) → IsRuleOver atoms (pair_instance (OrderedLine o) (entry_of decls f s) (entry_of decls f t))
  pair_in o f s t hs ht = ordered_in o (entry_of decls f s) (entry_of decls f t) (entry_in f s hs) (entry_in f t ht)

  sorted_in : (o : Order) (f p : ArrayId) (s t u : Term) → Contains atoms (At f s) → Contains atoms (At f t) → Contains atoms (At p u) → Contains atoms (At p (next u)) → IsRuleOver atoms (sorted_instance o (entry_of decls f s) (entry_of decls f t) (segment_of decls p u))
  sorted_in o f p s t u hs ht start stop =
      let P : Diff → Type 0 = IsOver atoms in
      let x = entry_of decls f s in
      let y = entry_of decls f t in
      let g = segment_of decls p u in
      let hx = entry_in f s hs in
      let hy = entry_in f t ht in (
        All-append P (seg g x ++ seg g y) (order_premise o x y ∷ [])
            (All-append P (seg g x) (seg g y) (seg_of p u x start stop hx) (seg_of p u y start stop hy))
            (one (order_premise o x y) (premise_in o x y hx hy)),
        one (order_result o x y) (result_in o x y hx hy),
      )

  limit_in : (b : Bool) (f p : ArrayId) (s u : Term) → Contains atoms (At f s) → Contains atoms (At p u) → Contains atoms (At p (next u)) → IsRuleOver atoms (limit_instance b (entry_of decls f s) (segment_of decls p u))
  limit_in b f p s u hs start stop =
      let x = entry_of decls f s in (
        seg_of p u x start stop (entry_in f s hs),
        one (compared b x.value u) (compared_in b x.value u hs (closed.inner p u start)),
      )

  line_over : (kind : PropKind) (r : RuleInst) → IsLine decls atoms kind r → NamesIndexes decls kind → IsRuleOver atoms r
  line_over kind r (range f lo hi t h) n =
      let x = entry_of decls f t in (
        ok_in x (entry_in f t h),
        two (at_most lo x.value) (less x.value hi) (bound_in lo n.1, h) (h, bound_in hi n.2),
      )
  line_over kind r (rising_forth p s t hs ht) n = pair_in (order false false) p s t hs ht
  line_over kind r (rising_back p s t hs ht) n = pair_in (order true true) p s t hs ht
  line_over kind r (strict b c p s t hs ht) n = pair_in (order b c) p s t hs ht
  line_over kind r (injective f s t hs ht) n =
      let P : Diff → Type 0 = IsOver atoms in
      let x = entry_of decls f s in
      let y = entry_of decls f t in
      let hx = entry_in f s hs in
      let hy = entry_in f t ht in (
        All-append P (ok x ++ ok y) (both_ways x.value y.value) (All-append P (ok x) (ok y) (ok_in x hx) (ok_in y hy)) (equal_in x.value y.value hs ht),
        equal_in s t hx.index hy.index,
      )
  line_over kind r (sorted b c f p s t u hs ht start stop) n = sorted_in (order b c) f p s t u hs ht start stop
  line_over kind r (below f p s u hs start stop) n = limit_in true f p s u hs start stop
  line_over kind r (upto f p s u hs start stop) n = limit_in false f p s u hs start stop
  line_over kind r (diagonal d f p t hd back start stop) n =
      let P : Diff → Type 0 = IsOver atoms in
      let e = entry_of decls d t in
      let x = entry_of decls p t in
      let y = entry_of decls p (next t) in
      let z = entry_of decls f e.value in
      let he = entry_in d t hd in (
        All-append P (ok e ++ ok x) (ok y) (All-append P (ok e) (ok x) (ok_in e he) (ok_in x (entry_in p t start))) (ok_in y (entry_in p (next t) stop)),
        All-cons P (at_most x.value e.value) (less e.value y.value ∷ both_ways z.value t) (start, hd)
            (All-cons P (less e.value y.value) (both_ways z.value t) (hd, stop) (equal_in z.value t back he.index)),
      )
  line_over kind r (before f g t hf hg) n =
      let x = entry_of decls f t in
      let y = entry_of decls g t in (
        ok_in x (entry_in f t hf),
        one (at_most x.value y.value) (hf, hg),
      )

  module _ (props : List PropDecl) (names : AllNameIndexes decls props) where
    instance_over : (r : RuleInst) → IsInstance decls props atoms r → IsRuleOver atoms r
    instance_over r (equal f s t hs ht) = (
      equal_in s t (closed.inner f s hs) (closed.inner f t ht),
      equal_in (plain (At f s)) (plain (At f t)) hs ht,
    )
    instance_over r (declared p r2 here line) =
        line_over p.kind r2 line (All-contains (λ q. NamesIndexes decls q.kind) props p names here)

    pub all_over : All (IsRuleOver atoms) (instances_of decls props atoms)
    all_over = All-weaker (IsInstance decls props atoms) (IsRuleOver atoms) instance_over (instances_of decls props atoms) (instances_are decls atoms props)
