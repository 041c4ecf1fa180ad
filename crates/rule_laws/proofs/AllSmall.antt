-- The right sides of all instances are small.
use Rattle.std.proofs.Common.{ℤ, pos, ◌≤◌, ◌+◌, ◌^◌, ◌≡◌, Bool, true, false, List, [], ◌∷◌, ◌++◌, subst, arith, unsigned_abs}
use Rattle.std.specs.Prelude.{◌+ℤ◌, ◌-ℤ◌, Option, Some, None, slice_get, if◌then◌else◌}
use Rattle.std.specs.List.{All, Contains}
use Rattle.std.proofs.lemmas.Int.{ints}
use Rattle.std.proofs.lemmas.List.Elements.{All-nil, All-cons, All-append, All-weaker, All-contains}
use Rattle.wave_base.specs.declared.types.ArrayId.{ArrayId}
use Rattle.loop_core.specs.declared.decl.Decl.{Decl}
use Rattle.loop_core.specs.declared.decl.Size.{Size}
use Rattle.loop_core.specs.declared.decl.Size.TheVariants.{N as of_n, NPlusOne, Nnz as of_nnz}
use Rattle.loop_core.specs.declared.decl.PropDecl.{PropDecl}
use Rattle.loop_core.specs.declared.decl.PropKind.{PropKind}
use Rattle.loop_core.specs.declared.nest.Term.{Term}
use Rattle.loop_core.specs.declared.nest.Atom.{Atom, out-Atom}
use Rattle.loop_core.specs.declared.nest.Atom.TheVariants.{At, Zero, outs-At}
use Rattle.loop_core.specs.Sizes.{sizes}
use Rattle.uf_constraints.specs.declared.system.Diff.{Diff}
use Rattle.uf_constraints.specs.Constants.{IndexWithin, IndexesWithin}
use Rattle.uf_constraints.specs.Universe.{plain, next}
use Rattle.index_props.specs.declared.rule.RuleInst.{RuleInst}
use Rattle.index_props.specs.declared.rule.Order.{Order}
use Rattle.index_props.specs.Entries.{EntryTerms, SegmentTerms, size_term, entry_of}
use Rattle.index_props.specs.declared.rule.PairLine.TheVariants.{Ordered as OrderedLine}
use Rattle.index_props.specs.Rules.{at_most, less, equal as both_ways, compared, ok, seg, order, order_premise, order_result, pair_instance, sorted_instance, limit_instance, instances_of}
use Rattle.index_props.specs.Sound.{segment_of}
use Rattle.index_props.specs.Table.{IsLine, IsInstance}
use Rattle.index_props.specs.Table.IsLine.{range, rising_forth, rising_back, strict, injective, sorted, below, upto, diagonal, before}
use Rattle.index_props.specs.Table.IsInstance.{equal, declared}
use Rattle.index_props.specs.Within.{BoundsWithin, AllBoundsWithin}
use Rattle.rule_laws.specs.Small.{IsSmall, IsSmallRule}
use Rattle.rule_laws.proofs.Every.{instances_are}

-- a constant of a term that is at most 2^21 + 1, either way
abbrev Near : Term → Type 0
Near t = unsigned_abs t.plus ≤ 2 ^ 21 + 1

at_most_small : (s t : Term) → Near s → Near t → IsSmall (at_most s t)
at_most_small s t hs ht = omega (arith, ints)

less_small : (s t : Term) → Near s → Near t → IsSmall (less s t)
less_small s t hs ht = omega (arith, ints)

one : (d : Diff) → IsSmall d → All IsSmall (d ∷ [])
one d h = All-cons IsSmall d [] h (All-nil IsSmall)

two : (d e : Diff) → IsSmall d → IsSmall e → All IsSmall (d ∷ e ∷ [])
two d e h g = All-cons IsSmall d (e ∷ []) h (one e g)

equal_small : (s t : Term) → Near s → Near t → All IsSmall (both_ways s t)
equal_small s t hs ht = two (at_most s t) (at_most t s) (at_most_small s t hs ht) (at_most_small t s ht hs)

compared_small : (b : Bool) (s t : Term) → Near s → Near t → IsSmall (compared b s t)
compared_small true s t hs ht = less_small s t hs ht
compared_small false s t hs ht = at_most_small s t hs ht

zero_near : (a : Atom) → Near (plain a)
zero_near a = omega (arith, ints)

size_near : (size : Option Size) → Near (size_term size)
size_near None = omega (arith, ints)
size_near (Some of_n) = omega (arith, ints)
size_near (Some NPlusOne) = omega (arith, ints)
size_near (Some of_nnz) = omega (arith, ints)

-- the argument, the length and the entry itself
record IsNear (e : EntryTerms) : Type 0 where
  pub index : Near e.index
  pub extent : Near e.extent
  pub value : Near e.value

ok_small : (e : EntryTerms) → IsNear e → All IsSmall (ok e)
ok_small e h = two (at_most (plain Zero) e.index) (less e.index e.extent) (at_most_small (plain Zero) e.index (zero_near Zero) h.index) (less_small e.index e.extent h.index h.extent)

seg_small : (g : SegmentTerms) (e : EntryTerms) → IsNear g.start → IsNear g.stop → IsNear e → All IsSmall (seg g e)
seg_small g e start stop h =
    let first = at_most g.start.value e.index in
    let second = less e.index g.stop.value in
    All-append IsSmall (first ∷ second ∷ ok e ++ ok g.start) (ok g.stop)
    (All-append IsSmall (first ∷ second ∷ ok e) (ok g.start)
    (All-cons IsSmall first (second ∷ ok e) (at_most_small g.start.value e.index start.value h.index) (All-cons IsSmall second (ok e) (less_small e.index g.stop.value h.index stop.value) (ok_small e h)))
    (ok_small g.start start))
    (ok_small g.stop stop)

either_small : (b : Bool) (d e : Diff) → IsSmall d → IsSmall e → IsSmall (if b then d else e)
either_small true d e hd he = hd
either_small false d e hd he = he

premise_small : (o : Order) (s t : EntryTerms) → IsNear s → IsNear t → IsSmall (order_premise o s t)
premise_small o s t hs ht =
    either_small o.back (compared o.strict s.value t.value) (compared o.strict s.index t.index) (compared_small o.strict s.value t.value hs.value ht.value) (compared_small o.strict s.index t.index hs.index ht.index)

result_small : (o : Order) (s t : EntryTerms) → IsNear s → IsNear t → IsSmall (order_result o s t)
result_small o s t hs ht =
    either_small o.back (compared o.strict s.index t.index) (compared o.strict s.value t.value) (compared_small o.strict s.index t.index hs.index ht.index) (compared_small o.strict s.value t.value hs.value ht.value)

module _ (decls : List Decl) (atoms : List Atom) (within : IndexesWithin (2 ^ 21 + 1) atoms) where
  near : (f : ArrayId) (t : Term) → Contains atoms (At f t) → Near t
  near f t h = subst (IndexWithin (2 ^ 21 + 1)) (outs-At f t) (All-contains (λ a. IndexWithin (2 ^ 21 + 1) (out-Atom a)) atoms (At f t) within h)

  entry_near : (f : ArrayId) (t : Term) → Contains atoms (At f t) → IsNear (entry_of decls f t)
  entry_near f t h = record { index = near f t h; extent = size_near (slice_get (sizes decls) f.0); value = zero_near (At f t) }

  seg_of : (p : ArrayId) (u : Term) (e : EntryTerms) → Contains atoms (At p u) → Contains atoms (At p (next u)) → IsNear e → All IsSmall (seg (segment_of decls p u) e)
  seg_of p u e start stop h = seg_small (segment_of decls p u) e (entry_near p u start) (entry_near p (next u) stop) h

  pair_small : (o : Order) (f : ArrayId) (s t : Term) → Contains atoms (At f s) → Contains atoms (At f t) → IsSmallRule (pair_instance (OrderedLine o) (entry_of decls f s) (entry_of decls f t))
  pair_small o f s t hs ht =
      let x = entry_of decls f s in
      let y = entry_of decls f t in
      let hx = entry_near f s hs in
      let hy = entry_near f t ht in (
        All-append IsSmall (ok x ++ ok y) (order_premise o x y ∷ []) (All-append IsSmall (ok x) (ok y) (ok_small x hx) (ok_small y hy)) (one (order_premise o x y) (premise_small o x y hx hy)),
        one (order_result o x y) (result_small o x y hx hy),
      )

  sorted_small : (o : Order) (f p : ArrayId) (s t u : Term) → Contains atoms (At f s) → Contains atoms (At f t) → Contains atoms (At p u) → Contains atoms (At p (next u)) → IsSmallRule (sorted_instance o (entry_of decls f s) (entry_of decls f t) (segment_of decls p u))
  sorted_small o f p s t u hs ht start stop =
      let x = entry_of decls f s in
      let y = entry_of decls f t in
      let g = segment_of decls p u in
      let hx = entry_near f s hs in
      let hy = entry_near f t ht in (
        All-append IsSmall (seg g x ++ seg g y) (order_premise o x y ∷ [])
            (All-append IsSmall (seg g x) (seg g y) (seg_of p u x start stop hx) (seg_of p u y start stop hy))
            (one (order_premise o x y) (premise_small o x y hx hy)),
        one (order_result o x y) (result_small o x y hx hy),
      )

  limit_small : (b : Bool) (f p : ArrayId) (s u : Term) → Contains atoms (At f s) → Contains atoms (At p u) → Contains atoms (At p (next u)) → IsSmallRule (limit_instance b (entry_of decls f s) (segment_of decls p u))
  limit_small b f p s u hs start stop =
      let x = entry_of decls f s in (
        seg_of p u x start stop (entry_near f s hs),
        one (compared b x.value u) (compared_small b x.value u (zero_near (At f s)) (near p u start)),
      )

  line_small : (kind : PropKind) (r : RuleInst) → IsLine decls atoms kind r → BoundsWithin kind → IsSmallRule r
  line_small kind r (range f lo hi t h) n =
      let x = entry_of decls f t in
      let lows : Near lo = (let l = n.0 in omega arith) in
      let highs : Near hi = (let l = n.1 in omega arith) in (
        ok_small x (entry_near f t h),
        two (at_most lo x.value) (less x.value hi) (at_most_small lo x.value lows (zero_near (At f t))) (less_small x.value hi (zero_near (At f t)) highs),
      )
  line_small kind r (rising_forth p s t hs ht) n = pair_small (order false false) p s t hs ht
  line_small kind r (rising_back p s t hs ht) n = pair_small (order true true) p s t hs ht
  line_small kind r (strict st back p s t hs ht) n = pair_small (order st back) p s t hs ht
  line_small kind r (injective f s t hs ht) n =
      let x = entry_of decls f s in
      let y = entry_of decls f t in (
        All-append IsSmall (ok x ++ ok y) (both_ways x.value y.value) (All-append IsSmall (ok x) (ok y) (ok_small x (entry_near f s hs)) (ok_small y (entry_near f t ht))) (equal_small x.value y.value (zero_near (At f s)) (zero_near (At f t))),
        equal_small s t (near f s hs) (near f t ht),
      )
  line_small kind r (sorted st back f p s t u hs ht start stop) n = sorted_small (order st back) f p s t u hs ht start stop
  line_small kind r (below f p s u hs start stop) n = limit_small true f p s u hs start stop
  line_small kind r (upto f p s u hs start stop) n = limit_small false f p s u hs start stop
  line_small kind r (diagonal d f p t hd back start stop) n =
      let e = entry_of decls d t in
      let x = entry_of decls p t in
      let y = entry_of decls p (next t) in
      let z = entry_of decls f e.value in
      let he = entry_near d t hd in (
        All-append IsSmall (ok e ++ ok x) (ok y) (All-append IsSmall (ok e) (ok x) (ok_small e he) (ok_small x (entry_near p t start))) (ok_small y (entry_near p (next t) stop)),
        All-cons IsSmall (at_most x.value e.value) (less e.value y.value ∷ both_ways z.value t) (at_most_small x.value e.value (zero_near (At p t)) he.value)
            (All-cons IsSmall (less e.value y.value) (both_ways z.value t) (less_small e.value y.value he.value (zero_near (At p (next t)))) (equal_small z.value t (zero_near (At f e.value)) he.index)),
      )
  line_small kind r (before f g t hf hg) n =
      let x = entry_of decls f t in
      let y = entry_of decls g t in (
        ok_small x (entry_near f t hf),
        one (at_most x.value y.value) (at_most_small x.value y.value (zero_near (At f t)) (zero_near (At g t))),
      )

  module _ (props : List PropDecl) (bounds : AllBoundsWithin props) where
    instance_small : (r : RuleInst) → IsInstance decls props atoms r → IsSmallRule r
    instance_small r (equal f s t hs ht) = (
      equal_small s t (near f s hs) (near f t ht),
      equal_small (plain (At f s)) (plain (At f t)) (zero_near (At f s)) (zero_near (At f t)),
    )
    instance_small r (declared p r2 here line) =
        line_small p.kind r2 line (All-contains (λ q. BoundsWithin q.kind) props p bounds here)

    pub all_small : All IsSmallRule (instances_of decls props atoms)
    all_small = All-weaker (IsInstance decls props atoms) IsSmallRule instance_small (instances_of decls props atoms) (instances_are decls atoms props)
