-- Each line of the table at array entries of the universe is an instance.
use Rattle.std.proofs.Common.{ℕ, zero, suc, ◌<◌, ◌≡◌, ◌==◌, ◌&&◌, Bool, true, false, cond, List, [], ◌∷◌, ◌++◌, length, slice_index_or, map, refl, sym, ap, ◌∙◌, subst, arith}
use Rattle.std.specs.Prelude.{◌||◌}
use Rattle.std.specs.List.{Contains, flat_map}
use Rattle.std.proofs.lemmas.List.Elements.{Contains-append_left, Contains-append_right}
use Rattle.wave_base.specs.declared.types.ArrayId.{ArrayId}
use Rattle.loop_core.specs.declared.decl.Decl.{Decl}
use Rattle.loop_core.specs.declared.decl.PropDecl.{PropDecl}
use Rattle.loop_core.specs.declared.decl.PropKind.{PropKind}
use Rattle.loop_core.specs.declared.decl.PropKind.TheVariants.{Range, Rising, Strict, Injective, Sorted, Below, Upto, Diagonal, Before}
use Rattle.loop_core.specs.declared.nest.Term.{Term}
use Rattle.loop_core.specs.declared.nest.Atom.{Atom, out-Atom}
use Rattle.loop_core.specs.declared.nest.Atom.TheVariants.{At, outs-At}
use Rattle.uf_constraints.specs.Same.{same_term}
use Rattle.uf_constraints.specs.Universe.{plain, next}
use Rattle.uf_constraints.proofs.Equal.{same_term_itself}
use Rattle.index_props.specs.declared.rule.RuleInst.{RuleInst}
use Rattle.index_props.specs.declared.rule.PairLine.{PairLine}
use Rattle.index_props.specs.declared.rule.PairLine.TheVariants.{Equal as EqualLine, Injective as InjectiveLine, Ordered as OrderedLine}
use Rattle.index_props.specs.Entries.{EntryTerms, SegmentTerms, entry_of, entry_in, entry_at, entries, if_of, of_array, has_entry}
use Rattle.index_props.specs.Rules.{pair_instance, range_instance, sorted_instance, limit_instance, diagonal_instance, before_instance, order, pair_instances, equal_instances, segment_from, segments, sorted_from, sorted_instances, limit_instances, diagonal_at, before_at, ordered_instances, property_instances, instances_of}
use Rattle.index_props.specs.Sound.{segment_of}
use Rattle.index_props.specs.Table.{IsLine, IsInstance}
use Rattle.index_props.specs.Table.IsLine.{range, rising_forth, rising_back, strict, injective, sorted, below, upto, diagonal, before}
use Rattle.index_props.specs.Table.IsInstance.{equal, declared}

-- Lists.

flat_at : {X Y : Type 0} (f : Y → List X) (ys : List Y) (k : ℕ) (y : Y) (x : X) → k < length ys → slice_index_or ys k y ≡ y → Contains (f y) x → Contains (flat_map f ys) x
flat_at f [] k y x l e c = absurd (omega arith)
flat_at f (z ∷ ys) zero y x l e c = Contains-append_left (f z) (flat_map f ys) x (subst (λ y. Contains (f y) x) (sym e) c)
flat_at f (z ∷ ys) (suc k) y x l e c = Contains-append_right (f z) (flat_map f ys) x (flat_at f ys k y x (omega arith) e c)

in_flat : {X Y : Type 0} (f : Y → List X) (ys : List Y) (y : Y) (x : X) → Contains ys y → Contains (f y) x → Contains (flat_map f ys) x
in_flat f ys y x h c = flat_at f ys h.0 y x h.1 h.2 c

map_at : {X Y : Type 0} (f : Y → X) (ys : List Y) (k : ℕ) (y : Y) → k < length ys → slice_index_or ys k y ≡ y → Contains (map f ys) (f y)
map_at f [] k y l e = absurd (omega arith)
map_at f (z ∷ ys) zero y l e = (0, omega arith, ap f e)
map_at f (z ∷ ys) (suc k) y l e = Contains-append_right (f z ∷ []) (map f ys) (f y) (map_at f ys k y (omega arith) e)

in_map : {X Y : Type 0} (f : Y → X) (ys : List Y) (y : Y) → Contains ys y → Contains (map f ys) (f y)
in_map f ys y h = map_at f ys h.0 y h.1 h.2

alone : {X : Type 0} (x : X) (b : Bool) → b ≡ true → Contains (cond b (x ∷ []) []) x
alone x true h = (0, omega arith, refl)
alone x false h = absurd (cc)

same_number : (k : ℕ) → (k == k) ≡ true
same_number k = search arith

all_three : (a b c : Bool) → a ≡ true → b ≡ true → c ≡ true → (a && (b && c)) ≡ true
all_three true true true h i j = refl
all_three true true false h i j = absurd (cc)
all_three true false c h i j = absurd (cc)
all_three false b c h i j = absurd (cc)

or_first : (a b : Bool) → a ≡ true → (a || b) ≡ true
or_first true b h = refl
or_first false b h = absurd (cc)

or_second : (a b : Bool) → b ≡ true → (a || b) ≡ true
or_second true b h = refl
or_second false b h = h

has_at : (es : List EntryTerms) (k : ℕ) (e : EntryTerms) → k < length es → slice_index_or es k e ≡ e → has_entry es e.array e.index ≡ true
has_at [] k e l h = absurd (omega arith)
has_at (x ∷ es) zero e l h =
    let first : ((x.array.0 == e.array.0) && same_term e.index x.index) ≡ true = rw (h, same_number e.array.0) (same_term_itself e.index) in
    or_first ((x.array.0 == e.array.0) && same_term e.index x.index) (has_entry es e.array e.index) first
has_at (x ∷ es) (suc k) e l h = or_second ((x.array.0 == e.array.0) && same_term e.index x.index) (has_entry es e.array e.index) (has_at es k e (omega arith) h)

module _ (decls : List Decl) (atoms : List Atom) where
  there : (f : ArrayId) (t : Term) → Contains atoms (At f t) → Contains (entries decls atoms) (entry_of decls f t)
  there f t h = in_flat (entry_at decls) atoms (At f t) (entry_of decls f t) h (subst (λ x. Contains (entry_in decls x) (entry_of decls f t)) (sym (outs-At f t)) (0, omega arith, refl))

  of_there : (f : ArrayId) (t : Term) → Contains atoms (At f t) → Contains (of_array f (entries decls atoms)) (entry_of decls f t)
  of_there f t h = in_flat (if_of f) (entries decls atoms) (entry_of decls f t) (entry_of decls f t) (there f t h) (alone (entry_of decls f t) (f.0 == f.0) (same_number f.0))

  has : (f : ArrayId) (t : Term) → Contains atoms (At f t) → has_entry (entries decls atoms) f t ≡ true
  has f t h = let c = there f t h in has_at (entries decls atoms) c.0 (entry_of decls f t) c.1 c.2

  segment_there : (p : ArrayId) (u : Term) → Contains atoms (At p u) → Contains atoms (At p (next u)) → Contains (segments decls p (entries decls atoms)) (segment_of decls p u)
  segment_there p u start stop =
      in_flat (segment_from decls p (entries decls atoms)) (of_array p (entries decls atoms)) (entry_of decls p u) (segment_of decls p u) (of_there p u start)
      (alone (segment_of decls p u) (has_entry (entries decls atoms) p (next u)) (has p (next u) stop))

  pair_there : (line : PairLine) (f : ArrayId) (s t : Term) → Contains atoms (At f s) → Contains atoms (At f t) → Contains (pair_instances line (of_array f (entries decls atoms))) (pair_instance line (entry_of decls f s) (entry_of decls f t))
  pair_there line f s t hs ht =
      let fs = of_array f (entries decls atoms) in
      in_flat (λ x. map (pair_instance line x) fs) fs (entry_of decls f s) (pair_instance line (entry_of decls f s) (entry_of decls f t)) (of_there f s hs)
      (in_map (pair_instance line (entry_of decls f s)) fs (entry_of decls f t) (of_there f t ht))

  sorted_there : (tight back : Bool) (f p : ArrayId) (s t u : Term) → Contains atoms (At f s) → Contains atoms (At f t) → Contains atoms (At p u) → Contains atoms (At p (next u)) → Contains (sorted_instances (order tight back) (segments decls p (entries decls atoms)) (of_array f (entries decls atoms))) (sorted_instance (order tight back) (entry_of decls f s) (entry_of decls f t) (segment_of decls p u))
  sorted_there tight back f p s t u hs ht start stop =
      let fs = of_array f (entries decls atoms) in
      let gs = segments decls p (entries decls atoms) in
      let o = order tight back in
      let x = entry_of decls f s in
      let y = entry_of decls f t in
      in_flat (sorted_from o gs fs) fs x (sorted_instance o x y (segment_of decls p u)) (of_there f s hs)
      (in_flat (λ t. map (sorted_instance o x t) gs) fs y (sorted_instance o x y (segment_of decls p u)) (of_there f t ht)
      (in_map (sorted_instance o x y) gs (segment_of decls p u) (segment_there p u start stop)))

  limit_there : (tight : Bool) (f p : ArrayId) (s u : Term) → Contains atoms (At f s) → Contains atoms (At p u) → Contains atoms (At p (next u)) → Contains (limit_instances tight (segments decls p (entries decls atoms)) (of_array f (entries decls atoms))) (limit_instance tight (entry_of decls f s) (segment_of decls p u))
  limit_there tight f p s u hs start stop =
      let fs = of_array f (entries decls atoms) in
      let gs = segments decls p (entries decls atoms) in
      let x = entry_of decls f s in
      in_flat (λ s. map (limit_instance tight s) gs) fs x (limit_instance tight x (segment_of decls p u)) (of_there f s hs)
      (in_map (limit_instance tight x) gs (segment_of decls p u) (segment_there p u start stop))

  -- one of four lists that follow one another
  first_of : (a b c d : List RuleInst) (r : RuleInst) → Contains a r → Contains (a ++ b ++ c ++ d) r
  first_of a b c d r h = Contains-append_left (a ++ b ++ c) d r (Contains-append_left (a ++ b) c r (Contains-append_left a b r h))

  second_of : (a b c d : List RuleInst) (r : RuleInst) → Contains b r → Contains (a ++ b ++ c ++ d) r
  second_of a b c d r h = Contains-append_left (a ++ b ++ c) d r (Contains-append_left (a ++ b) c r (Contains-append_right a b r h))

  third_of : (a b c d : List RuleInst) (r : RuleInst) → Contains c r → Contains (a ++ b ++ c ++ d) r
  third_of a b c d r h = Contains-append_left (a ++ b ++ c) d r (Contains-append_right (a ++ b) c r h)

  fourth_of : (a b c d : List RuleInst) (r : RuleInst) → Contains d r → Contains (a ++ b ++ c ++ d) r
  fourth_of a b c d r h = Contains-append_right (a ++ b ++ c) d r h

  strict_there : (tight back : Bool) (p : ArrayId) (s t : Term) → Contains atoms (At p s) → Contains atoms (At p t) → Contains (property_instances decls (entries decls atoms) (Strict p)) (pair_instance (OrderedLine (order tight back)) (entry_of decls p s) (entry_of decls p t))
  strict_there tight back p s t hs ht = one_of tight back (pair_there (OrderedLine (order tight back)) p s t hs ht)
    where
      L : Bool → Bool → List RuleInst
      L tight back = ordered_instances tight back (of_array p (entries decls atoms))

      one_of : (x y : Bool) → Contains (L x y) (pair_instance (OrderedLine (order x y)) (entry_of decls p s) (entry_of decls p t)) → Contains (property_instances decls (entries decls atoms) (Strict p)) (pair_instance (OrderedLine (order x y)) (entry_of decls p s) (entry_of decls p t))
      one_of false false h = first_of (L false false) (L true true) (L true false) (L false true) (pair_instance (OrderedLine (order false false)) (entry_of decls p s) (entry_of decls p t)) h
      one_of true true h = second_of (L false false) (L true true) (L true false) (L false true) (pair_instance (OrderedLine (order true true)) (entry_of decls p s) (entry_of decls p t)) h
      one_of true false h = third_of (L false false) (L true true) (L true false) (L false true) (pair_instance (OrderedLine (order true false)) (entry_of decls p s) (entry_of decls p t)) h
      one_of false true h = fourth_of (L false false) (L true true) (L true false) (L false true) (pair_instance (OrderedLine (order false true)) (entry_of decls p s) (entry_of decls p t)) h

  sorted_all : (tight back : Bool) (f p : ArrayId) (s t u : Term) → Contains atoms (At f s) → Contains atoms (At f t) → Contains atoms (At p u) → Contains atoms (At p (next u)) → Contains (property_instances decls (entries decls atoms) (Sorted f p)) (sorted_instance (order tight back) (entry_of decls f s) (entry_of decls f t) (segment_of decls p u))
  sorted_all tight back f p s t u hs ht start stop = one_of tight back (sorted_there tight back f p s t u hs ht start stop)
    where
      L : Bool → Bool → List RuleInst
      L tight back = sorted_instances (order tight back) (segments decls p (entries decls atoms)) (of_array f (entries decls atoms))

      R : Bool → Bool → RuleInst
      R x y = sorted_instance (order x y) (entry_of decls f s) (entry_of decls f t) (segment_of decls p u)

      one_of : (x y : Bool) → Contains (L x y) (R x y) → Contains (property_instances decls (entries decls atoms) (Sorted f p)) (R x y)
      one_of true false h = first_of (L true false) (L false false) (L false true) (L true true) (R true false) h
      one_of false false h = second_of (L true false) (L false false) (L false true) (L true true) (R false false) h
      one_of false true h = third_of (L true false) (L false false) (L false true) (L true true) (R false true) h
      one_of true true h = fourth_of (L true false) (L false false) (L false true) (L true true) (R true true) h

  line_there : (kind : PropKind) (r : RuleInst) → IsLine decls atoms kind r → Contains (property_instances decls (entries decls atoms) kind) r
  line_there kind r (range f lo hi t h) = in_map (range_instance lo hi) (of_array f (entries decls atoms)) (entry_of decls f t) (of_there f t h)
  line_there kind r (rising_forth p s t hs ht) =
      Contains-append_left (ordered_instances false false (of_array p (entries decls atoms))) (ordered_instances true true (of_array p (entries decls atoms))) r (pair_there (OrderedLine (order false false)) p s t hs ht)
  line_there kind r (rising_back p s t hs ht) =
      Contains-append_right (ordered_instances false false (of_array p (entries decls atoms))) (ordered_instances true true (of_array p (entries decls atoms))) r (pair_there (OrderedLine (order true true)) p s t hs ht)
  line_there kind r (strict st back p s t hs ht) = strict_there st back p s t hs ht
  line_there kind r (injective f s t hs ht) = pair_there InjectiveLine f s t hs ht
  line_there kind r (sorted st back f p s t u hs ht start stop) = sorted_all st back f p s t u hs ht start stop
  line_there kind r (below f p s u hs start stop) = limit_there true f p s u hs start stop
  line_there kind r (upto f p s u hs start stop) = limit_there false f p s u hs start stop
  line_there kind r (diagonal d f p t hd back start stop) =
      let e = entry_of decls d t in
      in_flat (diagonal_at decls f p (entries decls atoms)) (of_array d (entries decls atoms)) e r (of_there d t hd)
      (alone r (has_entry (entries decls atoms) f e.value && (has_entry (entries decls atoms) p t && has_entry (entries decls atoms) p (next t)))
      (all_three (has_entry (entries decls atoms) f e.value) (has_entry (entries decls atoms) p t) (has_entry (entries decls atoms) p (next t)) (has f e.value back) (has p t start) (has p (next t) stop)))
  line_there kind r (before f g t hf hg) =
      in_flat (before_at decls g (entries decls atoms)) (of_array f (entries decls atoms)) (entry_of decls f t) r (of_there f t hf)
      (alone r (has_entry (entries decls atoms) g t) (has g t hg))

  pub instance-there : (props : List PropDecl) (r : RuleInst) → IsInstance decls props atoms r → Contains (instances_of decls props atoms) r
  instance-there props r (equal f s t hs ht) =
      let es = entries decls atoms in
      Contains-append_left (equal_instances es) (flat_map (λ p. property_instances decls es p.kind) props) r
      (in_flat (λ s. map (pair_instance EqualLine s) (of_array s.array es)) es (entry_of decls f s) r (there f s hs)
      (in_map (pair_instance EqualLine (entry_of decls f s)) (of_array f es) (entry_of decls f t) (of_there f t ht)))
  instance-there props r (declared p r2 here line) =
      let es = entries decls atoms in
      Contains-append_right (equal_instances es) (flat_map (λ p. property_instances decls es p.kind) props) r2
      (in_flat (λ p. property_instances decls es p.kind) props p r2 here (line_there p.kind r2 line))
