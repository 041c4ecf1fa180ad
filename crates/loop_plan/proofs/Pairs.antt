-- The pairs of kept relations, one relation after another.
use Rattle.std.proofs.Common.{ℕ, ◌≡◌, ◌+◌, ◌<◌, ◌⊎◌, ◌≤◌, inl, inr, List, [], ◌++◌, Contains, Some, slice_get, get_or, length, arith, refl, sym, ◌∙◌, ap, subst}
use Rattle.std.specs.List.{All}
use Rattle.std.proofs.lemmas.Bool.{cases_lt}
use Rattle.std.proofs.lemmas.List.Elements.{All-append, All-nil, Contains-append_left, Contains-append_right, Contains-append_cases}
use Rattle.std.proofs.lemmas.Option.{same_Some, slice_get_read, slice_get_within}
use Rattle.wave_base.specs.declared.types.RowId.{RowId}
use Rattle.loop_core.specs.declared.nest.Nest.{Nest}
use Rattle.loop_core.specs.Lists.{Lists}
use Rattle.uf_constraints.specs.declared.system.Relation.{Relation}
use Rattle.uf_constraints.specs.Pairs.{Pairs}
use Rattle.uf_constraints.specs.Relations.{relations}
use Rattle.dep_simplify.specs.declared.verdict.Verdict.{Verdict}
use Rattle.dep_simplify.specs.declared.verdict.Verdict.TheVariants.{Kept}
use Rattle.loop_plan.specs.Kept.{ArePairsOf, IsPairBefore, ArePairsBefore, ArePairsOfKept, IsEarlier, IsOfRows}

abbrev Row2 : Type 0
Row2 = RowId × RowId

none : (p : Row2) → Contains [] p → ⊥
none p h = let lt = h.1 in omega (arith, lt)

pub none_before : (nest : Nest) (vs : List Verdict) (a : Lists) → ArePairsBefore nest vs a 0 []
none_before nest vs a = record {
  same = λ i j. (
    λ h. absurd (none (i, j) h),
    λ b. let lt = b.before in absurd (omega (arith, lt)),
  );
  earlier = All-nil IsEarlier;
  rows = All-nil (IsOfRows a.n);
}

module _ (nest : Nest) (vs : List Verdict) (a : Lists) (at : ℕ) where
  wider : (i j : RowId) → IsPairBefore nest vs a at i j → IsPairBefore nest vs a (at + 1) i j
  wider i j b = record {
    at = b.at;
    before = (let lt = b.before in omega (arith, lt));
    relation = b.relation;
    there = b.there;
    kept = b.kept;
    pair = b.pair;
  }

  -- the relation is before the place, or at it
  narrower : (i j : RowId) → IsPairBefore nest vs a (at + 1) i j → IsPairBefore nest vs a at i j ⊎ ((r : Relation) × (slice_get (relations nest) at ≡ Some r) × (slice_get vs at ≡ Some Kept) × Pairs nest.line r a i.0 j.0)
  narrower i j b = by (cases_lt b.at at)
    where
      by : (b.at < at) ⊎ (at ≤ b.at) → IsPairBefore nest vs a at i j ⊎ ((r : Relation) × (slice_get (relations nest) at ≡ Some r) × (slice_get vs at ≡ Some Kept) × Pairs nest.line r a i.0 j.0)
      by (inl lt) = inl (record { at = b.at; before = lt; relation = b.relation; there = b.there; kept = b.kept; pair = b.pair })
      by (inr ge) =
          let lt = b.before in
          let e : b.at ≡ at = omega (arith, lt, ge) in
          inr (b.relation, subst (λ (n : ℕ). slice_get (relations nest) n ≡ Some b.relation) e b.there, subst (λ (n : ℕ). slice_get vs n ≡ Some Kept) e b.kept, b.pair)

  -- a relation that isn't kept brings none
  pub none_more : (pairs : List Row2) → ((slice_get vs at ≡ Some Kept) → ⊥) → ArePairsBefore nest vs a at pairs → ArePairsBefore nest vs a (at + 1) pairs
  none_more pairs dropped h = record {
    same = λ i j. (
      λ c. wider i j ((h.same i j).0 c),
      λ b. back i j (narrower i j b),
    );
    earlier = h.earlier;
    rows = h.rows;
  }
    where
      back : (i j : RowId) → IsPairBefore nest vs a at i j ⊎ ((r : Relation) × (slice_get (relations nest) at ≡ Some r) × (slice_get vs at ≡ Some Kept) × Pairs nest.line r a i.0 j.0) → Contains pairs (i, j)
      back i j (inl b) = (h.same i j).1 b
      back i j (inr x) = absurd (dropped x.2)

  -- a kept one brings its own
  pub some_more : (r : Relation) (xs ys : List Row2) → slice_get (relations nest) at ≡ Some r → slice_get vs at ≡ Some Kept → ArePairsBefore nest vs a at xs → ArePairsOf nest a r ys → ArePairsBefore nest vs a (at + 1) (xs ++ ys)
  some_more r xs ys there kept h own = record {
    same = λ i j. (
      λ c. to i j (Contains-append_cases xs ys (i, j) c),
      λ b. back i j (narrower i j b),
    );
    earlier = All-append IsEarlier xs ys h.earlier own.earlier;
    rows = All-append (IsOfRows a.n) xs ys h.rows own.rows;
  }
    where
      to : (i j : RowId) → Contains xs (i, j) ⊎ Contains ys (i, j) → IsPairBefore nest vs a (at + 1) i j
      to i j (inl c) = wider i j ((h.same i j).0 c)
      to i j (inr c) = record { at = at; before = omega arith; relation = r; there = there; kept = kept; pair = (own.same i j).0 c }

      back : (i j : RowId) → IsPairBefore nest vs a at i j ⊎ ((q : Relation) × (slice_get (relations nest) at ≡ Some q) × (slice_get vs at ≡ Some Kept) × Pairs nest.line q a i.0 j.0) → Contains (xs ++ ys) (i, j)
      back i j (inl b) = Contains-append_left xs ys (i, j) ((h.same i j).1 b)
      back i j (inr x) =
          let e : x.0 ≡ r = same_Some x.0 r (sym x.1 ∙ there) in
          Contains-append_right xs ys (i, j) ((own.same i j).1 (subst (λ (q : Relation). Pairs nest.line q a i.0 j.0) e x.3))

pub of_all : (nest : Nest) (vs : List Verdict) (a : Lists) (place : ℕ) (pairs : List Row2) → place ≡ length (relations nest) → ArePairsBefore nest vs a place pairs → ArePairsOfKept nest vs a pairs
of_all nest vs a place pairs whole h = record {
  same = λ i j. (
    λ c. let b = (h.same i j).0 c in (b.relation, (b.at, b.there, b.kept), b.pair),
    λ x. (h.same i j).1 (record {
      at = x.1.0;
      before = subst (λ (n : ℕ). x.1.0 < n) (sym whole) (slice_get_within (relations nest) x.1.0 x.0 x.1.1);
      relation = x.0;
      there = x.1.1;
      kept = x.1.2;
      pair = x.2;
    }),
  );
  earlier = h.earlier;
  rows = h.rows;
}

-- the relation at a place, and the verdict on it
pub there_at : (nest : Nest) (rs : List Relation) (at : ℕ) (r : Relation) → rs ≡ relations nest → at < length rs → r ≡ get_or rs at r → slice_get (relations nest) at ≡ Some r
there_at nest rs at r listed lt is = subst (λ (l : List Relation). slice_get l at ≡ Some r) listed (slice_get_read rs (length rs) at r refl lt is)

pub kept_at : (vs : List Verdict) (at : ℕ) (v : Verdict) → at < length vs → v ≡ get_or vs at v → v ≡ Kept → slice_get vs at ≡ Some Kept
kept_at vs at v lt is kept = slice_get_read vs (length vs) at v refl lt is ∙ ap Some kept

pub not_kept_at : (vs : List Verdict) (at : ℕ) (v : Verdict) → at < length vs → v ≡ get_or vs at v → (v ≡ Kept → ⊥) → slice_get vs at ≡ Some Kept → ⊥
not_kept_at vs at v lt is other kept = other (same_Some v Kept (sym (slice_get_read vs (length vs) at v refl lt is) ∙ kept))
