-- A nest has one list of verdicts, certificates aside.
use Rattle.std.proofs.Common.{ℕ, zero, suc, ◌+◌, ◌<◌, ◌≤◌, ◌≡◌, ◌⊎◌, inl, inr, arith, refl, sym, ◌∙◌, subst, ap, List, [], ◌∷◌, length, map, slice_get, Some}
use Rattle.std.proofs.lemmas.Bool.{cases_order, cases_eq}
use Rattle.std.proofs.lemmas.Option.{slice_get_within, same_Some}
use Rattle.loop_core.specs.declared.nest.Nest.{Nest}
use Rattle.uf_constraints.specs.declared.system.Relation.{Relation}
use Rattle.uf_constraints.specs.Relations.{relations}
use Rattle.index_props.specs.Places.{IsLeast}
use Rattle.dep_simplify.specs.declared.verdict.Verdict.{Verdict}
use Rattle.dep_simplify.specs.declared.verdict.Verdict.TheVariants.{Dropped, Covered, Kept}
use Rattle.dep_simplify.specs.Systems.{IsDropped}
use Rattle.dep_simplify.specs.Verdicts.{IsCover, IsVerdict, AreVerdicts, bare}
use Rattle.dep_simplify.proofs.SoFar.{some_at}

kept_only : (v : Verdict) → bare Kept ≡ bare v → v ≡ Kept
kept_only (Dropped cert) h = absurd (cc)
kept_only (Covered number) h = absurd (cc)
kept_only Kept h = refl

-- verdicts that agree before place n
abbrev AgreeBefore : List Verdict → List Verdict → ℕ → Type 0
AgreeBefore vs ws n = (k : ℕ) (v w : Verdict) → k < n → slice_get vs k ≡ Some v → slice_get ws k ≡ Some w → bare v ≡ bare w

least_is : (P Q : ℕ → Type 0) (k j : ℕ) → ((i : ℕ) → P i → Q i) → ((i : ℕ) → Q i → P i) → IsLeast P k → IsLeast Q j → k ≡ j
least_is P Q k j to from a b = elim (cases_order k j) [
  | inl e ↦ e
  | inr o ↦ elim o [
    | inl l ↦ absurd (b.least k l (to k a.holds))
    | inr g ↦ absurd (a.least j g (from j b.holds))
  ]
]

module _ (nest : Nest) (vs ws : List Verdict) (n : ℕ) (r : Relation) (long : n < length vs) (wide : n < length ws) (agree : AgreeBefore vs ws n) where
  cover_to : (k : ℕ) → IsCover nest vs n r k → IsCover nest ws n r k
  cover_to k c =
      let w = some_at ws k (let e = c.earlier in omega arith) in
      let e : w.0 ≡ Kept = kept_only w.0 (agree k Kept w.0 c.earlier c.kept w.1) in
      record { earlier = c.earlier; kept = w.1 ∙ ap Some e; relation = c.relation; there = c.there; covers = c.covers }

  cover_from : (k : ℕ) → IsCover nest ws n r k → IsCover nest vs n r k
  cover_from k c =
      let v = some_at vs k (let e = c.earlier in omega arith) in
      let e : v.0 ≡ Kept = kept_only v.0 (sym (agree k v.0 Kept c.earlier v.1 c.kept)) in
      record { earlier = c.earlier; kept = v.1 ∙ ap Some e; relation = c.relation; there = c.there; covers = c.covers }

  same_here : (v w : Verdict) → IsVerdict nest vs n r v → IsVerdict nest ws n r w → bare v ≡ bare w
  same_here (Dropped c) (Dropped d) g h = refl
  same_here (Dropped c) (Covered m) g h = absurd (h.0 g)
  same_here (Dropped c) Kept g h = absurd (h.0 g)
  same_here (Covered m) (Dropped d) g h = absurd (g.0 h)
  same_here (Covered m) (Covered l) g h =
      ap Covered (g.1.1 ∙ ap (λ (k : ℕ). k + 1) (least_is (IsCover nest vs n r) (IsCover nest ws n r) g.1.0 h.1.0 cover_to cover_from g.1.2 h.1.2) ∙ sym h.1.1)
  same_here (Covered m) Kept g h = absurd (h.1 g.1.0 (cover_to g.1.0 g.1.2.holds))
  same_here Kept (Dropped d) g h = absurd (g.0 h)
  same_here Kept (Covered l) g h = absurd (g.1 h.1.0 (cover_from h.1.0 h.1.2.holds))
  same_here Kept Kept g h = refl

same_lists : (vs ws : List Verdict) → length vs ≡ length ws → ((k : ℕ) (v w : Verdict) → slice_get vs k ≡ Some v → slice_get ws k ≡ Some w → bare v ≡ bare w) → map bare vs ≡ map bare ws
same_lists [] [] l h = refl
same_lists [] (w ∷ ws) l h = absurd (omega arith)
same_lists (v ∷ vs) [] l h = absurd (omega arith)
same_lists (v ∷ vs) (w ∷ ws) l h =
    let first : bare v ≡ bare w = h 0 v w refl refl in
    let rest : map bare vs ≡ map bare ws = same_lists vs ws (omega arith) (λ k x y. h (suc k) x y) in
    cc

module _ (nest : Nest) (vs ws : List Verdict) (a : AreVerdicts nest vs) (b : AreVerdicts nest ws) where
  agree_before : (n : ℕ) → AgreeBefore vs ws n
  agree_before zero k v w l g h = absurd (omega arith)
  agree_before (suc n) k v w l g h = elim (cases_eq k n) [
    | inl e ↦ here k v w g h (λ j x y m. agree_before n j x y (omega arith))
    | inr e ↦ agree_before n k v w (omega arith) g h
  ] where
    here : (k : ℕ) (v w : Verdict) → slice_get vs k ≡ Some v → slice_get ws k ≡ Some w → AgreeBefore vs ws k → bare v ≡ bare w
    here k v w g h agree =
        let lv = slice_get_within vs k v g in
        let lw = slice_get_within ws k w h in
        let r = some_at (relations nest) k (let l = a.long in omega arith) in
        same_here nest vs ws k r.0 lv lw agree v w (a.each k r.0 v r.1 g) (b.each k r.0 w r.1 h)

  pub one_list : map bare vs ≡ map bare ws
  one_list = same_lists vs ws (a.long ∙ sym b.long) (λ k v w g h. agree_before (suc k) k v w (omega arith) g h)
