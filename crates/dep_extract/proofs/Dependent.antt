-- Rows depend just where some relation has them as a pair.
use Rattle.std.proofs.Common.{◌≡◌, ◌⊎◌, inl, inr, ℕ, ◌<◌, ◌≤◌, ℤ, pos, Bool, true, false, ◌||◌, List, [], ◌∷◌, ◌++◌, refl, sym, ap, ◌∙◌, subst, arith}
use Rattle.std.specs.Prelude.{◌==◌, if◌then◌else◌}
use Rattle.std.specs.List.{Contains, flat_map}
use Rattle.std.proofs.lemmas.Int.{ints}
use Rattle.std.proofs.lemmas.Bool.{eqb-true}
use Rattle.std.proofs.lemmas.Bool.Decides.{nat_tests}
use Rattle.std.proofs.lemmas.List.Elements.{All-nil, All-cons, All-head, All-tail, All-append, Contains-append_left, Contains-append_right, Contains-append_cases}
use Rattle.wave_base.specs.declared.types.ArrayId.{ArrayId}
use Rattle.loop_core.specs.declared.place.Place.{Place}
use Rattle.loop_core.specs.declared.nest.Nest.{Nest}
use Rattle.loop_core.specs.declared.nest.VarId.{VarId}
use Rattle.loop_core.specs.declared.nest.Side.TheVariants.{Own, First, Second}
use Rattle.loop_core.specs.declared.nest.Term.{Term}
use Rattle.loop_core.specs.Lists.{Lists}
use Rattle.loop_core.specs.Binding.{Binding, value_in, same_variable}
use Rattle.loop_core.specs.Terms.{term_value}
use Rattle.loop_core.specs.Shape.{Loop, is_target, same_array}
use Rattle.loop_core.specs.Instances.{Instance, bound, instances}
use Rattle.loop_core.specs.IsNest.{IsNest, is_round}
use Rattle.loop_core.specs.Touches.{Reads, Writes, Meet, IsWithinLists, Depends, place_of}
use Rattle.uf_constraints.specs.declared.system.Diff.{Diff}
use Rattle.uf_constraints.specs.declared.system.Relation.{Relation}
use Rattle.uf_constraints.specs.declared.reach.Usage.{Usage}
use Rattle.uf_constraints.specs.declared.reach.Usage.TheVariants.{Entry, Reads as of_read, Sets as of_set}
use Rattle.uf_constraints.specs.declared.reach.Bracket.{Bracket}
use Rattle.uf_constraints.specs.declared.reach.Spot.{Spot}
use Rattle.uf_constraints.specs.declared.reach.Site.{Site}
use Rattle.uf_constraints.specs.Truth.{Holds, AllHold}
use Rattle.uf_constraints.specs.Universe.{plain}
use Rattle.loop_core.specs.declared.nest.Atom.TheVariants.{Zero, N, Nnz}
use Rattle.uf_constraints.specs.Brackets.{spots}
use Rattle.uf_constraints.specs.Bases.{at_most, less, equal, on, variable, said_by_all, of_sizes, relation_base}
use Rattle.uf_constraints.specs.Pairs.{Pairs}
use Rattle.uf_constraints.specs.Relations.{is_read, is_write, reads_written, writes, site, read_site, write_site, sites_on, sites, are_related, relation, related, relations}
use Rattle.dep_extract.proofs.Members.{both, and_true, in_flat, from_flat, kept, kept_is}
use Rattle.dep_extract.proofs.Worth.{worth, on_line, Agrees, value_on}
use Rattle.dep_extract.proofs.Rounds.{Met}
use Rattle.dep_extract.proofs.Writing.{use_of, place_at}
use Rattle.dep_extract.proofs.Turns.{Does}
use Rattle.dep_extract.proofs.Reached.{UpTo, Led, agrees_inside, own_itself, body_ways}
use Rattle.dep_extract.proofs.Holding.{all_parts, up_to_holds, under_means, under_holds, zero_is, rows_are, stored_are, variable_is, level_means, level_holds, met_means, met_holds}
use Rattle.dep_extract.proofs.Sided.{sided, of_first, of_second}

-- References.

read_is : (u : Usage) → is_read u ≡ true → u ≡ of_read
read_is of_read e = refl
read_is Entry e = absurd (cc)
read_is of_set e = absurd (cc)

write_is : (u : Usage) → is_write u ≡ true → u ≡ of_set
write_is of_set e = refl
write_is Entry e = absurd (cc)
write_is of_read e = absurd (cc)

module _ (nest : Nest) where
  -- a bracket of this use, as a reference
  abbrev At : Bool → Spot → Bracket → Type 0
  At w s b = Contains (spots nest) s × Contains s.brackets b × (b.usage ≡ use_of w)

  pub to_site : (w : Bool) (s : Spot) (b : Bracket) → At w s b → is_target nest b.array ≡ true → Contains (sites nest) (site s b) × (writes b ≡ w)
  to_site true s b h t =
      let wr : writes b ≡ true = ap is_write h.2 in (
        in_flat (sites_on nest) (spots nest) s (site s b) h.0 (Contains-append_right (flat_map (read_site nest s) s.brackets) (flat_map (write_site s) s.brackets) (site s b)
            (in_flat (write_site s) s.brackets b (site s b) h.1 (kept (writes b) (site s b) wr))),
        wr,
      )
  to_site false s b h t =
      let rd : reads_written nest b ≡ true = and_true (is_read b.usage) (is_target nest b.array) (ap is_read h.2) t in (
        in_flat (sites_on nest) (spots nest) s (site s b) h.0 (Contains-append_left (flat_map (read_site nest s) s.brackets) (flat_map (write_site s) s.brackets) (site s b)
            (in_flat (read_site nest s) s.brackets b (site s b) h.1 (kept (reads_written nest b) (site s b) rd))),
        ap is_write h.2,
      )

  pub from_site : (t : Site) → Contains (sites nest) t → (w : Bool) × (s : Spot) × (b : Bracket) × At w s b × (site s b ≡ t) × (writes b ≡ w)
  from_site t h =
      let f = from_flat (sites_on nest) (spots nest) t h in
      by f.0 f.1 (Contains-append_cases (flat_map (read_site nest f.0) f.0.brackets) (flat_map (write_site f.0) f.0.brackets) t f.2)
    where
      by : (s : Spot) → Contains (spots nest) s → Contains (flat_map (read_site nest s) s.brackets) t ⊎ Contains (flat_map (write_site s) s.brackets) t
          → (w : Bool) × (s : Spot) × (b : Bracket) × At w s b × (site s b ≡ t) × (writes b ≡ w)
      by s c (inl d) =
          let g = from_flat (read_site nest s) s.brackets t d in
          let k = kept_is (reads_written nest g.0) (site s g.0) t g.2 in
          let u = read_is g.0.usage (both (is_read g.0.usage) (is_target nest g.0.array) k.0).0 in
          (false, s, g.0, (c, g.1, u), k.1, ap is_write u)
      by s c (inr d) =
          let g = from_flat (write_site s) s.brackets t d in
          let k = kept_is (writes g.0) (site s g.0) t g.2 in
          let u = write_is g.0.usage k.0 in
          (true, s, g.0, (c, g.1, u), k.1, ap is_write u)

-- Rows.

module _ (nest : Nest) (a : Lists) (is_nest : IsNest nest) where
  abbrev row : ℕ → List Instance
  row i = instances a nest (pos i)

  abbrev outer : List Loop
  outer = record { line = nest.line; name = nest.name } ∷ []

  abbrev start : ℕ → List Binding
  start i = bound nest.line (pos i) []

  upto : UpTo nest.line outer
  upto = λ v e. by v e (same_variable (record { line = nest.line; side = Own }) v) refl
    where
      by : (v : VarId) → is_round outer v ≡ true → (b : Bool) → same_variable (record { line = nest.line; side = Own }) v ≡ b → v.line ≤ nest.line
      by v e true s = let l = eqb-true nest.line v.line (both (nest.line == v.line) _ s).0 in omega (arith)
      by v e false s = absurd (let f : (false || false) ≡ true = sym (ap (λ b. b || false) s) ∙ e in cc)

  -- what a row does, some values of the variables lead to
  pub led : (i : ℕ) (w : Bool) (p : Place) → Does w (row i) p
      → (e : List Binding) × (on_line e Own nest.line ≡ pos i) × Led a w p (on_line e Own) (spots nest)
  led i w p d =
      let f = (body_ways a w p nest.body).0 outer [] (start i) nest.line is_nest.in_scope is_nest.rising upto (λ r agrees. tt) d in
      let round : is_round outer (record { line = nest.line; side = Own }) ≡ true = ap (λ b. b || false) (own_itself nest.line) in
      let here : value_in (start i) (record { line = nest.line; side = Own }) ≡ pos i = ap (λ b. if b then pos i else pos 0) (own_itself nest.line) in
      (f.0, sym (f.2 (record { line = nest.line; side = Own }) round) ∙ here, f.1)

  -- and the other way round
  pub does : (i : ℕ) (w : Bool) (p : Place) (r : ℕ → ℤ) → r nest.line ≡ pos i → Led a w p r (spots nest) → Does w (row i) p
  does i w p r at h =
      let agrees : Agrees outer (start i) r = subst (λ z. Agrees outer (bound nest.line z []) r) at (agrees_inside nest.line nest.name [] [] r (λ v e. absurd (cc))) in
      ((body_ways a w p nest.body).1 outer [] (start i) r is_nest.in_scope agrees h).0

  -- Two accesses of one place, of which one writes, make a pair.

  same_itself : (k : ℕ) → (k == k) ≡ true
  same_itself k = grind (arith, nat_tests)

  abbrev HasPair : ℕ → ℕ → Type 0
  HasPair i j = (r : Relation) × Contains (relations nest) r × Pairs nest.line r a i j

  abbrev Touch : ℕ → ℕ → Type 0
  Touch i j = (v : Bool) × (w : Bool) × (p : Place) × ((v || w) ≡ true) × Does v (row i) p × Does w (row j) p

  are_pair : (v w : Bool) (s t : Spot) (b c : Bracket) → (v || w) ≡ true → At nest v s b → At nest w t c → is_target nest b.array ≡ true → b.array ≡ c.array → Contains (relations nest) (relation nest (site s b) (site t c))
  are_pair v w s t b c or h k target same =
      let x = to_site nest v s b h target in
      let y = to_site nest w t c k (subst (λ array. is_target nest array ≡ true) same target) in
      let arrays : same_array b.array c.array ≡ true = subst (λ (array : ArrayId). same_array b.array array ≡ true) same (same_itself b.array.0) in
      let ors : (writes b || writes c) ≡ true = (λ i. x.1 i || y.1 i) ∙ or in
      let one : are_related (site s b) (site t c) ≡ true = and_true (same_array b.array c.array) (writes b || writes c) arrays ors in
      in_flat (λ s. flat_map (related nest s) (sites nest)) (sites nest) (site s b) (relation nest (site s b) (site t c)) x.0
      (in_flat (related nest (site s b)) (sites nest) (site t c) (relation nest (site s b) (site t c)) y.0
      (kept (are_related (site s b) (site t c)) (relation nest (site s b) (site t c)) one))

  module _ (i j : ℕ) (lt : i < j) (below : j < a.n) (s t : Spot) (b c : Bracket) (e f : List Binding)
      (at_i : on_line e Own nest.line ≡ pos i) (at_j : on_line f Own nest.line ≡ pos j)
      (met_s : Met a (on_line e Own) s.around) (met_t : Met a (on_line f Own) t.around)
      (same_place : worth a (on_line e Own) b.at ≡ worth a (on_line f Own) c.at) where
    abbrev g : List Binding
    g = sided First e ++ sided Second f

    first_side : on_line g First ≡ on_line e Own
    first_side = λ k l. of_first e f l k

    second_side : on_line g Second ≡ on_line f Own
    second_side = λ k l. of_second e f l k

    pub is_i : on_line g First nest.line ≡ pos i
    is_i = of_first e f nest.line ∙ at_i

    pub is_j : on_line g Second nest.line ≡ pos j
    is_j = of_second e f nest.line ∙ at_j

    cells : AllHold a g (equal (on First b.at) (on Second c.at))
    cells =
        level_holds a g (on First b.at) (on Second c.at)
        (value_on a g First b.at ∙ ap (λ r. worth a r b.at) first_side ∙ same_place ∙ sym (ap (λ r. worth a r c.at) second_side) ∙ sym (value_on a g Second c.at))

    abbrev x : Term
    x = variable First nest.line

    abbrev y : Term
    y = variable Second nest.line

    value_x : term_value a g x ≡ pos i
    value_x = variable_is a g First nest.line ∙ is_i

    value_y : term_value a g y ≡ pos j
    value_y = variable_is a g Second nest.line ∙ is_j

    abbrev P : Diff → Type 0
    P = Holds a g

    abbrev begin : List Diff
    begin = at_most (plain Zero) x ∷ (less x y ∷ (less y (plain N) ∷ said_by_all First s.around))

    sizes_hold : AllHold a g of_sizes
    sizes_hold =
        let z = zero_is a g in
        let n = rows_are a g in
        let m = stored_are a g in
        let h1 = up_to_holds a g (plain Zero) (plain N) (omega (arith, ints, z, n)) in
        let h2 = up_to_holds a g (plain Zero) (plain Nnz) (omega (arith, ints, z, m)) in
        All-cons P (at_most (plain Zero) (plain N)) (at_most (plain Zero) (plain Nnz) ∷ []) h1 (All-cons P (at_most (plain Zero) (plain Nnz)) [] h2 (All-nil P))

    begin_holds : AllHold a g begin
    begin_holds =
        let z = zero_is a g in
        let n = rows_are a g in
        let h3 = up_to_holds a g (plain Zero) x (omega (arith, ints, z, value_x)) in
        let h4 = under_holds a g x y (omega (arith, ints, value_x, value_y, lt)) in
        let h5 = under_holds a g y (plain N) (omega (arith, ints, value_y, n, below)) in
        let first : List Diff = said_by_all First s.around in
        let one = met_holds a g First s.around (subst (λ r. Met a r s.around) (sym first_side) met_s) in
        All-cons P (at_most (plain Zero) x) (less x y ∷ (less y (plain N) ∷ first)) h3 (All-cons P (less x y) (less y (plain N) ∷ first) h4 (All-cons P (less y (plain N)) first h5 one))

    pub base_holds : AllHold a g (relation_base nest (site s b) (site t c))
    base_holds =
        let two = met_holds a g Second t.around (subst (λ r. Met a r t.around) (sym second_side) met_t) in
        let begun = All-append P of_sizes begin sizes_hold begin_holds in
        let both_sides = All-append P (of_sizes ++ begin) (said_by_all Second t.around) begun two in
        All-append P ((of_sizes ++ begin) ++ said_by_all Second t.around) (equal (on First b.at) (on Second c.at)) both_sides cells

  pub to_pair : (i j : ℕ) (v w : Bool) (p : Place) → i < j → j < a.n → (v || w) ≡ true → is_target nest p.array ≡ true → Does v (row i) p → Does w (row j) p → HasPair i j
  to_pair i j v w p lt below or target d e =
      let l = led i v p d in
      let m = led j w p e in
      by l.0 m.0 l.1 m.1 l.2 m.2
    where
      by : (e f : List Binding) → on_line e Own nest.line ≡ pos i → on_line f Own nest.line ≡ pos j → Led a v p (on_line e Own) (spots nest) → Led a w p (on_line f Own) (spots nest) → HasPair i j
      by e f at_i at_j l m =
          let b : Bracket = l.3.0 in
          let c : Bracket = m.3.0 in
          let one : place_at a (on_line e Own) b.array b.at ≡ p = l.3.3 in
          let two : place_at a (on_line f Own) c.array c.at ≡ p = m.3.3 in
          let same : b.array ≡ c.array = ap (λ (q : Place). q.array) (one ∙ sym two) in
          let at : worth a (on_line e Own) b.at ≡ worth a (on_line f Own) c.at = ap (λ (q : Place). q.at) (one ∙ sym two) in
          let target_b : is_target nest b.array ≡ true = subst (λ array. is_target nest array ≡ true) (sym (ap (λ (q : Place). q.array) one)) target in (
            relation nest (site l.0 b) (site m.0 c),
            are_pair v w l.0 m.0 b c or (l.1, l.3.1, l.3.2) (m.1, m.3.1, m.3.2) target_b same,
            (
              sided First e ++ sided Second f,
              is_i i j lt below l.0 m.0 b c e f at_i at_j l.2 m.2 at,
              is_j i j lt below l.0 m.0 b c e f at_i at_j l.2 m.2 at,
              base_holds i j lt below l.0 m.0 b c e f at_i at_j l.2 m.2 at,
            ),
          )

  -- And a pair comes from two such accesses.

  module _ (i j : ℕ) (s t : Site) (g : List Binding)
      (at_i : on_line g First nest.line ≡ pos i) (at_j : on_line g Second nest.line ≡ pos j)
      (base : AllHold a g (relation_base nest s t)) where
    abbrev x1 : Term
    x1 = variable First nest.line

    abbrev y1 : Term
    y1 = variable Second nest.line

    abbrev rows_part : List Diff
    rows_part = at_most (plain Zero) x1 ∷ (less x1 y1 ∷ (less y1 (plain N) ∷ said_by_all First s.around))

    whole : AllHold a g ((of_sizes ++ rows_part) ++ said_by_all Second t.around) × AllHold a g (equal (on First s.at) (on Second t.at))
    whole = all_parts (Holds a g) ((of_sizes ++ rows_part) ++ said_by_all Second t.around) (equal (on First s.at) (on Second t.at)) base

    begun : AllHold a g (of_sizes ++ rows_part) × AllHold a g (said_by_all Second t.around)
    begun = all_parts (Holds a g) (of_sizes ++ rows_part) (said_by_all Second t.around) whole.0

    rows_hold : AllHold a g rows_part
    rows_hold = (all_parts (Holds a g) of_sizes rows_part begun.0).1

    later : AllHold a g (less x1 y1 ∷ (less y1 (plain N) ∷ said_by_all First s.around))
    later = All-tail (Holds a g) (at_most (plain Zero) x1) (less x1 y1 ∷ (less y1 (plain N) ∷ said_by_all First s.around)) rows_hold

    last : AllHold a g (less y1 (plain N) ∷ said_by_all First s.around)
    last = All-tail (Holds a g) (less x1 y1) (less y1 (plain N) ∷ said_by_all First s.around) later

    value_i : term_value a g x1 ≡ pos i
    value_i = variable_is a g First nest.line ∙ at_i

    value_j : term_value a g y1 ≡ pos j
    value_j = variable_is a g Second nest.line ∙ at_j

    pub in_order : i < j
    in_order =
        let h = under_means a g x1 y1 (All-head (Holds a g) (less x1 y1) (less y1 (plain N) ∷ said_by_all First s.around) later) in
        omega (arith, ints, value_i, value_j)

    pub within : j < a.n
    within =
        let h = under_means a g y1 (plain N) (All-head (Holds a g) (less y1 (plain N)) (said_by_all First s.around) last) in
        let n = rows_are a g in
        omega (arith, ints, value_j)

    pub first_met : Met a (on_line g First) s.around
    first_met = met_means a g First s.around (All-tail (Holds a g) (less y1 (plain N)) (said_by_all First s.around) last)

    pub second_met : Met a (on_line g Second) t.around
    second_met = met_means a g Second t.around begun.1

    pub one_cell : worth a (on_line g First) s.at ≡ worth a (on_line g Second) t.at
    one_cell = sym (value_on a g First s.at) ∙ level_means a g (on First s.at) (on Second t.at) whole.1 ∙ value_on a g Second t.at

  -- a reference does what its bracket does
  site_does : (i : ℕ) (t : Site) (r : ℕ → ℤ) → r nest.line ≡ pos i → Met a r t.around
      → (w : Bool) × (s : Spot) × (b : Bracket) × At nest w s b × (site s b ≡ t) × (writes b ≡ w)
      → (w : Bool) × (t.reference.writes ≡ w) × Does w (row i) (place_at a r t.reference.array t.at)
  site_does i t r at met f =
      let w = f.0 in
      let s = f.1 in
      let b = f.2 in (
        w,
        ap (λ (u : Site). u.reference.writes) (sym f.4) ∙ f.5,
        subst (λ (u : Site). Does w (row i) (place_at a r u.reference.array u.at)) f.4
            (does i w (place_at a r b.array b.at) r at (s, f.3.0, subst (λ (u : Site). Met a r u.around) (sym f.4) met, (b, f.3.1, f.3.2, refl))),
      )

  pub from_pair : (i j : ℕ) → HasPair i j → (i < j) × (j < a.n) × Touch i j
  from_pair i j h =
      let f = from_flat (λ s. flat_map (related nest s) (sites nest)) (sites nest) h.0 h.1 in
      let k = from_flat (related nest f.0) (sites nest) h.0 f.2 in
      let m = kept_is (are_related f.0 k.0) (relation nest f.0 k.0) h.0 k.2 in
      by f.0 k.0 f.1 k.1 m.0 (subst (λ r. Pairs nest.line r a i j) (sym m.1) h.2)
    where
      by : (s t : Site) → Contains (sites nest) s → Contains (sites nest) t → are_related s t ≡ true → Pairs nest.line (relation nest s t) a i j → (i < j) × (j < a.n) × Touch i j
      by s t c d are p =
          let g = p.0 in
          let one = site_does i s (on_line g First) p.1 (first_met i j s t g p.1 p.2 p.3) (from_site nest s c) in
          let two = site_does j t (on_line g Second) p.2 (second_met i j s t g p.1 p.2 p.3) (from_site nest t d) in
          let parts_of = both (same_array s.reference.array t.reference.array) (s.reference.writes || t.reference.writes) are in
          let same : s.reference.array ≡ t.reference.array = ap (λ (n : ℕ). let x : ArrayId = record { 0 = n } in x) (eqb-true s.reference.array.0 t.reference.array.0 parts_of.0) in
          let cell : place_at a (on_line g First) s.reference.array s.at ≡ place_at a (on_line g Second) t.reference.array t.at =
          (λ k. let q : Place = record { array = same k; at = one_cell i j s t g p.1 p.2 p.3 k } in q) in (
            in_order i j s t g p.1 p.2 p.3,
            within i j s t g p.1 p.2 p.3,
            (
              one.0,
              two.0,
              place_at a (on_line g First) s.reference.array s.at,
              sym (λ k. one.1 k || two.1 k) ∙ parts_of.1,
              one.2,
              subst (Does two.0 (row j)) (sym cell) two.2,
            ),
          )

  -- The law.

  module _ (lists : List (List ℤ)) (inside : IsWithinLists nest a lists) where
    abbrev Both : ℕ → ℕ → Place → Type 0
    Both i j p = (Writes (row i) p × (Reads (row j) p ⊎ Writes (row j) p)) ⊎ (Reads (row i) p × Writes (row j) p)

    both_of : (i j : ℕ) (v w : Bool) (p : Place) → (v || w) ≡ true → Does v (row i) p → Does w (row j) p → Both i j p
    both_of i j true true p or d e = inl (d, inr e)
    both_of i j true false p or d e = inl (d, inl e)
    both_of i j false true p or d e = inr (d, e)
    both_of i j false false p or d e = absurd (cc)

    some_access : (i : ℕ) (v : Bool) (p : Place) → Does v (row i) p → Reads (row i) p ⊎ Writes (row i) p
    some_access i true p d = inr d
    some_access i false p d = inl d

    pub pair_depends : (i j : ℕ) → HasPair i j → Depends a nest lists i j
    pair_depends i j h =
        let t = from_pair i j h in
        let u = t.2 in
        let lt = t.0 in
        let below = t.1 in
        (lt, below, (u.2, inside i u.2 (omega (arith, lt, below)) (some_access i u.0 u.2 u.4), both_of i j u.0 u.1 u.2 u.3 u.4 u.5))

    pub meeting_has_pair : (i j : ℕ) → (i < j) × (j < a.n) × Meet a nest i j → HasPair i j
    meeting_has_pair i j (lt, below, (c, inl ((h, w), inl (k, r)))) = to_pair i j true false (place_of c) lt below refl h.0 w r
    meeting_has_pair i j (lt, below, (c, inl ((h, w), inr (k, v)))) = to_pair i j true true (place_of c) lt below refl h.0 w v
    meeting_has_pair i j (lt, below, (c, inr ((h, r), (k, w)))) = to_pair i j false true (place_of c) lt below refl h.0 r w
