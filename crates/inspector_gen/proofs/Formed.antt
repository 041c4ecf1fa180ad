-- The operations along an order are a plan.
use Rattle.std.proofs.Common.{◌≡◌, suc, ◌≤◌, Bool, true, false, ◌||◌, ◌&&◌, not, List, [], ◌∷◌, ◌++◌, map, length, append_assoc, refl, sym, ap, ◌∙◌, subst}
use Rattle.std.specs.Prelude.{IsTrue}
use Rattle.std.specs.List.{All, Contains, filter, flat_map, list_all}
use Rattle.std.proofs.lemmas.Bool.{false≢true}
use Rattle.std.proofs.lemmas.List.Elements.{All-nil, All-cons, All-append, All-contains, Contains-append_left, Contains-append_right}
use Rattle.std.proofs.lemmas.List.Folds.{list_all-append}
use Rattle.loop_core.specs.declared.nest.VarId.{VarId}
use Rattle.loop_core.specs.Binding.{same_variable}
use Rattle.uf_constraints.specs.declared.system.Diff.{Diff}
use Rattle.dep_extract.proofs.Members.{both, and_true, here, there, in_flat}
use Rattle.inspector_run.specs.declared.plan.InspOp.{InspOp}
use Rattle.inspector_run.specs.declared.plan.InspOp.TheVariants.{Test, Emit}
use Rattle.inspector_run.specs.Ready.{fixes}
use Rattle.inspector_run.specs.IsPlan.{atom_vars, uses, is_among, AreFixedInOrder, tested, tests, emits, from_zero, one_below, below_rows, IsSmall, IsPlan}
use Rattle.inspector_gen.specs.declared.kind.Kind.{Kind}
use Rattle.inspector_gen.specs.declared.kind.Kind.TheVariants.{Given, Found, Located, Looped}
use Rattle.inspector_gen.specs.declared.unknown.Unknown.{Unknown}
use Rattle.inspector_gen.specs.declared.unknown.Span.{Span}
use Rattle.inspector_gen.specs.declared.unknown.Span.TheVariants.{Rows, Between}
use Rattle.inspector_gen.specs.Plans.{loop_over_rows, loop_of, is_first_side, other_row, operation, may_test, is_due, steps}
use Rattle.inspector_gen.proofs.Lists.{known_or, in_map, in_filter, from_filter}
use Rattle.inspector_gen.proofs.Along.{among_push, Along, IsFresh, CanTest, HasBoth, may_test_parts}
use Rattle.inspector_gen.proofs.Scoped.{all_by}
use Rattle.inspector_gen.proofs.Orderings.{AreAlike}

-- the operation uses these variables alone, and its constants are small
abbrev pub IsGoodAt : List VarId → InspOp → Type 0
IsGoodAt earlier op = (list_all (is_among earlier) (uses op) ≡ true) × IsSmall op

-- Each operation of an unknown fixes it alone, and emits nothing.

rows_fix : (v other : VarId) (first known : Bool) → fixes (loop_over_rows v other first known) ≡ v ∷ []
rows_fix v other true true = refl
rows_fix v other false true = refl
rows_fix v other true false = refl
rows_fix v other false false = refl

rows_emit : (v other : VarId) (first known : Bool) → emits (loop_over_rows v other first known) ≡ []
rows_emit v other true true = refl
rows_emit v other false true = refl
rows_emit v other true false = refl
rows_emit v other false false = refl

operation_fixes : (earlier : List VarId) (u : Unknown) (k : Kind) → fixes (operation earlier u k) ≡ u.var ∷ []
operation_fixes earlier u (Given term) = refl
operation_fixes earlier u (Found array plus term) = refl
operation_fixes earlier u (Located array plus term) = refl
operation_fixes earlier u Looped = by u.span
  where
    by : (span : Span) → fixes (loop_of earlier u.var span) ≡ u.var ∷ []
    by Rows = rows_fix u.var (other_row u.var) (is_first_side u.var.side) (is_among earlier (other_row u.var))
    by (Between lo hi) = refl

operation_emits : (earlier : List VarId) (u : Unknown) (k : Kind) → emits (operation earlier u k) ≡ []
operation_emits earlier u (Given term) = refl
operation_emits earlier u (Found array plus term) = refl
operation_emits earlier u (Located array plus term) = refl
operation_emits earlier u Looped = by u.span
  where
    by : (span : Span) → emits (loop_of earlier u.var span) ≡ []
    by Rows = rows_emit u.var (other_row u.var) (is_first_side u.var.side) (is_among earlier (other_row u.var))
    by (Between lo hi) = refl

-- Tests fix nothing and emit nothing.

tests_fix : (ds : List Diff) (ops : List InspOp) → flat_map fixes (map Test ds ++ ops) ≡ flat_map fixes ops
tests_fix [] ops = refl
tests_fix (d ∷ ds) ops = tests_fix ds ops

tests_emit : (ds : List Diff) (ops : List InspOp) → flat_map emits (map Test ds ++ ops) ≡ flat_map emits ops
tests_emit [] ops = refl
tests_emit (d ∷ ds) ops = tests_emit ds ops

tests_in_order : (m : List VarId) (ds : List Diff) (ops : List InspOp) → ((d : Diff) → Contains ds d → list_all (is_among m) (uses (Test d)) ≡ true) → AreFixedInOrder m ops → AreFixedInOrder m (map Test ds ++ ops)
tests_in_order m [] ops each h = h
tests_in_order m (d ∷ ds) ops each h = (each d (here d ds), refl, tests_in_order m ds ops (λ x c. each x (there d ds x c)) h)

tests_small : (ds : List Diff) → ((d : Diff) → Contains ds d → IsSmall (Test d)) → All IsSmall (map Test ds)
tests_small [] each = All-nil IsSmall
tests_small (d ∷ ds) each = All-cons IsSmall (Test d) (map Test ds) (each d (here d ds)) (tests_small ds (λ x c. each x (there d ds x c)))

-- Variables that come first instead of last.

or_turned : (a b : Bool) → (a || (b || false)) ≡ (b || a)
or_turned true true = refl
or_turned true false = refl
or_turned false true = refl
or_turned false false = refl

first_instead : (earlier m : List VarId) (w : VarId) → AreAlike earlier m → AreAlike (earlier ++ w ∷ []) (w ∷ m)
first_instead earlier m w alike v =
    among_push earlier w v ∙ or_turned (is_among earlier v) (same_variable w v) ∙ ap (λ b. same_variable w v || b) (alike v)

module _ (kind : List VarId → VarId → Kind) (base : List Diff) (i j : VarId) where
  abbrev op_of : List VarId → Unknown → InspOp
  op_of earlier u = operation earlier u (kind earlier u.var)

  abbrev pub IsFormed : List VarId → Unknown → Type 0
  IsFormed earlier u = IsGoodAt earlier (op_of earlier u)

  abbrev due : List VarId → Unknown → List Diff
  due earlier u = filter (is_due earlier (earlier ++ u.var ∷ [])) base

  abbrev rest : List VarId → Unknown → List Unknown → List InspOp
  rest earlier u us = steps kind base (earlier ++ u.var ∷ []) us

  due_uses : (earlier : List VarId) (u : Unknown) (d : Diff) → Contains (due earlier u) d → list_all (is_among (earlier ++ u.var ∷ [])) (uses (Test d)) ≡ true
  due_uses earlier u d c =
      let now = earlier ++ u.var ∷ [] in
      let m = from_filter (is_due earlier now) base d c in
      let t = may_test_parts now d (both (may_test now d) (not (may_test earlier d)) m.1).0 in
      list_all-append (is_among now) (atom_vars d.a) (atom_vars d.b) ∙ and_true (list_all (is_among now) (atom_vars d.a)) (list_all (is_among now) (atom_vars d.b)) t.0 t.1

  same_uses : (l m vs : List VarId) → AreAlike l m → list_all (is_among l) vs ≡ true → list_all (is_among m) vs ≡ true
  same_uses l m vs alike h = all_by (is_among l) (is_among m) vs (λ v g. sym (alike v) ∙ g) h

  -- each variable is fixed once, before it is used
  in_order : (us : List Unknown) (earlier m : List VarId) → AreAlike earlier m → Along IsFresh (CanTest base) earlier us → Along IsFormed (HasBoth i j) earlier us → AreFixedInOrder m (steps kind base earlier us ++ Emit i j ∷ [])
  in_order [] earlier m alike fresh formed =
      (same_uses earlier m (i ∷ j ∷ []) alike (and_true (is_among earlier i) (is_among earlier j && true) formed.0 (and_true (is_among earlier j) true formed.1 refl)), refl, tt)
  in_order (u ∷ us) earlier m alike fresh formed =
      let op = op_of earlier u in
      let emit : List InspOp = Emit i j ∷ [] in
      let after = map Test (due earlier u) ++ (rest earlier u us ++ emit) in
      let now = first_instead earlier m u.var alike in
      let later : AreFixedInOrder (u.var ∷ m) after =
      tests_in_order (u.var ∷ m) (due earlier u) (rest earlier u us ++ emit)
      (λ d c. same_uses (earlier ++ u.var ∷ []) (u.var ∷ m) (uses (Test d)) now (due_uses earlier u d c))
      (in_order us (earlier ++ u.var ∷ []) (u.var ∷ m) now fresh.1 formed.1) in
      let new : list_all (λ v. not (is_among m v)) (u.var ∷ []) ≡ true = and_true (not (is_among m u.var)) true (ap not (sym (alike u.var) ∙ fresh.0)) refl in
      let fixed = subst (λ (vs : List VarId). IsTrue (list_all (λ v. not (is_among m v)) vs) × AreFixedInOrder (vs ++ m) after) (sym (operation_fixes earlier u (kind earlier u.var))) (new, later) in
      subst (λ l. AreFixedInOrder m (op ∷ l)) (sym (append_assoc (map Test (due earlier u)) (rest earlier u us) emit))
      (same_uses earlier m (uses op) alike formed.0.0, fixed.0, fixed.1)

  emit_none : (us : List Unknown) (earlier : List VarId) → flat_map emits (steps kind base earlier us) ≡ []
  emit_none [] earlier = refl
  emit_none (u ∷ us) earlier =
      (λ k. operation_emits earlier u (kind earlier u.var) k ++ flat_map emits (map Test (due earlier u) ++ rest earlier u us))
      ∙ tests_emit (due earlier u) (rest earlier u us)
      ∙ emit_none us (earlier ++ u.var ∷ [])

  -- as many variables are fixed as there are unknowns
  fix_each : (us : List Unknown) (earlier : List VarId) → length (flat_map fixes (steps kind base earlier us ++ Emit i j ∷ [])) ≡ length us
  fix_each [] earlier = refl
  fix_each (u ∷ us) earlier =
      let emit : List InspOp = Emit i j ∷ [] in
      ap (λ l. length (fixes (op_of earlier u) ++ flat_map fixes l)) (append_assoc (map Test (due earlier u)) (rest earlier u us) emit)
      ∙ ap (λ l. length (l ++ flat_map fixes (map Test (due earlier u) ++ (rest earlier u us ++ emit)))) (operation_fixes earlier u (kind earlier u.var))
      ∙ ap (λ l. length (u.var ∷ l)) (tests_fix (due earlier u) (rest earlier u us ++ emit))
      ∙ ap suc (fix_each us (earlier ++ u.var ∷ []))

  -- each constraint is tested
  test_each : (us : List Unknown) (earlier : List VarId) (d : Diff) → Contains base d → may_test earlier d ≡ false → Along IsFresh (CanTest base) earlier us → Contains (steps kind base earlier us) (Test d)
  test_each [] earlier d c before all = absurd (false≢true (sym before ∙ all d c))
  test_each (u ∷ us) earlier d c before all =
      let now = earlier ++ u.var ∷ [] in
      let op = op_of earlier u in
      let ds = map Test (due earlier u) in
      there op (ds ++ rest earlier u us) (Test d)
      (known_or (may_test now d) (λ b. Contains (ds ++ rest earlier u us) (Test d))
      (λ e. Contains-append_left ds (rest earlier u us) (Test d) (in_map Test (due earlier u) d (in_filter (is_due earlier now) base d c (and_true (may_test now d) (not (may_test earlier d)) e (ap not before)))))
      (λ e. Contains-append_right ds (rest earlier u us) (Test d) (test_each us now d c e all.1)))

  small_each : (us : List Unknown) (earlier : List VarId) → All (λ d. IsSmall (Test d)) base → Along IsFormed (HasBoth i j) earlier us → All IsSmall (steps kind base earlier us)
  small_each [] earlier small formed = All-nil IsSmall
  small_each (u ∷ us) earlier small formed =
      All-cons IsSmall (op_of earlier u) (map Test (due earlier u) ++ rest earlier u us) formed.0.1
      (All-append IsSmall (map Test (due earlier u)) (rest earlier u us)
      (tests_small (due earlier u) (λ d c. All-contains (λ (x : Diff). IsSmall (Test x)) base d small (from_filter (is_due earlier (earlier ++ u.var ∷ [])) base d c).0))
      (small_each us (earlier ++ u.var ∷ []) small formed.1))

  -- what holds of each operation of an unknown and of each test holds of all
  pub all_operations : (P : InspOp → Type 0) (us : List Unknown) (earlier : List VarId) → ((l : List VarId) (u : Unknown) → P (op_of l u)) → ((d : Diff) → P (Test d)) → P (Emit i j) → All P (steps kind base earlier us ++ Emit i j ∷ [])
  all_operations P [] earlier each tests_too last = All-cons P (Emit i j) [] last (All-nil P)
  all_operations P (u ∷ us) earlier each tests_too last =
      let emit : List InspOp = Emit i j ∷ [] in
      All-cons P (op_of earlier u) ((map Test (due earlier u) ++ rest earlier u us) ++ emit) (each earlier u)
      (subst (All P) (sym (append_assoc (map Test (due earlier u)) (rest earlier u us) emit))
      (All-append P (map Test (due earlier u)) (rest earlier u us ++ emit) (all_tests (due earlier u)) (all_operations P us (earlier ++ u.var ∷ []) each tests_too last)))
    where
      all_tests : (ds : List Diff) → All P (map Test ds)
      all_tests [] = All-nil P
      all_tests (d ∷ ds) = All-cons P (Test d) (map Test ds) (tests_too d) (all_tests ds)

  pub formed_plan : (us : List Unknown) → Along IsFresh (CanTest base) [] us → Along IsFormed (HasBoth i j) [] us → All (λ d. IsSmall (Test d)) base
      → Contains base (from_zero i) → Contains base (one_below i j) → Contains base (below_rows j) → length us ≤ 12 → IsPlan (steps kind base [] us ++ Emit i j ∷ [])
  formed_plan us fresh formed small low apart high few =
      let before = steps kind base [] us in
      let tests_it : (d : Diff) → Contains base d → Contains (tests before) d = λ d c. in_flat tested before (Test d) d (test_each us [] d c refl fresh) (here d []) in
      record {
        ends = (i, j, record { before = before; last = refl; once = emit_none us []; low = tests_it (from_zero i) low; apart = tests_it (one_below i j) apart; high = tests_it (below_rows j) high });
        in_order = in_order us [] [] (λ v. refl) fresh formed;
        few = subst (λ n. n ≤ 12) (sym (fix_each us [])) few;
        small = All-append IsSmall before (Emit i j ∷ []) (small_each us [] small formed) (All-cons IsSmall (Emit i j) [] tt (All-nil IsSmall));
      }
