-- The pairs of the operations along an order of unknowns, for any kinds of them and any base.
use Rattle.std.proofs.Common.{◌≡◌, ◌⊎◌, inl, inr, ℤ, ◌-ℤ◌, ◌≤ℤ◌, Bool, true, false, ◌||◌, not, int_le, List, [], ◌∷◌, ◌++◌, map, append_assoc, refl, sym, ap, ◌∙◌, subst, arith}
use Rattle.std.specs.Prelude.{if◌then◌else◌, ◌==◌}
use Rattle.std.specs.List.{Contains, filter, flat_map, list_all}
use Rattle.std.proofs.lemmas.Int.{ints}
use Rattle.std.proofs.lemmas.Bool.{eqb-true, false≢true}
use Rattle.std.proofs.lemmas.Bool.Decides.{nat_tests}
use Rattle.std.proofs.lemmas.List.Elements.{All-contains, All-contains_itself, All-weaker}
use Rattle.std.proofs.lemmas.List.Folds.{list_any-append}
use Rattle.loop_core.specs.declared.nest.Side.{Side}
use Rattle.loop_core.specs.declared.nest.Side.TheVariants.{Own, First, Second}
use Rattle.loop_core.specs.declared.nest.VarId.{VarId}
use Rattle.loop_core.specs.Lists.{Lists, list_of}
use Rattle.loop_core.specs.Binding.{Binding, value_in, same_variable, same_side}
use Rattle.loop_core.specs.Terms.{atom_value}
use Rattle.loop_core.specs.Shape.{term_vars}
use Rattle.uf_constraints.specs.declared.system.Diff.{Diff}
use Rattle.uf_constraints.specs.Truth.{Holds, AllHold}
use Rattle.dep_extract.proofs.Members.{both, and_true, parts, none, one, cons_cases, here, there, in_flat, from_flat}
use Rattle.inspector_run.specs.declared.plan.InspOp.{InspOp}
use Rattle.inspector_run.specs.declared.plan.InspOp.TheVariants.{Loop, Let, Find, Locate, Test, Emit}
use Rattle.inspector_run.specs.Tries.{tried, is_true, numbers_between, places_of, place_up_to, moved}
use Rattle.inspector_run.specs.Pairs.{fixed, met, met_step, met_along}
use Rattle.inspector_run.specs.IsPlan.{uses, is_among}
use Rattle.inspector_gen.specs.declared.kind.Kind.{Kind}
use Rattle.inspector_gen.specs.declared.kind.Kind.TheVariants.{Given, Found, Located, Looped}
use Rattle.inspector_gen.specs.declared.unknown.Unknown.{Unknown}
use Rattle.inspector_gen.specs.declared.unknown.Span.{Span}
use Rattle.inspector_gen.specs.declared.unknown.Span.TheVariants.{Rows, Between}
use Rattle.inspector_gen.specs.Kinds.{is_fixed}
use Rattle.inspector_gen.specs.Plans.{loop_over_rows, loop_of, is_first_side, other_row, operation, may_test, is_due, steps}
use Rattle.inspector_gen.proofs.Lists.{known_or, in_filter, from_filter}
use Rattle.inspector_gen.proofs.Locality.{same_term_value, same_atom_value}

-- Variables.

pub side_itself : (s : Side) → same_side s s ≡ true
side_itself Own = refl
side_itself First = refl
side_itself Second = refl

pub variable_itself : (v : VarId) → same_variable v v ≡ true
variable_itself v = and_true (v.line == v.line) (same_side v.side v.side) (grind (arith, nat_tests)) (side_itself v.side)

side_is : (s t : Side) → same_side s t ≡ true → s ≡ t
side_is Own Own e = refl
side_is First First e = refl
side_is Second Second e = refl
side_is Own First e = absurd (cc)
side_is Own Second e = absurd (cc)
side_is First Own e = absurd (cc)
side_is First Second e = absurd (cc)
side_is Second Own e = absurd (cc)
side_is Second First e = absurd (cc)

pub variable_is : (v w : VarId) → same_variable v w ≡ true → v ≡ w
variable_is v w e =
    let t = both (v.line == w.line) (same_side v.side w.side) e in
    let line : v.line ≡ w.line = eqb-true v.line w.line t.0 in
    let side : v.side ≡ w.side = side_is v.side w.side t.1 in
    λ i. record { line = line i; side = side i }

-- Variables that are fixed.

pub among_push : (earlier : List VarId) (u v : VarId) → is_among (earlier ++ u ∷ []) v ≡ (is_among earlier v || (same_variable u v || false))
among_push earlier u v = list_any-append (λ w. same_variable w v) earlier (u ∷ [])

or_none : (s : Bool) → (s || (false || false)) ≡ true → s ≡ true
or_none true e = refl
or_none false e = absurd (cc)

or_left : (s t : Bool) → s ≡ true → (s || t) ≡ true
or_left true t e = refl
or_left false t e = absurd (cc)

or_last : (s t : Bool) → t ≡ true → (s || (t || false)) ≡ true
or_last true t e = refl
or_last false true e = refl
or_last false false e = absurd (cc)

among_more : (earlier : List VarId) (u v : VarId) → is_among earlier v ≡ true → is_among (earlier ++ u ∷ []) v ≡ true
among_more earlier u v h = among_push earlier u v ∙ or_left (is_among earlier v) (same_variable u v || false) h

-- the values of these variables are the same
abbrev pub Keeps : List VarId → List Binding → List Binding → Type 0
Keeps earlier env e = (v : VarId) → is_among earlier v ≡ true → value_in env v ≡ value_in e v

-- one variable more, with the value that it has there
keeps_more : (earlier : List VarId) (u : VarId) (env e : List Binding) → Keeps earlier env e → Keeps (earlier ++ u ∷ []) (fixed u (value_in e u) env) e
keeps_more earlier u env e keeps v h =
    known_or (same_variable u v) (λ b. (is_among earlier v || (b || false)) ≡ true → (if b then value_in e u else value_in env v) ≡ value_in e v)
    (λ s t. ap (value_in e) (variable_is u v s))
    (λ s t. keeps v (or_none (is_among earlier v) t))
    (sym (among_push earlier u v) ∙ h)

-- one variable less, which isn't among those that stay
keeps_back : (earlier : List VarId) (u : VarId) (x : ℤ) (env e : List Binding) → is_among earlier u ≡ false → Keeps (earlier ++ u ∷ []) (fixed u x env) e → Keeps earlier env e
keeps_back earlier u x env e fresh keeps v h =
    known_or (same_variable u v) (λ b. (if b then x else value_in env v) ≡ value_in e v → value_in env v ≡ value_in e v)
    (λ s t. absurd (false≢true (sym fresh ∙ ap (is_among earlier) (variable_is u v s) ∙ h)))
    (λ s t. t)
    (keeps v (among_more earlier u v h))

-- Tests.

pub may_test_parts : (fixed : List VarId) (d : Diff) → may_test fixed d ≡ true → (is_fixed fixed d.a ≡ true) × (is_fixed fixed d.b ≡ true)
may_test_parts [] d h = absurd (false≢true h)
may_test_parts (v ∷ vs) d h = both (is_fixed (v ∷ vs) d.a) (is_fixed (v ∷ vs) d.b) h

pub may_test_from : (fixed : List VarId) (w : VarId) (d : Diff) → is_among fixed w ≡ true → is_fixed fixed d.a ≡ true → is_fixed fixed d.b ≡ true → may_test fixed d ≡ true
may_test_from [] w d some left right = absurd (false≢true some)
may_test_from (v ∷ vs) w d some left right = and_true (is_fixed (v ∷ vs) d.a) (is_fixed (v ∷ vs) d.b) left right

due_is : (earlier fixed : List VarId) (d : Diff) → is_due earlier fixed d ≡ true → may_test fixed d ≡ true
due_is earlier fixed d h = (both (may_test fixed d) (not (may_test earlier d)) h).0

is_due_from : (earlier fixed : List VarId) (d : Diff) → may_test fixed d ≡ true → may_test earlier d ≡ false → is_due earlier fixed d ≡ true
is_due_from earlier fixed d now before = and_true (may_test fixed d) (not (may_test earlier d)) now (ap not before)

module _ (a : Lists) where
  same_truth : (fixed : List VarId) (env e : List Binding) (d : Diff) → Keeps fixed env e → may_test fixed d ≡ true → is_true a env d ≡ is_true a e d
  same_truth fixed env e d keeps h =
      let t = may_test_parts fixed d h in
      let left = same_atom_value a env e (is_among fixed) keeps d.a t.0 in
      let right = same_atom_value a env e (is_among fixed) keeps d.b t.1 in
      λ i. int_le (left i -ℤ right i) d.c

  le_means : (x y : ℤ) → int_le x y ≡ true → x ≤ℤ y
  le_means x y h = grind (arith, ints)

  le_holds : (x y : ℤ) → x ≤ℤ y → int_le x y ≡ true
  le_holds x y h = grind (arith, ints)

  pub true_holds : (e : List Binding) (d : Diff) → is_true a e d ≡ true → Holds a e d
  true_holds e d h = le_means (atom_value a e d.a -ℤ atom_value a e d.b) d.c h

  pub holds_true : (e : List Binding) (d : Diff) → Holds a e d → is_true a e d ≡ true
  holds_true e d h = le_holds (atom_value a e d.a -ℤ atom_value a e d.b) d.c h

  through_tests : (ds : List Diff) (ops : List InspOp) (env : List Binding) (q : ℤ × ℤ) → ((d : Diff) → Contains ds d → is_true a env d ≡ true) → Contains (met a ops env) q → Contains (met a (map Test ds ++ ops) env) q
  through_tests [] ops env q all h = h
  through_tests (d ∷ ds) ops env q all h =
      subst (λ b. Contains (if b then met a (map Test ds ++ ops) env else []) q) (sym (all d (here d ds)))
      (through_tests ds ops env q (λ x c. all x (there d ds x c)) h)

  from_tests : (ds : List Diff) (ops : List InspOp) (env : List Binding) (q : ℤ × ℤ) → Contains (met a (map Test ds ++ ops) env) q → ((d : Diff) → Contains ds d → is_true a env d ≡ true) × Contains (met a ops env) q
  from_tests [] ops env q h = ((λ d c. absurd (none d c)), h)
  from_tests (d ∷ ds) ops env q h =
      let t = known_or (is_true a env d) (λ b. Contains (if b then met a (map Test ds ++ ops) env else []) q → (is_true a env d ≡ true) × Contains (met a (map Test ds ++ ops) env) q)
      (λ s c. (s, c))
      (λ s c. absurd (none q c))
      h in
      let rest = from_tests ds ops env q t.1 in
      ((λ x c. by x t.0 rest.0 (cons_cases d ds x c)), rest.1)
    where
      by : (x : Diff) → is_true a env d ≡ true → ((y : Diff) → Contains ds y → is_true a env y ≡ true) → (d ≡ x) ⊎ Contains ds x → is_true a env x ≡ true
      by x first rest (inl e) = ap (is_true a env) (sym e) ∙ first
      by x first rest (inr c) = rest x c

  -- Operations of variables.

  rows_met : (v other : VarId) (first known : Bool) (rest : List Binding → List (ℤ × ℤ)) (env : List Binding) → met_step a (loop_over_rows v other first known) rest env ≡ met_along rest v env (tried a env (loop_over_rows v other first known))
  rows_met v other true true rest env = refl
  rows_met v other false true rest env = refl
  rows_met v other true false rest env = refl
  rows_met v other false false rest env = refl

  loop_met : (earlier : List VarId) (v : VarId) (span : Span) (rest : List Binding → List (ℤ × ℤ)) (env : List Binding) → met_step a (loop_of earlier v span) rest env ≡ met_along rest v env (tried a env (loop_of earlier v span))
  loop_met earlier v Rows rest env = rows_met v (other_row v) (is_first_side v.side) (is_among earlier (other_row v)) rest env
  loop_met earlier v (Between lo hi) rest env = refl

  operation_met : (earlier : List VarId) (u : Unknown) (k : Kind) (rest : List Binding → List (ℤ × ℤ)) (env : List Binding) → met_step a (operation earlier u k) rest env ≡ met_along rest u.var env (tried a env (operation earlier u k))
  operation_met earlier u (Given term) rest env = refl
  operation_met earlier u (Found array plus term) rest env = refl
  operation_met earlier u (Located array plus term) rest env = refl
  operation_met earlier u Looped rest env = loop_met earlier u.var u.span rest env

  -- what is tried depends on the variables that the operation uses
  tried_same : (earlier : List VarId) (env e : List Binding) (op : InspOp) → Keeps earlier env e → list_all (is_among earlier) (uses op) ≡ true → tried a env op ≡ tried a e op
  tried_same earlier env e (Loop v lo hi) keeps h =
      let t = parts (is_among earlier) (term_vars lo) (term_vars hi) h in
      let left = same_term_value a env e (is_among earlier) keeps lo t.0 in
      let right = same_term_value a env e (is_among earlier) keeps hi t.1 in
      λ i. numbers_between (left i) (right i)
  tried_same earlier env e (Let v t) keeps h = ap (λ z. z ∷ []) (same_term_value a env e (is_among earlier) keeps t h)
  tried_same earlier env e (Find v f plus t) keeps h = ap (λ z. moved plus (places_of (list_of a.lists f) z)) (same_term_value a env e (is_among earlier) keeps t h)
  tried_same earlier env e (Locate v p plus t) keeps h = ap (λ z. moved plus (place_up_to (list_of a.lists p) z)) (same_term_value a env e (is_among earlier) keeps t h)
  tried_same earlier env e (Test d) keeps h = refl
  tried_same earlier env e (Emit i j) keeps h = refl

-- Orders: this holds of each unknown by those before it, and that of all of them together.

abbrev pub Along : (List VarId → Unknown → Type 0) → (List VarId → Type 0) → List VarId → List Unknown → Type 0
Along B E earlier [] = E earlier
Along B E earlier (u ∷ us) = B earlier u × Along B E (earlier ++ u.var ∷ []) us

pub along_weaker : (B C : List VarId → Unknown → Type 0) (E F : List VarId → Type 0) → ((earlier : List VarId) (u : Unknown) → B earlier u → C earlier u) → ((earlier : List VarId) → E earlier → F earlier) → (earlier : List VarId) (us : List Unknown) → Along B E earlier us → Along C F earlier us
along_weaker B C E F f g earlier [] h = g earlier h
along_weaker B C E F f g earlier (u ∷ us) h = (f earlier u h.0, along_weaker B C E F f g (earlier ++ u.var ∷ []) us h.1)

-- the variable isn't among those before it
abbrev pub IsFresh : List VarId → Unknown → Type 0
IsFresh earlier u = is_among earlier u.var ≡ false

-- each constraint can be tested
abbrev pub CanTest : List Diff → List VarId → Type 0
CanTest base earlier = (d : Diff) → Contains base d → may_test earlier d ≡ true

abbrev pub HasBoth : VarId → VarId → List VarId → Type 0
HasBoth i j earlier = (is_among earlier i ≡ true) × (is_among earlier j ≡ true)

-- the operation uses variables that are fixed, and tries the value of its own
abbrev pub TriesIt : Lists → List Binding → List VarId → VarId → InspOp → Type 0
TriesIt a e earlier v op = (list_all (is_among earlier) (uses op) ≡ true) × Contains (tried a e op) (value_in e v)

abbrev pub IsTried : Lists → List Binding → (List VarId → VarId → Kind) → List VarId → Unknown → Type 0
IsTried a e kind earlier u = TriesIt a e earlier u.var (operation earlier u (kind earlier u.var))

module _ (a : Lists) (kind : List VarId → VarId → Kind) (base : List Diff) (i j : VarId) where
  abbrev op_of : List VarId → Unknown → InspOp
  op_of earlier u = operation earlier u (kind earlier u.var)

  abbrev due : List VarId → Unknown → List Diff
  due earlier u = filter (is_due earlier (earlier ++ u.var ∷ [])) base

  -- the operations from an unknown on
  abbrev from : List VarId → List Unknown → List InspOp
  from earlier us = steps kind base earlier us ++ Emit i j ∷ []

  abbrev after : List VarId → Unknown → List Unknown → List InspOp
  after earlier u us = map Test (due earlier u) ++ from (earlier ++ u.var ∷ []) us

  first_step : (earlier : List VarId) (u : Unknown) (us : List Unknown) (env : List Binding)
      → met a (from earlier (u ∷ us)) env ≡ flat_map (λ x. met a (after earlier u us) (fixed u.var x env)) (tried a env (op_of earlier u))
  first_step earlier u us env =
      ap (λ ops. met_step a (op_of earlier u) (met a ops) env) (append_assoc (map Test (due earlier u)) (steps kind base (earlier ++ u.var ∷ []) us) (Emit i j ∷ []))
      ∙ operation_met a earlier u (kind earlier u.var) (met a (after earlier u us)) env

  -- Each pair that is met comes from values that make the base true.

  abbrev ComesFrom : List VarId → List Binding → ℤ × ℤ → Type 0
  ComesFrom earlier env q =
      (e : List Binding) × Keeps earlier env e × (q ≡ (value_in e i, value_in e j))
      × ((d : Diff) → Contains base d → may_test earlier d ≡ false → is_true a e d ≡ true)

  comes_back : (earlier : List VarId) (u : Unknown) (env : List Binding) (q : ℤ × ℤ) (x : ℤ) → IsFresh earlier u
      → ((d : Diff) → Contains (due earlier u) d → is_true a (fixed u.var x env) d ≡ true)
      → ComesFrom (earlier ++ u.var ∷ []) (fixed u.var x env) q → ComesFrom earlier env q
  comes_back earlier u env q x fresh now c = (c.0, keeps_back earlier u.var x env c.0 fresh c.1, c.2, tests)
    where
      here_or_later : (d : Diff) → Contains base d → may_test earlier d ≡ false → (b : Bool) → may_test (earlier ++ u.var ∷ []) d ≡ b → is_true a c.0 d ≡ true
      here_or_later d in_base before true e =
          let due_now = is_due_from earlier (earlier ++ u.var ∷ []) d e before in
          sym (same_truth a (earlier ++ u.var ∷ []) (fixed u.var x env) c.0 d c.1 e) ∙ now d (in_filter (is_due earlier (earlier ++ u.var ∷ [])) base d in_base due_now)
      here_or_later d in_base before false e = c.3 d in_base e

      tests : (d : Diff) → Contains base d → may_test earlier d ≡ false → is_true a c.0 d ≡ true
      tests d in_base before = here_or_later d in_base before (may_test (earlier ++ u.var ∷ []) d) refl

  comes : (us : List Unknown) (earlier : List VarId) (env : List Binding) (q : ℤ × ℤ) → Along IsFresh (CanTest base) earlier us → Contains (met a (from earlier us) env) q → ComesFrom earlier env q
  comes [] earlier env q all h =
      (env, (λ v c. refl), sym (one (value_in env i, value_in env j) q h), (λ d in_base before. absurd (false≢true (sym before ∙ all d in_base))))
  comes (u ∷ us) earlier env q all h =
      let f = from_flat (λ x. met a (after earlier u us) (fixed u.var x env)) (tried a env (op_of earlier u)) q (subst (λ l. Contains l q) (first_step earlier u us env) h) in
      let t = from_tests a (due earlier u) (from (earlier ++ u.var ∷ []) us) (fixed u.var f.0 env) q f.2 in
      comes_back earlier u env q f.0 all.0 t.0 (comes us (earlier ++ u.var ∷ []) (fixed u.var f.0 env) q all.1 t.1)

  pub pairs_come : (us : List Unknown) (q : ℤ × ℤ) → Along IsFresh (CanTest base) [] us → Contains (met a (from [] us) []) q
      → (e : List Binding) × (q ≡ (value_in e i, value_in e j)) × AllHold a e base
  pairs_come us q all h =
      let c = comes us [] [] q all h in
      (c.0, c.2, All-weaker (Contains base) (Holds a c.0) (λ d in_base. true_holds a c.0 d (c.3 d in_base refl)) base (All-contains_itself base))

  -- And each assignment that makes the base true is met, where its values are tried.

  module _ (e : List Binding) where
    module _ (hold : AllHold a e base) where
      meets : (us : List Unknown) (earlier : List VarId) (env : List Binding) → Keeps earlier env e → Along (IsTried a e kind) (HasBoth i j) earlier us → Contains (met a (from earlier us) env) (value_in e i, value_in e j)
      meets [] earlier env keeps all =
          subst (λ z. Contains ((value_in env i, value_in env j) ∷ []) z) (λ k. (keeps i all.0 k, keeps j all.1 k)) (here (value_in env i, value_in env j) [])
      meets (u ∷ us) earlier env keeps all =
          let q : ℤ × ℤ = (value_in e i, value_in e j) in
          let now = earlier ++ u.var ∷ [] in
          let more = fixed u.var (value_in e u.var) env in
          let kept = keeps_more earlier u.var env e keeps in
          let true_now : (d : Diff) → Contains (due earlier u) d → is_true a more d ≡ true =
          λ d c. let m = from_filter (is_due earlier now) base d c in
          same_truth a now more e d kept (due_is earlier now d m.1) ∙ holds_true a e d (All-contains (Holds a e) base d hold m.0) in
          let rest = through_tests a (due earlier u) (from now us) more q true_now (meets us now more kept all.1) in
          let try : Contains (tried a env (op_of earlier u)) (value_in e u.var) =
          subst (λ l. Contains l (value_in e u.var)) (sym (tried_same a earlier env e (op_of earlier u) keeps all.0.0)) all.0.1 in
          subst (λ l. Contains l q) (sym (first_step earlier u us env))
          (in_flat (λ x. met a (after earlier u us) (fixed u.var x env)) (tried a env (op_of earlier u)) (value_in e u.var) q try rest)

      pub pairs_met : (us : List Unknown) → Along (IsTried a e kind) (HasBoth i j) [] us → Contains (met a (from [] us) []) (value_in e i, value_in e j)
      pairs_met us all = meets us [] [] (λ v c. absurd (false≢true c)) all
