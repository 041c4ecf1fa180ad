-- The inspection plan of a relation.
use Rattle.std.specs.Prelude.{ℕ, Bool, true, false, ◌&&◌, ◌||◌, not, nat_lt, ◌==◌, if◌then◌else◌, List, [], ◌∷◌, ◌++◌, map}
use Rattle.std.specs.List.{filter, count_by}
use Rattle.loop_core.specs.declared.nest.Nest.{Nest}
use Rattle.loop_core.specs.declared.nest.Side.{Side}
use Rattle.loop_core.specs.declared.nest.Side.TheVariants.{Own, First, Second}
use Rattle.loop_core.specs.declared.nest.VarId.{VarId}
use Rattle.loop_core.specs.declared.nest.Atom.TheVariants.{Zero, N, Var}
use Rattle.uf_constraints.specs.declared.system.Diff.{Diff}
use Rattle.uf_constraints.specs.declared.system.Relation.{Relation}
use Rattle.uf_constraints.specs.Universe.{plain, next}
use Rattle.inspector_run.specs.declared.plan.InspOp.{InspOp}
use Rattle.inspector_run.specs.declared.plan.InspOp.TheVariants.{Loop, Let, Find, Locate, Test, Emit}
use Rattle.inspector_run.specs.IsPlan.{is_among}
use Rattle.inspector_gen.specs.declared.kind.Kind.{Kind}
use Rattle.inspector_gen.specs.declared.kind.Kind.TheVariants.{Given, Found, Located, Looped}
use Rattle.inspector_gen.specs.declared.unknown.Unknown.{Unknown}
use Rattle.inspector_gen.specs.declared.unknown.Span.{Span}
use Rattle.inspector_gen.specs.declared.unknown.Span.TheVariants.{Rows, Between}
use Rattle.inspector_gen.specs.Kinds.{Facts, kind_of, is_fixed}
use Rattle.inspector_gen.specs.Variables.{variable, first_side_first, second_side_first}

-- The operation of a variable.

-- an outer variable that is looped runs over the rows: those before the later one, or those after the earlier one,
-- where that is fixed
abbrev pub loop_over_rows : VarId → VarId → Bool → Bool → InspOp
loop_over_rows v other is_first is_known =
    if is_known then (if is_first then Loop v (plain Zero) (plain (Var other)) else Loop v (next (plain (Var other))) (plain N))
    else Loop v (plain Zero) (plain N)

abbrev pub is_first_side : Side → Bool
is_first_side First = true
is_first_side Second = false
is_first_side Own = false

abbrev pub other_side : Side → Side
other_side First = Second
other_side Second = First
other_side Own = Own

abbrev pub other_row : VarId → VarId
other_row v = variable v.line (other_side v.side)

abbrev pub loop_of : List VarId → VarId → Span → InspOp
loop_of earlier v Rows = loop_over_rows v (other_row v) (is_first_side v.side) (is_among earlier (other_row v))
loop_of earlier v (Between lo hi) = Loop v lo hi

abbrev pub operation : List VarId → Unknown → Kind → InspOp
operation earlier u (Given term) = Let u.var term
operation earlier u (Found array plus term) = Find u.var array plus term
operation earlier u (Located array plus term) = Locate u.var array plus term
operation earlier u Looped = loop_of earlier u.var u.span

-- The tests: each base constraint after the first variable with which all its variables are fixed, or after the
-- first variable where it has none.

abbrev pub may_test : List VarId → Diff → Bool
may_test [] d = false
may_test (v ∷ vs) d = is_fixed (v ∷ vs) d.a && is_fixed (v ∷ vs) d.b

abbrev pub is_due : List VarId → List VarId → Diff → Bool
is_due earlier fixed d = may_test fixed d && not (may_test earlier d)

abbrev pub tests_due : List Diff → List VarId → List VarId → List InspOp
tests_due base earlier fixed = map Test (filter (is_due earlier fixed) base)

-- The operations of the variables of an order, of which each has a kind by those before it.

abbrev pub steps : (List VarId → VarId → Kind) → List Diff → List VarId → List Unknown → List InspOp
steps kind base earlier [] = []
steps kind base earlier (u ∷ us) =
    let fixed = earlier ++ u.var ∷ [] in
    operation earlier u (kind earlier u.var) ∷ tests_due base earlier fixed ++ steps kind base fixed us

-- Which of two orders: the one with fewer looped variables, then with fewer found ones, then with fewer located ones.

abbrev pub kinds_from : (List VarId → VarId → Kind) → List VarId → List Unknown → List Kind
kinds_from kind earlier [] = []
kinds_from kind earlier (u ∷ us) = kind earlier u.var ∷ kinds_from kind (earlier ++ u.var ∷ []) us

abbrev pub is_looped : Kind → Bool
is_looped Looped = true
is_looped (Given term) = false
is_looped (Found array plus term) = false
is_looped (Located array plus term) = false

abbrev pub is_found : Kind → Bool
is_found (Found array plus term) = true
is_found Looped = false
is_found (Given term) = false
is_found (Located array plus term) = false

abbrev pub is_located : Kind → Bool
is_located (Located array plus term) = true
is_located Looped = false
is_located (Given term) = false
is_located (Found array plus term) = false

-- fewer, or as many and then fewer by what follows
abbrev pub fewer_or : ℕ → ℕ → Bool → Bool
fewer_or m n then_fewer = nat_lt m n || ((m == n) && then_fewer)

abbrev pub is_cheaper : List Kind → List Kind → Bool
is_cheaper ks others =
    fewer_or (count_by is_looped ks) (count_by is_looped others)
    (fewer_or (count_by is_found ks) (count_by is_found others)
    (nat_lt (count_by is_located ks) (count_by is_located others)))

abbrev pub cheaper : (List VarId → VarId → Kind) → List Unknown → List Unknown → List Unknown
cheaper kind first second = if is_cheaper (kinds_from kind [] second) (kinds_from kind [] first) then second else first

-- The whole.

abbrev pub emit : Nest → InspOp
emit nest = Emit (variable nest.line First) (variable nest.line Second)

abbrev pub plan_in : (List VarId → VarId → Kind) → Nest → Relation → List Unknown → List InspOp
plan_in kind nest r order = steps kind r.base [] order ++ emit nest ∷ []

abbrev pub plan_of : Nest → Facts → Relation → List InspOp
plan_of nest f r = plan_in (kind_of f) nest r (cheaper (kind_of f) (first_side_first nest r) (second_side_first nest r))
