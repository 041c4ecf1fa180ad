-- The quick plan of a relation, whose variables are taken one by one.
use Rattle.std.specs.Prelude.{ℕ, zero, suc, not, nat_lt, if◌then◌else◌, Option, Some, None, List, [], ◌∷◌, ◌++◌, map, length, slice_get}
use Rattle.std.specs.Option.{unwrap_or}
use Rattle.std.specs.List.{count_by, position, remove}
use Rattle.loop_core.specs.declared.nest.Nest.{Nest}
use Rattle.loop_core.specs.declared.nest.VarId.{VarId}
use Rattle.uf_constraints.specs.declared.system.Relation.{Relation}
use Rattle.inspector_run.specs.declared.plan.InspOp.{InspOp}
use Rattle.inspector_gen.specs.declared.kind.Kind.{Kind}
use Rattle.inspector_gen.specs.declared.unknown.Unknown.{Unknown}
use Rattle.inspector_gen.specs.Kinds.{Facts, kind_of}
use Rattle.inspector_gen.specs.Variables.{first_side_first, second_side_first}
use Rattle.inspector_gen.specs.Plans.{is_looped, kinds_from, cheaper, plan_in}

-- how the variables that are left get their values from those taken
abbrev pub kinds_after : (List VarId → VarId → Kind) → List VarId → List Unknown → List Kind
kinds_after kind taken left = map (λ u. kind taken u.var) left

-- the place of the next one: the first that is given, found or located by those taken, and where there is none, the
-- first that is left
abbrev pub next_place : (List VarId → VarId → Kind) → List VarId → List Unknown → ℕ
next_place kind taken left = unwrap_or (position (λ k. not (is_looped k)) (kinds_after kind taken left)) 0

-- one of them, and then the others by what follows
abbrev pub then_others : (List VarId → List Unknown → List Unknown) → List VarId → Option Unknown → List Unknown → List Unknown
then_others rest taken None others = []
then_others rest taken (Some u) others = u ∷ rest (taken ++ u.var ∷ []) others

-- so many of those that are left, one by one
abbrev pub one_by_one : (List VarId → VarId → Kind) → ℕ → List VarId → List Unknown → List Unknown
one_by_one kind zero taken left = []
one_by_one kind (suc n) taken left =
    let k = next_place kind taken left in then_others (one_by_one kind n) taken (slice_get left k) (remove left k)

-- the variables of an order, one by one
abbrev pub in_turn : (List VarId → VarId → Kind) → List Unknown → List Unknown
in_turn kind us = one_by_one kind (length us) [] us

abbrev pub count_loops : (List VarId → VarId → Kind) → List Unknown → ℕ
count_loops kind us = count_by is_looped (kinds_from kind [] us)

-- one by one, where fewer are looped so than in the order itself
abbrev pub quicker : (List VarId → VarId → Kind) → List Unknown → List Unknown
quicker kind us = if nat_lt (count_loops kind (in_turn kind us)) (count_loops kind us) then in_turn kind us else us

abbrev pub quick_plan_of : Nest → Facts → Relation → List InspOp
quick_plan_of nest f r = plan_in (kind_of f) nest r (quicker (kind_of f) (cheaper (kind_of f) (first_side_first nest r) (second_side_first nest r)))
