-- What a list of steps proves.
use Rattle.std.specs.Prelude.{ℕ, ℤ, pos, negsuc, ◌+ℤ◌, ◌-◌, ◌&&◌, int_le, if◌then◌else◌, Bool, true, false, List, [], ◌∷◌, ◌++◌, length, slice_get, Option, Some, None, option_and_then, Result, Ok, Err}
use Rattle.std.specs.Option.{option_map_or}
use Rattle.std.specs.Ordering.{int_eq}
use Rattle.loop_core.specs.declared.nest.Atom.{Atom}
use Rattle.uf_constraints.specs.declared.system.Diff.{Diff}
use Rattle.uf_constraints.specs.Same.{same_atom, is_listed}
use Rattle.index_props.specs.declared.rule.RuleInst.{RuleInst}
use Rattle.index_props.specs.declared.certificate.Step.{Step}
use Rattle.index_props.specs.declared.certificate.Step.TheVariants.{Base, Same, Sum, Weaken, Rule}

-- a number of 64 signed bits
abbrev pub fits : ℤ → Bool
fits z = int_le (negsuc 9223372036854775807) z && int_le z (pos 9223372036854775807)

abbrev pub same_diff : Diff → Diff → Bool
same_diff d e = same_atom d.a e.a && (same_atom d.b e.b && int_eq d.c e.c)

abbrev pub same_of : List Atom → Atom → Option Diff
same_of u a = if is_listed u a then Some (record { a = a; b = a; c = pos 0 }) else None

-- two constraints of which the first ends where the second begins
abbrev pub sum_of : Diff → Diff → Option Diff
sum_of d e = if same_atom d.b e.a && fits (d.c +ℤ e.c) then Some (record { a = d.a; b = e.b; c = d.c +ℤ e.c }) else None

abbrev pub weakened : ℤ → Diff → Option Diff
weakened c d = if int_le d.c c then Some (record { a = d.a; b = d.b; c = c }) else None

-- each premise in order is the constraint of the step named
abbrev pub named : List Diff → List Diff → List ℕ → Bool
named earlier [] [] = true
named earlier [] (k ∷ ks) = false
named earlier (p ∷ ps) [] = false
named earlier (p ∷ ps) (k ∷ ks) = option_map_or (same_diff p) (slice_get earlier k) false && named earlier ps ks

abbrev pub result_of : List Diff → ℕ → List ℕ → RuleInst → Option Diff
result_of earlier j ks r = if named earlier r.premises ks then slice_get r.results j else None

-- the constraint of a step beside those of the steps before it, or none where it is no step
abbrev pub conclusion : List Atom → List Diff → List RuleInst → List Diff → Step → Option Diff
conclusion u base rules earlier (Base k) = slice_get base k
conclusion u base rules earlier (Same a) = same_of u a
conclusion u base rules earlier (Sum k l) = option_and_then (λ d. option_and_then (sum_of d) (slice_get earlier l)) (slice_get earlier k)
conclusion u base rules earlier (Weaken k c) = option_and_then (weakened c) (slice_get earlier k)
conclusion u base rules earlier (Rule i j ks) = option_and_then (result_of earlier j ks) (slice_get rules i)

-- the last of the constraints; a list without steps fails at step 0
abbrev pub last_of : List Diff → Result Diff ℕ
last_of ds = option_map_or Ok (slice_get ds (length ds - 1)) (Err 0)

abbrev pub step_or : Option Diff → ℕ → (Diff → Result Diff ℕ) → Result Diff ℕ
step_or None at go = Err at
step_or (Some d) at go = go d

-- the last constraint, or the number of the first step that is none
abbrev pub outcome : List Atom → List Diff → List RuleInst → List Diff → List Step → Result Diff ℕ
outcome u base rules earlier [] = last_of earlier
outcome u base rules earlier (s ∷ ss) =
    step_or (conclusion u base rules earlier s) (length earlier) (λ d. outcome u base rules (earlier ++ d ∷ []) ss)
