-- The values of a variable, one after another.
use Rattle.std.proofs.Common.{◌≡◌, ℕ, ◌+◌, ◌*◌, ◌≤◌, ℤ, List, [], ◌∷◌, ◌++◌, map, sym, ap, ◌∙◌, subst, arith, append_assoc}
use Rattle.std.proofs.lemmas.List.{map-append, append-nil}
use Rattle.wave_base.specs.declared.types.RowId.{RowId}
use Rattle.loop_core.specs.declared.nest.VarId.{VarId}
use Rattle.loop_core.specs.Binding.{Binding}
use Rattle.inspector_run.specs.Pairs.{fixed, met_along, as_rows, visits_along}

-- the pairs at one value come before those at the values that are left
pub pairs_step : (rest : List Binding → List (ℤ × ℤ)) (v : VarId) (env : List Binding) (x : ℤ) (xs values : List ℤ) (before after whole : List (RowId × RowId)) → values ≡ x ∷ xs
    → after ≡ before ++ map as_rows (rest (fixed v x env)) → before ++ map as_rows (met_along rest v env values) ≡ whole → after ++ map as_rows (met_along rest v env xs) ≡ whole
pairs_step rest v env x xs values before after whole split more inv =
    let here : List (ℤ × ℤ) = rest (fixed v x env) in
    let later : List (ℤ × ℤ) = met_along rest v env xs in
    ap (λ l. l ++ map as_rows later) more ∙ append_assoc before (map as_rows here) (map as_rows later)
    ∙ ap (λ l. before ++ l) (sym (map-append as_rows here later))
    ∙ ap (λ vs. before ++ map as_rows (met_along rest v env vs)) (sym split) ∙ inv

pub pairs_end : (rest : List Binding → List (ℤ × ℤ)) (v : VarId) (env : List Binding) (values : List ℤ) (before whole : List (RowId × RowId)) → values ≡ [] → before ++ map as_rows (met_along rest v env values) ≡ whole → before ≡ whole
pairs_end rest v env values before whole none inv = sym (append-nil before) ∙ ap (λ vs. before ++ map as_rows (met_along rest v env vs)) (sym none) ∙ inv

pub ticks_step : (rest : List Binding → ℕ) (v : VarId) (env : List Binding) (x : ℤ) (xs values : List ℤ) (s t w most : ℕ) → values ≡ x ∷ xs
    → t ≤ s + (1 + rest (fixed v x env)) * w → s + visits_along rest v env values * w ≤ most → t + visits_along rest v env xs * w ≤ most
ticks_step rest v env x xs values s t w most split here inv =
    let whole : s + ((1 + rest (fixed v x env)) + visits_along rest v env xs) * w ≤ most = subst (λ vs. s + visits_along rest v env vs * w ≤ most) split inv in
    omega arith

pub ticks_end : (s many w most : ℕ) → s + many * w ≤ most → s ≤ most
ticks_end s many w most inv = omega arith
