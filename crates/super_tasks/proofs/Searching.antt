-- Shares and tasks that are found one place at a time.
use Rattle.std.proofs.Common.{◌≡◌, ℕ, add-one, ◌+◌, ◌<◌, ◌≤◌, ◌∙◌, ◌++◌, List, [], ◌∷◌, Bool, true, false, cond, eqb, length, get_or, map, take, arith, refl, ap}
use Rattle.std.specs.List.{filter, enumerate_from, range_with_len, flat_map}
use Rattle.std.proofs.lemmas.List.{map-append, take_all}
use Rattle.std.proofs.lemmas.List.Elements.{filter_more}
use Rattle.std.proofs.lemmas.List.FromFn.{length-enumerate_from, get_or-enumerate_from}
use Rattle.wave_base.specs.declared.types.RowId.{RowId}
use Rattle.super_tasks.specs.Shares.{worker_at, share, task_of, task_at}
use Rattle.super_tasks.proofs.Grouping.{flat_map-range_more}

-- the share of a worker among the first places
abbrev pub share_so_far : List ℕ → ℕ → List RowId → ℕ → ℕ → List RowId
share_so_far weights workers rows worker place =
    map (λ (e : ℕ × RowId). e.1) (filter (λ (e : ℕ × RowId). eqb (worker_at weights workers rows e.0) worker) (take place (enumerate_from 0 rows)))

one : (p : ℕ → Bool) (e : ℕ × RowId) (b : Bool) → map (λ (e : ℕ × RowId). e.1) (cond b (e ∷ []) []) ≡ cond b (e.1 ∷ []) []
one p e true = refl
one p e false = refl

pub share_more : (weights : List ℕ) (workers : ℕ) (rows : List RowId) (worker place : ℕ) (d : RowId) → place < length rows → share_so_far weights workers rows worker (place + 1) ≡ share_so_far weights workers rows worker place ++ cond (eqb (worker_at weights workers rows place) worker) (get_or rows place d ∷ []) []
share_more weights workers rows worker place d h =
    let es : List (ℕ × RowId) = enumerate_from 0 rows in
    let p : ℕ → Bool = λ s. eqb (worker_at weights workers rows s) worker in
    let f = filter_more (λ (e : ℕ × RowId). p e.0) es place (0, d) (omega (arith, length-enumerate_from 0 rows, h)) in
    let g : get_or es place (0, d) ≡ (place, get_or rows place d) = get_or-enumerate_from 0 rows place (0, d) h ∙ ap (λ (n : ℕ). (n, get_or rows place d)) (omega arith) in
    let f' = f ∙ ap (λ (e : ℕ × RowId). filter (λ (e : ℕ × RowId). p e.0) (take place es) ++ cond (p e.0) (e ∷ []) []) g in
    ap (map (λ (e : ℕ × RowId). e.1)) f'
    ∙ map-append (λ (e : ℕ × RowId). e.1) (filter (λ (e : ℕ × RowId). p e.0) (take place es)) (cond (p place) ((place, get_or rows place d) ∷ []) [])
    ∙ ap (λ (rs : List RowId). share_so_far weights workers rows worker place ++ rs) (one p (place, get_or rows place d) (p place))

pub share_end : (weights : List ℕ) (workers : ℕ) (rows : List RowId) (worker place : ℕ) → length rows ≤ place → share_so_far weights workers rows worker place ≡ share weights workers rows worker
share_end weights workers rows worker place h =
    ap (λ (es : List (ℕ × RowId)). map (λ (e : ℕ × RowId). e.1) (filter (λ (e : ℕ × RowId). eqb (worker_at weights workers rows e.0) worker) es)) (take_all place (enumerate_from 0 rows) (omega (arith, length-enumerate_from 0 rows, h)))

pub tasks_more : (levels weights : List ℕ) (workers worker level : ℕ) → flat_map (task_at levels weights workers worker) (range_with_len 0 (level + 1)) ≡ flat_map (task_at levels weights workers worker) (range_with_len 0 level) ++ task_at levels weights workers worker level
tasks_more levels weights workers worker level =
    let m = flat_map-range_more (task_at levels weights workers worker) 0 level in
    let e : 0 + level ≡ level = omega arith in
    rw add-one (m ∙ ap (λ k. flat_map (task_at levels weights workers worker) (range_with_len 0 level) ++ task_at levels weights workers worker k) e)

pub task_of-some : (level : ℕ) (rows : List RowId) → 0 < length rows → task_of level rows ≡ record { level = level; rows = rows } ∷ []
task_of-some level [] h = absurd (omega (arith, h))
task_of-some level (r ∷ rows) h = refl

pub task_of-none : (level : ℕ) (rows : List RowId) → length rows ≡ 0 → task_of level rows ≡ []
task_of-none level [] h = refl
task_of-none level (r ∷ rows) h = absurd (omega (arith, h))
