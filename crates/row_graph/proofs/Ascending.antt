-- Lists of rows that don't fall, and lists that rise.
use Rattle.std.proofs.Common.{◌≡◌, ℕ, suc, zero, ◌+◌, ◌<◌, ◌≤◌, ◌++◌, List, [], ◌∷◌, Bool, true, false, cond, eqb, length, get_or, map, arith, refl}
use Rattle.std.proofs.lemmas.Bool.{eqb-false}
use Rattle.wave_base.specs.declared.types.RowId.{RowId}
use Rattle.row_graph.specs.Rows.{row}
use Rattle.row_graph.specs.Buckets.{rows_with}
use Rattle.row_graph.specs.Distinct.{begins_with, distinct}
use Rattle.row_graph.specs.Turned.{turned}
use Rattle.row_graph.specs.Predecessors.{AreAscending}
use Rattle.row_graph.specs.Rising.{Rising}
use Rattle.row_graph.proofs.Counts.{rows_with-append}
use Rattle.row_graph.proofs.Members.{rows_with-cons}

-- from a number on, each above the row before
abbrev pub Climbing : ℕ → List RowId → Type 0
Climbing low [] = Unit {0}
Climbing low (r ∷ rows) = (low ≤ r.0) × Climbing (r.0 + 1) rows

Rising-lower : (low high : ℕ) (rows : List RowId) → low ≤ high → Rising high rows → Rising low rows
Rising-lower low high [] l h = tt
Rising-lower low high (r ∷ rows) l h = (omega (arith, h.0), h.1)

pub Climbing-lower : (low high : ℕ) (rows : List RowId) → low ≤ high → Climbing high rows → Climbing low rows
Climbing-lower low high [] l h = tt
Climbing-lower low high (r ∷ rows) l h = (omega (arith, h.0), h.1)

Rising-cond : (b : Bool) (low : ℕ) (r : RowId) (rows more : List RowId) → low ≤ r.0 → ((low : ℕ) → low ≤ r.0 → Rising low (rows ++ more)) → Rising low (cond b (r ∷ rows) rows ++ more)
Rising-cond true low r rows more l h = (l, h r.0 (omega arith))
Rising-cond false low r rows more l h = h low l

-- rows of one number, and then rows from it on
Rising-same : (key number : ℕ) (rows more : List RowId) (low : ℕ) → low ≤ number → Rising number more → Rising low (rows_with key (map (λ r. (r.0, row number)) rows) ++ more)
Rising-same key number [] more low l h = Rising-lower low number more l h
Rising-same key number (r ∷ rows) more low l h =
    let g = Rising-cond (eqb r.0 key) low (row number) (rows_with key (map (λ r. (r.0, row number)) rows)) more l (λ low l. Rising-same key number rows more low l h) in
    rw rows_with-cons g

pub Rising-turned : (key number : ℕ) (lists : List (List RowId)) → Rising number (rows_with key (turned number lists))
Rising-turned key number [] = tt
Rising-turned key number (rows ∷ lists) =
    let r = Rising-lower number (number + 1) (rows_with key (turned (number + 1) lists)) (omega arith) (Rising-turned key (number + 1) lists) in
    rw rows_with-append (Rising-same key number rows (rows_with key (turned (number + 1) lists)) number (omega arith) r)

-- rows that don't fall and begin with another row are above
above_first : (r : RowId) (rows : List RowId) → begins_with r rows ≡ false → Rising r.0 rows → Rising (r.0 + 1) rows
above_first r [] b h = tt
above_first r (next ∷ rows) b h =
    let ne = eqb-false r.0 next.0 b in
    (omega (arith, h.0, ne), h.1)

Climbing-cond : (b : Bool) (low : ℕ) (r : RowId) (rows : List RowId) → low ≤ r.0 → (b ≡ false → Climbing (r.0 + 1) rows) → Climbing r.0 rows → Climbing low (cond b rows (r ∷ rows))
Climbing-cond true low r rows l h w = Climbing-lower low r.0 rows l w
Climbing-cond false low r rows l h w = (l, h refl)

pub Climbing-distinct : (low : ℕ) (rows : List RowId) → Rising low rows → Climbing low (distinct rows)
Climbing-distinct low [] h = tt
Climbing-distinct low (r ∷ rows) h =
    Climbing-cond (begins_with r rows) low r (distinct rows) h.0 (λ b. Climbing-distinct (r.0 + 1) rows (above_first r rows b h.1)) (Climbing-distinct r.0 rows h.1)

Climbing-at : (low : ℕ) (rows : List RowId) (k : ℕ) (d : RowId) → Climbing low rows → k < length rows → low ≤ (get_or rows k d).0
Climbing-at low [] k d h l = absurd (omega (arith, l))
Climbing-at low (r ∷ rows) zero d h l = h.0
Climbing-at low (r ∷ rows) (suc k) d h l =
    let rest = Climbing-at (r.0 + 1) rows k d h.1 (omega (arith, l)) in
    omega (arith, rest, h.0)

pub ascending_from : (low : ℕ) (rows : List RowId) → Climbing low rows → AreAscending rows
ascending_from low [] h i j d l m = absurd (omega (arith, m))
ascending_from low (r ∷ rows) h i zero d l m = absurd (omega (arith, l))
ascending_from low (r ∷ rows) h zero (suc j) d l m =
    let rest = Climbing-at (r.0 + 1) rows j d h.1 (omega (arith, m)) in
    omega (arith, rest)
ascending_from low (r ∷ rows) h (suc i) (suc j) d l m =
    ascending_from (r.0 + 1) rows h.1 i j d (omega (arith, l)) (omega (arith, m))
