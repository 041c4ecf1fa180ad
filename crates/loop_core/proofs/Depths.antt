-- Lemmas on how deep loops stand.
use Rattle.std.proofs.Common.{ℕ, zero, suc, ◌<◌, ◌≤◌, List, [], ◌∷◌, length, get_or, arith}
use Rattle.loop_core.specs.declared.nest.Item.{Item}
use Rattle.loop_core.specs.Depth.{depth, body_depth}

-- an item is at most as deep as its body
pub depth_within : (items : List Item) (k : ℕ) (d : Item) → k < length items → depth (get_or items k d) ≤ body_depth items
depth_within [] k d lt = absurd (omega arith)
depth_within (i ∷ is) zero d lt = omega arith
depth_within (i ∷ is) (suc k) d lt = omega (arith, depth_within is k d (omega arith))

-- a body is at most as deep as each of its items
pub body_depth_within : (items : List Item) (limit : ℕ) → ((k : ℕ) (d : Item) → k < length items → depth (get_or items k d) ≤ limit) → body_depth items ≤ limit
body_depth_within [] limit all = omega arith
body_depth_within (i ∷ is) limit all =
    omega (arith, all 0 i (omega arith), body_depth_within is limit (λ k d lt. all (suc k) d (omega arith)))
