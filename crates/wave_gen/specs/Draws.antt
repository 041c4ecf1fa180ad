-- Numbers drawn from a state of 64 bits.
use Rattle.std.specs.Prelude.{ℕ, ◌+◌, ◌*◌, ◌/◌, ◌%◌, ◌^◌}

-- the state after one draw
unfoldable pub next : ℕ → ℕ
next s = (s * 6364136223846793005 + 1442695040888963407) % 2 ^ 64

-- the number of the draw that left this state
unfoldable pub drawn : ℕ → ℕ
drawn s = s / 2 ^ 33

-- the state after two draws
abbrev pub twice : ℕ → ℕ
twice s = next (next s)
