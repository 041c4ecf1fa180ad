-- Values of variables, and how large they are.
use Rattle.std.specs.Prelude.{ℤ, ◌^◌, ◌≤◌, List, [], ◌∷◌, unsigned_abs}
use Rattle.std.specs.List.{All}
use Rattle.loop_core.specs.declared.nest.VarId.{VarId}
use Rattle.loop_core.specs.Binding.{Binding}

-- the bindings that a list of variables with their values stands for
abbrev pub bindings_of : List (VarId × ℤ) → List Binding
bindings_of [] = []
bindings_of (p ∷ ps) = record { var = p.0; value = p.1 } ∷ bindings_of ps

-- each value is from -2^65 to 2^65
abbrev pub AreWide : List Binding → Type 0
AreWide env = All (λ b. unsigned_abs b.value ≤ 2 ^ 65) env
