-- Triples as rows see them, and as columns see them.
use Rattle.std.specs.Prelude.{ℕ, ℤ, pos, ◌<◌, List}
use Rattle.std.specs.List.{All}
use Rattle.csr_arrays.specs.declared.axis.Axis.{Axis}
use Rattle.csr_arrays.specs.declared.axis.Axis.TheVariants.{Row, Column}

abbrev pub Triple : Type 0
Triple = ℕ × ℕ × ℤ

-- row and column exchanged
abbrev pub flipped : Triple → Triple
flipped t = (t.1, t.0, t.2)

abbrev pub turned : Axis → Triple → Triple
turned Row t = t
turned Column t = flipped t

-- every triple is in a square of n rows
abbrev pub Inside : ℕ → List Triple → Type 0
Inside n ts = All (λ t. (t.0 < n) × (t.1 < n)) ts

abbrev pub nothing : Triple
nothing = (0, 0, pos 0)
