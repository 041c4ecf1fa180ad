-- Why a loop isn't accepted: a system of constraints has too many atoms, or an access may leave its array.
use Rattle.std.specs.Prelude.{◌≡◌, ◌⊎◌, ℕ}
use Rattle.loop_core.specs.declared.nest.Nest.{Nest}
use Rattle.loop_syntax.specs.declared.refusal.LimitKind.TheVariants.{Atoms}
use Rattle.access_bounds.specs.declared.refusal.Side2.{Side2}
use Rattle.access_bounds.specs.Accepted.{IsFull, IsUnbounded}
use Rattle.wave_main.specs.declared.status.Status.{Status}
use Rattle.wave_main.specs.declared.status.Status.TheVariants.{LoopLimit, Unbounded}

-- the first system with more than 96 atoms, else the first bracket that isn't bounded
abbrev pub IsBoundsFault : Nest → Status → Type 0
IsBoundsFault nest status =
    ((line : ℕ) × IsFull nest line × (status ≡ LoopLimit line Atoms))
    ⊎ ((line : ℕ) × (bracket : ℕ) × (side : Side2) × IsUnbounded nest line bracket side × (status ≡ Unbounded line bracket side))
