-- The bound that a closure knows between two atoms.
use Rattle.std.specs.Prelude.{◌<◌, ◌≡◌, false, length}
use Rattle.std.specs.Int.Signed.{◌<ℤ◌}
use Rattle.loop_core.specs.declared.nest.Atom.{Atom}
use Rattle.bound_table.specs.declared.between.Between.{Between}
use Rattle.bound_close.specs.Closure.{Found}
use Rattle.bound_ways.specs.Places.{place_in}
use Rattle.bound_table.specs.Rows.{far}
use Rattle.bound_close.specs.Workings.{bounds}

pub record IsBetween (k : Found) (a b : Atom) (p : Between) : Type 0 where
  pub fine : k.refuted ≡ false
  pub x : p.x ≡ place_in k.atoms a
  pub y : p.y ≡ place_in k.atoms b
  pub x_in : place_in k.atoms a < length k.atoms
  pub y_in : place_in k.atoms b < length k.atoms
  pub bound : p.bound ≡ bounds k.engine.workings (place_in k.atoms a) (place_in k.atoms b)
  pub known : p.bound <ℤ far

abbrev pub NotBetween : Found → Atom → Atom → Type 0
NotBetween k a b = k.refuted ≡ false → place_in k.atoms a < length k.atoms → place_in k.atoms b < length k.atoms → bounds k.engine.workings (place_in k.atoms a) (place_in k.atoms b) <ℤ far → ⊥
