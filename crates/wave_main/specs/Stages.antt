-- Why the files of a command are refused, in stages: a later one counts where no earlier one refuses them.
use Rattle.std.specs.Prelude.{◌≡◌, ◌⊎◌, ℕ, ℤ, List, [], ◌∷◌, Some}
use Rattle.loop_core.specs.declared.nest.Nest.{Nest}
use Rattle.prop_check.specs.Broken.{FirstBroken}
use Rattle.wave_main.specs.declared.status.Status.{Status}
use Rattle.wave_main.specs.declared.status.Status.TheVariants.{Shape, Property}
use Rattle.wave_main.specs.declared.status.ShapeKind.TheVariants.{Order}
use Rattle.wave_main.specs.Binding.{array_vectors, array_word, binding_fault, index_arrays}
use Rattle.wave_main.specs.Bounds.{IsBoundsFault}
use Rattle.wave_main.specs.Files.{Inputs}
use Rattle.wave_main.specs.Loops.{IsLoop, IsLoopFault}
use Rattle.wave_main.specs.Matrices.{matrix_fault, matrix_of, vectors_fault, vectors_of}
use Rattle.wave_main.specs.Orders.{IsFirstOdd, order_of}

pub data Stage : Type 0 where
  OfLoop : Stage
  OfBounds : Stage
  OfMatrix : Stage
  OfVectors : Stage
  OfShapes : Stage
  OfOrder : ℕ → Stage
  OfProperties : Stage

-- the loop isn't accepted, so an access of it might leave its array
abbrev pub Strays : Inputs → Status → Type 0
Strays files status = (nest : Nest) × IsLoop files.loop_file nest × IsBoundsFault nest status

-- the first shape of the files that doesn't fit the loop
abbrev pub Misfits : Inputs → Status → Type 0
Misfits files status =
    (nest : Nest) × IsLoop files.loop_file nest × (binding_fault (array_word files) nest.decls (matrix_of files.matrix) (array_vectors files) ≡ Some status)

-- the first entry of the order that is no worker's number
abbrev pub Disorders : ℕ → Inputs → Status → Type 0
Disorders workers files status =
    (place : ℕ) × (value : ℤ) × IsFirstOdd workers (order_of (vectors_of files.vectors)) place value × (status ≡ Shape (Order place value))

-- the first property of the loop that the arrays break, with its two places
abbrev pub Breaks : Inputs → Status → Type 0
Breaks files status =
    (nest : Nest) × (property : ℕ) × (first : ℕ) × (second : ℕ)
    × IsLoop files.loop_file nest
    × FirstBroken nest.props (index_arrays nest.decls files) property first second
    × (status ≡ Property property first second)

-- a stage refuses the files with a status
abbrev pub Calls : Stage → Inputs → Status → Type 0
Calls OfLoop files status = IsLoopFault files.loop_file status
Calls OfBounds files status = Strays files status
Calls OfMatrix files status = matrix_fault files.matrix ≡ Some status
Calls OfVectors files status = vectors_fault files.first files.vectors ≡ Some status
Calls OfShapes files status = Misfits files status
Calls (OfOrder workers) files status = Disorders workers files status
Calls OfProperties files status = Breaks files status

-- a stage, and all of them, refuse the files with no status
abbrev pub Accepts : Stage → Inputs → Type 0
Accepts stage files = (status : Status) → ¬ Calls stage files status

abbrev pub AcceptAll : List Stage → Inputs → Type 0
AcceptAll [] files = Unit {0}
AcceptAll (stage ∷ later) files = Accepts stage files × AcceptAll later files

-- one of the stages refuses the files with this status, and none before it refuses them
abbrev pub IsRefusedBy : List Stage → Inputs → Status → Type 0
IsRefusedBy [] files status = ⊥
IsRefusedBy (stage ∷ later) files status = Calls stage files status ⊎ (Accepts stage files × IsRefusedBy later files status)

-- the stages of arrays, properties aside, all stages of a loop with its arrays, and those with an order beside them
abbrev pub array_stages : List Stage
array_stages = OfLoop ∷ OfBounds ∷ OfMatrix ∷ OfVectors ∷ OfShapes ∷ []

abbrev pub input_stages : List Stage
input_stages = OfLoop ∷ OfBounds ∷ OfMatrix ∷ OfVectors ∷ OfShapes ∷ OfProperties ∷ []

abbrev pub replay_stages : ℕ → List Stage
replay_stages workers = OfLoop ∷ OfBounds ∷ OfMatrix ∷ OfVectors ∷ OfShapes ∷ OfOrder workers ∷ OfProperties ∷ []
