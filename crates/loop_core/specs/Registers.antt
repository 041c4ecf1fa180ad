-- The value of a formula for a machine whose registers hold, in order, the words that its row read of written arrays.
-- Arrays that the nest doesn't write are read from the lists at the start.
use Rattle.std.specs.Prelude.{ℤ, pos, if◌then◌else◌, List, [], ◌∷◌, drop, slice_index_or}
use Rattle.std.specs.List.{filter}
use Rattle.loop_core.specs.declared.nest.Nest.{Nest}
use Rattle.loop_core.specs.declared.place.Place.{Place}
use Rattle.loop_core.specs.Shape.{is_target}
use Rattle.loop_core.specs.Instances.{Formula}
use Rattle.loop_core.specs.Values.{reads, value_of}
use Rattle.loop_core.specs.Sequence.{word_of}

-- the places of written arrays that a formula reads, from left to right
abbrev pub shared_reads : Nest → Formula → List Place
shared_reads nest f = filter (λ p. is_target nest p.array) (reads f)

-- what reads at these places find: of a written array the next register, of another the word at the start
abbrev pub words_found : Nest → List (List ℤ) → List Place → List ℤ → List ℤ
words_found nest x [] registers = []
words_found nest x (p ∷ more) registers =
    if is_target nest p.array then slice_index_or registers 0 (pos 0) ∷ words_found nest x more (drop 1 registers)
    else word_of x p ∷ words_found nest x more registers

-- the value over these locals and registers
abbrev pub register_value : Nest → List (List ℤ) → List ℤ → Formula → List ℤ → ℤ
register_value nest x locals f registers = value_of f locals (words_found nest x (reads f) registers)
