-- The value of a formula: a function of its row's locals and of the words that it reads.
use Rattle.std.specs.Prelude.{ℤ, pos, List, [], ◌∷◌, ◌++◌, length, drop, slice_index_or}
use Rattle.loop_core.specs.declared.nest.Op.{Op}
use Rattle.loop_core.specs.declared.nest.Op.TheVariants.{Add, Sub, Mul, Quot, Min, Max}
use Rattle.loop_core.specs.declared.place.Place.{Place}
use Rattle.wave_base.specs.Word.{wrapped_sum, wrapped_difference, wrapped_product, wrapped_quotient, lesser, greater}
use Rattle.loop_core.specs.Instances.{Formula, Number, Load, Own, Apply}

abbrev pub operated : Op → ℤ → ℤ → ℤ
operated Add x y = wrapped_sum x y
operated Sub x y = wrapped_difference x y
operated Mul x y = wrapped_product x y
operated Quot x y = wrapped_quotient x y
operated Min x y = lesser x y
operated Max x y = greater x y

-- the places that a formula reads, from left to right: a local is none
abbrev pub reads : Formula → List Place
reads (Number value) = []
reads (Load array at) = record { array = array; at = at } ∷ []
reads (Own local) = []
reads (Apply op left right) = reads left ++ reads right

-- the value over these locals, where the reads found these words, from left to right
abbrev pub value_of : Formula → List ℤ → List ℤ → ℤ
value_of (Number value) locals words = value
value_of (Load array at) locals words = slice_index_or words 0 (pos 0)
value_of (Own local) locals words = slice_index_or locals local (pos 0)
value_of (Apply op left right) locals words =
    operated op (value_of left locals words) (value_of right locals (drop (length (reads left)) words))
