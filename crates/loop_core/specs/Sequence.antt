-- The loop run in order: row after row, each with locals of its own.
use Rattle.std.specs.Prelude.{ℕ, zero, suc, ℤ, pos, List, [], ◌∷◌, map, take, replicate, slice_index_or, slice_set, slice_get, Option, Some, None}
use Rattle.loop_core.specs.declared.nest.Nest.{Nest}
use Rattle.loop_core.specs.declared.place.Place.{Place}
use Rattle.loop_core.specs.Lists.{Lists, entry, written}
use Rattle.loop_core.specs.Instances.{Formula, Effect, Sets, Keeps, Instance, instances}
use Rattle.loop_core.specs.Values.{reads, value_of}

-- the word at a place, and 0 outside its list
abbrev pub word_of : List (List ℤ) → Place → ℤ
word_of x p = entry x p.array p.at

-- the words that a formula reads, from left to right
abbrev pub words_read : List (List ℤ) → Formula → List ℤ
words_read x f = map (word_of x) (reads f)

abbrev pub formula_value : List (List ℤ) → List ℤ → Formula → ℤ
formula_value x locals f = value_of f locals (words_read x f)

-- the data lists, and the locals of the current row
pub record State : Type 0 where
  pub lists : List (List ℤ)
  pub locals : List ℤ

-- a value is set at a place, where a write outside the list does nothing, or kept in a local
abbrev pub done : Effect → ℤ → State → State
done (Sets p) word y = record { lists = written y.lists p.array p.at word; locals = y.locals }
done (Keeps local) word y = record { lists = y.lists; locals = slice_set y.locals local word }

-- the state after one instance
abbrev pub after_one : Instance → State → State
after_one s y = done s.effect (formula_value y.lists y.locals s.value) y

-- and after several, in order
abbrev pub after_all : List Instance → State → State
after_all [] y = y
after_all (s ∷ more) y = after_all more (after_one s y)

abbrev pub zeros : List ℤ
zeros = replicate 16 (pos 0)

-- a row begins with all locals 0
abbrev pub fresh : List (List ℤ) → State
fresh x = record { lists = x; locals = zeros }

-- the data lists after a row
abbrev pub after_row : List Instance → List (List ℤ) → List (List ℤ)
after_row row x = (after_all row (fresh x)).lists

-- the data lists after the first so many iterations
abbrev pub after_rows : Nest → Lists → List (List ℤ) → ℕ → List (List ℤ)
after_rows nest a x zero = x
after_rows nest a x (suc i) = after_row (instances a nest (pos i)) (after_rows nest a x i)

-- the data lists after the loop
abbrev pub sequential : Nest → Lists → List (List ℤ) → List (List ℤ)
sequential nest a x = after_rows nest a x a.n

-- the state just before instance k of iteration i
abbrev pub before : Nest → Lists → List (List ℤ) → ℕ → ℕ → State
before nest a x i k = after_all (take k (instances a nest (pos i))) (fresh (after_rows nest a x i))

abbrev pub read_by : List (List ℤ) → Option Instance → ℕ → ℤ
read_by x None r = pos 0
read_by x (Some s) r = slice_index_or (words_read x s.value) r (pos 0)

-- the word that read r of instance k of iteration i finds
abbrev pub sequential_read : Nest → Lists → List (List ℤ) → ℕ → ℕ → ℕ → ℤ
sequential_read nest a x i k r = read_by (before nest a x i k).lists (slice_get (instances a nest (pos i)) k) r
