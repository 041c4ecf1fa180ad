-- The value of an expression over the locals of its row, whose reads take words from two lists: those of arrays that the
-- nest writes from the one, those of other arrays from the other.
use Rattle.std.specs.Prelude.{ℕ, ℤ, pos, Bool, false, not, if◌then◌else◌, List, map, drop, slice_index_or}
use Rattle.std.specs.List.{filter}
use Rattle.wave_base.specs.declared.types.ArrayId.{ArrayId}
use Rattle.loop_core.specs.declared.nest.Nest.{Nest}
use Rattle.loop_core.specs.declared.place.Place.{Place}
use Rattle.loop_core.specs.declared.nest.Expr.{Expr}
use Rattle.loop_core.specs.declared.nest.Expr.TheOpen.{Expr-F}
use Rattle.loop_core.specs.declared.nest.Expr.TheFolds.{fold-Expr}
use Rattle.loop_core.specs.Shape.{is_target}
use Rattle.loop_core.specs.Instances.{Formula}
use Rattle.loop_core.specs.Values.{operated, reads}
use Rattle.loop_core.specs.Sequence.{word_of}

-- a value, and what is left of the two lists
pub record Taken : Type 0 where
  pub value : ℤ
  pub registers : List ℤ
  pub others : List ℤ

abbrev pub first_of : List ℤ → ℤ
first_of words = slice_index_or words 0 (pos 0)

abbrev pub taken_step : (ArrayId → Bool) → List ℤ → Expr-F (List ℤ → List ℤ → Taken) → List ℤ → List ℤ → Taken
taken_step writes locals (Expr-F.Lit value) registers others = record { value = value; registers = registers; others = others }
taken_step writes locals (Expr-F.Read array at) registers others =
    if writes array then (record { value = first_of registers; registers = drop 1 registers; others = others })
    else (record { value = first_of others; registers = registers; others = drop 1 others })
taken_step writes locals (Expr-F.Local local) registers others =
    record { value = slice_index_or locals local (pos 0); registers = registers; others = others }
taken_step writes locals (Expr-F.Op op left right) registers others =
    let a : Taken = left registers others in
    let b : Taken = right a.registers a.others in
    record { value = operated op a.value b.value; registers = b.registers; others = b.others }

abbrev pub taken : (ArrayId → Bool) → List ℤ → Expr → List ℤ → List ℤ → Taken
taken writes locals = fold-Expr (List ℤ → List ℤ → Taken) (taken_step writes locals)

-- whether an array is written, by a list of flags
abbrev pub flagged : List Bool → ArrayId → Bool
flagged flags array = slice_index_or flags array.0 false

-- the words that a formula reads of arrays that the nest doesn't write, from left to right
abbrev pub other_words : Nest → List (List ℤ) → Formula → List ℤ
other_words nest x f = map (word_of x) (filter (λ (p : Place). not (is_target nest p.array)) (reads f))
