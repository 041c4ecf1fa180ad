-- The arrays of files that were read, and what refuses them after that.
use Rattle.std.proofs.Common.{◌≡◌, ◌<◌, ◌∙◌, ◌⊎◌, inl, inr, ℕ, ◌+◌, ℤ, List, [], ◌∷◌, ap, arith, drop, length, slice_get, slice_index_or, Some, sym, subst}
use Rattle.wave_main.specs.declared.input.ReadFiles.{ReadFiles}
use Rattle.wave_main.specs.declared.status.Status.{Status}
use Rattle.wave_main.specs.declared.status.Status.TheVariants.{Memory, Shape}
use Rattle.wave_main.specs.declared.status.ShapeKind.TheVariants.{Order}
use Rattle.access_bounds.specs.Accepted.{IsAccepted}
use Rattle.mtx_read.specs.declared.triples.Triples.{Triples}
use Rattle.wave_main.specs.Loops.{IsLoop}
use Rattle.wave_main.specs.Files.{Inputs}
use Rattle.wave_main.specs.Matrices.{vectors_of}
use Rattle.wave_main.specs.Orders.{IsFirstOdd, IsNumber, order_of}
use Rattle.wave_main.specs.Reading.{HasArrays, IsReadFrom}
use Rattle.wave_main.specs.Stages.{Breaks, Disorders, OfOrder, OfProperties, Accepts}
use Rattle.wave_main.proofs.StageLaws.{StoppedBy}

-- all vectors are those of the loop's arrays
pub all_arrays : (files : Inputs) (read : ReadFiles) (first : ℕ) → IsReadFrom files read → files.first ≡ first → files.skips ≡ 0 → HasArrays files read first
all_arrays files read first is named none = record {
  good = is.good;
  vectors_are = is.vectors_are ∙ ap (λ n. drop n (vectors_of files.vectors)) (sym none);
  named = omega (arith, named, none);
}

-- all but the first are
pub others_are_arrays : (files : Inputs) (read left : ReadFiles) (first : ℕ) → IsReadFrom files read → left.nest ≡ read.nest → left.matrix ≡ read.matrix → left.vectors.items ≡ drop 1 read.vectors.items
    → files.first ≡ first → files.skips ≡ 1 → HasArrays files left (first + 1)
others_are_arrays files read left first is nest matrix fewer named one = record {
  good = record {
    is_loop = subst (λ n. IsLoop files.loop_file n) (sym nest) is.good.is_loop;
    accepted = subst IsAccepted (sym nest) is.good.accepted;
    matrix_fine = is.good.matrix_fine;
    matrix_is = is.good.matrix_is ∙ ap (λ (t : Triples). (t.rows, t.columns, t.entries)) (sym matrix);
    vectors_fine = is.good.vectors_fine;
  };
  vectors_are = fewer ∙ ap (λ (vs : List (List ℤ)). drop 1 vs) is.vectors_are ∙ ap (λ n. drop n (vectors_of files.vectors)) (sym one);
  named = omega (arith, named, one);
}

pub property_stops : (files : Inputs) (status : Status) → (status ≡ Memory) ⊎ Breaks files status → StoppedBy (OfProperties ∷ []) files status
property_stops files status cause = elim cause [ inl want ↦ inl want | inr broken ↦ inr (inl broken) ]

pub order_stops : (files : Inputs) (workers : ℕ) (status : Status) → (status ≡ Memory) ⊎ Disorders workers files status → StoppedBy (OfOrder workers ∷ OfProperties ∷ []) files status
order_stops files workers status cause = elim cause [ inl want ↦ inl want | inr odd ↦ inr (inl odd) ]

pub property_after_order : (files : Inputs) (workers : ℕ) (status : Status) → Accepts (OfOrder workers) files → (status ≡ Memory) ⊎ Breaks files status → StoppedBy (OfOrder workers ∷ OfProperties ∷ []) files status
property_after_order files workers status fine cause = elim cause [ inl want ↦ inl want | inr broken ↦ inr (inr (fine, inl broken)) ]

-- the first of some vectors, whatever stands for it where there are none
pub first_vector : (vs all : List (List ℤ)) (v : List ℤ) → vs ≡ all → 0 < length vs → v ≡ slice_index_or vs 0 v → v ≡ order_of all
first_vector [] all v same some is = absurd (omega (arith, some))
first_vector (w ∷ vs) all v same some is = is ∙ ap (λ (l : List (List ℤ)). slice_index_or l 0 []) same

-- a refusal of entries is one of the order of the files, which they are
pub same_disorder : (files : Inputs) (workers : ℕ) (entries : List ℤ) → entries ≡ order_of (vectors_of files.vectors) → (status : Status)
    → (status ≡ Memory) ⊎ ((place : ℕ) × (value : ℤ) × IsFirstOdd workers entries place value × (status ≡ Shape (Order place value))) → (status ≡ Memory) ⊎ Disorders workers files status
same_disorder files workers entries same status cause = elim cause [
  | inl want ↦ inl want
  | inr (place, value, first, is) ↦ inr (place, value, subst (λ (l : List ℤ). IsFirstOdd workers l place value) same first, is)
]

pub order_accepted : (files : Inputs) (workers : ℕ) (entries : List ℤ) → entries ≡ order_of (vectors_of files.vectors)
    → ((place : ℕ) (value : ℤ) → slice_get entries place ≡ Some value → IsNumber workers value) → Accepts (OfOrder workers) files
order_accepted files workers entries same numbers status (place, value, first, is) =
    let there : IsFirstOdd workers entries place value = subst (λ (l : List ℤ). IsFirstOdd workers l place value) (sym same) first in
    there.odd (numbers place value there.there)
