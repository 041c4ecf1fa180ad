-- The arrays that a team leaves are printed as those of the loop run in order.
use Rattle.std.proofs.Common.{◌≡◌, Bool, true, false, ◌++◌, List, [], ◌∷◌, ℕ, ℤ, refl, ap, if◌then◌else◌}
use Rattle.std.specs.List.{flat_map}
use Rattle.loop_core.specs.declared.nest.Nest.{Nest}
use Rattle.loop_core.specs.Lists.{list_of}
use Rattle.loop_core.specs.Sequence.{sequential}
use Rattle.loop_core.specs.Shape.{is_target}
use Rattle.core_machine.specs.declared.work.Work.{Work}
use Rattle.done_words.specs.Sound.{IsClosed}
use Rattle.wave_report.specs.ArrayText.{DataArray, array_text, arrays_text, data_arrays, written_text}

-- a list is printed only where the nest writes its array
shown : (b : Bool) (name : List ℕ) (v u : List ℤ) → (b ≡ true → v ≡ u) → (if b then array_text name v else []) ≡ (if b then array_text name u else [])
shown true name v u same = ap (array_text name) (same refl)
shown false name v u same = refl

same_lists : (w : Work) (before after : List (List ℤ)) → IsClosed w before after → (arrays : List DataArray)
    → flat_map (written_text w.nest after) arrays ≡ flat_map (written_text w.nest (sequential w.nest w.arrays w.values)) arrays
same_lists w before after closed [] = refl
same_lists w before after closed (d ∷ more) =
    let ended = sequential w.nest w.arrays w.values in
    let first : written_text w.nest after d ≡ written_text w.nest ended d = shown (is_target w.nest d.array) d.name (list_of after d.array) (list_of ended d.array) (closed.written d.array) in
    let rest = same_lists w before after closed more in
    λ i. first i ++ rest i

pub closed_text : (w : Work) (before after : List (List ℤ)) → IsClosed w before after → arrays_text w.nest after ≡ arrays_text w.nest (sequential w.nest w.arrays w.values)
closed_text w before after closed = same_lists w before after closed (data_arrays 0 w.nest.decls)
