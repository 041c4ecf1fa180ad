-- Where the lists have their declared lengths, dependences are of touched cells.
use Rattle.std.proofs.Common.{◌≡◌, ◌⊎◌, inl, inr, ℕ, ◌<◌, ℤ, pos, true, List, length, refl, sym, subst}
use Rattle.std.specs.Prelude.{◌↔◌}
use Rattle.wave_base.specs.declared.types.ArrayId.{ArrayId}
use Rattle.wave_base.specs.declared.types.Cell.{Cell}
use Rattle.loop_core.specs.declared.nest.Nest.{Nest}
use Rattle.loop_core.specs.declared.place.Place.{Place}
use Rattle.loop_core.specs.Lists.{Lists, list_of}
use Rattle.loop_core.specs.Sizes.{declared_length}
use Rattle.loop_core.specs.Lengths.{HaveLengths}
use Rattle.loop_core.specs.Shape.{is_target}
use Rattle.loop_core.specs.IsNest.{IsNest}
use Rattle.loop_core.specs.Instances.{Instance, instances}
use Rattle.loop_core.specs.Touches.{Reads, Writes, IsTouchable, place_of, ReadsCell, WritesCell, Meet, Depends}
use Rattle.loop_core.proofs.PlacesSet.{set_is_target}
use Rattle.loop_core.proofs.TargetKinds.{target_is_data}

module _ (nest : Nest) (a : Lists) (x : List (List ℤ)) (is_nest : IsNest nest) (long : HaveLengths nest.decls a x) where
  abbrev row : ℕ → List Instance
  row i = instances a nest (pos i)

  -- both rows access the place, one of them by a write
  abbrev Both : ℕ → ℕ → Place → Type 0
  Both i j p = (Writes (row i) p × (Reads (row j) p ⊎ Writes (row j) p)) ⊎ (Reads (row i) p × Writes (row j) p)

  abbrev BothTouch : ℕ → ℕ → Cell → Type 0
  BothTouch i j c = (WritesCell a nest i c × (ReadsCell a nest j c ⊎ WritesCell a nest j c)) ⊎ (ReadsCell a nest i c × WritesCell a nest j c)

  written_is_target : (i : ℕ) (p : Place) → Writes (row i) p → is_target nest p.array ≡ true
  written_is_target i p w = set_is_target a nest (pos i) w.0 p w.1 w.2

  has_target : (i j : ℕ) (p : Place) → Both i j p → is_target nest p.array ≡ true
  has_target i j p (inl b) = written_is_target i p b.0
  has_target i j p (inr b) = written_is_target j p b.1

  has_length : (array : ArrayId) → is_target nest array ≡ true → length (list_of x array) ≡ declared_length nest.decls a.n a.nnz array
  has_length array t = long.of_data array (target_is_data nest array is_nest t)

  touching : (i j : ℕ) (c : Cell) → IsTouchable a nest c → Both i j (place_of c) → BothTouch i j c
  touching i j c h (inl (w, inl r)) = inl ((h, w), inl (h, r))
  touching i j c h (inl (w, inr v)) = inl ((h, w), inr (h, v))
  touching i j c h (inr (r, w)) = inr ((h, r), (h, w))

  accessing : (i j : ℕ) (c : Cell) → BothTouch i j c → IsTouchable a nest c × Both i j (place_of c)
  accessing i j c (inl ((h, w), inl (g, r))) = (h, inl (w, inl r))
  accessing i j c (inl ((h, w), inr (g, v))) = (h, inl (w, inr v))
  accessing i j c (inr ((h, r), (g, w))) = (h, inr (r, w))

  forth : (i j : ℕ) → Depends a nest x i j → (i < j) × (j < a.n) × Meet a nest i j
  forth i j (lt, below, (p, (k, at, inside), b)) =
      let c : Cell = record { array = p.array; at = k } in
      let same : place_of c ≡ p = λ i. record { array = p.array; at = sym at i } in
      let t = has_target i j p b in
      let h : IsTouchable a nest c = (t, subst (λ (n : ℕ). k < n) (has_length p.array t) inside) in
      (lt, below, (c, touching i j c h (subst (Both i j) (sym same) b)))

  back : (i j : ℕ) → (i < j) × (j < a.n) × Meet a nest i j → Depends a nest x i j
  back i j (lt, below, (c, m)) =
      let r = accessing i j c m in
      let inside = subst (λ (n : ℕ). c.at < n) (sym (has_length c.array r.0.0)) r.0.1 in
      (lt, below, (place_of c, (c.at, refl, inside), r.1))

  pub meetings : (i j : ℕ) → Depends a nest x i j ↔ ((i < j) × (j < a.n) × Meet a nest i j)
  meetings i j = (forth i j, back i j)
