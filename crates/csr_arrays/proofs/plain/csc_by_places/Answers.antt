use Rattle.std.proofs.Common.{◌≡◌, ℕ, ◌<◌, List, map, subst, sym, ap, ◌∙◌}
use Rattle.std.specs.List.{All}
use Rattle.std.proofs.lemmas.List.Elements.{All-map}
use Rattle.csr_arrays.specs.Axes.{Triple, flipped, Inside}
use Rattle.csr_arrays.proofs.plain.csc_by_places.Goals as goal

pub by_places-requires-clause-inside : goal.by_places-requires-clause-inside
by_places-requires-clause-inside c =
    let n = c.args.t.now.rows in
    let ts = c.args.t.now.entries in
    let inside : Inside n ts = subst (λ (m : ℕ). All (λ (e : Triple). (e.0 < n) × (e.1 < m)) ts) c.requires.square c.requires.inside in
    let is : c.as_slice-2.result.now ≡ map flipped ts = c.as_slice-2.ensures.value ∙ c.in_ok-entries.ensures ∙ ap (map flipped) c.as_slice.ensures in
    subst (λ (l : List Triple). Inside n l) (sym is) (All-map (λ (t : Triple). (t.0 < n) × (t.1 < n)) flipped ts (λ k d lt. let h = inside k d lt in (h.1, h.0)))
