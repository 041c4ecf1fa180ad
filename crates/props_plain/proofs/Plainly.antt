-- One more entry, of which those of one array are taken.
use Rattle.std.proofs.Common.{ℕ, ◌≡◌, ◌<◌, ◌+◌, Bool, true, List, [], ◌∷◌, ◌++◌, length, get_or, map, take, sym, ap, ◌∙◌, append_assoc}
use Rattle.std.specs.List.{flat_map}
use Rattle.std.proofs.lemmas.List.{take_more, flat_map_more, map-append}
use Rattle.std.proofs.lemmas.List.Concat.{flat_map-append}
use Rattle.wave_base.specs.declared.types.ArrayId.{ArrayId}
use Rattle.std.specs.Prelude.{if◌then◌else◌}
use Rattle.loop_core.specs.declared.decl.Decl.{Decl}
use Rattle.uf_constraints.specs.Universe.{next}
use Rattle.index_props.specs.Entries.{EntryTerms, SegmentTerms, if_of, of_array, entry_of, has_entry}
use Rattle.index_props.specs.Rules.{segment_from}

those_more : (f : ArrayId) (es : List EntryTerms) (k : ℕ) (x : EntryTerms) → k < length es → x ≡ get_or es k x → of_array f (take (k + 1) es) ≡ of_array f (take k es) ++ if_of f x
those_more f es k x lt here =
    ap (of_array f) (take_more es k x lt ∙ ap (λ y. take k es ++ y ∷ []) (sym here)) ∙ sym (flat_map_more (if_of f) [] (take k es) x)

pub those_flat_step : {A : Type 0} (h : EntryTerms → List A) (f : ArrayId) (first old new : List A) (es : List EntryTerms) (k : ℕ) (x : EntryTerms) → k < length es → x ≡ get_or es k x → old ≡ first ++ flat_map h (of_array f (take k es)) → new ≡ old ++ flat_map h (if_of f x) → new ≡ first ++ flat_map h (of_array f (take (k + 1) es))
those_flat_step h f first old new es k x lt here before after =
    let seen = of_array f (take k es) in
    after ∙ ap (λ l. l ++ flat_map h (if_of f x)) before ∙ append_assoc first (flat_map h seen) (flat_map h (if_of f x))
    ∙ ap (λ l. first ++ l) (sym (flat_map-append h seen (if_of f x)) ∙ ap (flat_map h) (sym (those_more f es k x lt here)))

pub those_map_step : {A : Type 0} (h : EntryTerms → A) (f : ArrayId) (first old new : List A) (es : List EntryTerms) (k : ℕ) (x : EntryTerms) → k < length es → x ≡ get_or es k x → old ≡ first ++ map h (of_array f (take k es)) → new ≡ old ++ map h (if_of f x) → new ≡ first ++ map h (of_array f (take (k + 1) es))
those_map_step h f first old new es k x lt here before after =
    let seen = of_array f (take k es) in
    after ∙ ap (λ l. l ++ map h (if_of f x)) before ∙ append_assoc first (map h seen) (map h (if_of f x))
    ∙ ap (λ l. first ++ l) (sym (map-append h seen (if_of f x)) ∙ ap (map h) (sym (those_more f es k x lt here)))

pub those_each_step : {B A : Type 0} (h : B → A) (g : EntryTerms → List B) (f : ArrayId) (first old new : List A) (es : List EntryTerms) (k : ℕ) (x : EntryTerms) → k < length es → x ≡ get_or es k x → old ≡ first ++ map h (flat_map g (of_array f (take k es))) → new ≡ old ++ map h (flat_map g (if_of f x)) → new ≡ first ++ map h (flat_map g (of_array f (take (k + 1) es)))
those_each_step h g f first old new es k x lt here before after =
    let seen = of_array f (take k es) in
    let more = flat_map g (if_of f x) in
    after ∙ ap (λ l. l ++ map h more) before ∙ append_assoc first (map h (flat_map g seen)) (map h more)
    ∙ ap (λ l. first ++ l) (sym (map-append h (flat_map g seen) more) ∙ ap (map h) (sym (flat_map-append g seen (if_of f x)) ∙ ap (flat_map g) (sym (those_more f es k x lt here))))

-- the segment that begins at an entry, where the next one is there too
pub begun : {A : Type 0} (h : SegmentTerms → A) (decls : List Decl) (p : ArrayId) (es : List EntryTerms) (e : EntryTerms) (b : Bool) (g : SegmentTerms) → b ≡ has_entry es p (next e.index) → b ≡ true → g ≡ record { start = e; stop = entry_of decls p (next e.index) } → h g ∷ [] ≡ map h (segment_from decls p es e)
begun h decls p es e b g is there here =
    let one : List SegmentTerms = record { start = e; stop = entry_of decls p (next e.index) } ∷ [] in
    ap (λ x. h x ∷ []) here ∙ sym (ap (λ c. map h (if c then one else [])) (sym is ∙ there))
