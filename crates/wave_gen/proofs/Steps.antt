-- One step of a loop that puts entries or adds places.
use Rattle.std.proofs.Common.{◌≡◌, ℕ, suc, ℤ, pos, ◌+ℤ◌, ◌+◌, ◌-◌, ◌<◌, ◌≤◌, List, [], ◌∷◌, ◌++◌, refl, sym, ap, subst, ◌∙◌, append_assoc, w64, arith}
use Rattle.std.specs.List.{flat_map, fold, range_with_len}
use Rattle.std.proofs.lemmas.Int.{int_wrap-add_left, int_wrap-add_right}
use Rattle.std.proofs.lemmas.List.{append-nil}
use Rattle.std.proofs.lemmas.List.Sums.{fold-append}
use Rattle.std.proofs.lemmas.List.Concat.{flat_map-append}
use Rattle.csr_arrays.specs.Axes.{Triple}
use Rattle.csr_arrays.specs.declared.compressed.Compressed.{Compressed}
use Rattle.csr_arrays.proofs.Buckets as csr
use Rattle.wave_base.specs.Word.{wrapped, wrapped_sum}
use Rattle.wave_gen.specs.Texts.{entry_text, entries_text}
use Rattle.wave_gen.specs.Draws.{next}
use Rattle.wave_gen.specs.RightSide.{natural, word, term, row_sum}
use Rattle.wave_gen.specs.Lower.{lefts, after_lefts, diagonal, rows_from}

-- the first of the numbers left
pub range_next : (i n : ℕ) → i < n → range_with_len i (n - i) ≡ i ∷ range_with_len (i + 1) (n - (i + 1))
range_next i n lt = let e : n - i ≡ suc (n - (i + 1)) = omega arith in rw e refl

-- entries were put, and the others are left
pub put : (xs ys : List Triple) (before after whole : List ℕ) → after ≡ before ++ entries_text xs → before ++ entries_text (xs ++ ys) ≡ whole → after ++ entries_text ys ≡ whole
put xs ys before after whole e h =
    ap (λ (t : List ℕ). t ++ entries_text ys) e ∙ append_assoc before (entries_text xs) (entries_text ys)
    ∙ ap (λ (t : List ℕ). before ++ t) (sym (flat_map-append entry_text xs ys)) ∙ h

pub put_each : (f : ℕ → List Triple) (i n : ℕ) (before after whole : List ℕ) → i < n → after ≡ before ++ entries_text (f i) → before ++ entries_text (flat_map f (range_with_len i (n - i))) ≡ whole → after ++ entries_text (flat_map f (range_with_len (i + 1) (n - (i + 1)))) ≡ whole
put_each f i n before after whole lt e h =
    put (f i) (flat_map f (range_with_len (i + 1) (n - (i + 1)))) before after whole e
    (ap (λ (l : List ℕ). before ++ entries_text (flat_map f l)) (sym (range_next i n lt)) ∙ h)

range_more : (first at : ℕ) → first ≤ at → range_with_len first (at + 1 - first) ≡ range_with_len first (at - first) ++ at ∷ []
range_more first at le =
    let more : at + 1 - first ≡ (at - first) + 1 = omega arith in
    let last : first + (at - first) ≡ at = omega arith in
    rw more (subst (λ (k : ℕ). range_with_len first ((at - first) + 1) ≡ range_with_len first (at - first) ++ k ∷ []) last (csr.range_more first (at - first)))

abbrev sum_of : (ℕ → ℤ) → List ℕ → ℤ
sum_of f ps = fold (λ z p. z +ℤ f p) (pos 0) ps

-- one place more of a wrapped sum
pub sum_more : (f : ℕ → ℤ) (first at : ℕ) (sum more next : ℤ) → first ≤ at → sum ≡ wrapped (sum_of f (range_with_len first (at - first))) → more ≡ wrapped (f at) → next ≡ wrapped_sum sum more → next ≡ wrapped (sum_of f (range_with_len first (at + 1 - first)))
sum_more f first at sum more next le s m n =
    let so = sum_of f (range_with_len first (at - first)) in
    n ∙ ap (λ (z : ℤ). wrapped (z +ℤ more)) s ∙ int_wrap-add_left w64 so more
    ∙ ap (λ (z : ℤ). wrapped (so +ℤ z)) m ∙ int_wrap-add_right w64 so (f at)
    ∙ ap wrapped (sym (fold-append (λ (z : ℤ) (p : ℕ). z +ℤ f p) (pos 0) (range_with_len first (at - first)) (at ∷ [])))
    ∙ ap (λ (l : List ℕ). wrapped (sum_of f l)) (sym (range_more first at le))

-- the entries of one row of a drawn matrix were put
pub put_drawn : (n i s t : ℕ) (before between after whole : List ℕ) → i < n → between ≡ before ++ entries_text (lefts i s) → t ≡ after_lefts i s → after ≡ between ++ entry_text (diagonal i t) → before ++ entries_text (rows_from (n - i) i s) ≡ whole → after ++ entries_text (rows_from (n - (i + 1)) (i + 1) (next t)) ≡ whole
put_drawn n i s t before between after whole lt e is f h =
    let more : n - i ≡ suc (n - (i + 1)) = omega arith in
    let d = diagonal i t ∷ [] in
    let rest = rows_from (n - (i + 1)) (i + 1) (next t) in
    let rows : rows_from (n - i) i s ≡ lefts i s ++ (d ++ rest) = rw (more, is) (append_assoc (lefts i s) (diagonal i (after_lefts i s) ∷ []) (rows_from (n - (i + 1)) (i + 1) (next (after_lefts i s)))) in
    let first = put (lefts i s) (d ++ rest) before between whole e (ap (λ (l : List Triple). before ++ entries_text l) (sym rows) ∙ h) in
    let one : after ≡ between ++ entries_text d = f ∙ ap (λ (l : List ℕ). between ++ l) (sym (append-nil (entry_text (diagonal i t)))) in
    put d rest between after whole one first

-- all places of a row are done
pub sum_all : (m : Compressed) (i first end n : ℕ) → n ≡ end - first → first ≡ natural (word m.ptr i) → end ≡ natural (word m.ptr (i + 1)) → wrapped (sum_of (term m i) (range_with_len first n)) ≡ row_sum m i
sum_all m i first end n e f g = rw (e, f, g) refl
