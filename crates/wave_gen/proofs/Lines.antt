-- A line of three words, and what follows it.
use Rattle.std.proofs.Common.{◌≡◌, ℕ, ◌+◌, ◌<◌, false, List, [], ◌∷◌, ◌++◌, length, refl, ap, ◌∙◌, append_assoc, arith}
use Rattle.std.specs.Prelude.{codes}
use Rattle.text_base.specs.Lines.{lines, after_line}
use Rattle.text_base.specs.LineWords.{line_words}
use Rattle.text_base.specs.Words.{is_some_word}
use Rattle.text_base.proofs.LineLaws.{lines_first}
use Rattle.text_base.proofs.QuickLaws.{line_parts, Closes, parts_blank, word_closed}
use Rattle.mtx_read.specs.Reading.{is_skipped, kept}
use Rattle.wave_gen.proofs.Numbers.{IsWord}

abbrev pub line_text : List ℕ → List ℕ → List ℕ → List ℕ
line_text a b c = a ++ codes " " ++ b ++ codes " " ++ c ++ codes "\n"

regrouped : (a b c t : List ℕ) → line_text a b c ++ t ≡ a ++ (32 ∷ (b ++ (32 ∷ (c ++ (10 ∷ t)))))
regrouped a b c t = simp append_assoc

gap : (s : List ℕ) → Closes (32 ∷ s) (line_words s) (after_line s)
gap s = record { parts = line_parts s; closed = parts_blank 32 s refl; words = refl; after = refl }

feed : (t : List ℕ) → Closes (10 ∷ t) [] t
feed t = record { parts = []; closed = refl; words = refl; after = refl }

three_words : (a b c t : List ℕ) → IsWord a → IsWord b → IsWord c → (line_words (a ++ (32 ∷ (b ++ (32 ∷ (c ++ (10 ∷ t)))))) ≡ a ∷ b ∷ c ∷ []) × (after_line (a ++ (32 ∷ (b ++ (32 ∷ (c ++ (10 ∷ t)))))) ≡ t)
three_words a b c t p q r =
    let third = c ++ (10 ∷ t) in
    let second = b ++ (32 ∷ third) in
    let l3 = word_closed third c (10 ∷ t) [] t r.some (r.passes (10 ∷ t)) (feed t) in
    let l2 = word_closed second b (32 ∷ third) (line_words third) (after_line third) q.some (q.passes (32 ∷ third)) (gap third) in
    let l1 = word_closed (a ++ (32 ∷ second)) a (32 ∷ second) (line_words second) (after_line second) p.some (p.passes (32 ∷ second)) (gap second) in
    (l1.0 ∙ ap (λ (ws : List (List ℕ)). a ∷ ws) (l2.0 ∙ ap (λ (ws : List (List ℕ)). b ∷ ws) l3.0), l1.1 ∙ l2.1 ∙ l3.1)

first_kept : (k : ℕ) (s t : List ℕ) (ws : List (List ℕ)) → 0 < length s → line_words s ≡ ws → after_line s ≡ t → is_skipped ws ≡ false → kept k (lines s) ≡ (k, ws) ∷ kept (k + 1) (lines t)
first_kept k [] t ws lt e f g = absurd (omega arith)
first_kept k (b ∷ s) t ws lt e f g = ap (kept k) (lines_first b s) ∙ rw (e, f, g) refl

some_bytes : (w t : List ℕ) → IsWord w → 0 < length (w ++ t)
some_bytes [] t h = let e : false ≡ is_some_word [] = refl in absurd (cc h.some)
some_bytes (b ∷ w) t h = omega arith

-- the line is kept, and the others follow
pub line_kept : (k : ℕ) (a b c t : List ℕ) → IsWord a → IsWord b → IsWord c → kept k (lines (line_text a b c ++ t)) ≡ (k, a ∷ b ∷ c ∷ []) ∷ kept (k + 1) (lines t)
line_kept k a b c t p q r =
    let three = three_words a b c t p q r in
    ap (λ (s : List ℕ). kept k (lines s)) (regrouped a b c t)
    ∙ first_kept k (a ++ (32 ∷ (b ++ (32 ∷ (c ++ (10 ∷ t)))))) t (a ∷ b ∷ c ∷ []) (some_bytes a _ p) three.0 three.1 p.begins
