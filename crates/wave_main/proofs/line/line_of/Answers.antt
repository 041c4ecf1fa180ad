use Rattle.std.proofs.Common.{ℕ, ◌≡◌, ◌++◌, ◌∷◌, List, length, suc, ap, subst, append_assoc, ◌∙◌, arith}
use Rattle.std.specs.List.{All}
use Rattle.wave_main.specs.declared.line.Piece.{Piece}
use Rattle.wave_main.specs.Pieces.{piece_text, texts_of, IsShort}
use Rattle.wave_main.specs.Status.{after_word, spaced}
use Rattle.wave_main.proofs.line.line_of.Goals as goal

put_on : (old pushed new gap : List ℕ) (word : Piece) (after rest : List Piece) → pushed ≡ old ++ piece_text word → new ≡ pushed ++ gap → gap ≡ after_word (texts_of after) → rest ≡ word ∷ after
    → new ++ spaced (texts_of after) ≡ old ++ spaced (texts_of rest)
put_on old pushed new gap word after rest p n g r =
    let text = piece_text word in
    let end = after_word (texts_of after) in
    let more = spaced (texts_of after) in
    rw (n, p, g, r) (ap (λ x. x ++ more) (append_assoc old text end) ∙ append_assoc old (text ++ end) more)

others_short : (rest after : List Piece) (word : Piece) → rest ≡ word ∷ after → All IsShort rest → All IsShort after
others_short rest after word r short =
    let P : List Piece → Type 0 = λ l. All IsShort l in
    let all = subst P r short in λ k d below. all (suc k) d (omega (arith, below))

pub loop-word-preserved : goal.loop-word-preserved
loop-word-preserved c = record {
  whole = put_on c.loop-word.line.bytes c.push_word.new.line.bytes c.push_str.new.self.bytes c.after_word.result.now c.in-Some.word c.in-Some.after.now c.loop-word.rest.now c.push_word.ensures.bytes c.push_str.ensures.bytes c.after_word.ensures.end c.in-Some.ensures ∙ c.loop-word.invariant.whole;
  room = omega (arith, ap length c.in-Some.ensures, c.loop-word.invariant.room, c.push_word.ensures.room, c.push_str.ensures.len, c.after_word.ensures.one);
  short = others_short c.loop-word.rest.now c.in-Some.after.now c.in-Some.word c.in-Some.ensures c.loop-word.invariant.short;
}
