-- The pieces of a line, word by word from the left.
use Rattle.std.proofs.Common.{◌≡◌, ℕ, ◌≤◌, ◌<◌, Bool, true, false, ◌&&◌, cond, eqb, List, [], ◌∷◌, ◌++◌, length, Option, Some, None, refl, sym, ap, subst, ◌∙◌, arith, append_assoc}
use Rattle.std.proofs.lemmas.List.{append-nil}
use Rattle.std.proofs.lemmas.Bool.Decides.{nat_tests}
use Rattle.text_base.specs.Words.{is_blank, after_blanks}
use Rattle.loop_core.specs.Names.{is_name_byte}
use Rattle.loop_lines.specs.declared.token.Token.{Token}
use Rattle.loop_lines.specs.declared.token.Token.TheVariants as tokens
use Rattle.loop_lines.specs.Reading.{◌>>=◌}
use Rattle.loop_lines.specs.Words.{word_token, dotted}
use Rattle.loop_lines.specs.Tokens.{Mark, Piece, sign, signed, mark, onto_run, pieces, before, before_word, tokens_of}
use Rattle.loop_lines.specs.TokenReading.{front_run, after_run, starts_run, starts_with, tail, with_rest, run_at, point_at, equals_at, below_at, mark_at, token_at}

-- a case split that keeps its equation
known : (P : Bool → Type 0) (b : Bool) → ((b ≡ true) → P true) → ((b ≡ false) → P false) → P b
known P true t f = t refl
known P false t f = f refl

-- ---- runs

longer : (b : ℕ) (s : List ℕ) → onto_run b (pieces s) ≡ Piece.Run (b ∷ front_run s) ∷ pieces (after_run s)
longer b [] = refl
longer b (c ∷ s) =
    known (λ v. onto_run b (cond v (onto_run c (pieces s)) (Piece.One (mark c) ∷ pieces s)) ≡ Piece.Run (b ∷ cond v (c ∷ front_run s) []) ∷ pieces (cond v (after_run s) (c ∷ s))) (is_name_byte c)
    (λ d. ap (onto_run b) (longer c s)) (λ d. rw d refl)

-- a run at the front is one piece
run_piece : (s : List ℕ) → starts_run s ≡ true → pieces s ≡ Piece.Run (front_run s) ∷ pieces (after_run s)
run_piece [] e = absurd cc
run_piece (b ∷ s) e = rw e (longer b s)

run_ends : (s : List ℕ) → starts_run (after_run s) ≡ false
run_ends [] = refl
run_ends (b ∷ s) = known (λ v. starts_run (cond v (after_run s) (b ∷ s)) ≡ false) (is_name_byte b) (λ d. run_ends s) (λ d. d)

-- ---- marks

abbrev is_point : Mark → Bool
is_point Mark.Point = true
is_point _ = false

abbrev is_equals : Mark → Bool
is_equals Mark.Equals = true
is_equals _ = false

point_other : (m : Mark) (ps : List Piece) → is_point m ≡ false → tokens_of (Piece.One Mark.Point ∷ Piece.One m ∷ ps) ≡ None
point_other Mark.Point ps e = absurd cc
point_other _ ps e = refl

word_other : (w : List ℕ) (m : Mark) (ps : List Piece) → is_point m ≡ false → tokens_of (Piece.Run w ∷ Piece.One m ∷ ps) ≡ before_word (word_token w) (tokens_of (Piece.One m ∷ ps))
word_other w Mark.Point ps e = absurd cc
word_other w _ ps e = refl

equals_other : (m : Mark) (ps : List Piece) → is_equals m ≡ false → tokens_of (Piece.One Mark.Equals ∷ Piece.One m ∷ ps) ≡ before tokens.Assign (tokens_of (Piece.One m ∷ ps))
equals_other Mark.Equals ps e = absurd cc
equals_other _ ps e = refl

below_other : (m : Mark) (ps : List Piece) → is_equals m ≡ false → tokens_of (Piece.One Mark.Angle ∷ Piece.One m ∷ ps) ≡ before tokens.Less (tokens_of (Piece.One m ∷ ps))
below_other Mark.Equals ps e = absurd cc
below_other _ ps e = refl

signed_no_point : (o : Option Token) → is_point (signed o) ≡ false
signed_no_point None = refl
signed_no_point (Some t) = refl

signed_no_equals : (o : Option Token) → is_equals (signed o) ≡ false
signed_no_equals None = refl
signed_no_equals (Some t) = refl

no_point : (b : ℕ) → eqb b 46 ≡ false → is_point (mark b) ≡ false
no_point b e =
    let low : is_point (cond (is_blank b) Mark.Blank (signed (sign b))) ≡ false = known (λ v. is_point (cond v Mark.Blank (signed (sign b))) ≡ false) (is_blank b) (λ d. refl) (λ d. signed_no_point (sign b)) in
    let mid : is_point (cond (eqb b 60) Mark.Angle (cond (is_blank b) Mark.Blank (signed (sign b)))) ≡ false = known (λ v. is_point (cond v Mark.Angle (cond (is_blank b) Mark.Blank (signed (sign b)))) ≡ false) (eqb b 60) (λ d. refl) (λ d. low) in
    rw e (known (λ v. is_point (cond v Mark.Equals (cond (eqb b 60) Mark.Angle (cond (is_blank b) Mark.Blank (signed (sign b))))) ≡ false) (eqb b 61) (λ d. refl) (λ d. mid))

no_equals : (b : ℕ) → eqb b 61 ≡ false → is_equals (mark b) ≡ false
no_equals b e =
    let low : is_equals (cond (is_blank b) Mark.Blank (signed (sign b))) ≡ false = known (λ v. is_equals (cond v Mark.Blank (signed (sign b))) ≡ false) (is_blank b) (λ d. refl) (λ d. signed_no_equals (sign b)) in
    let mid : is_equals (cond (eqb b 60) Mark.Angle (cond (is_blank b) Mark.Blank (signed (sign b)))) ≡ false = known (λ v. is_equals (cond v Mark.Angle (cond (is_blank b) Mark.Blank (signed (sign b)))) ≡ false) (eqb b 60) (λ d. refl) (λ d. low) in
    rw e (known (λ v. is_equals (cond v Mark.Point (cond (eqb b 60) Mark.Angle (cond (is_blank b) Mark.Blank (signed (sign b))))) ≡ false) (eqb b 46) (λ d. refl) (λ d. mid))

-- ---- the token at the front

abbrev onward : Option (Token × List ℕ) → Option (List Token)
onward o = o >>= λ x. before x.0 (tokens_of (pieces x.1))

rest_onward : (rest : List ℕ) (o : Option Token) → before_word o (tokens_of (pieces rest)) ≡ onward (with_rest rest o)
rest_onward rest None = refl
rest_onward rest (Some t) = refl

byte_is : (b c : ℕ) → eqb b c ≡ true → b ≡ c
byte_is b c e = grind (arith, nat_tests)

point_is : (s : List ℕ) → tokens_of (Piece.One Mark.Point ∷ pieces s) ≡ onward (point_at s)
point_is [] = refl
point_is (c ∷ s) = known (λ v. tokens_of (Piece.One Mark.Point ∷ pieces (c ∷ s)) ≡ onward (cond v (Some (tokens.To, s)) None)) (eqb c 46)
    (λ d. rw (byte_is c 46 d) refl)
    (λ d. known (λ v. is_name_byte c ≡ v → tokens_of (Piece.One Mark.Point ∷ pieces (c ∷ s)) ≡ None) (is_name_byte c)
    (λ n m. rw (run_piece (c ∷ s) n) refl)
    (λ n m. rw n (point_other (mark c) (pieces s) (no_point c d))) refl)

equals_is : (s : List ℕ) → tokens_of (Piece.One Mark.Equals ∷ pieces s) ≡ onward (equals_at s)
equals_is [] = refl
equals_is (c ∷ s) = known (λ v. tokens_of (Piece.One Mark.Equals ∷ pieces (c ∷ s)) ≡ onward (cond v (Some (tokens.Equal, s)) (Some (tokens.Assign, c ∷ s)))) (eqb c 61)
    (λ d. rw (byte_is c 61 d) refl)
    (λ d. known (λ v. is_name_byte c ≡ v → tokens_of (Piece.One Mark.Equals ∷ pieces (c ∷ s)) ≡ before tokens.Assign (tokens_of (pieces (c ∷ s)))) (is_name_byte c)
    (λ n m. rw (run_piece (c ∷ s) n) refl)
    (λ n m. rw n (equals_other (mark c) (pieces s) (no_equals c d))) refl)

below_is : (s : List ℕ) → tokens_of (Piece.One Mark.Angle ∷ pieces s) ≡ onward (below_at s)
below_is [] = refl
below_is (c ∷ s) = known (λ v. tokens_of (Piece.One Mark.Angle ∷ pieces (c ∷ s)) ≡ onward (cond v (Some (tokens.AtMost, s)) (Some (tokens.Less, c ∷ s)))) (eqb c 61)
    (λ d. rw (byte_is c 61 d) refl)
    (λ d. known (λ v. is_name_byte c ≡ v → tokens_of (Piece.One Mark.Angle ∷ pieces (c ∷ s)) ≡ before tokens.Less (tokens_of (pieces (c ∷ s)))) (is_name_byte c)
    (λ n m. rw (run_piece (c ∷ s) n) refl)
    (λ n m. rw n (below_other (mark c) (pieces s) (no_equals c d))) refl)

signed_is : (s : List ℕ) (o : Option Token) → tokens_of (Piece.One (signed o) ∷ pieces s) ≡ onward (with_rest s o)
signed_is s None = refl
signed_is s (Some t) = refl

mark_is : (b : ℕ) (s : List ℕ) → is_blank b ≡ false → tokens_of (Piece.One (mark b) ∷ pieces s) ≡ onward (mark_at b s)
mark_is b s e =
    known (λ v. tokens_of (Piece.One (cond v Mark.Point (cond (eqb b 61) Mark.Equals (cond (eqb b 60) Mark.Angle (cond (is_blank b) Mark.Blank (signed (sign b)))))) ∷ pieces s) ≡ onward (cond v (point_at s) (cond (eqb b 61) (equals_at s) (cond (eqb b 60) (below_at s) (with_rest s (sign b)))))) (eqb b 46)
    (λ d. point_is s)
    (λ d. known (λ v. tokens_of (Piece.One (cond v Mark.Equals (cond (eqb b 60) Mark.Angle (cond (is_blank b) Mark.Blank (signed (sign b))))) ∷ pieces s) ≡ onward (cond v (equals_at s) (cond (eqb b 60) (below_at s) (with_rest s (sign b))))) (eqb b 61)
    (λ d. equals_is s)
    (λ d. known (λ v. tokens_of (Piece.One (cond v Mark.Angle (cond (is_blank b) Mark.Blank (signed (sign b)))) ∷ pieces s) ≡ onward (cond v (below_at s) (with_rest s (sign b)))) (eqb b 60)
    (λ d. below_is s)
    (λ d. rw e (signed_is s (sign b)))))

-- a run, a point and no run
point_then : (w s : List ℕ) → starts_run s ≡ false → tokens_of (Piece.Run w ∷ Piece.One Mark.Point ∷ pieces s) ≡ before_word (word_token w) (tokens_of (Piece.One Mark.Point ∷ pieces s))
point_then w [] e = refl
point_then w (c ∷ s) e = rw e refl

run_is : (w s : List ℕ) → starts_run s ≡ false → tokens_of (Piece.Run w ∷ pieces s) ≡ onward (run_at w s)
run_is w [] e = rest_onward [] (word_token w)
run_is w (c ∷ s) e = known (λ v. tokens_of (Piece.Run w ∷ pieces (c ∷ s)) ≡ onward (cond (v && starts_run s) (with_rest (after_run s) (dotted w (front_run s))) (with_rest (c ∷ s) (word_token w)))) (eqb c 46)
    (λ d. point_next c (byte_is c 46 d))
    (λ d. rw e (word_other w (mark c) (pieces s) (no_point c d) ∙ rest_is c e))
  where
    point_next : (c : ℕ) → c ≡ 46 → tokens_of (Piece.Run w ∷ pieces (c ∷ s)) ≡ onward (cond (starts_run s) (with_rest (after_run s) (dotted w (front_run s))) (with_rest (c ∷ s) (word_token w)))
    point_next c same = rw same (known (λ v. starts_run s ≡ v → tokens_of (Piece.Run w ∷ Piece.One Mark.Point ∷ pieces s) ≡ onward (cond v (with_rest (after_run s) (dotted w (front_run s))) (with_rest (46 ∷ s) (word_token w)))) (starts_run s)
        (λ n m. rw (run_piece s n) (rest_onward (after_run s) (dotted w (front_run s))))
        (λ n m. point_then w s n ∙ rest_onward (46 ∷ s) (word_token w)) refl)

    rest_is : (c : ℕ) → is_name_byte c ≡ false → before_word (word_token w) (tokens_of (Piece.One (mark c) ∷ pieces s)) ≡ onward (with_rest (c ∷ s) (word_token w))
    rest_is c e =
        let same : pieces (c ∷ s) ≡ Piece.One (mark c) ∷ pieces s = rw e refl in
        subst (λ (ps : List Piece). before_word (word_token w) (tokens_of ps) ≡ onward (with_rest (c ∷ s) (word_token w))) same (rest_onward (c ∷ s) (word_token w))

pub token_is : (b : ℕ) (s : List ℕ) → is_blank b ≡ false → tokens_of (pieces (b ∷ s)) ≡ onward (token_at (b ∷ s))
token_is b s e = known (λ v. is_name_byte b ≡ v → tokens_of (pieces (b ∷ s)) ≡ onward (cond v (run_at (front_run (b ∷ s)) (after_run (b ∷ s))) (mark_at b s))) (is_name_byte b)
    (λ n m. rw (run_piece (b ∷ s) n) (run_is (front_run (b ∷ s)) (after_run (b ∷ s)) (run_ends (b ∷ s))))
    (λ n m. rw n (mark_is b s e)) refl

-- ---- blanks

pub blanks_are : (s : List ℕ) → tokens_of (pieces (after_blanks s)) ≡ tokens_of (pieces s)
blanks_are [] = refl
blanks_are (b ∷ s) = known (λ v. is_blank b ≡ v → tokens_of (pieces (cond v (after_blanks s) (b ∷ s))) ≡ tokens_of (pieces (b ∷ s))) (is_blank b)
    (λ d m. blanks_are s ∙ blank_first b s d)
    (λ d m. refl) refl
  where
    blank_first : (b : ℕ) (s : List ℕ) → is_blank b ≡ true → tokens_of (pieces s) ≡ tokens_of (pieces (b ∷ s))
    blank_first b s d = known (λ v. eqb b 32 ≡ v → tokens_of (pieces s) ≡ tokens_of (pieces (b ∷ s))) (eqb b 32)
        (λ n m. rw (byte_is b 32 n) refl)
        (λ n m. let tab : b ≡ 9 = grind (arith, nat_tests) in rw tab refl) refl

abbrev pub starts_blank : List ℕ → Bool
starts_blank [] = false
starts_blank (b ∷ s) = is_blank b

pub blanks_gone : (s : List ℕ) → starts_blank (after_blanks s) ≡ false
blanks_gone [] = refl
blanks_gone (b ∷ s) = known (λ v. starts_blank (cond v (after_blanks s) (b ∷ s)) ≡ false) (is_blank b) (λ d. blanks_gone s) (λ d. d)

-- ---- the loop

abbrev pub behind : List Token → Option (List Token) → Option (List Token)
behind found o = o >>= λ ts. Some (found ++ ts)

behind_one : (found : List Token) (t : Token) (o : Option (List Token)) → behind found (before t o) ≡ behind (found ++ t ∷ []) o
behind_one found t None = refl
behind_one found t (Some ts) = ap (λ (l : List Token). Some l) (sym (append_assoc found (t ∷ []) ts))

pub one_more : (found : List Token) (s after : List ℕ) (t : Token) (total : Option (List Token)) → 0 < length s → starts_blank s ≡ false → Some (t, after) ≡ token_at s → behind found (tokens_of (pieces s)) ≡ total → behind (found ++ t ∷ []) (tokens_of (pieces (after_blanks after))) ≡ total
one_more found [] after t total some e is h = absurd (omega arith)
one_more found (b ∷ s) after t total some e is h =
    ap (behind (found ++ t ∷ [])) (blanks_are after) ∙ sym (behind_one found t (tokens_of (pieces after))) ∙ ap (λ (o : Option (Token × List ℕ)). behind found (onward o)) is ∙ sym (ap (behind found) (token_is b s e)) ∙ h

pub refused : (found : List Token) (s : List ℕ) (total : Option (List Token)) → 0 < length s → starts_blank s ≡ false → None ≡ token_at s → behind found (tokens_of (pieces s)) ≡ total → total ≡ None
refused found [] total some e is h = absurd (omega arith)
refused found (b ∷ s) total some e is h = sym h ∙ ap (behind found) (token_is b s e) ∙ sym (ap (λ (o : Option (Token × List ℕ)). behind found (onward o)) is)

pub at_end : (found : List Token) (s : List ℕ) (total : Option (List Token)) → length s ≡ 0 → behind found (tokens_of (pieces s)) ≡ total → total ≡ Some found
at_end found [] total z h = sym h ∙ ap (λ (l : List Token). Some l) (append-nil found)
at_end found (b ∷ s) total z h = absurd (omega arith)

pub first_blanks : (s : List ℕ) → behind [] (tokens_of (pieces (after_blanks s))) ≡ tokens_of (pieces s)
first_blanks s = ap (behind []) (blanks_are s) ∙ none_behind (tokens_of (pieces s))
  where
    none_behind : (o : Option (List Token)) → behind [] o ≡ o
    none_behind None = refl
    none_behind (Some ts) = refl

-- ---- each token takes a byte

abbrev Short : ℕ → Option (Token × List ℕ) → Type 0
Short n None = Unit {0}
Short n (Some x) = length x.1 < n

either_short : (n : ℕ) (v : Bool) (o p : Option (Token × List ℕ)) → Short n o → Short n p → Short n (cond v o p)
either_short n true o p a b = a
either_short n false o p a b = b

rest_short : (n : ℕ) (rest : List ℕ) (o : Option Token) → length rest < n → Short n (with_rest rest o)
rest_short n rest None lt = tt
rest_short n rest (Some t) lt = lt

run_shorter : (s : List ℕ) → length (after_run s) ≤ length s
run_shorter [] = omega arith
run_shorter (b ∷ s) = let next = run_shorter s in known (λ v. length (cond v (after_run s) (b ∷ s)) ≤ length (b ∷ s)) (is_name_byte b) (λ d. omega arith) (λ d. omega arith)

tail_shorter : (s : List ℕ) → length (tail s) ≤ length s
tail_shorter [] = omega arith
tail_shorter (b ∷ s) = omega arith

run_at_short : (n : ℕ) (w s : List ℕ) → length s < n → Short n (run_at w s)
run_at_short n w s lt =
    let a = run_shorter (tail s) in
    let b = tail_shorter s in
    either_short n (starts_with 46 s && starts_run (tail s)) (with_rest (after_run (tail s)) (dotted w (front_run (tail s)))) (with_rest s (word_token w)) (rest_short n (after_run (tail s)) (dotted w (front_run (tail s))) (omega (arith, a, b, lt))) (rest_short n s (word_token w) lt)

mark_at_short : (n b : ℕ) (s : List ℕ) → length s < n → Short n (mark_at b s)
mark_at_short n b s lt =
    let c : length (tail s) < n = let h = tail_shorter s in omega (arith, h, lt) in
    let low = rest_short n s (sign b) lt in
    let angle = either_short n (eqb b 60) (below_at s) (with_rest s (sign b)) (either_short n (starts_with 61 s) (Some (tokens.AtMost, tail s)) (Some (tokens.Less, s)) c lt) low in
    let equals = either_short n (eqb b 61) (equals_at s) (cond (eqb b 60) (below_at s) (with_rest s (sign b))) (either_short n (starts_with 61 s) (Some (tokens.Equal, tail s)) (Some (tokens.Assign, s)) c lt) angle in
    either_short n (eqb b 46) (point_at s) (cond (eqb b 61) (equals_at s) (cond (eqb b 60) (below_at s) (with_rest s (sign b)))) (either_short n (starts_with 46 s) (Some (tokens.To, tail s)) None c tt) equals

token_short : (s : List ℕ) → Short (length s) (token_at s)
token_short [] = tt
token_short (b ∷ s) =
    let a = run_shorter s in
    known (λ v. is_name_byte b ≡ v → Short (length (b ∷ s)) (cond v (run_at (front_run (b ∷ s)) (after_run (b ∷ s))) (mark_at b s))) (is_name_byte b)
    (λ d m. run_at_short (length (b ∷ s)) (front_run (b ∷ s)) (after_run (b ∷ s)) (rw d (omega (arith, a))))
    (λ d m. mark_at_short (length (b ∷ s)) b s (omega arith)) refl

blanks_shorter : (s : List ℕ) → length (after_blanks s) ≤ length s
blanks_shorter [] = omega arith
blanks_shorter (b ∷ s) = let next = blanks_shorter s in known (λ v. length (cond v (after_blanks s) (b ∷ s)) ≤ length (b ∷ s)) (is_blank b) (λ d. omega arith) (λ d. omega arith)

pub less_left : (s after : List ℕ) (t : Token) → Some (t, after) ≡ token_at s → length (after_blanks after) < length s
less_left s after t e =
    let a : Short (length s) (Some (t, after)) = subst (Short (length s)) (sym e) (token_short s) in
    let b = blanks_shorter after in
    omega (arith, a, b)
