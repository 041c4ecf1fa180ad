-- Texts whose words and signs are known, whatever follows them.
use Rattle.std.proofs.Common.{◌≡◌, ℕ, ◌<◌, Bool, true, false, ◌&&◌, not, List, [], ◌∷◌, ◌++◌, length, Option, Some, None, refl, sym, ap, subst, ◌∙◌, append_assoc, arith}
use Rattle.std.specs.List.{list_all}
use Rattle.std.proofs.lemmas.List.{append-nil}
use Rattle.std.proofs.lemmas.Bool.Decides.{nat_tests}
use Rattle.text_base.specs.Words.{is_blank}
use Rattle.loop_core.specs.Names.{is_name_byte}
use Rattle.loop_lines.specs.declared.token.Token.{Token}
use Rattle.loop_lines.specs.Plain.{is_plain}
use Rattle.loop_lines.specs.Reading.{◌>>=◌}
use Rattle.loop_lines.specs.Words.{word_token, dotted}
use Rattle.loop_lines.specs.Tokens.{pieces, before, tokens_of, line_tokens}
use Rattle.loop_lines.specs.TokenReading.{front_run, after_run, starts_run, starts_with, tail, token_at}
use Rattle.loop_lines.proofs.Bools.{and_parts}
use Rattle.loop_lines.proofs.TokenLaws.{token_is, behind}

pub known : (P : Bool → Type 0) (b : Bool) → ((b ≡ true) → P true) → ((b ≡ false) → P false) → P b
known P true t f = t refl
known P false t f = f refl

pub not_true : (a : Bool) → not a ≡ true → a ≡ false
not_true true e = absurd cc
not_true false e = refl

-- a word ends where no byte of a name follows, and no point before one
abbrev pub ends_word : List ℕ → Bool
ends_word s = not (starts_run s) && not (starts_with 46 s && starts_run (tail s))

-- a text is these words and signs where a word may end after it
pub record Shows (text : List ℕ) (ts : List Token) : Type 0 where
  pub reads : (s : List ℕ) → ends_word s ≡ true → line_tokens (text ++ s) ≡ behind ts (line_tokens s)

-- the same, whatever follows
pub record Closed (text : List ℕ) (ts : List Token) : Type 0 where
  pub reads : (s : List ℕ) → line_tokens (text ++ s) ≡ behind ts (line_tokens s)

-- the same, and a word may end before it
pub record Sign (text : List ℕ) (ts : List Token) : Type 0 where
  pub reads : (s : List ℕ) → line_tokens (text ++ s) ≡ behind ts (line_tokens s)
  pub begins : (s : List ℕ) → ends_word (text ++ s) ≡ true

behind_both : (xs ys : List Token) (o : Option (List Token)) → behind xs (behind ys o) ≡ behind (xs ++ ys) o
behind_both xs ys None = refl
behind_both xs ys (Some ts) = ap (λ (l : List Token). Some l) (sym (append_assoc xs ys ts))

pub behind_none : (o : Option (List Token)) → o ≡ behind [] o
behind_none None = refl
behind_none (Some ts) = refl

joined : (a b : List ℕ) (xs ys : List Token) (s : List ℕ) → line_tokens (a ++ (b ++ s)) ≡ behind xs (line_tokens (b ++ s)) → line_tokens (b ++ s) ≡ behind ys (line_tokens s) → line_tokens ((a ++ b) ++ s) ≡ behind (xs ++ ys) (line_tokens s)
joined a b xs ys s first second =
    ap line_tokens (append_assoc a b s) ∙ first ∙ ap (behind xs) second ∙ behind_both xs ys (line_tokens s)

-- a text after a closed one
pub last : (a b : List ℕ) (xs ys : List Token) → Closed a xs → Shows b ys → Shows (a ++ b) (xs ++ ys)
last a b xs ys h k = record { reads = λ s e. joined a b xs ys s (h.reads (b ++ s)) (k.reads s e) }

-- a sign after a word
pub sign_after : (a b : List ℕ) (xs ys : List Token) → Shows a xs → Sign b ys → Closed (a ++ b) (xs ++ ys)
sign_after a b xs ys h k = record { reads = λ s. joined a b xs ys s (h.reads (b ++ s) (k.begins s)) (k.reads s) }

-- a closed text after a closed one
pub closed_after : (a b : List ℕ) (xs ys : List Token) → Closed a xs → Closed b ys → Closed (a ++ b) (xs ++ ys)
closed_after a b xs ys h k = record { reads = λ s. joined a b xs ys s (h.reads (b ++ s)) (k.reads s) }

pub as_closed : (b : List ℕ) (ys : List Token) → Sign b ys → Closed b ys
as_closed b ys h = record { reads = h.reads }

infixl 65 ◌▸◌
pub ◌▸◌ : {a b : List ℕ} {xs ys : List Token} → Closed a xs → Shows b ys → Shows (a ++ b) (xs ++ ys)
h ▸ k = last _ _ _ _ h k

infixl 65 ◌◂◌
pub ◌◂◌ : {a b : List ℕ} {xs ys : List Token} → Shows a xs → Sign b ys → Closed (a ++ b) (xs ++ ys)
h ◂ k = sign_after _ _ _ _ h k

infixl 65 ◌◇◌
pub ◌◇◌ : {a b : List ℕ} {xs ys : List Token} → Closed a xs → Sign b ys → Closed (a ++ b) (xs ++ ys)
h ◇ k = closed_after _ _ _ _ h (as_closed _ _ k)

pub as_shows : (a : List ℕ) (xs : List Token) → Closed a xs → Shows a xs
as_shows a xs h = record { reads = λ s e. h.reads s }

pub nothing : Shows [] []
nothing = record { reads = λ s e. behind_none (line_tokens s) }

-- in other words for the tokens
pub same_tokens : (a : List ℕ) (xs ys : List Token) → Shows a xs → xs ≡ ys → Shows a ys
same_tokens a xs ys h e = subst (Shows a) e h

-- the whole of a line
pub shows_line : (a : List ℕ) (xs : List Token) → Shows a xs → line_tokens a ≡ Some xs
shows_line a xs h = ap line_tokens (sym (append-nil a)) ∙ h.reads [] refl ∙ ap (λ (l : List Token). Some l) (append-nil xs)

-- ---- runs of letters, digits and `_`

front_is : (w s : List ℕ) → is_plain w ≡ true → starts_run s ≡ false → front_run (w ++ s) ≡ w
front_is [] [] p e = refl
front_is [] (c ∷ s) p e = rw e refl
front_is (b ∷ w) s p e =
    let both = and_parts (is_name_byte b) (list_all is_name_byte w) p in
    rw (both.0, front_is w s both.1 e) refl

after_is : (w s : List ℕ) → is_plain w ≡ true → starts_run s ≡ false → after_run (w ++ s) ≡ s
after_is [] [] p e = refl
after_is [] (c ∷ s) p e = rw e refl
after_is (b ∷ w) s p e =
    let both = and_parts (is_name_byte b) (list_all is_name_byte w) p in
    rw (both.0) (after_is w s both.1 e)

starts_is : (w s : List ℕ) → is_plain w ≡ true → 0 < length w → starts_run (w ++ s) ≡ true
starts_is [] s p lt = absurd (omega arith)
starts_is (b ∷ w) s p lt = (and_parts (is_name_byte b) (list_all is_name_byte w) p).0

no_blank : (b : ℕ) → is_name_byte b ≡ true → is_blank b ≡ false
no_blank b e = grind (arith, nat_tests)

-- the token that stands first, and those after it
abbrev onward : Option (Token × List ℕ) → Option (List Token)
onward o = o >>= λ x. before x.0 (tokens_of (pieces x.1))

first_token : (w s rest : List ℕ) (t : Token) → is_plain w ≡ true → 0 < length w → token_at (w ++ s) ≡ Some (t, rest) → line_tokens (w ++ s) ≡ behind (t ∷ []) (line_tokens rest)
first_token [] s rest t p lt e = absurd (omega arith)
first_token (b ∷ w) s rest t p lt e =
    let byte = (and_parts (is_name_byte b) (list_all is_name_byte w) p).0 in
    token_is b (w ++ s) (no_blank b byte) ∙ ap onward e

word_first : (w s : List ℕ) (t : Token) → is_plain w ≡ true → 0 < length w → word_token w ≡ Some t → ends_word s ≡ true → token_at (w ++ s) ≡ Some (t, s)
word_first [] s t p lt is e = absurd (omega arith)
word_first (b ∷ w) s t p lt is e =
    let both = and_parts (is_name_byte b) (list_all is_name_byte w) p in
    let ends = and_parts (not (starts_run s)) (not (starts_with 46 s && starts_run (tail s))) e in
    let no_run = not_true (starts_run s) ends.0 in
    let no_point = not_true (starts_with 46 s && starts_run (tail s)) ends.1 in
    rw (both.0) (rw (front_is w s both.1 no_run, after_is w s both.1 no_run, no_point, is) refl)

-- a word
pub word : (w : List ℕ) (t : Token) → is_plain w ≡ true → 0 < length w → word_token w ≡ Some t → Shows w (t ∷ [])
word w t p lt is = record { reads = λ s e. first_token w s s t p lt (word_first w s t p lt is e) }

dotted_first : (a b s : List ℕ) (t : Token) → is_plain a ≡ true → 0 < length a → is_plain b ≡ true → 0 < length b → dotted a b ≡ Some t → starts_run s ≡ false → token_at (a ++ (46 ∷ (b ++ s))) ≡ Some (t, s)
dotted_first [] b s t p lt q some is e = absurd (omega arith)
dotted_first (c ∷ a) b s t p lt q some is e =
    let both = and_parts (is_name_byte c) (list_all is_name_byte a) p in
    rw (both.0) (rw (front_is a (46 ∷ (b ++ s)) both.1 refl, after_is a (46 ∷ (b ++ s)) both.1 refl, starts_is b s q some) (rw (front_is b s q e, after_is b s q e, is) refl))

-- two words with a point between them
pub dotted_word : (a b : List ℕ) (t : Token) → is_plain a ≡ true → 0 < length a → is_plain b ≡ true → 0 < length b → dotted a b ≡ Some t → Shows (a ++ (46 ∷ []) ++ b) (t ∷ [])
dotted_word a b t p lt q some is = record { reads = at }
  where
    at : (s : List ℕ) → ends_word s ≡ true → line_tokens (((a ++ (46 ∷ [])) ++ b) ++ s) ≡ behind (t ∷ []) (line_tokens s)
    at s e =
        let ends = and_parts (not (starts_run s)) (not (starts_with 46 s && starts_run (tail s))) e in
        let no_run = not_true (starts_run s) ends.0 in
        ap line_tokens (append_assoc (a ++ (46 ∷ [])) b s ∙ append_assoc a (46 ∷ []) (b ++ s)) ∙ first_token a (46 ∷ (b ++ s)) s t p lt (dotted_first a b s t p lt q some is no_run)
