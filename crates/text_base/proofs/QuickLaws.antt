-- What a quick reader gives is a word of the line.
use Rattle.std.proofs.Common.{◌≡◌, ℕ, suc, ℤ, pos, ◌+◌, ◌-◌, ◌*◌, ◌^◌, ◌≤◌, Bool, true, false, cond, eqb, List, [], ◌∷◌, length, get_or, take, Option, Some, None, refl, sym, ap, subst, ◌∙◌, arith}
use Rattle.std.specs.Prelude.{nat_lt}
use Rattle.std.specs.List.{onto_first, slice_split, filter}
use Rattle.std.specs.Option.{option_map}
use Rattle.std.proofs.lemmas.Bool.Decides.{nat_tests}
use Rattle.text_base.specs.Lines.{first_line, after_line, trimmed}
use Rattle.text_base.specs.Words.{is_blank, is_some_word, after_blanks}
use Rattle.text_base.specs.LineWords.{line_words}
use Rattle.text_base.specs.Numbers.{is_digit, value_behind, natural, integer, negative}
use Rattle.text_base.specs.Quick.{quick_digits, quick_natural, quick_integer, quick_gap, quick_close}

abbrev pub line_parts : List ℕ → List (List ℕ)
line_parts s = slice_split is_blank (trimmed (first_line s))

abbrev pub prepended : List ℕ → List (List ℕ) → List (List ℕ)
prepended [] ps = ps
prepended (b ∷ w) ps = onto_first b (prepended w ps)

abbrev some : List (List ℕ) → List (List ℕ)
some = filter is_some_word

trimmed_on : (b : ℕ) (l : List ℕ) → eqb b 13 ≡ false → trimmed (b ∷ l) ≡ b ∷ trimmed l
trimmed_on b [] e = rw e refl
trimmed_on b (c ∷ l) e =
    let k : length (b ∷ c ∷ l) - 1 ≡ suc (length (c ∷ l) - 1) = omega arith in
    rw k (elim (eqb (get_or (c ∷ l) (length (c ∷ l) - 1) 0) 13) as (λ (v : Bool). cond v (b ∷ take (length (c ∷ l) - 1) (c ∷ l)) (b ∷ c ∷ l) ≡ b ∷ cond v (take (length (c ∷ l) - 1) (c ∷ l)) (c ∷ l)) [ true ↦ refl | false ↦ refl ])

-- a byte that goes into a word
pub record IsPlain (b : ℕ) : Type 0 where
  pub blank : is_blank b ≡ false
  pub feed : eqb b 10 ≡ false
  pub return : eqb b 13 ≡ false

pub digit_plain : (b : ℕ) → is_digit b ≡ true → IsPlain b
digit_plain b e =
    let within : (48 ≤ b) × (b ≤ 57) = (grind (arith, nat_tests), grind (arith, nat_tests)) in
    record { blank = grind (arith, nat_tests); feed = grind (arith, nat_tests); return = grind (arith, nat_tests) }

pub parts_plain : (b : ℕ) (s : List ℕ) → IsPlain b → line_parts (b ∷ s) ≡ onto_first b (line_parts s)
parts_plain b s p = rw (p.feed, trimmed_on b (first_line s) p.return, p.blank) refl

blank_is : (b : ℕ) → is_blank b ≡ true → (eqb b 10 ≡ false) × (eqb b 13 ≡ false)
blank_is b e = (grind (arith, nat_tests), grind (arith, nat_tests))

pub parts_blank : (b : ℕ) (s : List ℕ) → is_blank b ≡ true → line_parts (b ∷ s) ≡ [] ∷ line_parts s
parts_blank b s e =
    let p = blank_is b e in
    rw (p.0, trimmed_on b (first_line s) p.1, e) refl

-- What lies between two places of a line: a word's bytes were passed, and the other lines are the same.
pub record Passes (s w t : List ℕ) : Type 0 where
  pub parts : line_parts s ≡ prepended w (line_parts t)
  pub after : after_line s ≡ after_line t

passes_none : (s : List ℕ) → Passes s [] s
passes_none s = record { parts = refl; after = refl }

passes_plain : (b : ℕ) (s w t : List ℕ) → IsPlain b → Passes s w t → Passes (b ∷ s) (b ∷ w) t
passes_plain b s w t p h = record { parts = parts_plain b s p ∙ ap (onto_first b) h.parts; after = rw p.feed h.after }

-- a computed choice, with what it was
known : (P : Bool → Type 0) (b : Bool) → ((b ≡ true) → P true) → ((b ≡ false) → P false) → P b
known P true at_true at_false = at_true refl
known P false at_true at_false = at_false refl

some_is : {A : Type 0} (x y : A) → Some x ≡ Some y → x ≡ y
some_is x y e = cc

pub digits_law : (n : ℕ) (s : List ℕ) (v : ℕ) (t : List ℕ) → quick_digits n s ≡ Some (v, t) → (w : List ℕ) × (value_behind n w ≡ Some v) × Passes s w t
digits_law n [] v t e =
    let same : (n, []) ≡ (v, t) = some_is _ _ e in
    subst (λ (x : ℕ × List ℕ). (w : List ℕ) × (value_behind n w ≡ Some x.0) × Passes [] w x.1) same ([], refl, passes_none [])
digits_law n (b ∷ s) v t e =
    let P : Bool → Type 0 = λ d. cond d (cond (nat_lt n (10 ^ 17)) (quick_digits (n * 10 + (b - 48)) s) None) (Some (n, b ∷ s)) ≡ Some (v, t) → (w : List ℕ) × (value_behind n w ≡ Some v) × Passes (b ∷ s) w t in
    known P (is_digit b)
    (λ d. let Q : Bool → Type 0 = λ q. cond q (quick_digits (n * 10 + (b - 48)) s) None ≡ Some (v, t) → (w : List ℕ) × (value_behind n w ≡ Some v) × Passes (b ∷ s) w t in
    known Q (nat_lt n (10 ^ 17))
    (λ _ f. let next = digits_law (n * 10 + (b - 48)) s v t f in
    (b ∷ next.0, rw d next.1, passes_plain b s next.0 t (digit_plain b d) next.2))
    (λ _ f. absurd cc))
    (λ d f.
    let same : (n, b ∷ s) ≡ (v, t) = some_is _ _ f in
    subst (λ (x : ℕ × List ℕ). (w : List ℕ) × (value_behind n w ≡ Some x.0) × Passes (b ∷ s) w x.1) same ([], refl, passes_none (b ∷ s)))
    e

-- a word was passed, and its value is known
pub record Takes {A : Type 0} (value : List ℕ → Option A) (s : List ℕ) (x : A × List ℕ) : Type 0 where
  pub word : List ℕ
  pub some : is_some_word word ≡ true
  pub reads : value word ≡ Some x.0
  pub passes : Passes s word x.1

pub natural_law : (s : List ℕ) (v : ℕ) (t : List ℕ) → quick_natural s ≡ Some (v, t) → Takes natural s (v, t)
natural_law [] v t e = absurd cc
natural_law (b ∷ s) v t e =
    let P : Bool → Type 0 = λ d. cond d (quick_digits (b - 48) s) None ≡ Some (v, t) → Takes natural (b ∷ s) (v, t) in
    known P (is_digit b)
    (λ d f. let h = digits_law (b - 48) s v t f in
    let k : 0 * 10 + (b - 48) ≡ b - 48 = omega arith in
    record { word = b ∷ h.0; some = refl; reads = rw (d, k) h.1; passes = passes_plain b s h.0 t (digit_plain b d) h.2 })
    (λ d f. absurd cc)
    e

-- blanks are passed

pub blanks_law : (s : List ℕ) → (line_words s ≡ line_words (after_blanks s)) × (after_line s ≡ after_line (after_blanks s))
blanks_law [] = (refl, refl)
blanks_law (b ∷ s) =
    let next = blanks_law s in
    let P : Bool → Type 0 = λ d. (line_words (b ∷ s) ≡ line_words (cond d (after_blanks s) (b ∷ s))) × (after_line (b ∷ s) ≡ after_line (cond d (after_blanks s) (b ∷ s))) in
    known P (is_blank b)
    (λ d. let p = blank_is b d in (ap some (parts_blank b s d) ∙ next.0, rw p.0 next.1))
    (λ d. (refl, refl))

-- the word before is closed here, and these words follow
pub record Closes (s : List ℕ) (follow : List (List ℕ)) (next : List ℕ) : Type 0 where
  pub parts : List (List ℕ)
  pub closed : line_parts s ≡ [] ∷ parts
  pub words : some parts ≡ follow
  pub after : after_line s ≡ next

pub gap_law : (s t : List ℕ) → quick_gap s ≡ Some t → Closes s (line_words t) (after_line t)
gap_law [] t e = absurd cc
gap_law (b ∷ s) t e =
    let P : Bool → Type 0 = λ d. cond d (Some (after_blanks s)) None ≡ Some t → Closes (b ∷ s) (line_words t) (after_line t) in
    known P (is_blank b)
    (λ d f. let h = blanks_law s in
    let same : after_blanks s ≡ t = some_is _ _ f in
    let p = blank_is b d in
    subst (λ (x : List ℕ). Closes (b ∷ s) (line_words x) (after_line x)) same
    (record { parts = line_parts s; closed = parts_blank b s d; words = h.0; after = rw p.0 h.1 }))
    (λ d f. absurd cc)
    e

prepended_closed : (w : List ℕ) (ps : List (List ℕ)) → prepended w ([] ∷ ps) ≡ w ∷ ps
prepended_closed [] ps = refl
prepended_closed (b ∷ w) ps = ap (onto_first b) (prepended_closed w ps)

pub word_closed : (s w t : List ℕ) (follow : List (List ℕ)) (next : List ℕ) → is_some_word w ≡ true → Passes s w t → Closes t follow next → (line_words s ≡ w ∷ follow) × (after_line s ≡ next)
word_closed s w t follow next e p c =
    let one : line_parts s ≡ w ∷ c.parts = p.parts ∙ ap (prepended w) c.closed ∙ prepended_closed w c.parts in
    (ap some one ∙ rw e (ap (λ (ws : List (List ℕ)). w ∷ ws) c.words), p.after ∙ c.after)

-- the end of the line is here

close_law : (s t : List ℕ) → quick_close s ≡ Some t → Closes s [] t
close_law [] t e = record { parts = []; closed = refl; words = refl; after = some_is _ _ e }
close_law (b ∷ []) t e =
    let P : Bool → Type 0 = λ d. cond d (Some []) (cond (eqb b 13) None None) ≡ Some t → Closes (b ∷ []) [] t in
    known P (eqb b 10)
    (λ d f. record { parts = []; closed = rw d refl; words = refl; after = rw d (some_is _ _ f) })
    (λ d f. let Q : Bool → Type 0 = λ q. cond q None None ≡ Some t → Closes (b ∷ []) [] t in known Q (eqb b 13) (λ _ g. absurd cc) (λ _ g. absurd cc) f)
    e
close_law (b ∷ c ∷ s) t e =
    let P : Bool → Type 0 = λ d. cond d (Some (c ∷ s)) (cond (eqb b 13) (cond (eqb c 10) (Some s) None) None) ≡ Some t → Closes (b ∷ c ∷ s) [] t in
    known P (eqb b 10)
    (λ d f. record { parts = []; closed = rw d refl; words = refl; after = rw d (some_is _ _ f) })
    (λ d f.
    let Q : Bool → Type 0 = λ q. cond q (cond (eqb c 10) (Some s) None) None ≡ Some t → Closes (b ∷ c ∷ s) [] t in
    known Q (eqb b 13)
    (λ q g.
    let R : Bool → Type 0 = λ r. cond r (Some s) None ≡ Some t → Closes (b ∷ c ∷ s) [] t in
    known R (eqb c 10)
    (λ r h. record { parts = []; closed = rw (d, r, q) refl; words = refl; after = rw (d, r) (some_is _ _ h) })
    (λ r h. absurd cc)
    g)
    (λ q g. absurd cc)
    f)
    e

pub end_law : (s t : List ℕ) → quick_close (after_blanks s) ≡ Some t → Closes s [] t
end_law [] t e = close_law [] t e
end_law (b ∷ s) t e =
    let P : Bool → Type 0 = λ d. quick_close (cond d (after_blanks s) (b ∷ s)) ≡ Some t → Closes (b ∷ s) [] t in
    known P (is_blank b)
    (λ d f.
    let h = end_law s t f in
    let p = blank_is b d in
    record { parts = line_parts s; closed = parts_blank b s d; words = ap some h.closed ∙ h.words; after = rw p.0 h.after })
    (λ d f. close_law (b ∷ s) t f)
    e

-- ---- signed numbers

map_some : {A B : Type 0} (f : A → B) (o : Option A) (y : B) → option_map f o ≡ Some y → (x : A) × (o ≡ Some x) × (f x ≡ y)
map_some f None y e = absurd cc
map_some f (Some x) y e = (x, refl, some_is _ _ e)

abbrev with_rest : (ℕ → ℤ) → ℕ × List ℕ → ℤ × List ℕ
with_rest f x = (f x.0, x.1)

natural_integer : (w : List ℕ) (v : ℕ) → natural w ≡ Some v → integer w ≡ Some (pos v)
natural_integer [] v e = absurd cc
natural_integer (b ∷ w) v e =
    let P : Bool → Type 0 = λ d. cond d (value_behind (0 * 10 + (b - 48)) w) None ≡ Some v → integer (b ∷ w) ≡ Some (pos v) in
    known P (is_digit b)
    (λ d f.
    let p : eqb b 43 ≡ false = grind (arith, nat_tests) in
    let q : eqb b 45 ≡ false = grind (arith, nat_tests) in
    rw (p, q) (ap (option_map pos) e))
    (λ d f. absurd cc)
    e

-- the sign is the first byte of the word
signed : (sign : ℕ → ℤ) (b : ℕ) (s : List ℕ) (z : ℤ) (t : List ℕ) → IsPlain b → ((w : List ℕ) → integer (b ∷ w) ≡ option_map sign (natural w)) → option_map (with_rest sign) (quick_natural s) ≡ Some (z, t) → Takes integer (b ∷ s) (z, t)
signed sign b s z t p is e =
    let g = map_some (with_rest sign) (quick_natural s) (z, t) e in
    let h = natural_law s g.0.0 g.0.1 g.1 in
    subst (λ (x : ℤ × List ℕ). Takes integer (b ∷ s) x) g.2
    (record { word = b ∷ h.word; some = refl; reads = is h.word ∙ ap (option_map sign) h.reads; passes = passes_plain b s h.word g.0.1 p h.passes })

unsigned : (b : ℕ) (s : List ℕ) (z : ℤ) (t : List ℕ) → eqb b 43 ≡ false → eqb b 45 ≡ false → option_map (with_rest pos) (quick_natural (b ∷ s)) ≡ Some (z, t) → Takes integer (b ∷ s) (z, t)
unsigned b s z t plus minus e =
    let g = map_some (with_rest pos) (quick_natural (b ∷ s)) (z, t) e in
    let h = natural_law (b ∷ s) g.0.0 g.0.1 g.1 in
    subst (λ (x : ℤ × List ℕ). Takes integer (b ∷ s) x) g.2
    (record { word = h.word; some = h.some; reads = natural_integer h.word g.0.0 h.reads; passes = h.passes })

pub integer_law : (s : List ℕ) (z : ℤ) (t : List ℕ) → quick_integer s ≡ Some (z, t) → Takes integer s (z, t)
integer_law [] z t e = absurd cc
integer_law (b ∷ s) z t e =
    let plus = option_map (with_rest pos) (quick_natural s) in
    let minus = option_map (with_rest negative) (quick_natural s) in
    let bare = option_map (with_rest pos) (quick_natural (b ∷ s)) in
    let P : Bool → Type 0 = λ d. cond d minus (cond (eqb b 43) plus bare) ≡ Some (z, t) → Takes integer (b ∷ s) (z, t) in
    known P (eqb b 45)
    (λ d f. let q : eqb b 43 ≡ false = grind (arith, nat_tests) in
    signed negative b s z t (record { blank = grind (arith, nat_tests); feed = grind (arith, nat_tests); return = grind (arith, nat_tests) }) (λ w. rw (q, d) refl) f)
    (λ d f.
    let Q : Bool → Type 0 = λ q. cond q plus bare ≡ Some (z, t) → Takes integer (b ∷ s) (z, t) in
    known Q (eqb b 43)
    (λ q g. signed pos b s z t (record { blank = grind (arith, nat_tests); feed = grind (arith, nat_tests); return = grind (arith, nat_tests) }) (λ w. rw q refl) g)
    (λ q g. unsigned b s z t q d g)
    f)
    e

-- ---- one word of a line, and its end

pub record OneWord (s : List ℕ) (a : ℤ) (t : List ℕ) : Type 0 where
  pub first : List ℕ
  pub words : line_words s ≡ first ∷ []
  pub value : integer first ≡ Some a
  pub after : after_line s ≡ t

pub one_word : (s0 s1 s2 s3 t : List ℕ) (a : ℤ) → s1 ≡ after_blanks s0 → quick_integer s1 ≡ Some (a, s2) → s3 ≡ after_blanks s2 → quick_close s3 ≡ Some t → OneWord s0 a t
one_word s0 s1 s2 s3 t a e0 e1 e2 e3 =
    let b = blanks_law s0 in
    let n = integer_law s1 a s2 e1 in
    let end : Closes s2 [] t = end_law s2 t (ap quick_close (sym e2) ∙ e3) in
    let w = word_closed s1 n.word s2 [] t n.some n.passes end in
    record {
      first = n.word;
      words = b.0 ∙ ap line_words (sym e0) ∙ w.0;
      value = n.reads;
      after = b.1 ∙ ap after_line (sym e0) ∙ w.1;
    }

-- ---- two words of a line, and its end

pub record TwoWords (s : List ℕ) (i j : ℕ) (t : List ℕ) : Type 0 where
  pub first : List ℕ
  pub second : List ℕ
  pub words : line_words s ≡ first ∷ second ∷ []
  pub row : integer first ≡ Some (pos i)
  pub column : integer second ≡ Some (pos j)
  pub after : after_line s ≡ t

pub two_words : (s0 s1 s2 s3 s4 s5 t : List ℕ) (i j : ℕ) → s1 ≡ after_blanks s0 → quick_natural s1 ≡ Some (i, s2) → quick_gap s2 ≡ Some s3 → quick_natural s3 ≡ Some (j, s4) → s5 ≡ after_blanks s4 → quick_close s5 ≡ Some t → TwoWords s0 i j t
two_words s0 s1 s2 s3 s4 s5 t i j e0 e1 e2 e3 e4 e5 =
    let b = blanks_law s0 in
    let n1 = natural_law s1 i s2 e1 in
    let n2 = natural_law s3 j s4 e3 in
    let end : Closes s4 [] t = end_law s4 t (ap quick_close (sym e4) ∙ e5) in
    let w2 = word_closed s3 n2.word s4 [] t n2.some n2.passes end in
    let w1 = word_closed s1 n1.word s2 (line_words s3) (after_line s3) n1.some n1.passes (gap_law s2 s3 e2) in
    record {
      first = n1.word;
      second = n2.word;
      words = b.0 ∙ ap line_words (sym e0) ∙ w1.0 ∙ ap (λ (ws : List (List ℕ)). n1.word ∷ ws) w2.0;
      row = natural_integer n1.word i n1.reads;
      column = natural_integer n2.word j n2.reads;
      after = b.1 ∙ ap after_line (sym e0) ∙ w1.1 ∙ w2.1;
    }

-- ---- three words of a line, and its end

pub record ThreeWords (s : List ℕ) (i j : ℕ) (a : ℤ) (t : List ℕ) : Type 0 where
  pub first : List ℕ
  pub second : List ℕ
  pub third : List ℕ
  pub words : line_words s ≡ first ∷ second ∷ third ∷ []
  pub row : integer first ≡ Some (pos i)
  pub column : integer second ≡ Some (pos j)
  pub value : integer third ≡ Some a
  pub after : after_line s ≡ t

pub three_words : (s0 s1 s2 s3 s4 s5 s6 s7 t : List ℕ) (i j : ℕ) (a : ℤ) → s1 ≡ after_blanks s0 → quick_natural s1 ≡ Some (i, s2) → quick_gap s2 ≡ Some s3 → quick_natural s3 ≡ Some (j, s4) → quick_gap s4 ≡ Some s5 → quick_integer s5 ≡ Some (a, s6) → s7 ≡ after_blanks s6 → quick_close s7 ≡ Some t → ThreeWords s0 i j a t
three_words s0 s1 s2 s3 s4 s5 s6 s7 t i j a e0 e1 e2 e3 e4 e5 e6 e7 =
    let b = blanks_law s0 in
    let n1 = natural_law s1 i s2 e1 in
    let n2 = natural_law s3 j s4 e3 in
    let n3 = integer_law s5 a s6 e5 in
    let end : Closes s6 [] t = end_law s6 t (ap quick_close (sym e6) ∙ e7) in
    let w3 = word_closed s5 n3.word s6 [] t n3.some n3.passes end in
    let w2 = word_closed s3 n2.word s4 (line_words s5) (after_line s5) n2.some n2.passes (gap_law s4 s5 e4) in
    let w1 = word_closed s1 n1.word s2 (line_words s3) (after_line s3) n1.some n1.passes (gap_law s2 s3 e2) in
    record {
      first = n1.word;
      second = n2.word;
      third = n3.word;
      words = b.0 ∙ ap line_words (sym e0) ∙ w1.0 ∙ ap (λ (ws : List (List ℕ)). n1.word ∷ ws) (w2.0 ∙ ap (λ (ws : List (List ℕ)). n2.word ∷ ws) w3.0);
      row = natural_integer n1.word i n1.reads;
      column = natural_integer n2.word j n2.reads;
      value = n3.reads;
      after = b.1 ∙ ap after_line (sym e0) ∙ w1.1 ∙ w2.1 ∙ w3.1;
    }
