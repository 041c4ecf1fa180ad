-- The text of a term is a written term of that meaning.
use Rattle.std.proofs.Common.{◌≡◌, ℕ, zero, suc, ℤ, pos, negsuc, ◌^◌, ◌<◌, Bool, true, false, leb, nat_lt, int_lt, List, [], ◌∷◌, ◌++◌, refl, sym, ap, subst, ◌∙◌, append_assoc, arith}
use Rattle.std.specs.Prelude.{codes, neg_ℤ}
use Rattle.std.specs.Fmt.{decimal}
use Rattle.std.proofs.lemmas.List.{append-nil}
use Rattle.std.proofs.lemmas.Bool.Decides.{nat_tests}
use denote.Hole.Carrier as hole
use Rattle.loop_core.specs.Names.{is_name}
use Rattle.loop_lines.specs.declared.token.Token.{Token}
use Rattle.loop_lines.specs.declared.token.Token.TheVariants as tokens
use Rattle.loop_lines.specs.declared.tree.ArrayName.{ArrayName}
use Rattle.loop_lines.specs.declared.tree.NamedAtom.{NamedAtom}
use Rattle.loop_lines.specs.declared.tree.NamedAtom.TheVariants as atoms
use Rattle.loop_lines.specs.declared.tree.NamedAtom.TheOpen.{NamedAtom-F, NamedTerm-F}
use Rattle.loop_lines.specs.declared.tree.NamedAtom.TheViews.{roll-NamedAtom, roll-NamedTerm}
use Rattle.loop_lines.specs.declared.tree.NamedAtom.TheFolds.{fold-NamedAtom, ind-NamedTerm, fold-roll-NamedAtom, fold-roll-NamedTerm, map-NamedAtom, map-NamedTerm}
use Rattle.loop_lines.specs.declared.tree.NamedTerm.{NamedTerm}
use Rattle.loop_lines.specs.Grammar.{Shift, Simple, Written, numeral, shift, array, term, shift_of, meaning}
use Rattle.loop_lines.specs.Reading.{with_atom}
use Rattle.loop_lines.specs.Lines.{Bound, bound}
use Rattle.loop_lines.specs.Shown.{shown_number, shown_offset, shown_entry, shown_atom_step, shown_term_step, shown_term}
use Rattle.loop_lines.specs.Showable.{is_array, is_shift, showable_atom_step, showable_term_step, is_showable_term, bound_step, bound_term_step, is_showable_bound}
use Rattle.loop_lines.proofs.Bools.{and_parts}
use Rattle.loop_lines.proofs.ShownTexts.{Shows, Closed, Sign, ◌▸◌, ◌◂◌, as_shows, word}
use Rattle.loop_lines.proofs.ShownWords.{name_shows, array_shows, numeral_of, value_is, decimal_shows, plus_sign, minus_sign, open_sign, close_sign}

pub below : (n : ℕ) → nat_lt n (2 ^ 63) ≡ true → n < 2 ^ 63
below n e = grind (arith, nat_tests)

-- ---- constants

not_below : (n : ℕ) → int_lt (pos n) (pos 0) ≡ false
not_below n = let h : leb (suc n) 0 ≡ false = grind (arith, nat_tests) in h

above : (n : ℕ) → int_lt (pos 0) (pos (suc n)) ≡ true
above n = let h : leb 1 (suc n) ≡ true = grind (arith, nat_tests) in h

number_pos : (n : ℕ) → shown_number (pos n) ≡ decimal n
number_pos n = rw (not_below n) refl

offset_plus : (n : ℕ) → shown_offset (pos (suc n)) ≡ codes "+" ++ decimal (suc n)
offset_plus n = rw (above n) refl

-- a term that is written so
pub record TermOf (text : List ℕ) (t : NamedTerm) : Type 0 where
  pub written : Written
  pub means : meaning written ≡ t
  pub shows : Shows text (term written)

-- a bound that is written so
pub record BoundOf (text : List ℕ) (t : NamedTerm) : Type 0 where
  pub written : Bound
  pub means : meaning (bound written) ≡ t
  pub shows : Shows text (term (bound written))

bound_term : (text : List ℕ) (t : NamedTerm) → BoundOf text t → TermOf text t
bound_term text t b = record { written = bound b.written; means = b.means; shows = b.shows }

number_of : (z : ℤ) → is_shift z ≡ true → BoundOf (shown_number z) (with_atom atoms.Zero z)
number_of (pos n) e = record {
  written = Bound.Constant (numeral_of n);
  means = ap (λ (x : ℕ). with_atom atoms.Zero (pos x)) (value_is n);
  shows = subst (λ (w : List ℕ). Shows w (numeral (numeral_of n))) (sym (number_pos n)) (decimal_shows n (below n e));
}
number_of (negsuc n) e =
    let zero_minus : Closed (codes "0-") (tokens.Zero ∷ tokens.Minus ∷ []) = word (codes "0") tokens.Zero refl (omega arith) refl ◂ minus_sign in
    record {
      written = Bound.Negative (numeral_of (suc n));
      means = ap (λ (x : ℕ). with_atom atoms.Zero (neg_ℤ (pos x))) (value_is (suc n));
      shows = zero_minus ▸ decimal_shows (suc n) (below (suc n) e);
    }

-- a constant after a text
record ShiftOf (text : List ℕ) (ts : List Token) (z : ℤ) : Type 0 where
  pub written : Shift
  pub means : shift_of written ≡ z
  pub shows : Shows (text ++ shown_offset z) (ts ++ shift written)

signed_number : (a : List ℕ) (xs : List Token) (b : List ℕ) (t : Token) (n : ℕ) → Shows a xs → Sign b (t ∷ []) → n < 2 ^ 63 → Shows (a ++ (b ++ decimal n)) (xs ++ (t ∷ numeral (numeral_of n)))
signed_number a xs b t n h k lt =
    let all : Shows ((a ++ b) ++ decimal n) ((xs ++ (t ∷ [])) ++ numeral (numeral_of n)) = (h ◂ k) ▸ decimal_shows n lt in
    subst (λ (w : List ℕ). Shows w (xs ++ (t ∷ numeral (numeral_of n)))) (append_assoc a b (decimal n))
    (subst (Shows ((a ++ b) ++ decimal n)) (append_assoc xs (t ∷ []) (numeral (numeral_of n))) all)

offset_of : (a : List ℕ) (xs : List Token) (z : ℤ) → Shows a xs → is_shift z ≡ true → ShiftOf a xs z
offset_of a xs (pos zero) h e = record {
  written = Shift.Bare;
  means = refl;
  shows = subst (λ (w : List ℕ). Shows w (xs ++ [])) (sym (append-nil a)) (subst (Shows a) (sym (append-nil xs)) h);
}
offset_of a xs (pos (suc n)) h e = record {
  written = Shift.Plus (numeral_of (suc n));
  means = ap (λ (x : ℕ). pos x) (value_is (suc n));
  shows = subst (λ (w : List ℕ). Shows (a ++ w) (xs ++ (tokens.Plus ∷ numeral (numeral_of (suc n))))) (sym (offset_plus n)) (signed_number a xs (codes "+") tokens.Plus (suc n) h plus_sign (below (suc n) e));
}
offset_of a xs (negsuc n) h e = record {
  written = Shift.Less (numeral_of (suc n));
  means = ap (λ (x : ℕ). neg_ℤ (pos x)) (value_is (suc n));
  shows = signed_number a xs (codes "-") tokens.Minus (suc n) h minus_sign (below (suc n) e);
}

-- ---- atoms

pub zero_atom : roll-NamedAtom NamedAtom-F.Zero ≡ atoms.Zero
unfolding roll-NamedAtom hole.roll
zero_atom = refl

pub rows_atom : roll-NamedAtom NamedAtom-F.N ≡ atoms.N
unfolding roll-NamedAtom hole.roll
rows_atom = refl

pub stored_atom : roll-NamedAtom NamedAtom-F.Nnz ≡ atoms.Nnz
unfolding roll-NamedAtom hole.roll
stored_atom = refl

pub named_atom : (name : List ℕ) → roll-NamedAtom (NamedAtom-F.Var name) ≡ atoms.Var name
unfolding roll-NamedAtom hole.roll
named_atom name = refl

pub entry_atom : (f : ArrayName) (t : NamedTerm) → roll-NamedAtom (NamedAtom-F.At f t) ≡ atoms.At f t
unfolding roll-NamedAtom hole.roll
entry_atom f t = refl

abbrev shown_atom : NamedAtom → ℤ → List ℕ
shown_atom = fold-NamedAtom (ℤ → List ℕ) (List ℕ) shown_atom_step shown_term_step

abbrev pub is_showable_atom : NamedAtom → Bool
is_showable_atom = fold-NamedAtom Bool Bool showable_atom_step showable_term_step

abbrev pub is_bound_atom : NamedAtom → Bool
is_bound_atom = fold-NamedAtom Bool Bool bound_step bound_term_step

-- from one layer to the atom
rolled : (x : NamedAtom-F NamedAtom NamedTerm) (b : NamedAtom) (plus : ℤ) (text : List ℕ) → roll-NamedAtom x ≡ b → shown_atom (roll-NamedAtom x) plus ≡ text → TermOf text (with_atom b plus) → TermOf (shown_atom (roll-NamedAtom x) plus) (with_atom (roll-NamedAtom x) plus)
rolled x b plus text is same h = record {
  written = h.written;
  means = h.means ∙ ap (λ (c : NamedAtom). with_atom c plus) (sym is);
  shows = subst (λ (w : List ℕ). Shows w (term h.written)) (sym same) h.shows;
}

rows_of : (z : ℤ) → is_shift z ≡ true → BoundOf (codes "n" ++ shown_offset z) (with_atom atoms.N z)
rows_of z e =
    let o = offset_of (codes "n") (tokens.N ∷ []) z (word (codes "n") tokens.N refl (omega arith) refl) e in
    record { written = Bound.Rows o.written; means = ap (with_atom atoms.N) o.means; shows = o.shows }

stored_of : (z : ℤ) → is_shift z ≡ true → BoundOf (codes "nnz" ++ shown_offset z) (with_atom atoms.Nnz z)
stored_of z e =
    let o = offset_of (codes "nnz") (tokens.Nnz ∷ []) z (word (codes "nnz") tokens.Nnz refl (omega arith) refl) e in
    record { written = Bound.Stored o.written; means = ap (with_atom atoms.Nnz) o.means; shows = o.shows }

named_of : (name : List ℕ) (z : ℤ) → is_name name ≡ true → is_shift z ≡ true → TermOf (name ++ shown_offset z) (with_atom (atoms.Var name) z)
named_of name z e f =
    let o = offset_of name (tokens.Name name ∷ []) z (name_shows name e) f in
    record { written = Written.Shifted (Simple.Name name) o.written; means = ap (with_atom (atoms.Var name)) o.means; shows = o.shows }

-- `ARR[TERM]`
pub entry_shows : (f : ArrayName) (inner : List ℕ) (ts : List Token) → is_array f ≡ true → Shows inner ts → Closed (shown_entry f inner) (array f ∷ tokens.Open ∷ (ts ++ tokens.Close ∷ []))
entry_shows f inner ts e h = ((array_shows f e ◂ open_sign) ▸ h) ◂ close_sign

entry_of : (f : ArrayName) (text : List ℕ) (inner : NamedTerm) (z : ℤ) → is_array f ≡ true → TermOf text inner → is_shift z ≡ true → TermOf (shown_entry f text ++ shown_offset z) (with_atom (atoms.At f inner) z)
entry_of f text inner z e t g =
    let front : List Token = array f ∷ tokens.Open ∷ (term t.written ++ tokens.Close ∷ []) in
    let o = offset_of (shown_entry f text) front z (as_shows (shown_entry f text) front (entry_shows f text (term t.written) e t.shows)) g in
    let same : front ++ shift o.written ≡ term (Written.Entry f t.written o.written) = ap (λ (l : List Token). array f ∷ tokens.Open ∷ l) (append_assoc (term t.written) (tokens.Close ∷ []) (shift o.written)) in
    record {
      written = Written.Entry f t.written o.written;
      means = ap (λ (m : NamedTerm). with_atom (atoms.At f m) (shift_of o.written)) t.means ∙ ap (with_atom (atoms.At f inner)) o.means;
      shows = subst (Shows (shown_entry f text ++ shown_offset z)) same o.shows;
    }

-- ---- terms

abbrev AtomIsShown : NamedAtom → Type 0
AtomIsShown a = (plus : ℤ) → is_showable_atom a ≡ true → is_shift plus ≡ true → TermOf (shown_atom a plus) (with_atom a plus)

abbrev TermIsShown : NamedTerm → Type 0
TermIsShown t = is_showable_term t ≡ true → TermOf (shown_term t) t

abbrev ShownAtom : Type 0
ShownAtom = (a : NamedAtom) × AtomIsShown a

abbrev ShownTerm : Type 0
ShownTerm = (t : NamedTerm) × TermIsShown t

text_is : (x : NamedAtom-F NamedAtom NamedTerm) (plus : ℤ) → shown_atom (roll-NamedAtom x) plus ≡ shown_atom_step (map-NamedAtom NamedAtom NamedTerm (ℤ → List ℕ) (List ℕ) shown_atom shown_term x) plus
text_is x plus = ap (λ (g : ℤ → List ℕ). g plus) (fold-roll-NamedAtom (ℤ → List ℕ) (List ℕ) shown_atom_step shown_term_step x)

atom_case : (y : NamedAtom-F ShownAtom ShownTerm) → AtomIsShown (roll-NamedAtom (map-NamedAtom ShownAtom ShownTerm NamedAtom NamedTerm (λ e. e.0) (λ e. e.0) y))
atom_case NamedAtom-F.Zero plus e f = rolled NamedAtom-F.Zero atoms.Zero plus (shown_number plus) zero_atom (text_is NamedAtom-F.Zero plus) (bound_term _ _ (number_of plus f))
atom_case NamedAtom-F.N plus e f = rolled NamedAtom-F.N atoms.N plus (codes "n" ++ shown_offset plus) rows_atom (text_is NamedAtom-F.N plus) (bound_term _ _ (rows_of plus f))
atom_case NamedAtom-F.Nnz plus e f = rolled NamedAtom-F.Nnz atoms.Nnz plus (codes "nnz" ++ shown_offset plus) stored_atom (text_is NamedAtom-F.Nnz plus) (bound_term _ _ (stored_of plus f))
atom_case (NamedAtom-F.Var name) plus e f =
    let known : is_name name ≡ true = sym (fold-roll-NamedAtom Bool Bool showable_atom_step showable_term_step (NamedAtom-F.Var name)) ∙ e in
    rolled (NamedAtom-F.Var name) (atoms.Var name) plus (name ++ shown_offset plus) (named_atom name) (text_is (NamedAtom-F.Var name) plus) (named_of name plus known f)
atom_case (NamedAtom-F.At array inner) plus e f =
    let x : NamedAtom-F NamedAtom NamedTerm = NamedAtom-F.At array inner.0 in
    let both = and_parts (is_array array) (is_showable_term inner.0) (sym (fold-roll-NamedAtom Bool Bool showable_atom_step showable_term_step x) ∙ e) in
    rolled x (atoms.At array inner.0) plus (shown_entry array (shown_term inner.0) ++ shown_offset plus) (entry_atom array inner.0) (text_is x plus) (entry_of array (shown_term inner.0) inner.0 plus both.0 (inner.1 both.1) f)

term_case : (y : NamedTerm-F ShownAtom ShownTerm) → TermIsShown (roll-NamedTerm (map-NamedTerm ShownAtom ShownTerm NamedAtom NamedTerm (λ e. e.0) (λ e. e.0) y))
term_case y e =
    let x : NamedTerm-F NamedAtom NamedTerm = map-NamedTerm ShownAtom ShownTerm NamedAtom NamedTerm (λ e. e.0) (λ e. e.0) y in
    let both = and_parts (is_showable_atom y.atom.0) (is_shift y.plus) (sym (fold-roll-NamedTerm Bool Bool showable_atom_step showable_term_step x) ∙ e) in
    subst (λ (w : List ℕ). TermOf w (roll-NamedTerm x)) (sym (fold-roll-NamedTerm (ℤ → List ℕ) (List ℕ) shown_atom_step shown_term_step x)) (y.atom.1 y.plus both.0 both.1)

pub term_of : (t : NamedTerm) → is_showable_term t ≡ true → TermOf (shown_term t) t
term_of = ind-NamedTerm AtomIsShown TermIsShown
    (λ x y is. subst (λ z. AtomIsShown (roll-NamedAtom z)) is (atom_case y))
    (λ x y is. subst (λ z. TermIsShown (roll-NamedTerm z)) is (term_case y))

-- ---- bounds

abbrev AtomIsBound : NamedAtom → Type 0
AtomIsBound a = (plus : ℤ) → is_bound_atom a ≡ true → is_shift plus ≡ true → BoundOf (shown_atom a plus) (with_atom a plus)

abbrev TermIsBound : NamedTerm → Type 0
TermIsBound t = is_showable_bound t ≡ true → BoundOf (shown_term t) t

rolled_bound : (x : NamedAtom-F NamedAtom NamedTerm) (b : NamedAtom) (plus : ℤ) (text : List ℕ) → roll-NamedAtom x ≡ b → shown_atom (roll-NamedAtom x) plus ≡ text → BoundOf text (with_atom b plus) → BoundOf (shown_atom (roll-NamedAtom x) plus) (with_atom (roll-NamedAtom x) plus)
rolled_bound x b plus text is same h = record {
  written = h.written;
  means = h.means ∙ ap (λ (c : NamedAtom). with_atom c plus) (sym is);
  shows = subst (λ (w : List ℕ). Shows w (term (bound h.written))) (sym same) h.shows;
}

bound_atom_is : (x : NamedAtom-F NamedAtom NamedTerm) → is_bound_atom (roll-NamedAtom x) ≡ bound_step (map-NamedAtom NamedAtom NamedTerm Bool Bool is_bound_atom is_showable_bound x)
bound_atom_is x = fold-roll-NamedAtom Bool Bool bound_step bound_term_step x

bound_case : (x : NamedAtom-F NamedAtom NamedTerm) → AtomIsBound (roll-NamedAtom x)
bound_case NamedAtom-F.Zero plus e f = rolled_bound NamedAtom-F.Zero atoms.Zero plus (shown_number plus) zero_atom (text_is NamedAtom-F.Zero plus) (number_of plus f)
bound_case NamedAtom-F.N plus e f = rolled_bound NamedAtom-F.N atoms.N plus (codes "n" ++ shown_offset plus) rows_atom (text_is NamedAtom-F.N plus) (rows_of plus f)
bound_case NamedAtom-F.Nnz plus e f = rolled_bound NamedAtom-F.Nnz atoms.Nnz plus (codes "nnz" ++ shown_offset plus) stored_atom (text_is NamedAtom-F.Nnz plus) (stored_of plus f)
bound_case (NamedAtom-F.Var name) plus e f = let no : false ≡ true = sym (bound_atom_is (NamedAtom-F.Var name)) ∙ e in absurd cc
bound_case (NamedAtom-F.At array inner) plus e f = let no : false ≡ true = sym (bound_atom_is (NamedAtom-F.At array inner)) ∙ e in absurd cc

abbrev BoundAtom : Type 0
BoundAtom = (a : NamedAtom) × AtomIsBound a

abbrev BoundTerm : Type 0
BoundTerm = (t : NamedTerm) × TermIsBound t

bound_term_case : (y : NamedTerm-F BoundAtom BoundTerm) → TermIsBound (roll-NamedTerm (map-NamedTerm BoundAtom BoundTerm NamedAtom NamedTerm (λ e. e.0) (λ e. e.0) y))
bound_term_case y e =
    let x : NamedTerm-F NamedAtom NamedTerm = map-NamedTerm BoundAtom BoundTerm NamedAtom NamedTerm (λ e. e.0) (λ e. e.0) y in
    let both = and_parts (is_bound_atom y.atom.0) (is_shift y.plus) (sym (fold-roll-NamedTerm Bool Bool bound_step bound_term_step x) ∙ e) in
    subst (λ (w : List ℕ). BoundOf w (roll-NamedTerm x)) (sym (fold-roll-NamedTerm (ℤ → List ℕ) (List ℕ) shown_atom_step shown_term_step x)) (y.atom.1 y.plus both.0 both.1)

pub bound_of : (t : NamedTerm) → is_showable_bound t ≡ true → BoundOf (shown_term t) t
bound_of = ind-NamedTerm AtomIsBound TermIsBound
    (λ x y is. bound_case x)
    (λ x y is. subst (λ z. TermIsBound (roll-NamedTerm z)) is (bound_term_case y))
