-- Constraints of loops, guards and cells, as sentences over values of terms.
use Rattle.std.proofs.Common.{◌≡◌, ◌⊎◌, inl, inr, ℕ, ℤ, pos, ◌+ℤ◌, ◌≤ℤ◌, Bool, true, false, ◌||◌, int_lt, List, [], ◌∷◌, ◌++◌, refl, sym, ◌∙◌, subst, rules, arith}
use Rattle.std.specs.Int.Signed.{◌<ℤ◌}
use Rattle.std.specs.Ordering.{int_eq}
use Rattle.std.specs.List.{All}
use Rattle.std.proofs.lemmas.Int.{ints}
use Rattle.std.proofs.lemmas.Bool.Decides.{Decides-int_eq}
use Rattle.std.proofs.lemmas.List.Elements.{All-nil, All-cons, All-head, All-tail, All-append}
use Rattle.loop_core.specs.declared.nest.Side.{Side}
use Rattle.loop_core.specs.declared.nest.Rel.{Rel}
use Rattle.loop_core.specs.declared.nest.Rel.TheVariants.{Equal as EqualRel, Less as LessRel, LessEqual as LessEqualRel}
use Rattle.loop_core.specs.declared.nest.Term.{Term}
use Rattle.loop_core.specs.declared.nest.Atom as ATOM
use Rattle.loop_core.specs.declared.nest.Atom.TheVariants.{Zero, N, Nnz}
use Rattle.loop_core.specs.Lists.{Lists}
use Rattle.loop_core.specs.Binding.{Binding}
use Rattle.loop_core.specs.Terms.{term_value, atom_value}
use Rattle.loop_core.specs.Instances.{related}
use Rattle.uf_constraints.specs.declared.reach.Around.{Around}
use Rattle.uf_constraints.specs.declared.reach.Around.TheVariants.{Loop, Guard}
use Rattle.uf_constraints.specs.Truth.{Holds, AllHold}
use Rattle.uf_constraints.specs.Universe.{plain}
use Rattle.uf_constraints.specs.Bases.{at_most, less, equal, on, variable, compared_by, said_by, said_by_all}
use Rattle.dep_extract.proofs.Worth.{on_line, value_on}
use Rattle.dep_extract.proofs.Rounds.{Said, Met}

pub all_parts : {X : Type 0} (P : X → Type 0) (xs ys : List X) → All P (xs ++ ys) → All P xs × All P ys
all_parts P [] ys h = (All-nil P, h)
all_parts P (x ∷ xs) ys h =
    let t = all_parts P xs ys (All-tail P x (xs ++ ys) h) in
    (All-cons P x xs (All-head P x (xs ++ ys) h) t.0, t.1)

module _ (a : Lists) (e : List Binding) where
  abbrev value : Term → ℤ
  value t = term_value a e t

  split : (t : Term) → term_value a e t ≡ (atom_value a e t.atom +ℤ t.plus)
  split t = search (rules, ATOM.TheFolds.the_lemmas)

  pub up_to_means : (s t : Term) → Holds a e (at_most s t) → term_value a e s ≤ℤ term_value a e t
  up_to_means s t h = omega (arith, ints, split s, split t)

  pub up_to_holds : (s t : Term) → term_value a e s ≤ℤ term_value a e t → Holds a e (at_most s t)
  up_to_holds s t h = omega (arith, ints, split s, split t)

  pub under_means : (s t : Term) → Holds a e (less s t) → term_value a e s <ℤ term_value a e t
  under_means s t h = omega (arith, ints, split s, split t)

  pub under_holds : (s t : Term) → term_value a e s <ℤ term_value a e t → Holds a e (less s t)
  under_holds s t h = omega (arith, ints, split s, split t)

  pub zero_is : term_value a e (plain Zero) ≡ pos 0
  zero_is = search (rules, ATOM.TheFolds.the_lemmas)

  no_more : (z : ℤ) → (z +ℤ pos 0) ≡ z
  no_more z = omega (arith, ints)

  pub rows_are : term_value a e (plain N) ≡ pos a.n
  rows_are =
      let sum : term_value a e (plain N) ≡ (pos a.n +ℤ pos 0) = search (rules, ATOM.TheFolds.the_lemmas) in
      sum ∙ no_more (pos a.n)

  pub stored_are : term_value a e (plain Nnz) ≡ pos a.nnz
  stored_are =
      let sum : term_value a e (plain Nnz) ≡ (pos a.nnz +ℤ pos 0) = search (rules, ATOM.TheFolds.the_lemmas) in
      sum ∙ no_more (pos a.nnz)

  pub variable_is : (side : Side) (line : ℕ) → term_value a e (variable side line) ≡ on_line e side line
  variable_is side line =
      let sum : term_value a e (variable side line) ≡ (on_line e side line +ℤ pos 0) = search (rules, ATOM.TheFolds.the_lemmas) in
      sum ∙ no_more (on_line e side line)

  pub level_means : (s t : Term) → AllHold a e (equal s t) → term_value a e s ≡ term_value a e t
  level_means s t h =
      let one = up_to_means s t (All-head (Holds a e) (at_most s t) (at_most t s ∷ []) h) in
      let two = up_to_means t s (All-head (Holds a e) (at_most t s) [] (All-tail (Holds a e) (at_most s t) (at_most t s ∷ []) h)) in
      omega (arith, ints)

  pub level_holds : (s t : Term) → term_value a e s ≡ term_value a e t → AllHold a e (equal s t)
  level_holds s t is =
      All-cons (Holds a e) (at_most s t) (at_most t s ∷ []) (up_to_holds s t (omega (arith, ints, is)))
      (All-cons (Holds a e) (at_most t s) [] (up_to_holds t s (omega (arith, ints, is))) (All-nil (Holds a e)))

  less_means : (x y : ℤ) → int_lt x y ≡ true → x <ℤ y
  less_means x y h = grind (arith, ints)

  less_holds : (x y : ℤ) → x <ℤ y → int_lt x y ≡ true
  less_holds x y h = grind (arith, ints)

  or_cases : (s t : Bool) → (s || t) ≡ true → (s ≡ true) ⊎ (t ≡ true)
  or_cases true t e = inl refl
  or_cases false t e = inr e

  or_left : (s t : Bool) → s ≡ true → (s || t) ≡ true
  or_left true t e = refl
  or_left false t e = absurd (cc)

  or_right : (s t : Bool) → t ≡ true → (s || t) ≡ true
  or_right true t e = refl
  or_right false t e = e

  at_most_means : (x y : ℤ) → (int_lt x y || int_eq x y) ≡ true → x ≤ℤ y
  at_most_means x y h = by (or_cases (int_lt x y) (int_eq x y) h)
    where
      by : (int_lt x y ≡ true) ⊎ (int_eq x y ≡ true) → x ≤ℤ y
      by (inl l) = let m = less_means x y l in omega (arith, ints)
      by (inr l) = let m = (Decides-int_eq x y).0 l in omega (arith, ints)

  at_most_holds : (x y : ℤ) → x ≤ℤ y → (int_lt x y || int_eq x y) ≡ true
  at_most_holds x y h = by (int_lt x y) refl
    where
      by : (b : Bool) → int_lt x y ≡ b → (int_lt x y || int_eq x y) ≡ true
      by true l = or_left (int_lt x y) (int_eq x y) l
      by false l = or_right (int_lt x y) (int_eq x y) ((Decides-int_eq x y).1 (same l))
        where
          same : int_lt x y ≡ false → x ≡ y
          same l = grind (arith, ints)

  compared_means : (rel : Rel) (s t : Term) → AllHold a e (compared_by rel s t) → related rel (term_value a e s) (term_value a e t) ≡ true
  compared_means EqualRel s t h = (Decides-int_eq (value s) (value t)).1 (level_means s t h)
  compared_means LessRel s t h = less_holds (value s) (value t) (under_means s t (All-head (Holds a e) (less s t) [] h))
  compared_means LessEqualRel s t h = at_most_holds (value s) (value t) (up_to_means s t (All-head (Holds a e) (at_most s t) [] h))

  compared_holds : (rel : Rel) (s t : Term) → related rel (term_value a e s) (term_value a e t) ≡ true → AllHold a e (compared_by rel s t)
  compared_holds EqualRel s t h = level_holds s t ((Decides-int_eq (value s) (value t)).0 h)
  compared_holds LessRel s t h = All-cons (Holds a e) (less s t) [] (under_holds s t (less_means (value s) (value t) h)) (All-nil (Holds a e))
  compared_holds LessEqualRel s t h = All-cons (Holds a e) (at_most s t) [] (up_to_holds s t (at_most_means (value s) (value t) h)) (All-nil (Holds a e))

  module _ (side : Side) where
    abbrev r : ℕ → ℤ
    r = on_line e side

    said_means : (x : Around) → AllHold a e (said_by side x) → Said a r x
    said_means (Loop line lo hi) h =
        let v : Term = variable side line in
        let low = up_to_means (on side lo) v (All-head (Holds a e) (at_most (on side lo) v) (less v (on side hi) ∷ []) h) in
        let high = under_means v (on side hi) (All-head (Holds a e) (less v (on side hi)) [] (All-tail (Holds a e) (at_most (on side lo) v) (less v (on side hi) ∷ []) h)) in (
          subst (λ (z : ℤ × ℤ). z.0 ≤ℤ z.1) (λ i. (value_on a e side lo i, variable_is side line i)) low,
          subst (λ (z : ℤ × ℤ). z.0 <ℤ z.1) (λ i. (variable_is side line i, value_on a e side hi i)) high,
        )
    said_means (Guard rel s t) h =
        sym (λ i. related rel (value_on a e side s i) (value_on a e side t i)) ∙ compared_means rel (on side s) (on side t) h

    said_holds : (x : Around) → Said a r x → AllHold a e (said_by side x)
    said_holds (Loop line lo hi) h =
        let v : Term = variable side line in
        let low : term_value a e (on side lo) ≤ℤ term_value a e v = subst (λ (z : ℤ × ℤ). z.0 ≤ℤ z.1) (λ i. (sym (value_on a e side lo) i, sym (variable_is side line) i)) h.0 in
        let high : term_value a e v <ℤ term_value a e (on side hi) = subst (λ (z : ℤ × ℤ). z.0 <ℤ z.1) (λ i. (sym (variable_is side line) i, sym (value_on a e side hi) i)) h.1 in
        All-cons (Holds a e) (at_most (on side lo) v) (less v (on side hi) ∷ []) (up_to_holds (on side lo) v low)
        (All-cons (Holds a e) (less v (on side hi)) [] (under_holds v (on side hi) high) (All-nil (Holds a e)))
    said_holds (Guard rel s t) h =
        compared_holds rel (on side s) (on side t) ((λ i. related rel (value_on a e side s i) (value_on a e side t i)) ∙ h)

    pub met_means : (xs : List Around) → AllHold a e (said_by_all side xs) → Met a r xs
    met_means [] h = tt
    met_means (x ∷ xs) h =
        let t = all_parts (Holds a e) (said_by side x) (said_by_all side xs) h in
        (said_means x t.0, met_means xs t.1)

    pub met_holds : (xs : List Around) → Met a r xs → AllHold a e (said_by_all side xs)
    met_holds [] m = All-nil (Holds a e)
    met_holds (x ∷ xs) m = All-append (Holds a e) (said_by side x) (said_by_all side xs) (said_holds x m.0) (met_holds xs m.1)
