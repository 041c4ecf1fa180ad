-- The steps that are kept show what all steps show.
use Rattle.std.proofs.Common.{ℕ, ℤ, zero, suc, ◌+◌, ◌-◌, ◌<◌, ◌≤◌, ◌≡◌, ◌⊎◌, inl, inr, arith, refl, sym, ◌∙◌, subst, ap, List, [], ◌∷◌, ◌++◌, length, map, slice_get, slice_index_or, Bool, true, false, cond, Option, None, Some, Result, Ok, Err, append_assoc, append-nil}
use Rattle.std.specs.Prelude.{◌&&◌, option_and_then, if◌then◌else◌}
use Rattle.std.specs.List.{Contains}
use Rattle.std.specs.Option.{option_map_or}
use Rattle.std.proofs.lemmas.Grind.{common_steps}
use Rattle.std.proofs.lemmas.Option.{gets, slice_get_within, slice_get-get_or, get_or_from_slice_get, option_and_then_some, same_Some}
use Rattle.std.proofs.lemmas.List.{length_push, length-append, get_or_at}
use Rattle.loop_core.specs.declared.nest.Atom.{Atom}
use Rattle.uf_constraints.specs.declared.system.Diff.{Diff}
use Rattle.index_props.specs.declared.rule.RuleInst.{RuleInst}
use Rattle.index_props.specs.declared.certificate.Step.{Step}
use Rattle.index_props.specs.declared.certificate.Step.TheVariants.{Base, Same, Sum, Weaken, Rule}
use Rattle.index_props.specs.Certificate.{conclusion, sum_of, weakened, result_of, named, same_diff, outcome, last_of, step_or}
use Rattle.cert_prune.specs.Needed.{names, is_marked, IsNamed, AreNeeded}
use Rattle.cert_prune.specs.Kept.{numbers, number_in, renamed, kept}

-- One step.

-- what stands at a number in the one list stands at the number's new one in the other
abbrev Moved : List ℕ → List Diff → List Diff → ℕ → Type 0
Moved ns ds es k = (x : Diff) → slice_get ds k ≡ Some x → slice_get es (number_in ns k) ≡ Some x

module _ (ns : List ℕ) (ds es : List Diff) where
  found_moved : (f : Diff → Bool) (k : ℕ) → Moved ns ds es k → (o : Option Diff) → slice_get ds k ≡ o → option_map_or f o false ≡ true → option_map_or f (slice_get es (number_in ns k)) false ≡ true
  found_moved f k m None e h = absurd (cc)
  found_moved f k m (Some x) e h = rw (m x e) h

  and_left : (a b : Bool) → (a && b) ≡ true → a ≡ true
  and_left true b h = refl
  and_left false b h = absurd (cc)

  and_right : (a b : Bool) → (a && b) ≡ true → b ≡ true
  and_right true b h = h
  and_right false b h = absurd (cc)

  and_both : (a b : Bool) → a ≡ true → b ≡ true → (a && b) ≡ true
  and_both a b g h = rw (g, h) refl

  named_moved : (ps : List Diff) (ks : List ℕ) → ((k : ℕ) → Contains ks k → Moved ns ds es k) → named ds ps ks ≡ true → named es ps (map (number_in ns) ks) ≡ true
  named_moved [] [] m h = refl
  named_moved [] (k ∷ ks) m h = absurd (cc)
  named_moved (p ∷ ps) [] m h = absurd (cc)
  named_moved (p ∷ ps) (k ∷ ks) m h =
      let first = option_map_or (same_diff p) (slice_get ds k) false in
      let rest = named ds ps ks in
      and_both (option_map_or (same_diff p) (slice_get es (number_in ns k)) false) (named es ps (map (number_in ns) ks))
      (found_moved (same_diff p) k (m k (0, omega arith, refl)) (slice_get ds k) refl (and_left first rest h))
      (named_moved ps ks (λ j i. m j (suc i.0, omega (arith, i.1), i.2)) (and_right first rest h))

  result_moved : (i j : ℕ) (ks : List ℕ) (r : RuleInst) (d : Diff) → ((k : ℕ) → Contains ks k → Moved ns ds es k) → result_of ds j ks r ≡ Some d → result_of es j (map (number_in ns) ks) r ≡ Some d
  result_moved i j ks r d m h = by (named ds r.premises ks) refl h
    where
      by : (b : Bool) → named ds r.premises ks ≡ b → cond b (slice_get r.results j) None ≡ Some d → result_of es j (map (number_in ns) ks) r ≡ Some d
      by true e g = rw (named_moved r.premises ks m e) g
      by false e g = absurd (cc)

  -- a step gives beside the one list what it gives with its new numbers beside the other
  pub conclusion_moved : (u : List Atom) (base : List Diff) (rules : List RuleInst) (s : Step) (d : Diff) → ((k : ℕ) → Contains (names s) k → Moved ns ds es k) → conclusion u base rules ds s ≡ Some d → conclusion u base rules es (renamed ns s) ≡ Some d
  conclusion_moved u base rules (Base k) d m h = h
  conclusion_moved u base rules (Same a) d m h = h
  conclusion_moved u base rules (Sum k l) d m h =
      option_and_then_some (λ x. option_and_then (sum_of x) (slice_get ds l)) (slice_get ds k) d h
      (λ x e g. option_and_then_some (sum_of x) (slice_get ds l) d g
      (λ y f q. rw (m k (0, omega arith, refl) x e, m l (1, omega arith, refl) y f) q))
  conclusion_moved u base rules (Weaken k c) d m h =
      option_and_then_some (weakened c) (slice_get ds k) d h (λ x e g. rw (m k (0, omega arith, refl) x e) g)
  conclusion_moved u base rules (Rule i j ks) d m h =
      option_and_then_some (result_of ds j ks) (slice_get rules i) d h (λ r e g. rw e (result_moved i j ks r d m g))

-- Lists that grow.

pub get_at : {X : Type 0} (xs : List X) (y : X) (ys : List X) → slice_get (xs ++ y ∷ ys) (length xs) ≡ Some y
get_at [] y ys = refl
get_at (x ∷ xs) y ys = get_at xs y ys

stays : {X : Type 0} (xs : List X) (y x : X) (j : ℕ) → slice_get xs j ≡ Some x → slice_get (xs ++ y ∷ []) j ≡ Some x
stays [] y x j h = absurd (cc)
stays (z ∷ xs) y x zero h = h
stays (z ∷ xs) y x (suc j) h = stays xs y x j h

cases : {X : Type 0} (xs : List X) (y x : X) (j : ℕ) → slice_get (xs ++ y ∷ []) j ≡ Some x → (slice_get xs j ≡ Some x) ⊎ ((j ≡ length xs) × (y ≡ x))
cases [] y x zero h = inr (refl, same_Some y x h)
cases [] y x (suc j) h = absurd (cc)
cases (z ∷ xs) y x zero h = inl h
cases (z ∷ xs) y x (suc j) h = elim (cases xs y x j h) [ inl g ↦ inl g | inr p ↦ inr (ap suc p.0, p.1) ]

-- All steps.

-- how many marks there are
abbrev pub count : List Bool → ℕ
count [] = 0
count (m ∷ ms) = if m then suc (count ms) else count ms

-- the new number of the step after some marks is their count
pub numbers_at : (n : ℕ) (mp : List Bool) (m : Bool) (ms : List Bool) → slice_get (numbers n (mp ++ m ∷ ms)) (length mp) ≡ Some (n + count mp)
numbers_at n [] m ms = ap Some (omega arith)
numbers_at n (true ∷ mp) m ms = numbers_at (n + 1) mp m ms ∙ ap Some (omega arith)
numbers_at n (false ∷ mp) m ms = numbers_at n mp m ms

count_push : (mp : List Bool) (m : Bool) → count (mp ++ m ∷ []) ≡ (if m then suc (count mp) else count mp)
count_push [] true = refl
count_push [] false = refl
count_push (true ∷ mp) true = ap suc (count_push mp true)
count_push (true ∷ mp) false = ap suc (count_push mp false)
count_push (false ∷ mp) true = count_push mp true
count_push (false ∷ mp) false = count_push mp false

pub number_at : (mp : List Bool) (m : Bool) (ms : List Bool) → number_in (numbers 0 (mp ++ m ∷ ms)) (length mp) ≡ count mp
number_at mp m ms = get_or_from_slice_get (numbers 0 (mp ++ m ∷ ms)) (length mp) (count mp) (length mp) (numbers_at 0 mp m ms ∙ ap Some (omega arith))

-- the constraint that was found, as the outcome
abbrev found_last : Option Diff → Result Diff ℕ
found_last o = option_map_or Ok o (Err 0)

module _ (steps : List Step) (marks : List Bool) (needed : AreNeeded 0 steps marks) (u : List Atom) (base : List Diff) (rules : List RuleInst) (d : Diff) where
  abbrev new : ℕ → ℕ
  new k = number_in (numbers 0 marks) k

  -- sp are the steps so far and mp their marks; what the marked ones give stands at their new numbers
  record Kept (sp ss : List Step) (mp ms : List Bool) (ds es : List Diff) : Type 0 where
    split : steps ≡ sp ++ ss
    parted : marks ≡ mp ++ ms
    long : length sp ≡ length ds
    wide : length mp ≡ length ds
    few : length es ≡ count mp
    moved : (k : ℕ) → is_marked marks k ≡ true → Moved (numbers 0 marks) ds es k
    last : (k : ℕ) → suc k ≡ length ds → is_marked marks k ≡ true → suc (new k) ≡ length es

  ends : (sp : List Step) (mp ms : List Bool) (ds es : List Diff) → Kept sp [] mp ms ds es → (o : Option Diff) → slice_get ds (length ds - 1) ≡ o → found_last o ≡ Ok d → last_of es ≡ Ok d
  ends sp mp ms ds es k None e h = absurd (cc)
  ends sp mp ms ds es k (Some x) e h =
      let at = length ds - 1 in
      let within : at < length ds = slice_get_within ds at x e in
      let next : suc at ≡ length ds = omega arith in
      let all : length steps ≡ length ds = ap length k.split ∙ ap length (append-nil sp) ∙ k.long in
      let m : is_marked marks at ≡ true = needed.last at (next ∙ sym all) in
      let new_last : new at ≡ length es - 1 = (let l = k.last at next m in omega arith) in
      let there : slice_get es (length es - 1) ≡ Some x = subst (λ (j : ℕ). slice_get es j ≡ Some x) new_last (k.moved at m x e) in
      rw there h

  at_end : (sp : List Step) (mp ms : List Bool) (ds es : List Diff) → Kept sp [] mp ms ds es → outcome u base rules ds [] ≡ Ok d → outcome u base rules es (kept (numbers 0 marks) ms []) ≡ Ok d
  at_end sp mp ms ds es k h = ends sp mp ms ds es k (slice_get ds (length ds - 1)) refl h

  module _ (s : Step) (ss sp : List Step) (m : Bool) (mp ms : List Bool) (ds es : List Diff) (k : Kept sp (s ∷ ss) mp (m ∷ ms) ds es) where
    here : is_marked marks (length ds) ≡ m
    here = subst (λ (l : List Bool). is_marked l (length ds) ≡ m) (sym k.parted) (get_or_at mp m ms false (length ds) k.wide)

    number_here : new (length ds) ≡ length es
    number_here =
        subst (λ (l : List Bool). number_in (numbers 0 l) (length ds) ≡ length es) (sym k.parted)
        (subst (λ (j : ℕ). number_in (numbers 0 (mp ++ m ∷ ms)) j ≡ length es) k.wide (number_at mp m ms ∙ sym k.few))

    step_here : slice_get steps (length ds) ≡ Some s
    step_here = subst (λ (l : List Step). slice_get l (length ds) ≡ Some s) (sym k.split) (subst (λ (j : ℕ). slice_get (sp ++ s ∷ ss) j ≡ Some s) k.long (get_at sp s ss))

    steps_on : steps ≡ (sp ++ s ∷ []) ++ ss
    steps_on = k.split ∙ sym (append_assoc sp (s ∷ []) ss)

    marks_on : marks ≡ (mp ++ m ∷ []) ++ ms
    marks_on = k.parted ∙ sym (append_assoc mp (m ∷ []) ms)

    module _ (x : Diff) where
      sp_long : length (sp ++ s ∷ []) ≡ length (ds ++ x ∷ [])
      sp_long = length_push sp s ∙ ap (λ (n : ℕ). n + 1) k.long ∙ sym (length_push ds x)

      mp_long : length (mp ++ m ∷ []) ≡ length (ds ++ x ∷ [])
      mp_long = length_push mp m ∙ ap (λ (n : ℕ). n + 1) k.wide ∙ sym (length_push ds x)

      last_is : (j : ℕ) → suc j ≡ length (ds ++ x ∷ []) → j ≡ length ds
      last_is j e = let l = length_push ds x in omega arith

      more_few : length es + 1 ≡ suc (count mp)
      more_few = let f = k.few in omega arith

      es_long : suc (length es) ≡ length (es ++ x ∷ [])
      es_long = let l = length_push es x in omega arith

      with : m ≡ true → Kept (sp ++ s ∷ []) ss (mp ++ m ∷ []) ms (ds ++ x ∷ []) (es ++ x ∷ [])
      with is = record {
        split = steps_on;
        parted = marks_on;
        long = sp_long;
        wide = mp_long;
        few = length_push es x ∙ more_few ∙ sym (count_push mp m ∙ rw is refl);
        moved = λ j mk y h. elim (cases ds x y j h) [
          | inl g ↦ stays es x y (new j) (k.moved j mk y g)
          | inr p ↦ subst (λ (i : ℕ). slice_get (es ++ x ∷ []) i ≡ Some y) (sym (ap new p.0 ∙ number_here)) (get_at es x [] ∙ ap Some p.1)
        ];
        last = λ j e mk. ap suc (ap new (last_is j e) ∙ number_here) ∙ es_long;
      }

      unmarked : (j : ℕ) → j ≡ length ds → m ≡ false → is_marked marks j ≡ true → ⊥
      unmarked j e is mk =
          let f : is_marked marks (length ds) ≡ true = subst (λ (i : ℕ). is_marked marks i ≡ true) e mk in
          let g : is_marked marks (length ds) ≡ false = here ∙ is in
          cc

      without : m ≡ false → Kept (sp ++ s ∷ []) ss (mp ++ m ∷ []) ms (ds ++ x ∷ []) es
      without is = record {
        split = steps_on;
        parted = marks_on;
        long = sp_long;
        wide = mp_long;
        few = k.few ∙ sym (count_push mp m ∙ rw is refl);
        moved = λ j mk y h. elim (cases ds x y j h) [
          | inl g ↦ k.moved j mk y g
          | inr p ↦ absurd (unmarked j p.0 is mk)
        ];
        last = λ j e mk. absurd (unmarked j (last_is j e) is mk);
      }

    abbrev Goes : Type 0
    Goes = (sp : List Step) (mp : List Bool) (ds es : List Diff) → Kept sp ss mp ms ds es → outcome u base rules ds ss ≡ Ok d → outcome u base rules es (kept (numbers 0 marks) ms ss) ≡ Ok d

    module _ (on : Goes) where
      moved_here : m ≡ true → (j : ℕ) → Contains (names s) j → Moved (numbers 0 marks) ds es j
      moved_here is j i x e =
          k.moved j (needed.closed j (length ds) s (omega arith) (record { after = slice_get_within ds j x e; step = step_here; marked = here ∙ is; named = i })) x e

      picked : (x : Diff) → conclusion u base rules ds s ≡ Some x → outcome u base rules (ds ++ x ∷ []) ss ≡ Ok d → (b : Bool) → m ≡ b
          → outcome u base rules es (if b then renamed (numbers 0 marks) s ∷ kept (numbers 0 marks) ms ss else kept (numbers 0 marks) ms ss) ≡ Ok d
      picked x e g true is =
          rw (conclusion_moved (numbers 0 marks) ds es u base rules s x (moved_here is) e)
          (on (sp ++ s ∷ []) (mp ++ m ∷ []) (ds ++ x ∷ []) (es ++ x ∷ []) (with x is) g)
      picked x e g false is = on (sp ++ s ∷ []) (mp ++ m ∷ []) (ds ++ x ∷ []) es (without x is) g

      concluded : (o : Option Diff) → conclusion u base rules ds s ≡ o → step_or o (length ds) (λ x. outcome u base rules (ds ++ x ∷ []) ss) ≡ Ok d
          → outcome u base rules es (kept (numbers 0 marks) (m ∷ ms) (s ∷ ss)) ≡ Ok d
      concluded None e g = absurd (cc)
      concluded (Some x) e g = picked x e g m refl

  go : (ss sp : List Step) (mp ms : List Bool) (ds es : List Diff) → Kept sp ss mp ms ds es → outcome u base rules ds ss ≡ Ok d → outcome u base rules es (kept (numbers 0 marks) ms ss) ≡ Ok d
  go [] sp mp ms ds es k h = at_end sp mp ms ds es k h
  go (s ∷ ss) sp mp [] ds es k h = absurd (
      let a : length steps ≡ length sp + suc (length ss) = ap length k.split ∙ length-append sp (s ∷ ss) in
      let b : length marks ≡ length mp = ap length k.parted ∙ ap length (append-nil mp) in
      omega (arith, needed.long, k.long, k.wide))
  go (s ∷ ss) sp mp (m ∷ ms) ds es k h =
      concluded s ss sp m mp ms ds es k (λ xp np xs ys. go ss xp np ms xs ys) (conclusion u base rules ds s) refl h

  pub passes : outcome u base rules [] steps ≡ Ok d → outcome u base rules [] (kept (numbers 0 marks) marks steps) ≡ Ok d
  passes h = go steps [] [] marks [] [] (record {
    split = refl;
    parted = refl;
    long = refl;
    wide = refl;
    few = refl;
    moved = λ k m x e. absurd (cc);
    last = λ k e m. absurd (omega arith);
  }) h

-- No more steps are kept than there are.
pub kept_few : (ns : List ℕ) (ms : List Bool) (ss : List Step) → length (kept ns ms ss) ≤ length ss
kept_few ns ms [] = omega arith
kept_few ns [] (s ∷ ss) = omega arith
kept_few ns (true ∷ ms) (s ∷ ss) = let h = kept_few ns ms ss in omega arith
kept_few ns (false ∷ ms) (s ∷ ss) = let h = kept_few ns ms ss in omega arith
