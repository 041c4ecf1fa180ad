-- The places in brackets, and those that an expression reads.
use Rattle.std.proofs.Common.{◌≡◌, ◌⊎◌, inl, inr, ℕ, ℤ, ◌+◌, Bool, true, false, List, [], ◌∷◌, ◌++◌, refl, sym, ap, ◌∙◌, subst, rules}
use Rattle.std.specs.List.{Contains, list_all, flat_map}
use Rattle.std.proofs.lemmas.List.Elements.{All-contains, Contains-append_left, Contains-append_right, Contains-append_cases}
use Rattle.std.proofs.lemmas.List.Concat.{flat_map-append}
use Rattle.wave_base.specs.declared.types.ArrayId.{ArrayId}
use Rattle.loop_core.specs.declared.place.Place.{Place}
use Rattle.loop_core.specs.declared.nest.Op.{Op}
use Rattle.loop_core.specs.declared.nest.Term.{Term}
use Rattle.loop_core.specs.declared.nest.Expr.{Expr, roll-Expr, map-Expr}
use Rattle.loop_core.specs.declared.nest.Expr as EXPR
use Rattle.loop_core.specs.declared.nest.Expr.TheOpen.{Expr-F}
use Rattle.loop_core.specs.declared.nest.Expr.TheFolds.{ind-Expr}
use Rattle.loop_core.specs.Lists.{Lists}
use Rattle.loop_core.specs.Binding.{Binding}
use Rattle.loop_core.specs.Terms.{term_value}
use Rattle.loop_core.specs.Shape.{Loop, term_vars, expr_terms}
use Rattle.loop_core.specs.IsNest.{is_round}
use Rattle.loop_core.specs.Instances.{Formula, Number, Load, Own, Apply, formula}
use Rattle.loop_core.specs.Values.{reads}
use Rattle.uf_constraints.specs.declared.reach.Usage.{Usage}
use Rattle.uf_constraints.specs.declared.reach.Usage.TheVariants.{Entry, Reads, Sets}
use Rattle.uf_constraints.specs.declared.reach.Access.{Access}
use Rattle.uf_constraints.specs.declared.reach.Bracket.{Bracket}
use Rattle.uf_constraints.specs.Brackets.{access, bracket, numbered, term_accesses, bracket_accesses, expr_accesses}
use Rattle.dep_extract.proofs.Members.{parts, none, one, cons_cases, here, there}
use Rattle.dep_extract.proofs.Worth.{worth, Agrees, value_known}
use Rattle.dep_extract.proofs.Entries.{only_entries}

-- the use of a write, and of a read
abbrev pub use_of : Bool → Usage
use_of true = Sets
use_of false = Reads

abbrev pub place_at : Lists → (ℕ → ℤ) → ArrayId → Term → Place
place_at a r array at = record { array = array; at = worth a r at }

abbrev pub Accessed : Lists → (ℕ → ℤ) → Usage → Place → List Access → Type 0
Accessed a r u p xs = (x : Access) × Contains xs x × (x.usage ≡ u) × (place_at a r x.array x.at ≡ p)

abbrev pub Bracketed : Lists → (ℕ → ℤ) → Usage → Place → List Bracket → Type 0
Bracketed a r u p bs = (b : Bracket) × Contains bs b × (b.usage ≡ u) × (place_at a r b.array b.at ≡ p)

module _ (a : Lists) (r : ℕ → ℤ) (u : Usage) (p : Place) where
  pub to_brackets : (k : ℕ) (xs : List Access) → Accessed a r u p xs → Bracketed a r u p (numbered k xs)
  to_brackets k [] h = absurd (none h.0 h.1)
  to_brackets k (x ∷ xs) h = by (cons_cases x xs h.0 h.1) (to_brackets (k + 1) xs)
    where
      by : (x ≡ h.0) ⊎ Contains xs h.0 → (Accessed a r u p xs → Bracketed a r u p (numbered (k + 1) xs)) → Bracketed a r u p (numbered k (x ∷ xs))
      by (inl e) rest = (bracket k x, here (bracket k x) (numbered (k + 1) xs), ap (λ y. y.usage) e ∙ h.2, ap (λ y. place_at a r y.array y.at) e ∙ h.3)
      by (inr c) rest =
          let t = rest (h.0, c, h.2, h.3) in
          (t.0, there (bracket k x) (numbered (k + 1) xs) t.0 t.1, t.2, t.3)

  pub from_brackets : (k : ℕ) (xs : List Access) → Bracketed a r u p (numbered k xs) → Accessed a r u p xs
  from_brackets k [] h = absurd (none h.0 h.1)
  from_brackets k (x ∷ xs) h = by (cons_cases (bracket k x) (numbered (k + 1) xs) h.0 h.1) (from_brackets (k + 1) xs)
    where
      by : (bracket k x ≡ h.0) ⊎ Contains (numbered (k + 1) xs) h.0 → (Bracketed a r u p (numbered (k + 1) xs) → Accessed a r u p xs) → Accessed a r u p (x ∷ xs)
      by (inl e) rest = (x, here x xs, ap (λ y. y.usage) e ∙ h.2, ap (λ y. place_at a r y.array y.at) e ∙ h.3)
      by (inr c) rest =
          let t = rest (h.0, c, h.2, h.3) in
          (t.0, there x xs t.0 t.1, t.2, t.3)

  pub accessed_left : (xs ys : List Access) → Accessed a r u p xs → Accessed a r u p (xs ++ ys)
  accessed_left xs ys h = (h.0, Contains-append_left xs ys h.0 h.1, h.2, h.3)

  pub accessed_right : (xs ys : List Access) → Accessed a r u p ys → Accessed a r u p (xs ++ ys)
  accessed_right xs ys h = (h.0, Contains-append_right xs ys h.0 h.1, h.2, h.3)

  pub accessed_cases : (xs ys : List Access) → Accessed a r u p (xs ++ ys) → Accessed a r u p xs ⊎ Accessed a r u p ys
  accessed_cases xs ys h = by (Contains-append_cases xs ys h.0 h.1)
    where
      by : Contains xs h.0 ⊎ Contains ys h.0 → Accessed a r u p xs ⊎ Accessed a r u p ys
      by (inl c) = inl (h.0, c, h.2, h.3)
      by (inr c) = inr (h.0, c, h.2, h.3)

no_use : (w : Bool) → Entry ≡ use_of w → ⊥
no_use true e = absurd (cc)
no_use false e = absurd (cc)

-- terms have no reads and no writes
pub in_term : (a : Lists) (r : ℕ → ℤ) (w : Bool) (p : Place) (t : Term) → Accessed a r (use_of w) p (term_accesses t) → ⊥
in_term a r w p t h = no_use w (sym (All-contains (λ x. x.usage ≡ Entry) (term_accesses t) h.0 (only_entries t) h.1) ∙ h.2)

pub in_terms : (a : Lists) (r : ℕ → ℤ) (w : Bool) (p : Place) (s t : Term) → Accessed a r (use_of w) p (term_accesses s ++ term_accesses t) → ⊥
in_terms a r w p s t h = by (accessed_cases a r (use_of w) p (term_accesses s) (term_accesses t) h)
  where
    by : Accessed a r (use_of w) p (term_accesses s) ⊎ Accessed a r (use_of w) p (term_accesses t) → ⊥
    by (inl c) = in_term a r w p s c
    by (inr c) = in_term a r w p t c

-- What an expression reads.

module _ (a : Lists) (around : List Loop) (env : List Binding) (r : ℕ → ℤ) (agrees : Agrees around env r) (p : Place) where
  abbrev Same : Formula → List Access → List Term → Type 0
  Same f xs ts =
      list_all (is_round around) (flat_map term_vars ts) ≡ true
      → (Contains (reads f) p → Accessed a r Reads p xs) × (Accessed a r Reads p xs → Contains (reads f) p)

  abbrev ExprSame : Expr → Type 0
  ExprSame e = Same (formula a env e) (expr_accesses e) (expr_terms e)

  no_read : (f : Formula) → reads f ≡ [] → Same f [] []
  no_read f is known = (λ c. absurd (none p (subst (λ l. Contains l p) is c)), λ h. absurd (none h.0 h.1))

  read : (array : ArrayId) (at : Term) → Same (Load array (term_value a env at)) (bracket_accesses Reads array at) (at ∷ [])
  read array at known =
      let same : term_value a env at ≡ worth a r at = value_known a around env r agrees at (parts (is_round around) (term_vars at) [] known).0 in
      let as_place : (z : ℤ) → Place = λ z. record { array = array; at = z } in (
        λ c. (access Reads array at, here (access Reads array at) (term_accesses at), refl, ap as_place (sym same) ∙ one (as_place (term_value a env at)) p c),
        λ h. by h (cons_cases (access Reads array at) (term_accesses at) h.0 h.1) (ap as_place same),
      )
    where
      by : (h : Accessed a r Reads p (bracket_accesses Reads array at)) → (access Reads array at ≡ h.0) ⊎ Contains (term_accesses at) h.0
          → ◌≡◌ {A = Place} (record { array = array; at = term_value a env at }) (place_at a r array at)
          → Contains (reads (Load array (term_value a env at))) p
      by h (inl e) same = subst (λ q. Contains (reads (Load array (term_value a env at))) q) (same ∙ ap (λ y. place_at a r y.array y.at) e ∙ h.3) (here (record { array = array; at = term_value a env at }) [])
      by h (inr c) same = absurd (in_term a r false p at (h.0, c, h.2, h.3))

  joined : (op : Op) (f g : Formula) (xs ys : List Access) (ts us : List Term) → Same f xs ts → Same g ys us → Same (Apply op f g) (xs ++ ys) (ts ++ us)
  joined op f g xs ys ts us left right known =
      let t = parts (is_round around) (flat_map term_vars ts) (flat_map term_vars us) (ap (list_all (is_round around)) (sym (flat_map-append term_vars ts us)) ∙ known) in
      let l = left t.0 in
      let m = right t.1 in (
        λ c. forth l.0 m.0 (Contains-append_cases (reads f) (reads g) p c),
        λ h. back l.1 m.1 (accessed_cases a r Reads p xs ys h),
      )
    where
      forth : (Contains (reads f) p → Accessed a r Reads p xs) → (Contains (reads g) p → Accessed a r Reads p ys) → Contains (reads f) p ⊎ Contains (reads g) p → Accessed a r Reads p (xs ++ ys)
      forth l m (inl c) = accessed_left a r Reads p xs ys (l c)
      forth l m (inr c) = accessed_right a r Reads p xs ys (m c)

      back : (Accessed a r Reads p xs → Contains (reads f) p) → (Accessed a r Reads p ys → Contains (reads g) p) → Accessed a r Reads p xs ⊎ Accessed a r Reads p ys → Contains (reads f ++ reads g) p
      back l m (inl h) = Contains-append_left (reads f) (reads g) p (l h)
      back l m (inr h) = Contains-append_right (reads f) (reads g) p (m h)

  same_as : (e : Expr) (f : Formula) (xs : List Access) (ts : List Term) → formula a env e ≡ f → expr_accesses e ≡ xs → expr_terms e ≡ ts → Same f xs ts → ExprSame e
  same_as e f xs ts i j k s = subst (λ (z : Formula × List Access × List Term). Same z.0 z.1 z.2) (λ n. (sym i n, sym j n, sym k n)) s

  expr_case : (y : Expr-F ((e : Expr) × ExprSame e)) → ExprSame (roll-Expr (map-Expr ((e : Expr) × ExprSame e) Expr (λ e. e.0) y))
  expr_case (Expr-F.Lit v) =
      same_as (roll-Expr (Expr-F.Lit v)) (Number v) [] [] (search (rules, EXPR.TheFolds.the_lemmas)) (search (rules, EXPR.TheFolds.the_lemmas)) (search (rules, EXPR.TheFolds.the_lemmas)) (no_read (Number v) refl)
  expr_case (Expr-F.Local v) =
      same_as (roll-Expr (Expr-F.Local v)) (Own v) [] [] (search (rules, EXPR.TheFolds.the_lemmas)) (search (rules, EXPR.TheFolds.the_lemmas)) (search (rules, EXPR.TheFolds.the_lemmas)) (no_read (Own v) refl)
  expr_case (Expr-F.Read array at) =
      same_as (roll-Expr (Expr-F.Read array at)) (Load array (term_value a env at)) (bracket_accesses Reads array at) (at ∷ []) (search (rules, EXPR.TheFolds.the_lemmas)) (search (rules, EXPR.TheFolds.the_lemmas)) (search (rules, EXPR.TheFolds.the_lemmas)) (read array at)
  expr_case (Expr-F.Op op l m) =
      same_as (roll-Expr (Expr-F.Op op l.0 m.0)) (Apply op (formula a env l.0) (formula a env m.0)) (expr_accesses l.0 ++ expr_accesses m.0) (expr_terms l.0 ++ expr_terms m.0) (search (rules, EXPR.TheFolds.the_lemmas)) (search (rules, EXPR.TheFolds.the_lemmas)) (search (rules, EXPR.TheFolds.the_lemmas)) (joined op (formula a env l.0) (formula a env m.0) (expr_accesses l.0) (expr_accesses m.0) (expr_terms l.0) (expr_terms m.0) l.1 m.1)

  pub expr_same : (e : Expr) → ExprSame e
  expr_same = ind-Expr ExprSame (λ x y is. subst (λ z. ExprSame (roll-Expr z)) is (expr_case y))

-- An expression writes nothing.

abbrev NoWrite : Lists → (ℕ → ℤ) → Place → List Access → Type 0
NoWrite a r p xs = Accessed a r Sets p xs → ⊥

module _ (a : Lists) (r : ℕ → ℤ) (p : Place) where
  abbrev ExprNoWrite : Expr → Type 0
  ExprNoWrite e = NoWrite a r p (expr_accesses e)

  no_write_as : (e : Expr) (xs : List Access) → expr_accesses e ≡ xs → NoWrite a r p xs → ExprNoWrite e
  no_write_as e xs is never h = never (subst (Accessed a r Sets p) is h)

  no_write_read : (array : ArrayId) (at : Term) → NoWrite a r p (bracket_accesses Reads array at)
  no_write_read array at h = by (cons_cases (access Reads array at) (term_accesses at) h.0 h.1)
    where
      by : (access Reads array at ≡ h.0) ⊎ Contains (term_accesses at) h.0 → ⊥
      by (inl is) = clash (ap (λ y. y.usage) is ∙ h.2)
        where
          clash : Reads ≡ Sets → ⊥
          clash e = absurd (cc)
      by (inr c) = in_term a r true p at (h.0, c, h.2, h.3)

  no_write_both : (xs ys : List Access) → NoWrite a r p xs → NoWrite a r p ys → NoWrite a r p (xs ++ ys)
  no_write_both xs ys left right h = by (accessed_cases a r Sets p xs ys h)
    where
      by : Accessed a r Sets p xs ⊎ Accessed a r Sets p ys → ⊥
      by (inl c) = left c
      by (inr c) = right c

  no_write_case : (y : Expr-F ((e : Expr) × ExprNoWrite e)) → ExprNoWrite (roll-Expr (map-Expr ((e : Expr) × ExprNoWrite e) Expr (λ e. e.0) y))
  no_write_case (Expr-F.Lit v) = no_write_as (roll-Expr (Expr-F.Lit v)) [] (search (rules, EXPR.TheFolds.the_lemmas)) (λ h. none h.0 h.1)
  no_write_case (Expr-F.Local v) = no_write_as (roll-Expr (Expr-F.Local v)) [] (search (rules, EXPR.TheFolds.the_lemmas)) (λ h. none h.0 h.1)
  no_write_case (Expr-F.Read array at) = no_write_as (roll-Expr (Expr-F.Read array at)) (bracket_accesses Reads array at) (search (rules, EXPR.TheFolds.the_lemmas)) (no_write_read array at)
  no_write_case (Expr-F.Op op l m) =
      no_write_as (roll-Expr (Expr-F.Op op l.0 m.0)) (expr_accesses l.0 ++ expr_accesses m.0) (search (rules, EXPR.TheFolds.the_lemmas)) (no_write_both (expr_accesses l.0) (expr_accesses m.0) l.1 m.1)

  pub writes_nothing : (e : Expr) → ExprNoWrite e
  writes_nothing = ind-Expr ExprNoWrite (λ x y is. subst (λ z. ExprNoWrite (roll-Expr z)) is (no_write_case y))
