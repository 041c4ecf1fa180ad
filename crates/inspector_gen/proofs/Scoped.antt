-- What stands round the lines of a nest, and its brackets, use variables of the loops round them and index arrays alone.
use Rattle.std.proofs.Common.{◌≡◌, ◌⊎◌, inl, inr, ℕ, ◌+◌, ◌<◌, ◌≤◌, Bool, true, false, ◌&&◌, ◌||◌, List, [], ◌∷◌, ◌++◌, map, refl, sym, ap, ◌∙◌, subst, arith, rules}
use Rattle.std.specs.Prelude.{◌==◌, nat_lt}
use Rattle.std.specs.List.{All, Contains, flat_map, list_all, list_any}
use Rattle.std.proofs.lemmas.Bool.{eqb-true}
use Rattle.std.proofs.lemmas.Bool.Decides.{nat_tests}
use Rattle.std.proofs.lemmas.List.{map-append}
use Rattle.std.proofs.lemmas.List.Elements.{All-nil, All-cons, All-head, All-tail, All-append, All-weaker}
use Rattle.std.proofs.lemmas.List.Folds.{list_any-append}
use Rattle.wave_base.specs.declared.types.ArrayId.{ArrayId}
use Rattle.loop_core.specs.declared.decl.Decl.{Decl}
use Rattle.loop_core.specs.declared.nest.Nest.{Nest}
use Rattle.loop_core.specs.declared.nest.Side.TheVariants.{Own}
use Rattle.loop_core.specs.declared.nest.VarId.{VarId}
use Rattle.loop_core.specs.declared.nest.Rel.{Rel}
use Rattle.loop_core.specs.declared.nest.Term.{Term}
use Rattle.loop_core.specs.declared.nest.Expr.{Expr, roll-Expr, map-Expr}
use Rattle.loop_core.specs.declared.nest.Expr as EXPR
use Rattle.loop_core.specs.declared.nest.Expr.TheOpen.{Expr-F}
use Rattle.loop_core.specs.declared.nest.Expr.TheFolds.{ind-Expr}
use Rattle.loop_core.specs.declared.nest.Item.{Item}
use Rattle.loop_core.specs.declared.nest.Item.TheOpen.{Item-F}
use Rattle.loop_core.specs.declared.nest.Item.TheViews.{roll-Item}
use Rattle.loop_core.specs.declared.nest.Item.TheFolds.{ind-Item, fold-roll-Item, map-Item}
use Rattle.loop_core.specs.Binding.{same_variable, same_side}
use Rattle.loop_core.specs.Sizes.{is_index, is_data}
use Rattle.loop_core.specs.Shape.{Loop, Line, Repeats, Guards, Sets as sets_form, Keeps as keeps_form, lines_of_all, lines_step, item_lines, body_lines, line_terms, line_arrays, term_vars, term_arrays, expr_terms}
use Rattle.loop_core.specs.IsNest.{IsNest, is_round, knows_variables, uses_kinds, rises_from}
use Rattle.uf_constraints.specs.declared.reach.Around.{Around}
use Rattle.uf_constraints.specs.declared.reach.Around.TheVariants.{Loop as Repeated, Guard}
use Rattle.uf_constraints.specs.declared.reach.Usage.{Usage}
use Rattle.uf_constraints.specs.declared.reach.Usage.TheVariants.{Entry, Reads, Sets}
use Rattle.uf_constraints.specs.declared.reach.Access.{Access}
use Rattle.uf_constraints.specs.declared.reach.Bracket.{Bracket}
use Rattle.uf_constraints.specs.declared.reach.Spot.{Spot}
use Rattle.uf_constraints.specs.Brackets.{access, bracket, numbered, spot, spots_of_all, spots_step, item_spots, spots, term_accesses, bracket_accesses, expr_accesses}
use Rattle.dep_extract.proofs.Members.{both, and_true, parts, none, cons_cases}
use Rattle.dep_extract.proofs.Entries.{only_entries}

-- Lines of the loops round a place, from the outside in.

abbrev pub is_line : List ℕ → ℕ → Bool
is_line ls k = list_any (λ l. l == k) ls

pub line_push : (ls : List ℕ) (l k : ℕ) → is_line (ls ++ l ∷ []) k ≡ (is_line ls k || ((l == k) || false))
line_push ls l k = list_any-append (λ m. m == k) ls (l ∷ [])

pub or_cases : (s t : Bool) → (s || t) ≡ true → (s ≡ true) ⊎ (t ≡ true)
or_cases true t e = inl refl
or_cases false t e = inr e

pub or_left : (s t : Bool) → s ≡ true → (s || t) ≡ true
or_left true t e = refl
or_left false t e = absurd (cc)

pub or_last : (s t : Bool) → t ≡ true → (s || (t || false)) ≡ true
or_last true t e = refl
or_last false true e = refl
or_last false false e = absurd (cc)

pub or_false : (s : Bool) → (s || false) ≡ true → s ≡ true
or_false true e = refl
or_false false e = e

module _ (decls : List Decl) where
  -- a term of these loops' variables and of index arrays
  abbrev pub Fits : List ℕ → Term → Type 0
  Fits ls t = (list_all (λ v. is_line ls v.line) (term_vars t) ≡ true) × (list_all (is_index decls) (term_arrays t) ≡ true)

  -- what stands round a place, inside these loops: each term fits, and each loop has a line of its own
  abbrev pub AreScoped : List ℕ → List Around → Type 0
  AreScoped ls [] = Unit {0}
  AreScoped ls (Repeated line lo hi ∷ xs) = (Fits ls lo × Fits ls hi) × (is_line ls line ≡ false) × AreScoped (ls ++ line ∷ []) xs
  AreScoped ls (Guard rel s t ∷ xs) = (Fits ls s × Fits ls t) × AreScoped ls xs

-- the lines of the loops, with those of the loops in a list of what stands round
abbrev pub lines_in : List ℕ → List Around → List ℕ
lines_in ls [] = ls
lines_in ls (Repeated line lo hi ∷ xs) = lines_in (ls ++ line ∷ []) xs
lines_in ls (Guard rel s t ∷ xs) = lines_in ls xs

pub lines_stay : (ls : List ℕ) (xs : List Around) (k : ℕ) → is_line ls k ≡ true → is_line (lines_in ls xs) k ≡ true
lines_stay ls [] k h = h
lines_stay ls (Repeated line lo hi ∷ xs) k h = lines_stay (ls ++ line ∷ []) xs k (line_push ls line k ∙ or_left (is_line ls k) ((line == k) || false) h)
lines_stay ls (Guard rel s t ∷ xs) k h = lines_stay ls xs k h

loop_lines : (ls : List ℕ) (xs : List Around) (line : ℕ) (lo hi : Term) → lines_in ls (xs ++ Repeated line lo hi ∷ []) ≡ lines_in ls xs ++ line ∷ []
loop_lines ls [] line lo hi = refl
loop_lines ls (Repeated l s t ∷ xs) line lo hi = loop_lines (ls ++ l ∷ []) xs line lo hi
loop_lines ls (Guard r s t ∷ xs) line lo hi = loop_lines ls xs line lo hi

guard_lines : (ls : List ℕ) (xs : List Around) (rel : Rel) (lo hi : Term) → lines_in ls (xs ++ Guard rel lo hi ∷ []) ≡ lines_in ls xs
guard_lines ls [] rel lo hi = refl
guard_lines ls (Repeated l s t ∷ xs) rel lo hi = guard_lines (ls ++ l ∷ []) xs rel lo hi
guard_lines ls (Guard r s t ∷ xs) rel lo hi = guard_lines ls xs rel lo hi

-- Numbers that rise.

lt_from : (n k : ℕ) → nat_lt n k ≡ true → n < k
lt_from n k e = grind (arith, nat_tests)

lt_to : (n k : ℕ) → n < k → nat_lt n k ≡ true
lt_to n k e = grind (arith, nat_tests)

rises_lower : (n m : ℕ) (ks : List ℕ) → n ≤ m → rises_from m ks ≡ true → rises_from n ks ≡ true
rises_lower n m [] le e = refl
rises_lower n m (k ∷ ks) le e =
    let t = both (nat_lt m k) (rises_from k ks) e in
    let l = lt_from m k t.0 in
    ap (λ b. b && rises_from k ks) (lt_to n k (omega arith)) ∙ t.1

rises_parts : (n : ℕ) (ks ls : List ℕ) → rises_from n (ks ++ ls) ≡ true → (rises_from n ks ≡ true) × (rises_from n ls ≡ true)
rises_parts n [] ls e = (refl, e)
rises_parts n (k ∷ ks) ls e =
    let t = both (nat_lt n k) (rises_from k (ks ++ ls)) e in
    let l = lt_from n k t.0 in
    let u = rises_parts k ks ls t.1 in
    (ap (λ b. b && rises_from k ks) t.0 ∙ u.0, rises_lower n k ls (omega arith) u.1)

abbrev numbers : List Line → List ℕ
numbers ls = map (λ l. l.number) ls

rising_parts : (n : ℕ) (xs ys : List Line) → rises_from n (numbers (xs ++ ys)) ≡ true → (rises_from n (numbers xs) ≡ true) × (rises_from n (numbers ys) ≡ true)
rising_parts n xs ys e = rises_parts n (numbers xs) (numbers ys) (ap (rises_from n) (sym (map-append (λ (l : Line). l.number) xs ys)) ∙ e)

abbrev spot_lines : List Spot → List ℕ
spot_lines ss = map (λ s. s.line) ss

-- spots on lines that rise are equal where their lines are

above : (n : ℕ) (ss : List Spot) (s : Spot) → rises_from n (spot_lines ss) ≡ true → Contains ss s → n < s.line
above n [] s e h = absurd (none s h)
above n (x ∷ ss) s e h = by (cons_cases x ss s h) (above x.line ss s)
  where
    t : (nat_lt n x.line ≡ true) × (rises_from x.line (spot_lines ss) ≡ true)
    t = both (nat_lt n x.line) (rises_from x.line (spot_lines ss)) e

    by : (x ≡ s) ⊎ Contains ss s → (rises_from x.line (spot_lines ss) ≡ true → Contains ss s → x.line < s.line) → n < s.line
    by (inl is) rest = let l = lt_from n x.line t.0 in let same : x.line ≡ s.line = ap (λ (y : Spot). y.line) is in omega (arith, l, same)
    by (inr c) rest = let l = lt_from n x.line t.0 in let m = rest t.1 c in omega (arith, l, m)

pub one_spot : (n : ℕ) (ss : List Spot) (s t : Spot) → rises_from n (spot_lines ss) ≡ true → Contains ss s → Contains ss t → s.line ≡ t.line → s ≡ t
one_spot n [] s t e h g same = absurd (none s h)
one_spot n (x ∷ ss) s t e h g same = by (cons_cases x ss s h) (cons_cases x ss t g) (one_spot x.line ss s t)
  where
    rest_rises : rises_from x.line (spot_lines ss) ≡ true
    rest_rises = (both (nat_lt n x.line) (rises_from x.line (spot_lines ss)) e).1

    by : (x ≡ s) ⊎ Contains ss s → (x ≡ t) ⊎ Contains ss t
        → (rises_from x.line (spot_lines ss) ≡ true → Contains ss s → Contains ss t → s.line ≡ t.line → s ≡ t) → s ≡ t
    by (inl p) (inl q) rest = sym p ∙ q
    by (inl p) (inr d) rest = absurd (let l = above x.line ss t rest_rises d in let m : x.line ≡ s.line = ap (λ (y : Spot). y.line) p in omega (arith, l, m, same))
    by (inr c) (inl q) rest = absurd (let l = above x.line ss s rest_rises c in let m : x.line ≡ t.line = ap (λ (y : Spot). y.line) q in omega (arith, l, m, same))
    by (inr c) (inr d) rest = rest rest_rises c d same

-- Scopes.

-- a variable of a loop round a line is that of one of these lines
abbrev Covers : List Loop → List ℕ → Type 0
Covers loops ls = (v : VarId) → is_round loops v ≡ true → is_line ls v.line ≡ true

-- these lines are at most n
abbrev UpTo : ℕ → List ℕ → Type 0
UpTo n ls = (k : ℕ) → is_line ls k ≡ true → k ≤ n

abbrev own : ℕ → VarId
own line = record { line = line; side = Own }

covers_loop : (loops : List Loop) (ls : List ℕ) (line : ℕ) (name : List ℕ) → Covers loops ls → Covers (record { line = line; name = name } ∷ loops) (ls ++ line ∷ [])
covers_loop loops ls line name covers v h = line_push ls line v.line ∙ by (or_cases (same_variable (own line) v) (is_round loops v) h)
  where
    by : (same_variable (own line) v ≡ true) ⊎ (is_round loops v ≡ true) → (is_line ls v.line || ((line == v.line) || false)) ≡ true
    by (inl s) = or_last (is_line ls v.line) (line == v.line) (both (line == v.line) (same_side Own v.side) s).0
    by (inr t) = or_left (is_line ls v.line) ((line == v.line) || false) (covers v t)

upto_loop : (n line : ℕ) (ls : List ℕ) → n < line → UpTo n ls → UpTo line (ls ++ line ∷ [])
upto_loop n line ls lt upto k h = by (or_cases (is_line ls k) ((line == k) || false) (sym (line_push ls line k) ∙ h))
  where
    by : (is_line ls k ≡ true) ⊎ (((line == k) || false) ≡ true) → k ≤ line
    by (inl s) = let l = upto k s in omega (arith, l, lt)
    by (inr t) = let l = eqb-true line k (or_false (line == k) t) in omega (arith, l)

not_true : (b : Bool) → (b ≡ true → ⊥) → b ≡ false
not_true true h = absurd (h refl)
not_true false h = refl

new_line : (n line : ℕ) (ls : List ℕ) → n < line → UpTo n ls → is_line ls line ≡ false
new_line n line ls lt upto = not_true (is_line ls line) (λ h. let l = upto line h in omega (arith, l, lt))

pub all_by : (p q : VarId → Bool) (vs : List VarId) → ((v : VarId) → p v ≡ true → q v ≡ true) → list_all p vs ≡ true → list_all q vs ≡ true
all_by p q [] f h = refl
all_by p q (v ∷ vs) f h =
    let t = both (p v) (list_all p vs) h in
    and_true (q v) (list_all q vs) (f v t.0) (all_by p q vs f t.1)

module _ (decls : List Decl) where
  abbrev FitsIn : List ℕ → Term → Type 0
  FitsIn ls t = Fits decls ls t

  -- a bracket of a spot fits there, where it isn't an entry inside a term
  abbrev pub IsFineAt : List ℕ → Usage → Term → Type 0
  IsFineAt ls usage at = (usage ≡ Entry) ⊎ FitsIn ls at

  abbrev IsFine : List ℕ → Access → Type 0
  IsFine ls x = IsFineAt ls x.usage x.at

  pub record IsScoped (outer : ℕ) (s : Spot) : Type 0 where
    pub around : AreScoped decls (outer ∷ []) s.around
    pub brackets : All (λ b. IsFineAt (lines_in (outer ∷ []) s.around) b.usage b.at) s.brackets

  -- Terms and expressions.

  entries_fine : (ls : List ℕ) (t : Term) → All (IsFine ls) (term_accesses t)
  entries_fine ls t = All-weaker (λ (x : Access). x.usage ≡ Entry) (IsFine ls) (λ x h. inl h) (term_accesses t) (only_entries t)

  bracket_fine : (ls : List ℕ) (usage : Usage) (array : ArrayId) (at : Term) → FitsIn ls at → All (IsFine ls) (bracket_accesses usage array at)
  bracket_fine ls usage array at h = All-cons (IsFine ls) (access usage array at) (term_accesses at) (inr h) (entries_fine ls at)

  module _ (ls : List ℕ) where
    abbrev AllFit : List Access → List Term → Type 0
    AllFit xs ts = All (FitsIn ls) ts → All (IsFine ls) xs

    abbrev ExprFits : Expr → Type 0
    ExprFits e = AllFit (expr_accesses e) (expr_terms e)

    seen_as : (e : Expr) (xs : List Access) (ts : List Term) → expr_accesses e ≡ xs → expr_terms e ≡ ts → AllFit xs ts → ExprFits e
    seen_as e xs ts i j h = subst (λ (z : List Access × List Term). AllFit z.0 z.1) (λ n. (sym i n, sym j n)) h

    all_parts : (ts us : List Term) → All (FitsIn ls) (ts ++ us) → All (FitsIn ls) ts × All (FitsIn ls) us
    all_parts [] us h = (All-nil (FitsIn ls), h)
    all_parts (t ∷ ts) us h =
        let r = all_parts ts us (All-tail (FitsIn ls) t (ts ++ us) h) in
        (All-cons (FitsIn ls) t ts (All-head (FitsIn ls) t (ts ++ us) h) r.0, r.1)

    expr_case : (y : Expr-F ((e : Expr) × ExprFits e)) → ExprFits (roll-Expr (map-Expr ((e : Expr) × ExprFits e) Expr (λ e. e.0) y))
    expr_case (Expr-F.Lit v) = seen_as (roll-Expr (Expr-F.Lit v)) [] [] (search (rules, EXPR.TheFolds.the_lemmas)) (search (rules, EXPR.TheFolds.the_lemmas)) (λ h. All-nil (IsFine ls))
    expr_case (Expr-F.Local v) = seen_as (roll-Expr (Expr-F.Local v)) [] [] (search (rules, EXPR.TheFolds.the_lemmas)) (search (rules, EXPR.TheFolds.the_lemmas)) (λ h. All-nil (IsFine ls))
    expr_case (Expr-F.Read array at) =
        seen_as (roll-Expr (Expr-F.Read array at)) (bracket_accesses Reads array at) (at ∷ []) (search (rules, EXPR.TheFolds.the_lemmas)) (search (rules, EXPR.TheFolds.the_lemmas))
        (λ h. bracket_fine ls Reads array at (All-head (FitsIn ls) at [] h))
    expr_case (Expr-F.Op op l m) =
        seen_as (roll-Expr (Expr-F.Op op l.0 m.0)) (expr_accesses l.0 ++ expr_accesses m.0) (expr_terms l.0 ++ expr_terms m.0) (search (rules, EXPR.TheFolds.the_lemmas)) (search (rules, EXPR.TheFolds.the_lemmas))
        (λ h. let r = all_parts (expr_terms l.0) (expr_terms m.0) h in All-append (IsFine ls) (expr_accesses l.0) (expr_accesses m.0) (l.1 r.0) (m.1 r.1))

    exprs_fit : (e : Expr) → ExprFits e
    exprs_fit = ind-Expr ExprFits (λ x y is. subst (λ z. ExprFits (roll-Expr z)) is (expr_case y))

  -- Lines.

  abbrev IsGood : Line → Type 0
  IsGood l = (knows_variables l ≡ true) × (uses_kinds decls l ≡ true)

  -- each term on a good line fits
  fit_all : (loops : List Loop) (ls : List ℕ) (ts : List Term) → Covers loops ls → list_all (is_round loops) (flat_map term_vars ts) ≡ true → list_all (is_index decls) (flat_map term_arrays ts) ≡ true → All (FitsIn ls) ts
  fit_all loops ls [] covers h g = All-nil (FitsIn ls)
  fit_all loops ls (t ∷ ts) covers h g =
      let v = parts (is_round loops) (term_vars t) (flat_map term_vars ts) h in
      let w = parts (is_index decls) (term_arrays t) (flat_map term_arrays ts) g in
      All-cons (FitsIn ls) t ts (all_by (is_round loops) (λ x. is_line ls x.line) (term_vars t) covers v.0, w.0) (fit_all loops ls ts covers v.1 w.1)

  line_fits : (l : Line) (ls : List ℕ) → Covers l.around ls → IsGood l → All (FitsIn ls) (line_terms l.form)
  line_fits l ls covers good =
      fit_all l.around ls (line_terms l.form) covers good.0 (both (list_all (is_index decls) (flat_map term_arrays (line_terms l.form))) (list_all (is_data decls) (line_arrays l.form)) good.1).0

  numbered_fine : (ls : List ℕ) (k : ℕ) (xs : List Access) → All (IsFine ls) xs → All (λ b. IsFineAt ls b.usage b.at) (numbered k xs)
  numbered_fine ls k [] h = All-nil (λ (b : Bracket). IsFineAt ls b.usage b.at)
  numbered_fine ls k (x ∷ xs) h =
      All-cons (λ (b : Bracket). IsFineAt ls b.usage b.at) (bracket k x) (numbered (k + 1) xs) (All-head (IsFine ls) x xs h) (numbered_fine ls (k + 1) xs (All-tail (IsFine ls) x xs h))

  module _ (outer : ℕ) where
    abbrev inside : List Around → List ℕ
    inside around = lines_in (outer ∷ []) around

    spot_scoped : (line : ℕ) (around : List Around) (xs : List Access) → AreScoped decls (outer ∷ []) around → All (IsFine (inside around)) xs → IsScoped outer (spot line around xs)
    spot_scoped line around xs h g = record { around = h; brackets = numbered_fine (inside around) 1 xs g }

    loop_scoped : (ls : List ℕ) (xs : List Around) (line : ℕ) (lo hi : Term) → AreScoped decls ls xs → FitsIn (lines_in ls xs) lo → FitsIn (lines_in ls xs) hi → is_line (lines_in ls xs) line ≡ false → AreScoped decls ls (xs ++ Repeated line lo hi ∷ [])
    loop_scoped ls [] line lo hi h f g new = ((f, g), new, tt)
    loop_scoped ls (Repeated l s t ∷ xs) line lo hi h f g new = (h.0, h.1, loop_scoped (ls ++ l ∷ []) xs line lo hi h.2 f g new)
    loop_scoped ls (Guard r s t ∷ xs) line lo hi h f g new = (h.0, loop_scoped ls xs line lo hi h.1 f g new)

    guard_scoped : (ls : List ℕ) (xs : List Around) (rel : Rel) (lo hi : Term) → AreScoped decls ls xs → FitsIn (lines_in ls xs) lo → FitsIn (lines_in ls xs) hi → AreScoped decls ls (xs ++ Guard rel lo hi ∷ [])
    guard_scoped ls [] rel lo hi h f g = ((f, g), tt)
    guard_scoped ls (Repeated l s t ∷ xs) rel lo hi h f g = (h.0, h.1, guard_scoped (ls ++ l ∷ []) xs rel lo hi h.2 f g)
    guard_scoped ls (Guard r s t ∷ xs) rel lo hi h f g = (h.0, guard_scoped ls xs rel lo hi h.1 f g)

    -- where the lines are good and rise, the spots are scoped and stand on these lines
    abbrev Kept : (List Loop → List Line) → (List Around → List Spot) → Type 0
    Kept lines spots =
        (loops : List Loop) (around : List Around) (n : ℕ) → All IsGood (lines loops) → rises_from n (numbers (lines loops)) ≡ true
        → Covers loops (inside around) → UpTo n (inside around) → AreScoped decls (outer ∷ []) around
        → All (IsScoped outer) (spots around) × (spot_lines (spots around) ≡ numbers (lines loops))

    abbrev KeptItem : Type 0
    KeptItem = (item : Item) × Kept (item_lines item) (item_spots item)

    abbrev items_of : List KeptItem → List Item
    items_of es = map (λ e. e.0) es

    abbrev lines_of : List KeptItem → List Loop → List Line
    lines_of es = lines_of_all (map item_lines (items_of es))

    abbrev spots_of : List KeptItem → List Around → List Spot
    spots_of es = spots_of_all (map item_spots (items_of es))

    good_parts : (xs ys : List Line) → All IsGood (xs ++ ys) → All IsGood xs × All IsGood ys
    good_parts [] ys h = (All-nil IsGood, h)
    good_parts (x ∷ xs) ys h =
        let t = good_parts xs ys (All-tail IsGood x (xs ++ ys) h) in
        (All-cons IsGood x xs (All-head IsGood x (xs ++ ys) h) t.0, t.1)

    two_kept : (ls ms : List Line) (ss ts : List Spot) → All (IsScoped outer) ss × (spot_lines ss ≡ numbers ls) → All (IsScoped outer) ts × (spot_lines ts ≡ numbers ms)
        → All (IsScoped outer) (ss ++ ts) × (spot_lines (ss ++ ts) ≡ numbers (ls ++ ms))
    two_kept ls ms ss ts h g = (
      All-append (IsScoped outer) ss ts h.0 g.0,
      map-append (λ (s : Spot). s.line) ss ts ∙ (λ i. h.1 i ++ g.1 i) ∙ sym (map-append (λ (l : Line). l.number) ls ms),
    )

    all_kept : (es : List KeptItem) → Kept (lines_of es) (spots_of es)
    all_kept [] loops around n good rising covers upto scoped = (All-nil (IsScoped outer), refl)
    all_kept (e ∷ es) loops around n good rising covers upto scoped =
        let g = good_parts (item_lines e.0 loops) (lines_of es loops) good in
        let r = rising_parts n (item_lines e.0 loops) (lines_of es loops) rising in
        two_kept (item_lines e.0 loops) (lines_of es loops) (item_spots e.0 around) (spots_of es around)
        (e.1 loops around n g.0 r.0 covers upto scoped) (all_kept es loops around n g.1 r.1 covers upto scoped)

    -- one line, and what is inside it
    headed : (l : Line) (ms : List Line) (s : Spot) (ts : List Spot) → IsScoped outer s → s.line ≡ l.number → All (IsScoped outer) ts × (spot_lines ts ≡ numbers ms)
        → All (IsScoped outer) (s ∷ ts) × (spot_lines (s ∷ ts) ≡ numbers (l ∷ ms))
    headed l ms s ts h same g = (All-cons (IsScoped outer) s ts h g.0, λ i. same i ∷ g.1 i)

    two_terms_fine : (ls : List ℕ) (lo hi : Term) → All (IsFine ls) (term_accesses lo ++ term_accesses hi)
    two_terms_fine ls lo hi = All-append (IsFine ls) (term_accesses lo) (term_accesses hi) (entries_fine ls lo) (entries_fine ls hi)

    loop_kept : (line : ℕ) (name : List ℕ) (lo hi : Term) (es : List KeptItem)
        → Kept (λ loops. record { number = line; around = loops; form = Repeats name lo hi } ∷ lines_of es (record { line = line; name = name } ∷ loops))
        (λ around. spot line around (term_accesses lo ++ term_accesses hi) ∷ spots_of es (around ++ Repeated line lo hi ∷ []))
    loop_kept line name lo hi es loops around n good rising covers upto scoped =
        let l : Line = record { number = line; around = loops; form = Repeats name lo hi } in
        let ms = lines_of es (record { line = line; name = name } ∷ loops) in
        let fits = line_fits l (inside around) covers (All-head IsGood l ms good) in
        let low = All-head (FitsIn (inside around)) lo (hi ∷ []) fits in
        let high = All-head (FitsIn (inside around)) hi [] (All-tail (FitsIn (inside around)) lo (hi ∷ []) fits) in
        let r = both (nat_lt n line) (rises_from line (numbers ms)) rising in
        let lt = lt_from n line r.0 in
        let same : inside (around ++ Repeated line lo hi ∷ []) ≡ inside around ++ line ∷ [] = loop_lines (outer ∷ []) around line lo hi in
        let into = all_kept es (record { line = line; name = name } ∷ loops) (around ++ Repeated line lo hi ∷ []) line (All-tail IsGood l ms good) r.1
        (subst (Covers (record { line = line; name = name } ∷ loops)) (sym same) (covers_loop loops (inside around) line name covers))
        (subst (UpTo line) (sym same) (upto_loop n line (inside around) lt upto))
        (loop_scoped (outer ∷ []) around line lo hi scoped low high (new_line n line (inside around) lt upto)) in
        headed l ms (spot line around (term_accesses lo ++ term_accesses hi)) (spots_of es (around ++ Repeated line lo hi ∷ []))
        (spot_scoped line around (term_accesses lo ++ term_accesses hi) scoped (two_terms_fine (inside around) lo hi)) refl into

    guard_kept : (line : ℕ) (rel : Rel) (lo hi : Term) (es : List KeptItem)
        → Kept (λ loops. record { number = line; around = loops; form = Guards lo hi } ∷ lines_of es loops)
        (λ around. spot line around (term_accesses lo ++ term_accesses hi) ∷ spots_of es (around ++ Guard rel lo hi ∷ []))
    guard_kept line rel lo hi es loops around n good rising covers upto scoped =
        let l : Line = record { number = line; around = loops; form = Guards lo hi } in
        let ms = lines_of es loops in
        let fits = line_fits l (inside around) covers (All-head IsGood l ms good) in
        let low = All-head (FitsIn (inside around)) lo (hi ∷ []) fits in
        let high = All-head (FitsIn (inside around)) hi [] (All-tail (FitsIn (inside around)) lo (hi ∷ []) fits) in
        let r = both (nat_lt n line) (rises_from line (numbers ms)) rising in
        let lt = lt_from n line r.0 in
        let same : inside (around ++ Guard rel lo hi ∷ []) ≡ inside around = guard_lines (outer ∷ []) around rel lo hi in
        let into = all_kept es loops (around ++ Guard rel lo hi ∷ []) n (All-tail IsGood l ms good) (rises_lower n line (numbers ms) (omega (arith, lt)) r.1)
        (subst (Covers loops) (sym same) covers)
        (subst (UpTo n) (sym same) upto)
        (guard_scoped (outer ∷ []) around rel lo hi scoped low high) in
        headed l ms (spot line around (term_accesses lo ++ term_accesses hi)) (spots_of es (around ++ Guard rel lo hi ∷ []))
        (spot_scoped line around (term_accesses lo ++ term_accesses hi) scoped (two_terms_fine (inside around) lo hi)) refl into

    set_kept : (line : ℕ) (array : ArrayId) (at : Term) (value : Expr)
        → Kept (λ loops. record { number = line; around = loops; form = sets_form array at value } ∷ [])
        (λ around. spot line around (bracket_accesses Sets array at ++ expr_accesses value) ∷ [])
    set_kept line array at value loops around n good rising covers upto scoped =
        let l : Line = record { number = line; around = loops; form = sets_form array at value } in
        let ls = inside around in
        let fits = line_fits l ls covers (All-head IsGood l [] good) in
        let xs = bracket_accesses Sets array at ++ expr_accesses value in
        let fine = All-append (IsFine ls) (bracket_accesses Sets array at) (expr_accesses value)
        (bracket_fine ls Sets array at (All-head (FitsIn ls) at (expr_terms value) fits))
        (exprs_fit ls value (All-tail (FitsIn ls) at (expr_terms value) fits)) in
        headed l [] (spot line around xs) [] (spot_scoped line around xs scoped fine) refl (All-nil (IsScoped outer), refl)

    keep_kept : (line local : ℕ) (value : Expr)
        → Kept (λ loops. record { number = line; around = loops; form = keeps_form local value } ∷ [])
        (λ around. spot line around (expr_accesses value) ∷ [])
    keep_kept line local value loops around n good rising covers upto scoped =
        let l : Line = record { number = line; around = loops; form = keeps_form local value } in
        let ls = inside around in
        let fits = line_fits l ls covers (All-head IsGood l [] good) in
        headed l [] (spot line around (expr_accesses value)) [] (spot_scoped line around (expr_accesses value) scoped (exprs_fit ls value fits)) refl (All-nil (IsScoped outer), refl)

    -- Items.

    abbrev stripped : Item-F KeptItem → Item-F Item
    stripped y = map-Item KeptItem Item (λ e. e.0) y

    abbrev KeptOf : Item → Type 0
    KeptOf item = Kept (item_lines item) (item_spots item)

    item_case : (y : Item-F KeptItem) → KeptOf (roll-Item (stripped y))
    item_case y =
        let x : Item-F Item = stripped y in
        subst (λ (z : (List Loop → List Line) × (List Around → List Spot)). Kept z.0 z.1)
        (λ i. (
          sym (fold-roll-Item (List Loop → List Line) lines_step x) i,
          sym (fold-roll-Item (List Around → List Spot) spots_step x) i,
        ))
        (by y)
      where
        by : (y : Item-F KeptItem) → let x : Item-F Item = stripped y in
            Kept (lines_step (map-Item Item (List Loop → List Line) item_lines x)) (spots_step (map-Item Item (List Around → List Spot) item_spots x))
        by (Item-F.For line name lo hi es) = loop_kept line name lo hi es
        by (Item-F.When line rel left right es) = guard_kept line rel left right es
        by (Item-F.Set line array at value) = set_kept line array at value
        by (Item-F.Keep line local value) = keep_kept line local value

    items_kept : (item : Item) → KeptOf item
    items_kept = ind-Item KeptOf (λ x y is. subst (λ z. KeptOf (roll-Item z)) is (item_case y))

    abbrev with_kept : List Item → List KeptItem
    with_kept items = map (λ item. (item, items_kept item)) items

    without : (items : List Item) → items_of (with_kept items) ≡ items
    without [] = refl
    without (i ∷ is) = ap (λ rest. i ∷ rest) (without is)

    body_kept : (items : List Item) → Kept (lines_of_all (map item_lines items)) (spots_of_all (map item_spots items))
    body_kept items =
        subst (λ is. Kept (lines_of_all (map item_lines is)) (spots_of_all (map item_spots is))) (without items) (all_kept (with_kept items))

-- Nests.

test_each : {X : Type 0} (p q : X → Bool) (xs : List X) → list_all p xs ≡ true → list_all q xs ≡ true → All (λ x. (p x ≡ true) × (q x ≡ true)) xs
test_each p q [] h g = All-nil (λ x. (p x ≡ true) × (q x ≡ true))
test_each p q (x ∷ xs) h g =
    let t = both (p x) (list_all p xs) h in
    let u = both (q x) (list_all q xs) g in
    All-cons (λ x. (p x ≡ true) × (q x ≡ true)) x xs (t.0, u.0) (test_each p q xs t.1 u.1)

module _ (nest : Nest) (is_nest : IsNest nest) where
  covers_outer : Covers (record { line = nest.line; name = nest.name } ∷ []) (nest.line ∷ [])
  covers_outer v h =
      let s = or_false (same_variable (own nest.line) v) h in
      or_left (nest.line == v.line) false (both (nest.line == v.line) (same_side Own v.side) s).0

  upto_outer : UpTo nest.line (nest.line ∷ [])
  upto_outer k h = let l = eqb-true nest.line k (or_false (nest.line == k) h) in omega (arith, l)

  nest_kept : All (IsScoped nest.decls nest.line) (spots nest) × (spot_lines (spots nest) ≡ numbers (body_lines nest))
  nest_kept =
      body_kept nest.decls nest.line nest.body (record { line = nest.line; name = nest.name } ∷ []) [] nest.line
      (test_each knows_variables (uses_kinds nest.decls) (body_lines nest) is_nest.in_scope is_nest.of_kinds)
      is_nest.rising covers_outer upto_outer tt

  pub spots_scoped : All (IsScoped nest.decls nest.line) (spots nest)
  spots_scoped = nest_kept.0

  pub same_spot : (s t : Spot) → Contains (spots nest) s → Contains (spots nest) t → s.line ≡ t.line → s ≡ t
  same_spot s t h g same = one_spot nest.line (spots nest) s t (ap (rises_from nest.line) nest_kept.1 ∙ is_nest.rising) h g same
