-- The terms that stand round the lines of a nest and in their brackets are small, and what is read or set is data.
use Rattle.std.proofs.Common.{◌≡◌, ◌⊎◌, inl, inr, ℕ, ◌+◌, ◌^◌, IsTrue, Bool, true, false, ◌&&◌, nat_le, unsigned_abs, List, [], ◌∷◌, ◌++◌, map, refl, sym, ap, ◌∙◌, subst, rules, arith}
use Rattle.std.specs.List.{All, Contains, flat_map, list_all}
use Rattle.std.proofs.lemmas.List.Elements.{All-nil, All-cons, All-head, All-tail, All-append, All-push, All-weaker, All-contains, All-contains_itself}
use Rattle.wave_base.specs.declared.types.ArrayId.{ArrayId}
use Rattle.loop_core.specs.declared.decl.Decl.{Decl}
use Rattle.loop_core.specs.declared.nest.Nest.{Nest}
use Rattle.loop_core.specs.declared.nest.Term.{Term, roll-Term, map-Term}
use Rattle.loop_core.specs.declared.nest.Atom.{Atom, roll-Atom, map-Atom}
use Rattle.loop_core.specs.declared.nest.Atom as ATOM
use Rattle.loop_core.specs.declared.nest.Atom.TheOpen.{Atom-F, Term-F}
use Rattle.loop_core.specs.declared.nest.Atom.TheFolds.{ind-Term}
use Rattle.loop_core.specs.declared.nest.Expr.{Expr, roll-Expr, map-Expr}
use Rattle.loop_core.specs.declared.nest.Expr as EXPR
use Rattle.loop_core.specs.declared.nest.Expr.TheOpen.{Expr-F}
use Rattle.loop_core.specs.declared.nest.Expr.TheFolds.{ind-Expr}
use Rattle.loop_core.specs.declared.nest.Item.{Item}
use Rattle.loop_core.specs.declared.nest.Item.TheOpen.{Item-F}
use Rattle.loop_core.specs.declared.nest.Item.TheViews.{roll-Item}
use Rattle.loop_core.specs.declared.nest.Item.TheFolds.{ind-Item, fold-roll-Item, map-Item}
use Rattle.loop_core.specs.Sizes.{is_data}
use Rattle.loop_core.specs.Shape.{Loop, Line, Form, Repeats, Guards, Sets as sets_form, Keeps as keeps_form, lines_of_all, lines_step, item_lines, body_lines, line_terms, line_arrays, expr_terms, expr_arrays}
use Rattle.loop_core.specs.IsNest.{IsNest, uses_kinds}
use Rattle.uf_constraints.specs.declared.reach.Around.{Around}
use Rattle.uf_constraints.specs.declared.reach.Around.TheVariants.{Loop as Repeated, Guard}
use Rattle.uf_constraints.specs.declared.reach.Usage.{Usage}
use Rattle.uf_constraints.specs.declared.reach.Usage.TheVariants.{Entry, Reads, Sets}
use Rattle.uf_constraints.specs.declared.reach.Access.{Access}
use Rattle.uf_constraints.specs.declared.reach.Bracket.{Bracket}
use Rattle.uf_constraints.specs.declared.reach.Spot.{Spot}
use Rattle.uf_constraints.specs.Brackets.{access, bracket, numbered, spot, spots_of_all, spots_step, item_spots, body_spots, spots, atom_accesses, term_accesses, bracket_accesses, expr_accesses}
use Rattle.uf_constraints.specs.Constants.{atom_within, term_within, TermsWithin}
use Rattle.dep_extract.proofs.Members.{both, parts}
use Rattle.dep_extract.proofs.Holding.{all_parts}

-- every constant of the term is from -2^21 to 2^21
abbrev pub IsSmallTerm : Term → Type 0
IsSmallTerm t = IsTrue (term_within (2 ^ 21) t)

-- the terms of a loop's bounds and of a guard
abbrev pub IsFineAround : Around → Type 0
IsFineAround (Repeated line lo hi) = IsSmallTerm lo × IsSmallTerm hi
IsFineAround (Guard rel left right) = IsSmallTerm left × IsSmallTerm right

module _ (decls : List Decl) where
  -- what a bracket holds: a small term; and an array of data, where it isn't an entry inside a term
  abbrev pub IsFineAt : ArrayId → Term → Usage → Type 0
  IsFineAt array at usage = IsSmallTerm at × ((usage ≡ Entry) ⊎ IsTrue (is_data decls array))

  abbrev IsFine : Access → Type 0
  IsFine x = IsFineAt x.array x.at x.usage

  abbrev pub IsFineBracket : Bracket → Type 0
  IsFineBracket b = IsFineAt b.array b.at b.usage

  -- Terms.

  abbrev AtomFine : Atom → Type 0
  AtomFine a = IsTrue (atom_within (2 ^ 21) a) → All IsFine (atom_accesses a)

  abbrev TermFine : Term → Type 0
  TermFine t = IsSmallTerm t → All IsFine (term_accesses t)

  at_fine : (f : ArrayId) (t : Term) → TermFine t → AtomFine (roll-Atom (Atom-F.At f t))
  at_fine f t inner h =
      let same : atom_accesses (roll-Atom (Atom-F.At f t)) ≡ access Entry f t ∷ term_accesses t = search (rules, ATOM.TheFolds.the_lemmas) in
      let within : atom_within (2 ^ 21) (roll-Atom (Atom-F.At f t)) ≡ term_within (2 ^ 21) t = search (rules, ATOM.TheFolds.the_lemmas) in
      let small = subst IsTrue within h in
      subst (All IsFine) (sym same) (All-cons IsFine (access Entry f t) (term_accesses t) (small, inl refl) (inner small))

  none_fine : (x : Atom-F Atom Term) → atom_accesses (roll-Atom x) ≡ [] → AtomFine (roll-Atom x)
  none_fine x none h = subst (All IsFine) (sym none) (All-nil IsFine)

  term_fine : (t : Term-F Atom Term) → AtomFine t.atom → TermFine (roll-Term t)
  term_fine t inner h =
      let same : term_accesses (roll-Term t) ≡ atom_accesses t.atom = search (rules, ATOM.TheFolds.the_lemmas) in
      let within : term_within (2 ^ 21) (roll-Term t) ≡ (atom_within (2 ^ 21) t.atom && nat_le (unsigned_abs t.plus) (2 ^ 21)) = search (rules, ATOM.TheFolds.the_lemmas) in
      subst (All IsFine) (sym same) (inner (both (atom_within (2 ^ 21) t.atom) (nat_le (unsigned_abs t.plus) (2 ^ 21)) (subst IsTrue within h)).0)

  atom_from : {A B : Type 0} (pa : A → Atom) (pb : B → Term) → ((b : B) → TermFine (pb b)) → (y : Atom-F A B) (x : Atom-F Atom Term) → map-Atom A B Atom Term pa pb y ≡ x → AtomFine (roll-Atom x)
  atom_from pa pb fine (Atom-F.At f t) x is = subst (λ z. AtomFine (roll-Atom z)) is (at_fine f (pb t) (fine t))
  atom_from pa pb fine Atom-F.Zero x is = subst (λ z. AtomFine (roll-Atom z)) is (none_fine Atom-F.Zero (search (rules, ATOM.TheFolds.the_lemmas)))
  atom_from pa pb fine Atom-F.N x is = subst (λ z. AtomFine (roll-Atom z)) is (none_fine Atom-F.N (search (rules, ATOM.TheFolds.the_lemmas)))
  atom_from pa pb fine Atom-F.Nnz x is = subst (λ z. AtomFine (roll-Atom z)) is (none_fine Atom-F.Nnz (search (rules, ATOM.TheFolds.the_lemmas)))
  atom_from pa pb fine (Atom-F.Var v) x is = subst (λ z. AtomFine (roll-Atom z)) is (none_fine (Atom-F.Var v) (search (rules, ATOM.TheFolds.the_lemmas)))

  term_from : {A B : Type 0} (pa : A → Atom) (pb : B → Term) → ((x : A) → AtomFine (pa x)) → (y : Term-F A B) (x : Term-F Atom Term) → map-Term A B Atom Term pa pb y ≡ x → TermFine (roll-Term x)
  term_from {A} {B} pa pb fine y x is = subst (λ z. TermFine (roll-Term z)) is (term_fine (map-Term A B Atom Term pa pb y) (fine y.atom))

  terms_fine : (t : Term) → TermFine t
  terms_fine = ind-Term AtomFine TermFine (λ x y is. atom_from (λ z. z.0) (λ z. z.0) (λ z. z.1) y x is) (λ x y is. term_from (λ z. z.0) (λ z. z.0) (λ z. z.1) y x is)

  bracket_fine : (usage : Usage) (array : ArrayId) (at : Term) → IsSmallTerm at → IsTrue (is_data decls array) → All IsFine (bracket_accesses usage array at)
  bracket_fine usage array at small data_ = All-cons IsFine (access usage array at) (term_accesses at) (small, inr data_) (terms_fine at small)

  -- Expressions.

  abbrev AllFine : List Access → List Term → List ArrayId → Type 0
  AllFine xs ts arrays = TermsWithin (2 ^ 21) ts → list_all (is_data decls) arrays ≡ true → All IsFine xs

  abbrev ExprFine : Expr → Type 0
  ExprFine e = AllFine (expr_accesses e) (expr_terms e) (expr_arrays e)

  seen_as : (e : Expr) (xs : List Access) (ts : List Term) (arrays : List ArrayId) → expr_accesses e ≡ xs → expr_terms e ≡ ts → expr_arrays e ≡ arrays → AllFine xs ts arrays → ExprFine e
  seen_as e xs ts arrays i j k h = subst (λ (z : List Access × List Term × List ArrayId). AllFine z.0 z.1 z.2) (λ n. (sym i n, sym j n, sym k n)) h

  read_fine : (array : ArrayId) (at : Term) → AllFine (bracket_accesses Reads array at) (at ∷ []) (array ∷ [])
  read_fine array at small data_ = bracket_fine Reads array at (All-head IsSmallTerm at [] small) (both (is_data decls array) true data_).0

  op_fine : (xs ys : List Access) (ts us : List Term) (fs gs : List ArrayId) → AllFine xs ts fs → AllFine ys us gs → AllFine (xs ++ ys) (ts ++ us) (fs ++ gs)
  op_fine xs ys ts us fs gs left right small data_ =
      let s = all_parts IsSmallTerm ts us small in
      let d = parts (is_data decls) fs gs data_ in
      All-append IsFine xs ys (left s.0 d.0) (right s.1 d.1)

  expr_case : (y : Expr-F ((e : Expr) × ExprFine e)) → ExprFine (roll-Expr (map-Expr ((e : Expr) × ExprFine e) Expr (λ e. e.0) y))
  expr_case (Expr-F.Lit v) = seen_as (roll-Expr (Expr-F.Lit v)) [] [] [] (search (rules, EXPR.TheFolds.the_lemmas)) (search (rules, EXPR.TheFolds.the_lemmas)) (search (rules, EXPR.TheFolds.the_lemmas)) (λ s d. All-nil IsFine)
  expr_case (Expr-F.Local v) = seen_as (roll-Expr (Expr-F.Local v)) [] [] [] (search (rules, EXPR.TheFolds.the_lemmas)) (search (rules, EXPR.TheFolds.the_lemmas)) (search (rules, EXPR.TheFolds.the_lemmas)) (λ s d. All-nil IsFine)
  expr_case (Expr-F.Read array at) =
      seen_as (roll-Expr (Expr-F.Read array at)) (bracket_accesses Reads array at) (at ∷ []) (array ∷ []) (search (rules, EXPR.TheFolds.the_lemmas)) (search (rules, EXPR.TheFolds.the_lemmas)) (search (rules, EXPR.TheFolds.the_lemmas)) (read_fine array at)
  expr_case (Expr-F.Op op l m) =
      seen_as (roll-Expr (Expr-F.Op op l.0 m.0)) (expr_accesses l.0 ++ expr_accesses m.0) (expr_terms l.0 ++ expr_terms m.0) (expr_arrays l.0 ++ expr_arrays m.0) (search (rules, EXPR.TheFolds.the_lemmas)) (search (rules, EXPR.TheFolds.the_lemmas)) (search (rules, EXPR.TheFolds.the_lemmas)) (op_fine (expr_accesses l.0) (expr_accesses m.0) (expr_terms l.0) (expr_terms m.0) (expr_arrays l.0) (expr_arrays m.0) l.1 m.1)

  exprs_fine : (e : Expr) → ExprFine e
  exprs_fine = ind-Expr ExprFine (λ x y is. subst (λ z. ExprFine (roll-Expr z)) is (expr_case y))

  -- Lines.

  pub record IsFineSpot (s : Spot) : Type 0 where
    pub around : All IsFineAround s.around
    pub brackets : All IsFineBracket s.brackets

  abbrev IsFineLine : Line → Type 0
  IsFineLine l = TermsWithin (2 ^ 21) (line_terms l.form) × (list_all (is_data decls) (line_arrays l.form) ≡ true)

  numbered_fine : (k : ℕ) (xs : List Access) → All IsFine xs → All IsFineBracket (numbered k xs)
  numbered_fine k [] h = All-nil IsFineBracket
  numbered_fine k (x ∷ xs) h = All-cons IsFineBracket (bracket k x) (numbered (k + 1) xs) (All-head IsFine x xs h) (numbered_fine (k + 1) xs (All-tail IsFine x xs h))

  spot_fine : (line : ℕ) (around : List Around) (xs : List Access) → All IsFineAround around → All IsFine xs → IsFineSpot (spot line around xs)
  spot_fine line around xs h g = record { around = h; brackets = numbered_fine 1 xs g }

  abbrev Kept : (List Loop → List Line) → (List Around → List Spot) → Type 0
  Kept lines spots = (loops : List Loop) (around : List Around) → All IsFineLine (lines loops) → All IsFineAround around → All IsFineSpot (spots around)

  abbrev KeptItem : Type 0
  KeptItem = (item : Item) × Kept (item_lines item) (item_spots item)

  abbrev items_of : List KeptItem → List Item
  items_of es = map (λ e. e.0) es

  all_kept : (es : List KeptItem) → Kept (lines_of_all (map item_lines (items_of es))) (spots_of_all (map item_spots (items_of es)))
  all_kept [] loops around h g = All-nil IsFineSpot
  all_kept (e ∷ es) loops around h g =
      let t = all_parts IsFineLine (item_lines e.0 loops) (lines_of_all (map item_lines (items_of es)) loops) h in
      All-append IsFineSpot (item_spots e.0 around) (spots_of_all (map item_spots (items_of es)) around) (e.1 loops around t.0 g) (all_kept es loops around t.1 g)

  two_terms : (s t : Term) → TermsWithin (2 ^ 21) (s ∷ t ∷ []) → IsSmallTerm s × IsSmallTerm t
  two_terms s t h = (All-head IsSmallTerm s (t ∷ []) h, All-head IsSmallTerm t [] (All-tail IsSmallTerm s (t ∷ []) h))

  pair_spot : (line : ℕ) (around : List Around) (s t : Term) → All IsFineAround around → IsSmallTerm s × IsSmallTerm t → IsFineSpot (spot line around (term_accesses s ++ term_accesses t))
  pair_spot line around s t h (a, b) = spot_fine line around (term_accesses s ++ term_accesses t) h (All-append IsFine (term_accesses s) (term_accesses t) (terms_fine s a) (terms_fine t b))

  block_kept : (line : ℕ) (s t : Term) (form : Form) (inside : Around) (loops : List Loop → List Loop) (es : List KeptItem)
      → line_terms form ≡ s ∷ t ∷ [] → (IsSmallTerm s × IsSmallTerm t → IsFineAround inside)
      → Kept (λ l. record { number = line; around = l; form = form } ∷ lines_of_all (map item_lines (items_of es)) (loops l))
      (λ around. spot line around (term_accesses s ++ term_accesses t) ∷ spots_of_all (map item_spots (items_of es)) (around ++ inside ∷ []))
  block_kept line s t form inside loops es is within l around h g =
      let head : Line = record { number = line; around = l; form = form } in
      let rest : List Line = lines_of_all (map item_lines (items_of es)) (loops l) in
      let one = All-head IsFineLine head rest h in
      let small = two_terms s t (subst (TermsWithin (2 ^ 21)) is one.0) in
      All-cons IsFineSpot (spot line around (term_accesses s ++ term_accesses t)) (spots_of_all (map item_spots (items_of es)) (around ++ inside ∷ []))
      (pair_spot line around s t g small)
      (all_kept es (loops l) (around ++ inside ∷ []) (All-tail IsFineLine head rest h) (All-push IsFineAround around inside g (within small)))

  set_kept : (line : ℕ) (array : ArrayId) (at : Term) (value : Expr)
      → Kept (λ l. record { number = line; around = l; form = sets_form array at value } ∷ []) (λ around. spot line around (bracket_accesses Sets array at ++ expr_accesses value) ∷ [])
  set_kept line array at value loops around h g =
      let l : Line = record { number = line; around = loops; form = sets_form array at value } in
      let one = All-head IsFineLine l [] h in
      let d = parts (is_data decls) (expr_arrays value) (array ∷ []) one.1 in
      let xs = bracket_accesses Sets array at ++ expr_accesses value in
      All-cons IsFineSpot (spot line around xs) []
      (spot_fine line around xs g (All-append IsFine (bracket_accesses Sets array at) (expr_accesses value)
      (bracket_fine Sets array at (All-head IsSmallTerm at (expr_terms value) one.0) (both (is_data decls array) true d.1).0)
      (exprs_fine value (All-tail IsSmallTerm at (expr_terms value) one.0) d.0)))
      (All-nil IsFineSpot)

  keep_kept : (line local : ℕ) (value : Expr)
      → Kept (λ l. record { number = line; around = l; form = keeps_form local value } ∷ []) (λ around. spot line around (expr_accesses value) ∷ [])
  keep_kept line local value loops around h g =
      let l : Line = record { number = line; around = loops; form = keeps_form local value } in
      let one = All-head IsFineLine l [] h in
      All-cons IsFineSpot (spot line around (expr_accesses value)) [] (spot_fine line around (expr_accesses value) g (exprs_fine value one.0 one.1)) (All-nil IsFineSpot)

  item_case : (y : Item-F KeptItem) → let x : Item-F Item = map-Item KeptItem Item (λ e. e.0) y in Kept (item_lines (roll-Item x)) (item_spots (roll-Item x))
  item_case y =
      let x : Item-F Item = map-Item KeptItem Item (λ e. e.0) y in
      subst (λ (z : (List Loop → List Line) × (List Around → List Spot)). Kept z.0 z.1)
      (λ i. (sym (fold-roll-Item (List Loop → List Line) lines_step x) i, sym (fold-roll-Item (List Around → List Spot) spots_step x) i))
      (by y)
    where
      by : (y : Item-F KeptItem) → let x : Item-F Item = map-Item KeptItem Item (λ e. e.0) y in
          Kept (lines_step (map-Item Item (List Loop → List Line) item_lines x)) (spots_step (map-Item Item (List Around → List Spot) item_spots x))
      by (Item-F.For line name lo hi es) = block_kept line lo hi (Repeats name lo hi) (Repeated line lo hi) (λ l. record { line = line; name = name } ∷ l) es refl (λ h. h)
      by (Item-F.When line rel left right es) = block_kept line left right (Guards left right) (Guard rel left right) (λ l. l) es refl (λ h. h)
      by (Item-F.Set line array at value) = set_kept line array at value
      by (Item-F.Keep line local value) = keep_kept line local value

  abbrev KeptOf : Item → Type 0
  KeptOf item = Kept (item_lines item) (item_spots item)

  items_kept : (item : Item) → KeptOf item
  items_kept = ind-Item KeptOf (λ x y is. subst (λ z. KeptOf (roll-Item z)) is (item_case y))

  body_kept : (items : List Item) → Kept (lines_of_all (map item_lines items)) (spots_of_all (map item_spots items))
  body_kept [] loops around h g = All-nil IsFineSpot
  body_kept (i ∷ is) loops around h g =
      let t = all_parts IsFineLine (item_lines i loops) (lines_of_all (map item_lines is) loops) h in
      All-append IsFineSpot (item_spots i around) (spots_of_all (map item_spots is) around) (items_kept i loops around t.0 g) (body_kept is loops around t.1 g)

-- Nests.

flat_each : {X Y : Type 0} (P : X → Type 0) (f : Y → List X) (ys : List Y) → All P (flat_map f ys) → All (λ y. All P (f y)) ys
flat_each P f [] h = All-nil (λ y. All P (f y))
flat_each P f (y ∷ ys) h = let t = all_parts P (f y) (flat_map f ys) h in All-cons (λ y. All P (f y)) y ys t.0 (flat_each P f ys t.1)

test_each : {X : Type 0} (p : X → Bool) (xs : List X) → list_all p xs ≡ true → All (λ x. p x ≡ true) xs
test_each p [] h = All-nil (λ x. p x ≡ true)
test_each p (x ∷ xs) h = let t = both (p x) (list_all p xs) h in All-cons (λ x. p x ≡ true) x xs t.0 (test_each p xs t.1)

-- the terms of the lines are small
abbrev pub HasSmallTerms : Nest → Type 0
HasSmallTerms nest = TermsWithin (2 ^ 21) (flat_map (λ l. line_terms l.form) (body_lines nest))

pub spots-fine : (nest : Nest) → IsNest nest → HasSmallTerms nest → All (IsFineSpot nest.decls) (spots nest)
spots-fine nest h terms =
    let lines = body_lines nest in
    let small = flat_each IsSmallTerm (λ (l : Line). line_terms l.form) lines terms in
    let kinds = test_each (uses_kinds nest.decls) lines h.of_kinds in
    let fine : All (IsFineLine nest.decls) lines = All-weaker (Contains lines) (IsFineLine nest.decls)
    (λ l c. (
      All-contains (λ (l : Line). TermsWithin (2 ^ 21) (line_terms l.form)) lines l small c,
      (both _ (list_all (is_data nest.decls) (line_arrays l.form)) (All-contains (λ (l : Line). uses_kinds nest.decls l ≡ true) lines l kinds c)).1,
    )) lines (All-contains_itself lines) in
    body_kept nest.decls nest.body (record { line = nest.line; name = nest.name } ∷ []) [] fine (All-nil IsFineAround)
