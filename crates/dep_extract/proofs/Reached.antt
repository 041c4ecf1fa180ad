-- An item does something to a place just where some values of the variables lead to a bracket of one of its lines.
use Rattle.std.proofs.Common.{◌≡◌, ◌⊎◌, inl, inr, ℕ, ◌<◌, ◌≤◌, ℤ, ◌≤ℤ◌, Bool, true, false, ◌&&◌, List, [], ◌∷◌, ◌++◌, map, refl, sym, ap, ◌∙◌, subst, arith}
use Rattle.std.specs.Prelude.{◌==◌, ◌||◌, nat_lt, if◌then◌else◌}
use Rattle.std.specs.Int.Signed.{◌<ℤ◌}
use Rattle.std.specs.List.{Contains, list_all, flat_map}
use Rattle.std.proofs.lemmas.Bool.{eqb-true}
use Rattle.std.proofs.lemmas.Bool.Decides.{nat_tests}
use Rattle.std.proofs.lemmas.List.{map-append}
use Rattle.std.proofs.lemmas.List.Elements.{Contains-append_left, Contains-append_right, Contains-append_cases}
use Rattle.wave_base.specs.declared.types.ArrayId.{ArrayId}
use Rattle.loop_core.specs.declared.place.Place.{Place}
use Rattle.loop_core.specs.declared.nest.Side.{Side}
use Rattle.loop_core.specs.declared.nest.Side.TheVariants.{Own, First, Second}
use Rattle.loop_core.specs.declared.nest.VarId.{VarId}
use Rattle.loop_core.specs.declared.nest.Rel.{Rel}
use Rattle.loop_core.specs.declared.nest.Term.{Term}
use Rattle.loop_core.specs.declared.nest.Expr.{Expr}
use Rattle.loop_core.specs.declared.nest.Item.{Item}
use Rattle.loop_core.specs.declared.nest.Item.TheOpen.{Item-F}
use Rattle.loop_core.specs.declared.nest.Item.TheViews.{roll-Item}
use Rattle.loop_core.specs.declared.nest.Item.TheFolds.{ind-Item, fold-roll-Item, map-Item}
use Rattle.loop_core.specs.Lists.{Lists}
use Rattle.loop_core.specs.Binding.{Binding, value_in, same_variable, same_side}
use Rattle.loop_core.specs.Terms.{term_value}
use Rattle.loop_core.specs.Shape.{Loop, Line, Repeats, Guards, Sets as sets_form, Keeps as keeps_form, lines_of_all, lines_step, item_lines, term_vars, expr_terms}
use Rattle.loop_core.specs.IsNest.{is_round, knows_variables, rises_from}
use Rattle.loop_core.specs.declared.effect.Effect.{Effect}
use Rattle.loop_core.specs.declared.effect.Effect.TheVariants.{Sets, Keeps}
use Rattle.loop_core.specs.Instances.{Instance, formula, related, trips, turns, in_turn, bound, item_step, item_instances}
use Rattle.uf_constraints.specs.declared.reach.Around.{Around}
use Rattle.uf_constraints.specs.declared.reach.Around.TheVariants.{Loop as Repeated, Guard}
use Rattle.uf_constraints.specs.declared.reach.Usage.TheVariants.{Sets as of_set, Reads as of_read}
use Rattle.uf_constraints.specs.declared.reach.Access.{Access}
use Rattle.uf_constraints.specs.declared.reach.Spot.{Spot}
use Rattle.uf_constraints.specs.Brackets.{access, spot, spots_of_all, spots_step, item_spots, term_accesses, bracket_accesses, expr_accesses}
use Rattle.dep_extract.proofs.Members.{both, parts, none, one, cons_cases, here}
use Rattle.dep_extract.proofs.Worth.{worth, on_line, Agrees, value_known}
use Rattle.dep_extract.proofs.Rounds.{Met, met_push, met_split}
use Rattle.dep_extract.proofs.Writing.{use_of, place_at, Accessed, Bracketed, to_brackets, from_brackets, accessed_right, accessed_cases, in_term, in_terms, expr_same, writes_nothing}
use Rattle.dep_extract.proofs.Turns.{Does, DoesOne, does_none, does_left, does_right, does_cases, from_loop, to_loop}

-- Scopes.

-- the variables of the loops round a place have lines up to this one
abbrev pub UpTo : ℕ → List Loop → Type 0
UpTo n around = (v : VarId) → is_round around v ≡ true → v.line ≤ n

abbrev loop_at : ℕ → List ℕ → Loop
loop_at line name = record { line = line; name = name }

abbrev own : ℕ → VarId
own line = record { line = line; side = Own }

or_cases : (s t : Bool) → (s || t) ≡ true → (s ≡ true) ⊎ (t ≡ true)
or_cases true t e = inl refl
or_cases false t e = inr e

same_line : (line : ℕ) (v : VarId) → same_variable (own line) v ≡ true → line ≡ v.line
same_line line v e = eqb-true line v.line (both (line == v.line) (same_side Own v.side) e).0

-- inside a loop
pub deeper : (n line : ℕ) (name : List ℕ) (around : List Loop) → n < line → UpTo n around → UpTo line (loop_at line name ∷ around)
deeper n line name around lt upto v e = by (or_cases (same_variable (own line) v) (is_round around v) e)
  where
    by : (same_variable (own line) v ≡ true) ⊎ (is_round around v ≡ true) → v.line ≤ line
    by (inl s) = let l = same_line line v s in omega (arith)
    by (inr t) = let l = upto v t in omega (arith, lt)

known_or : (b : Bool) (P : Bool → Type 0) → (b ≡ true → P true) → (b ≡ false → P false) → P b
known_or true P f g = f refl
known_or false P f g = g refl

-- a loop's value agrees, and so do those round it
pub agrees_inside : (line : ℕ) (name : List ℕ) (around : List Loop) (env : List Binding) (r : ℕ → ℤ) → Agrees around env r → Agrees (loop_at line name ∷ around) (bound line (r line) env) r
agrees_inside line name around env r agrees v e =
    known_or (same_variable (own line) v) (λ b. (b || is_round around v) ≡ true → (if b then r line else value_in env v) ≡ r v.line)
    (λ s t. ap r (same_line line v s))
    (λ s t. agrees v t) e

pub own_itself : (line : ℕ) → same_variable (own line) (own line) ≡ true
own_itself line = grind (arith, nat_tests)

-- where what is inside agrees, so does what is round it, and the loop's value is its own
pub agrees_round : (n line : ℕ) (name : List ℕ) (around : List Loop) (env : List Binding) (i : ℤ) (r : ℕ → ℤ) → n < line → UpTo n around
    → Agrees (loop_at line name ∷ around) (bound line i env) r → Agrees around env r × (i ≡ r line)
agrees_round n line name around env i r lt upto agrees = (
  λ v e. known_or (same_variable (own line) v) (λ b. (b || is_round around v) ≡ true → (if b then i else value_in env v) ≡ r v.line → value_in env v ≡ r v.line)
      (λ s t u. absurd (let l = same_line line v s in let m = upto v e in omega (arith, lt)))
      (λ s t u. u)
      (or_right (same_variable (own line) v) (is_round around v) e) (agrees v (or_right (same_variable (own line) v) (is_round around v) e)),
  sym (ap (λ b. if b then i else value_in env (own line)) (own_itself line)) ∙ agrees (own line) (ap (λ b. b || is_round around (own line)) (own_itself line)),
)
  where
    or_right : (s t : Bool) → t ≡ true → (s || t) ≡ true
    or_right true t e = refl
    or_right false t e = e

variable_is : (v u : VarId) → same_variable v u ≡ true → v.side ≡ Own → v ≡ u
variable_is v u s o = sides v.side u.side (both (v.line == u.line) (same_side v.side u.side) s).1 o (eqb-true v.line u.line (both (v.line == u.line) (same_side v.side u.side) s).0)
  where
    of : Side → ℕ → VarId
    of side line = record { line = line; side = side }

    sides : (t r : Side) → same_side t r ≡ true → t ≡ Own → v.line ≡ u.line → of t v.line ≡ of r u.line
    sides Own Own e o l = ap (of Own) l
    sides Own First e o l = absurd (cc)
    sides Own Second e o l = absurd (cc)
    sides First r e o l = absurd (cc)
    sides Second r e o l = absurd (cc)

-- the values of the variables round a statement
own_agrees : (around : List Loop) (env : List Binding) → Agrees around env (on_line env Own)
own_agrees around env v e = ap (value_in env) (is_own around v e)
  where
    of_own : (v : VarId) (line : ℕ) → same_variable (own line) v ≡ true → v ≡ own v.line
    of_own v line s = sym (variable_is (own line) v s refl) ∙ ap own (same_line line v s)

    is_own : (around : List Loop) (v : VarId) → is_round around v ≡ true → v ≡ own v.line
    is_own [] v e = absurd (cc)
    is_own (o ∷ more) v e = by (or_cases (same_variable (own o.line) v) (is_round more v) e) (is_own more v)
      where
        by : (same_variable (own o.line) v ≡ true) ⊎ (is_round more v ≡ true) → (is_round more v ≡ true → v ≡ own v.line) → v ≡ own v.line
        by (inl s) rest = of_own v o.line s
        by (inr t) rest = rest t

-- Numbers that rise.

lt_from : (n k : ℕ) → nat_lt n k ≡ true → n < k
lt_from n k e = grind (arith, nat_tests)

lt_to : (n k : ℕ) → n < k → nat_lt n k ≡ true
lt_to n k e = grind (arith, nat_tests)

rises_lower : (n m : ℕ) (ks : List ℕ) → n ≤ m → rises_from m ks ≡ true → rises_from n ks ≡ true
rises_lower n m [] le e = refl
rises_lower n m (k ∷ ks) le e =
    let t = both (nat_lt m k) (rises_from k ks) e in
    let l = lt_from m k t.0 in
    ap (λ b. b && rises_from k ks) (lt_to n k (omega arith)) ∙ t.1

rises_parts : (n : ℕ) (ks ls : List ℕ) → rises_from n (ks ++ ls) ≡ true → (rises_from n ks ≡ true) × (rises_from n ls ≡ true)
rises_parts n [] ls e = (refl, e)
rises_parts n (k ∷ ks) ls e =
    let t = both (nat_lt n k) (rises_from k (ks ++ ls)) e in
    let l = lt_from n k t.0 in
    let u = rises_parts k ks ls t.1 in
    (ap (λ b. b && rises_from k ks) t.0 ∙ u.0, rises_lower n k ls (omega arith) u.1)

abbrev pub numbers : List Line → List ℕ
numbers ls = map (λ l. l.number) ls

rising_parts : (n : ℕ) (xs ys : List Line) → rises_from n (numbers (xs ++ ys)) ≡ true → (rises_from n (numbers xs) ≡ true) × (rises_from n (numbers ys) ≡ true)
rising_parts n xs ys e = rises_parts n (numbers xs) (numbers ys) (ap (rises_from n) (sym (map-append (λ (l : Line). l.number) xs ys)) ∙ e)

-- Both directions.

module _ (a : Lists) (w : Bool) (p : Place) where
  abbrev pub Led : (ℕ → ℤ) → List Spot → Type 0
  Led r spots = (s : Spot) × Contains spots s × Met a r s.around × Bracketed a r (use_of w) p s.brackets

  abbrev Found : List Loop → List Binding → List Spot → Type 0
  Found around env spots = (e : List Binding) × Led (on_line e Own) spots × Agrees around env (on_line e Own)

  abbrev Forth : (List Binding → List Instance) → (List Around → List Spot) → (List Loop → List Line) → Type 0
  Forth f g l =
      (around : List Loop) (out : List Around) (env : List Binding) (n : ℕ)
      → list_all knows_variables (l around) ≡ true → rises_from n (numbers (l around)) ≡ true → UpTo n around
      → ((r : ℕ → ℤ) → Agrees around env r → Met a r out)
      → Does w (f env) p → Found around env (g out)

  abbrev Back : (List Binding → List Instance) → (List Around → List Spot) → (List Loop → List Line) → Type 0
  Back f g l =
      (around : List Loop) (out : List Around) (env : List Binding) (r : ℕ → ℤ)
      → list_all knows_variables (l around) ≡ true → Agrees around env r
      → Led r (g out) → Does w (f env) p × Met a r out

  abbrev Ways : (List Binding → List Instance) → (List Around → List Spot) → (List Loop → List Line) → Type 0
  Ways f g l = Forth f g l × Back f g l

  led_left : (r : ℕ → ℤ) (xs ys : List Spot) → Led r xs → Led r (xs ++ ys)
  led_left r xs ys h = (h.0, Contains-append_left xs ys h.0 h.1, h.2, h.3)

  led_right : (r : ℕ → ℤ) (xs ys : List Spot) → Led r ys → Led r (xs ++ ys)
  led_right r xs ys h = (h.0, Contains-append_right xs ys h.0 h.1, h.2, h.3)

  led_cases : (r : ℕ → ℤ) (xs ys : List Spot) → Led r (xs ++ ys) → Led r xs ⊎ Led r ys
  led_cases r xs ys h = by (Contains-append_cases xs ys h.0 h.1)
    where
      by : Contains xs h.0 ⊎ Contains ys h.0 → Led r xs ⊎ Led r ys
      by (inl c) = inl (h.0, c, h.2, h.3)
      by (inr c) = inr (h.0, c, h.2, h.3)

  -- One line.

  led_one : (r : ℕ → ℤ) (line : ℕ) (out : List Around) (xs : List Access) → Met a r out → Accessed a r (use_of w) p xs → Led r (spot line out xs ∷ [])
  led_one r line out xs met h = (spot line out xs, here (spot line out xs) [], met, to_brackets a r (use_of w) p 1 xs h)

  from_one : (r : ℕ → ℤ) (line : ℕ) (out : List Around) (xs : List Access) → Led r (spot line out xs ∷ []) → Met a r out × Accessed a r (use_of w) p xs
  from_one r line out xs h =
      let is = one (spot line out xs) h.0 h.1 in
      (subst (λ (s : Spot). Met a r s.around) (sym is) h.2, from_brackets a r (use_of w) p 1 xs (subst (λ (s : Spot). Bracketed a r (use_of w) p s.brackets) (sym is) h.3))

  -- a line of terms has no read and no write
  not_here : (r : ℕ → ℤ) (line : ℕ) (out : List Around) (s t : Term) → Led r (spot line out (term_accesses s ++ term_accesses t) ∷ []) → ⊥
  not_here r line out s t h = in_terms a r w p s t (from_one r line out (term_accesses s ++ term_accesses t) h).1

  -- Lists of items.

  abbrev WaysItem : Type 0
  WaysItem = (item : Item) × Ways (item_instances a item) (item_spots item) (item_lines item)

  abbrev items_of : List WaysItem → List Item
  items_of es = map (λ e. e.0) es

  abbrev fs : List WaysItem → List Binding → List Instance
  fs es = in_turn (map (item_instances a) (items_of es))

  abbrev gs : List WaysItem → List Around → List Spot
  gs es = spots_of_all (map item_spots (items_of es))

  abbrev ls : List WaysItem → List Loop → List Line
  ls es = lines_of_all (map item_lines (items_of es))

  forth_all : (es : List WaysItem) → Forth (fs es) (gs es) (ls es)
  forth_all [] around out env n known rising upto met d = absurd (does_none w p d)
  forth_all (e ∷ es) around out env n known rising upto met d =
      let k = parts knows_variables (item_lines e.0 around) (ls es around) known in
      let ris = rising_parts n (item_lines e.0 around) (ls es around) rising in
      by (e.1.0 around out env n k.0 ris.0 upto met) (forth_all es around out env n k.1 ris.1 upto met) (does_cases w p (item_instances a e.0 env) (fs es env) d)
    where
      by : (Does w (item_instances a e.0 env) p → Found around env (item_spots e.0 out)) → (Does w (fs es env) p → Found around env (gs es out))
          → Does w (item_instances a e.0 env) p ⊎ Does w (fs es env) p → Found around env (item_spots e.0 out ++ gs es out)
      by f g (inl x) = let t = f x in (t.0, led_left (on_line t.0 Own) (item_spots e.0 out) (gs es out) t.1, t.2)
      by f g (inr x) = let t = g x in (t.0, led_right (on_line t.0 Own) (item_spots e.0 out) (gs es out) t.1, t.2)

  back_all : (es : List WaysItem) → Back (fs es) (gs es) (ls es)
  back_all [] around out env r known agrees h = absurd (none h.0 h.1)
  back_all (e ∷ es) around out env r known agrees h =
      let k = parts knows_variables (item_lines e.0 around) (ls es around) known in
      by (e.1.1 around out env r k.0 agrees) (back_all es around out env r k.1 agrees) (led_cases r (item_spots e.0 out) (gs es out) h)
    where
      by : (Led r (item_spots e.0 out) → Does w (item_instances a e.0 env) p × Met a r out) → (Led r (gs es out) → Does w (fs es env) p × Met a r out)
          → Led r (item_spots e.0 out) ⊎ Led r (gs es out) → Does w (item_instances a e.0 env ++ fs es env) p × Met a r out
      by f g (inl x) = let t = f x in (does_left w p (item_instances a e.0 env) (fs es env) t.0, t.1)
      by f g (inr x) = let t = g x in (does_right w p (item_instances a e.0 env) (fs es env) t.0, t.1)

  -- A loop.

  module _ (line : ℕ) (name : List ℕ) (lo hi : Term) (es : List WaysItem) where
    abbrev x : Item-F WaysItem
    x = Item-F.For line name lo hi es

    terms_known : (around : List Loop) → list_all (is_round around) (flat_map term_vars (lo ∷ hi ∷ [])) ≡ true → (list_all (is_round around) (term_vars lo) ≡ true) × (list_all (is_round around) (term_vars hi) ≡ true)
    terms_known around known =
        let t = parts (is_round around) (term_vars lo) (term_vars hi ++ []) known in
        (t.0, (parts (is_round around) (term_vars hi) [] t.1).0)

    loop_forth : Forth
        (λ env. turns (trips (term_value a env lo) (term_value a env hi)) (term_value a env lo) (λ i. fs es (bound line i env)))
        (λ out. spot line out (term_accesses lo ++ term_accesses hi) ∷ gs es (out ++ Repeated line lo hi ∷ []))
        (λ around. record { number = line; around = around; form = Repeats name lo hi } ∷ ls es (loop_at line name ∷ around))
    loop_forth around out env n known rising upto met d =
        let k = both (knows_variables (record { number = line; around = around; form = Repeats name lo hi })) (list_all knows_variables (ls es (loop_at line name ∷ around))) known in
        let t = terms_known around k.0 in
        let ris = both (nat_lt n line) (rises_from line (numbers (ls es (loop_at line name ∷ around)))) rising in
        let lt : n < line = lt_from n line ris.0 in
        let turn = from_loop w p (term_value a env lo) (term_value a env hi) (λ i. fs es (bound line i env)) d in
        let i : ℤ = turn.0 in
        let inside : (r : ℕ → ℤ) → Agrees (loop_at line name ∷ around) (bound line i env) r → Met a r (out ++ Repeated line lo hi ∷ []) =
        λ r agrees. (
        let u = agrees_round n line name around env i r lt upto agrees in
        let least : worth a r lo ≤ℤ r line = subst (λ (z : ℤ × ℤ). z.0 ≤ℤ z.1) (λ j. (value_known a around env r u.0 lo t.0 j, u.1 j)) turn.1 in
        let most : r line <ℤ worth a r hi = subst (λ (z : ℤ × ℤ). z.0 <ℤ z.1) (λ j. (u.1 j, value_known a around env r u.0 hi t.1 j)) turn.2 in
        met_push a r out (Repeated line lo hi) (met r u.0) (least, most)
        ) in
        let found = forth_all es (loop_at line name ∷ around) (out ++ Repeated line lo hi ∷ []) (bound line i env) line k.1 ris.1 (deeper n line name around lt upto) inside turn.3 in
        (found.0, led_right (on_line found.0 Own) (spot line out (term_accesses lo ++ term_accesses hi) ∷ []) (gs es (out ++ Repeated line lo hi ∷ [])) found.1, (agrees_round n line name around env i (on_line found.0 Own) lt upto found.2).0)

    loop_back : Back
        (λ env. turns (trips (term_value a env lo) (term_value a env hi)) (term_value a env lo) (λ i. fs es (bound line i env)))
        (λ out. spot line out (term_accesses lo ++ term_accesses hi) ∷ gs es (out ++ Repeated line lo hi ∷ []))
        (λ around. record { number = line; around = around; form = Repeats name lo hi } ∷ ls es (loop_at line name ∷ around))
    loop_back around out env r known agrees h =
        let k = both (knows_variables (record { number = line; around = around; form = Repeats name lo hi })) (list_all knows_variables (ls es (loop_at line name ∷ around))) known in
        let t = terms_known around k.0 in
        by (back_all es (loop_at line name ∷ around) (out ++ Repeated line lo hi ∷ []) (bound line (r line) env) r k.1 (agrees_inside line name around env r agrees))
        (value_known a around env r agrees lo t.0) (value_known a around env r agrees hi t.1)
        (led_cases r (spot line out (term_accesses lo ++ term_accesses hi) ∷ []) (gs es (out ++ Repeated line lo hi ∷ [])) h)
      where
        by : (Led r (gs es (out ++ Repeated line lo hi ∷ [])) → Does w (fs es (bound line (r line) env)) p × Met a r (out ++ Repeated line lo hi ∷ []))
            → term_value a env lo ≡ worth a r lo → term_value a env hi ≡ worth a r hi
            → Led r (spot line out (term_accesses lo ++ term_accesses hi) ∷ []) ⊎ Led r (gs es (out ++ Repeated line lo hi ∷ []))
            → Does w (turns (trips (term_value a env lo) (term_value a env hi)) (term_value a env lo) (λ i. fs es (bound line i env))) p × Met a r out
        by inner low high (inl c) = absurd (not_here r line out lo hi c)
        by inner low high (inr c) =
            let u = inner c in
            let m = met_split a r out (Repeated line lo hi) u.1 in
            let said = m.1 in
            let least : term_value a env lo ≤ℤ r line = subst (λ z. z ≤ℤ r line) (sym low) said.0 in
            let most : r line <ℤ term_value a env hi = subst (λ z. r line <ℤ z) (sym high) said.1 in
            (to_loop w p (term_value a env lo) (term_value a env hi) (λ i. fs es (bound line i env)) (r line) least most u.0, m.0)

  -- A guard.

  module _ (line : ℕ) (rel : Rel) (lo hi : Term) (es : List WaysItem) where
    guard_known : (around : List Loop) → list_all (is_round around) (flat_map term_vars (lo ∷ hi ∷ [])) ≡ true → (list_all (is_round around) (term_vars lo) ≡ true) × (list_all (is_round around) (term_vars hi) ≡ true)
    guard_known around known =
        let t = parts (is_round around) (term_vars lo) (term_vars hi ++ []) known in
        (t.0, (parts (is_round around) (term_vars hi) [] t.1).0)

    guard_holds : (b : Bool) (all : List Instance) → Does w (if b then all else []) p → (b ≡ true) × Does w all p
    guard_holds true all d = (refl, d)
    guard_holds false all d = absurd (does_none w p d)

    guard_forth : Forth
        (λ env. if related rel (term_value a env lo) (term_value a env hi) then fs es env else [])
        (λ out. spot line out (term_accesses lo ++ term_accesses hi) ∷ gs es (out ++ Guard rel lo hi ∷ []))
        (λ around. record { number = line; around = around; form = Guards lo hi } ∷ ls es around)
    guard_forth around out env n known rising upto met d =
        let k = both (knows_variables (record { number = line; around = around; form = Guards lo hi })) (list_all knows_variables (ls es around)) known in
        let t = guard_known around k.0 in
        let ris = both (nat_lt n line) (rises_from line (numbers (ls es around))) rising in
        let lt : n < line = lt_from n line ris.0 in
        let g = guard_holds (related rel (term_value a env lo) (term_value a env hi)) (fs es env) d in
        let inside : (r : ℕ → ℤ) → Agrees around env r → Met a r (out ++ Guard rel lo hi ∷ []) =
        λ r agrees. met_push a r out (Guard rel lo hi) (met r agrees) (
        sym (λ j. related rel (value_known a around env r agrees lo t.0 j) (value_known a around env r agrees hi t.1 j)) ∙ g.0
        ) in
        let found = forth_all es around (out ++ Guard rel lo hi ∷ []) env n k.1 (rises_lower n line (numbers (ls es around)) (omega (arith, lt)) ris.1) upto inside g.1 in
        (found.0, led_right (on_line found.0 Own) (spot line out (term_accesses lo ++ term_accesses hi) ∷ []) (gs es (out ++ Guard rel lo hi ∷ [])) found.1, found.2)

    guard_back : Back
        (λ env. if related rel (term_value a env lo) (term_value a env hi) then fs es env else [])
        (λ out. spot line out (term_accesses lo ++ term_accesses hi) ∷ gs es (out ++ Guard rel lo hi ∷ []))
        (λ around. record { number = line; around = around; form = Guards lo hi } ∷ ls es around)
    guard_back around out env r known agrees h =
        let k = both (knows_variables (record { number = line; around = around; form = Guards lo hi })) (list_all knows_variables (ls es around)) known in
        let t = guard_known around k.0 in
        by (back_all es around (out ++ Guard rel lo hi ∷ []) env r k.1 agrees)
        (λ j. related rel (value_known a around env r agrees lo t.0 j) (value_known a around env r agrees hi t.1 j))
        (led_cases r (spot line out (term_accesses lo ++ term_accesses hi) ∷ []) (gs es (out ++ Guard rel lo hi ∷ [])) h)
      where
        by : (Led r (gs es (out ++ Guard rel lo hi ∷ [])) → Does w (fs es env) p × Met a r (out ++ Guard rel lo hi ∷ []))
            → related rel (term_value a env lo) (term_value a env hi) ≡ related rel (worth a r lo) (worth a r hi)
            → Led r (spot line out (term_accesses lo ++ term_accesses hi) ∷ []) ⊎ Led r (gs es (out ++ Guard rel lo hi ∷ []))
            → Does w (if related rel (term_value a env lo) (term_value a env hi) then fs es env else []) p × Met a r out
        by inner same (inl c) = absurd (not_here r line out lo hi c)
        by inner same (inr c) =
            let u = inner c in
            let m = met_split a r out (Guard rel lo hi) u.1 in
            (subst (λ b. Does w (if b then fs es env else []) p) (sym (same ∙ m.1)) u.0, m.0)

  -- Statements.

  module _ (line : ℕ) (array : ArrayId) (at : Term) (value : Expr) where
    abbrev written : List Access
    written = bracket_accesses of_set array at ++ expr_accesses value

    abbrev instance : List Binding → Instance
    instance env = record { line = line; effect = Sets (record { array = array; at = term_value a env at }); value = formula a env value }

    set_known : (around : List Loop) → list_all (is_round around) (flat_map term_vars (at ∷ expr_terms value)) ≡ true → (list_all (is_round around) (term_vars at) ≡ true) × (list_all (is_round around) (flat_map term_vars (expr_terms value)) ≡ true)
    set_known around known = parts (is_round around) (term_vars at) (flat_map term_vars (expr_terms value)) known

    set_to : (around : List Loop) (env : List Binding) (r : ℕ → ℤ) → Agrees around env r → (list_all (is_round around) (term_vars at) ≡ true) → (list_all (is_round around) (flat_map term_vars (expr_terms value)) ≡ true)
        → (v : Bool) → DoesOne v (instance env) p → Accessed a r (use_of v) p written
    set_to around env r agrees at_known value_is_known true d =
        let q : Place = record { array = array; at = term_value a env at } in
        let target : Effect → Place = λ e. target_of e in (
          access of_set array at,
          here (access of_set array at) (term_accesses at ++ expr_accesses value),
          refl,
          ap (λ z. let s : Place = record { array = array; at = z } in s) (sym (value_known a around env r agrees at at_known)) ∙ ap target d,
        )
      where
        target_of : Effect → Place
        target_of (Sets s) = s
        target_of (Keeps local) = record { array = array; at = term_value a env at }
    set_to around env r agrees at_known value_is_known false d =
        accessed_right a r of_read p (bracket_accesses of_set array at) (expr_accesses value) ((expr_same a around env r agrees p value value_is_known).0 d)

    set_from : (around : List Loop) (env : List Binding) (r : ℕ → ℤ) → Agrees around env r → (list_all (is_round around) (term_vars at) ≡ true) → (list_all (is_round around) (flat_map term_vars (expr_terms value)) ≡ true)
        → (v : Bool) → Accessed a r (use_of v) p written → DoesOne v (instance env) p
    set_from around env r agrees at_known value_is_known v h =
        by v (accessed_cases a r (use_of v) p (access of_set array at ∷ term_accesses at) (expr_accesses value) h)
      where
        same : term_value a env at ≡ worth a r at
        same = value_known a around env r agrees at at_known

        head : (v : Bool) (x : Access) → access of_set array at ≡ x → x.usage ≡ use_of v → place_at a r x.array x.at ≡ p → DoesOne v (instance env) p
        head true x is u q = ap (λ s. Sets s) (ap (λ z. let s : Place = record { array = array; at = z } in s) same ∙ ap (λ y. place_at a r y.array y.at) is ∙ q)
        head false x is u q = absurd (let e = ap (λ y. y.usage) is ∙ u in cc)

        first : (v : Bool) → (h : Accessed a r (use_of v) p (access of_set array at ∷ term_accesses at)) → (access of_set array at ≡ h.0) ⊎ Contains (term_accesses at) h.0 → DoesOne v (instance env) p
        first v h (inl is) = head v h.0 is h.2 h.3
        first v h (inr c) = absurd (in_term a r v p at (h.0, c, h.2, h.3))

        no_write : Accessed a r of_set p (expr_accesses value) → ⊥
        no_write = writes_nothing a r p value

        by : (v : Bool) → Accessed a r (use_of v) p (access of_set array at ∷ term_accesses at) ⊎ Accessed a r (use_of v) p (expr_accesses value) → DoesOne v (instance env) p
        by v (inl h) = first v h (cons_cases (access of_set array at) (term_accesses at) h.0 h.1)
        by true (inr h) = absurd (no_write h)
        by false (inr h) = (expr_same a around env r agrees p value value_is_known).1 h

    -- one instance does what it does
    only : (s : Instance) → Does w (s ∷ []) p → DoesOne w s p
    only s d = subst (λ t. DoesOne w t p) (sym (one s d.0 d.1)) d.2

    it_does : (s : Instance) → DoesOne w s p → Does w (s ∷ []) p
    it_does s d = (s, here s [], d)

    set_forth : Forth (λ env. instance env ∷ []) (λ out. spot line out written ∷ []) (λ around. record { number = line; around = around; form = sets_form array at value } ∷ [])
    set_forth around out env n known rising upto met d =
        let k = set_known around (both (knows_variables (record { number = line; around = around; form = sets_form array at value })) true known).0 in
        let agrees = own_agrees around env in
        let r : ℕ → ℤ = on_line env Own in
        (env, led_one r line out written (met r agrees) (set_to around env r agrees k.0 k.1 w (only (instance env) d)), agrees)

    set_back : Back (λ env. instance env ∷ []) (λ out. spot line out written ∷ []) (λ around. record { number = line; around = around; form = sets_form array at value } ∷ [])
    set_back around out env r known agrees h =
        let k = set_known around (both (knows_variables (record { number = line; around = around; form = sets_form array at value })) true known).0 in
        let t = from_one r line out written h in
        (it_does (instance env) (set_from around env r agrees k.0 k.1 w t.1), t.0)

  module _ (line local : ℕ) (value : Expr) where
    abbrev keeps : List Binding → Instance
    keeps env = record { line = line; effect = Keeps local; value = formula a env value }

    keep_to : (around : List Loop) (env : List Binding) (r : ℕ → ℤ) → Agrees around env r → (list_all (is_round around) (flat_map term_vars (expr_terms value)) ≡ true)
        → (v : Bool) → DoesOne v (keeps env) p → Accessed a r (use_of v) p (expr_accesses value)
    keep_to around env r agrees known true d = absurd (cc)
    keep_to around env r agrees known false d = (expr_same a around env r agrees p value known).0 d

    keep_from : (around : List Loop) (env : List Binding) (r : ℕ → ℤ) → Agrees around env r → (list_all (is_round around) (flat_map term_vars (expr_terms value)) ≡ true)
        → (v : Bool) → Accessed a r (use_of v) p (expr_accesses value) → DoesOne v (keeps env) p
    keep_from around env r agrees known true h = absurd (writes_nothing a r p value h)
    keep_from around env r agrees known false h = (expr_same a around env r agrees p value known).1 h

    only_keep : (s : Instance) → Does w (s ∷ []) p → DoesOne w s p
    only_keep s d = subst (λ t. DoesOne w t p) (sym (one s d.0 d.1)) d.2

    keep_forth : Forth (λ env. keeps env ∷ []) (λ out. spot line out (expr_accesses value) ∷ []) (λ around. record { number = line; around = around; form = keeps_form local value } ∷ [])
    keep_forth around out env n known rising upto met d =
        let k = (both (knows_variables (record { number = line; around = around; form = keeps_form local value })) true known).0 in
        let agrees = own_agrees around env in
        let r : ℕ → ℤ = on_line env Own in
        (env, led_one r line out (expr_accesses value) (met r agrees) (keep_to around env r agrees k w (only_keep (keeps env) d)), agrees)

    keep_back : Back (λ env. keeps env ∷ []) (λ out. spot line out (expr_accesses value) ∷ []) (λ around. record { number = line; around = around; form = keeps_form local value } ∷ [])
    keep_back around out env r known agrees h =
        let k = (both (knows_variables (record { number = line; around = around; form = keeps_form local value })) true known).0 in
        let t = from_one r line out (expr_accesses value) h in
        ((keeps env, here (keeps env) [], keep_from around env r agrees k w t.1), t.0)

  -- Items.

  abbrev WaysOf : Item → Type 0
  WaysOf item = Ways (item_instances a item) (item_spots item) (item_lines item)

  abbrev stripped : Item-F WaysItem → Item-F Item
  stripped y = map-Item WaysItem Item (λ e. e.0) y

  item_case : (y : Item-F WaysItem) → WaysOf (roll-Item (stripped y))
  item_case y =
      let x : Item-F Item = stripped y in
      subst (λ (z : (List Binding → List Instance) × (List Around → List Spot) × (List Loop → List Line)). Ways z.0 z.1 z.2)
      (λ i. (
        sym (fold-roll-Item (List Binding → List Instance) (item_step a) x) i,
        sym (fold-roll-Item (List Around → List Spot) spots_step x) i,
        sym (fold-roll-Item (List Loop → List Line) lines_step x) i,
      ))
      (by y)
    where
      by : (y : Item-F WaysItem) → let x : Item-F Item = stripped y in
          Ways (item_step a (map-Item Item (List Binding → List Instance) (item_instances a) x)) (spots_step (map-Item Item (List Around → List Spot) item_spots x)) (lines_step (map-Item Item (List Loop → List Line) item_lines x))
      by (Item-F.For line name lo hi es) = (loop_forth line name lo hi es, loop_back line name lo hi es)
      by (Item-F.When line rel left right es) = (guard_forth line rel left right es, guard_back line rel left right es)
      by (Item-F.Set line array at value) = (set_forth line array at value, set_back line array at value)
      by (Item-F.Keep line local value) = (keep_forth line local value, keep_back line local value)

  item_ways : (item : Item) → WaysOf item
  item_ways = ind-Item WaysOf (λ x y is. subst (λ z. WaysOf (roll-Item z)) is (item_case y))

  abbrev with_ways : List Item → List WaysItem
  with_ways items = map (λ item. (item, item_ways item)) items

  without : (items : List Item) → items_of (with_ways items) ≡ items
  without [] = refl
  without (i ∷ is) = ap (λ rest. i ∷ rest) (without is)

  pub body_ways : (items : List Item) → Ways (in_turn (map (item_instances a) items)) (spots_of_all (map item_spots items)) (lines_of_all (map item_lines items))
  body_ways items =
      subst (λ is. Ways (in_turn (map (item_instances a) is)) (spots_of_all (map item_spots is)) (lines_of_all (map item_lines is))) (without items)
      (forth_all (with_ways items), back_all (with_ways items))
