-- The formulas of a nest have numbers that fit 64 bits, and load words of its first 64 arrays.
use Rattle.std.proofs.Common.{w64, ◌≡◌, ℕ, zero, suc, ◌<◌, ◌≤◌, ◌^◌, ℤ, pos, negsuc, ◌+ℤ◌, Bool, true, false, ◌&&◌, if◌then◌else◌, List, [], ◌∷◌, ◌++◌, length, map, refl, sym, subst, ◌∙◌, arith}
use Rattle.std.specs.Prelude.{FitsSigned, slice_get}
use Rattle.std.specs.Option.{option_map_or}
use Rattle.std.specs.List.{list_all, flat_map}
use Rattle.std.proofs.lemmas.List.{length-append}
use Rattle.std.proofs.lemmas.List.Folds.{list_all-append}
use Rattle.std.proofs.lemmas.Bool.Decides.{nat_tests}
use Rattle.wave_base.specs.declared.types.ArrayId.{ArrayId}
use Rattle.loop_core.specs.declared.decl.Decl.{Decl}
use Rattle.loop_core.specs.declared.decl.DeclKind.{DeclKind}
use Rattle.loop_core.specs.declared.decl.DeclKind.TheVariants.{Matrix, Index, Vector}
use Rattle.loop_core.specs.declared.nest.Expr.{Expr}
use Rattle.loop_core.specs.declared.nest.Expr.TheOpen.{Expr-F}
use Rattle.loop_core.specs.declared.nest.Expr.TheViews.{roll-Expr}
use Rattle.loop_core.specs.declared.nest.Expr.TheFolds.{ind-Expr, fold-roll-Expr, map-Expr}
use Rattle.loop_core.specs.declared.nest.Item.{Item}
use Rattle.loop_core.specs.declared.nest.Item.TheOpen.{Item-F}
use Rattle.loop_core.specs.declared.nest.Item.TheViews.{roll-Item}
use Rattle.loop_core.specs.declared.nest.Item.TheFolds.{ind-Item, fold-roll-Item, map-Item}
use Rattle.loop_core.specs.declared.nest.Nest.{Nest}
use Rattle.loop_core.specs.Lists.{Lists}
use Rattle.loop_core.specs.Binding.{Binding}
use Rattle.loop_core.specs.Terms.{term_value}
use Rattle.loop_core.specs.Sizes.{Kind, holds_data, is_data, kinds, kinds_of, sizes, sizes_of}
use Rattle.loop_core.specs.Shape.{Loop, Line, lines_of_all, lines_step, item_lines, body_lines, line_numbers, expr_numbers, expr_numbers_step, expr_arrays, expr_arrays_step}
use Rattle.loop_core.specs.Instances.{Formula, Number, Load, Own, Apply, expr_step, formula, Instance, turns, in_turn, trips, bound, related, item_step, item_instances, body_instances, instances}
use Rattle.loop_core.specs.IsNest.{IsNest, is_literal, uses_kinds}
use Rattle.core_nest.proofs.Each.{Each}

abbrev pub IsSmall : Formula → Type 0
IsSmall (Number value) = FitsSigned w64 value
IsSmall (Load array at) = array.0 < 64
IsSmall (Own local) = Unit {0}
IsSmall (Apply op left right) = IsSmall left × IsSmall right

abbrev pub IsSmallOne : Instance → Type 0
IsSmallOne s = IsSmall s.value

both : (s t : Bool) → (s && t) ≡ true → (s ≡ true) × (t ≡ true)
both true t e = (refl, e)
both false t e = absurd (cc)

parts : {X : Type 0} (p : X → Bool) (xs ys : List X) → list_all p (xs ++ ys) ≡ true → (list_all p xs ≡ true) × (list_all p ys ≡ true)
parts p xs ys e = both (list_all p xs) (list_all p ys) (sym (list_all-append p xs ys) ∙ e)

-- Each data array is one of the first 64.

kind_long : (k : DeclKind) → length (kinds_of k) ≡ length (sizes_of k)
kind_long (Matrix form) = refl
kind_long (Index size) = refl
kind_long (Vector size source) = refl

kinds_long : (decls : List Decl) → length (kinds decls) ≡ length (sizes decls)
kinds_long [] = refl
kinds_long (d ∷ more) =
    let a = length-append (kinds_of d.kind) (kinds more) in
    let b = length-append (sizes_of d.kind) (sizes more) in
    let c = kind_long d.kind in
    let h = kinds_long more in
    omega arith

inside : (ks : List Kind) (k : ℕ) → option_map_or holds_data (slice_get ks k) false ≡ true → k < length ks
inside [] k e = absurd (cc)
inside (x ∷ ks) zero e = omega arith
inside (x ∷ ks) (suc k) e = let h = inside ks k e in omega arith

pub data_is_small : (decls : List Decl) (array : ArrayId) → length (sizes decls) ≤ 64 → is_data decls array ≡ true → array.0 < 64
data_is_small decls array few e = let h = inside (kinds decls) array.0 e in let n = kinds_long decls in omega arith

literal_fits : (z : ℤ) → is_literal z ≡ true → FitsSigned w64 z
literal_fits (pos n) e = record { sfits = (let h : n < 2 ^ 63 = grind (arith, nat_tests) in h) }
literal_fits (negsuc n) e = absurd (cc)

module _ (decls : List Decl) (few : length (sizes decls) ≤ 64) where
  abbrev Fine : Expr → Type 0
  Fine e = list_all is_literal (expr_numbers e) ≡ true → list_all (is_data decls) (expr_arrays e) ≡ true → (a : Lists) (env : List Binding) → IsSmall (formula a env e)

  abbrev FineExpr : Type 0
  FineExpr = (e : Expr) × Fine e

  expr_case : (y : Expr-F FineExpr) → Fine (roll-Expr (map-Expr FineExpr Expr (λ e. e.0) y))
  expr_case y n d a env =
      let x : Expr-F Expr = map-Expr FineExpr Expr (λ e. e.0) y in
      subst (λ (z : List ℤ × List ArrayId × Formula). list_all is_literal z.0 ≡ true → list_all (is_data decls) z.1 ≡ true → IsSmall z.2)
      (λ i. (sym (fold-roll-Expr (List ℤ) expr_numbers_step x) i, sym (fold-roll-Expr (List ArrayId) expr_arrays_step x) i, sym (fold-roll-Expr Formula (expr_step a env) x) i))
      (by y) n d
    where
      by : (y : Expr-F FineExpr) → let x : Expr-F Expr = map-Expr FineExpr Expr (λ e. e.0) y in
          list_all is_literal (expr_numbers_step (map-Expr Expr (List ℤ) expr_numbers x)) ≡ true
          → list_all (is_data decls) (expr_arrays_step (map-Expr Expr (List ArrayId) expr_arrays x)) ≡ true
          → IsSmall (expr_step a env (map-Expr Expr Formula (formula a env) x))
      by (Expr-F.Lit value) n d = literal_fits value (both _ _ n).0
      by (Expr-F.Read array at) n d = data_is_small decls array few (both _ _ d).0
      by (Expr-F.Local local) n d = tt
      by (Expr-F.Op op left right) n d =
          let m = parts is_literal (expr_numbers left.0) (expr_numbers right.0) n in
          let e = parts (is_data decls) (expr_arrays left.0) (expr_arrays right.0) d in
          (left.1 m.0 e.0 a env, right.1 m.1 e.1 a env)

  expr_fine : (e : Expr) → Fine e
  expr_fine = ind-Expr Fine (λ x y is. subst (λ z. Fine (roll-Expr z)) is (expr_case y))

  -- what is asked of a line
  abbrev fine_line : Line → Bool
  fine_line l = list_all is_literal (line_numbers l.form) && uses_kinds decls l

  abbrev FineBody : Item → Type 0
  FineBody item = (around : List Loop) → list_all fine_line (item_lines item around) ≡ true → (a : Lists) (env : List Binding) → Each IsSmallOne (item_instances a item env)

  abbrev FineItem : Type 0
  FineItem = (item : Item) × FineBody item

  abbrev items_of : List FineItem → List Item
  items_of es = map (λ e. e.0) es

  each_append : (xs ys : List Instance) → Each IsSmallOne xs → Each IsSmallOne ys → Each IsSmallOne (xs ++ ys)
  each_append [] ys h k = k
  each_append (x ∷ xs) ys h k = (h.0, each_append xs ys h.1 k)

  each_turn : (n : ℕ) (first : ℤ) (body : ℤ → List Instance) → ((z : ℤ) → Each IsSmallOne (body z)) → Each IsSmallOne (turns n first body)
  each_turn zero first body h = tt
  each_turn (suc n) first body h = each_append (body first) (turns n (first +ℤ pos 1) body) (h first) (each_turn n (first +ℤ pos 1) body h)

  if_then : (b : Bool) (xs : List Instance) → Each IsSmallOne xs → Each IsSmallOne (if b then xs else [])
  if_then true xs h = h
  if_then false xs h = tt

  bodies_fine : (es : List FineItem) (around : List Loop) → list_all fine_line (lines_of_all (map item_lines (items_of es)) around) ≡ true
      → (a : Lists) (env : List Binding) → Each IsSmallOne (in_turn (map (item_instances a) (items_of es)) env)
  bodies_fine [] around e a env = tt
  bodies_fine (i ∷ is) around e a env =
      let t = parts fine_line (item_lines i.0 around) (lines_of_all (map item_lines (items_of is)) around) e in
      each_append (item_instances a i.0 env) (in_turn (map (item_instances a) (items_of is)) env) (i.1 around t.0 a env) (bodies_fine is around t.1 a env)

  item_case : (y : Item-F FineItem) → FineBody (roll-Item (map-Item FineItem Item (λ e. e.0) y))
  item_case y around e a env =
      let x : Item-F Item = map-Item FineItem Item (λ e. e.0) y in
      subst (λ (z : List Line × List Instance). list_all fine_line z.0 ≡ true → Each IsSmallOne z.1)
      (λ i. (sym (fold-roll-Item (List Loop → List Line) lines_step x) i around, sym (fold-roll-Item (List Binding → List Instance) (item_step a) x) i env))
      (by y) e
    where
      by : (y : Item-F FineItem) → let x : Item-F Item = map-Item FineItem Item (λ e. e.0) y in
          list_all fine_line (lines_step (map-Item Item (List Loop → List Line) item_lines x) around) ≡ true
          → Each IsSmallOne (item_step a (map-Item Item (List Binding → List Instance) (item_instances a) x) env)
      by (Item-F.For line name lo hi body) e =
          each_turn (trips (term_value a env lo) (term_value a env hi)) (term_value a env lo)
          (λ i. in_turn (map (item_instances a) (items_of body)) (bound line i env))
          (λ z. bodies_fine body (record { line = line; name = name } ∷ around) (both _ _ e).1 a (bound line z env))
      by (Item-F.When line rel left right body) e =
          if_then (related rel (term_value a env left) (term_value a env right))
          (in_turn (map (item_instances a) (items_of body)) env) (bodies_fine body around (both _ _ e).1 a env)
      by (Item-F.Set line array at value) e =
          let one = both _ _ (both _ _ e).0 in
          (expr_fine value one.0 (parts (is_data decls) (expr_arrays value) (array ∷ []) (both _ _ one.1).1).0 a env, tt)
      by (Item-F.Keep line local value) e =
          let one = both _ _ (both _ _ e).0 in
          (expr_fine value one.0 (both _ _ one.1).1 a env, tt)

  item_fine : (item : Item) → FineBody item
  item_fine = ind-Item FineBody (λ x y is. subst (λ z. FineBody (roll-Item z)) is (item_case y))

  items_fine : (items : List Item) (around : List Loop) → list_all fine_line (lines_of_all (map item_lines items) around) ≡ true
      → (a : Lists) (env : List Binding) → Each IsSmallOne (body_instances a items env)
  items_fine [] around e a env = tt
  items_fine (i ∷ is) around e a env =
      let t = parts fine_line (item_lines i around) (lines_of_all (map item_lines is) around) e in
      each_append (item_instances a i env) (body_instances a is env) (item_fine i around t.0 a env) (items_fine is around t.1 a env)

  fine_lines : (ls : List Line) → list_all is_literal (flat_map (λ l. line_numbers l.form) ls) ≡ true → list_all (uses_kinds decls) ls ≡ true → list_all fine_line ls ≡ true
  fine_lines [] n k = refl
  fine_lines (l ∷ ls) n k =
      let m = parts is_literal (line_numbers l.form) (flat_map (λ l. line_numbers l.form) ls) n in
      let j = both _ _ k in
      let more = fine_lines ls m.1 j.1 in
      λ i. (m.0 i && j.0 i) && more i

pub small_instances : (nest : Nest) (a : Lists) (i : ℤ) → IsNest nest → Each IsSmallOne (instances a nest i)
small_instances nest a i n =
    items_fine nest.decls n.few_arrays nest.body (record { line = nest.line; name = nest.name } ∷ [])
    (fine_lines nest.decls n.few_arrays (body_lines nest) n.literals n.of_kinds) a (bound nest.line i [])
