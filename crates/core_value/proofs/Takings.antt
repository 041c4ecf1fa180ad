-- Expressions over words have the values of their formulas.
use Rattle.std.proofs.Common.{◌≡◌, ℕ, zero, suc, ◌+◌, ℤ, pos, Bool, true, false, not, if◌then◌else◌, List, [], ◌∷◌, ◌++◌, length, get_or, map, drop, take, refl, sym, ap, subst, ◌∙◌, append_assoc, arith}
use Rattle.std.specs.List.{filter}
use Rattle.std.proofs.lemmas.List.{length-append, length-map, map-append, drop_at}
use Rattle.loop_core.specs.declared.nest.Nest.{Nest}
use Rattle.loop_core.specs.declared.place.Place.{Place}
use Rattle.loop_core.specs.declared.nest.Expr.{Expr}
use Rattle.loop_core.specs.declared.nest.Expr.TheOpen.{Expr-F}
use Rattle.loop_core.specs.declared.nest.Expr.TheViews.{roll-Expr}
use Rattle.loop_core.specs.declared.nest.Expr.TheFolds.{ind-Expr, fold-roll-Expr, map-Expr}
use Rattle.wave_base.specs.declared.types.ArrayId.{ArrayId}
use Rattle.loop_core.specs.declared.nest.Op.{Op}
use Rattle.loop_core.specs.Lists.{Lists}
use Rattle.loop_core.specs.Binding.{Binding}
use Rattle.loop_core.specs.Terms.{term_value}
use Rattle.loop_core.specs.Shape.{is_target}
use Rattle.loop_core.specs.Instances.{Formula, Apply, formula, expr_step, Instance}
use Rattle.loop_core.specs.Values.{operated, reads, value_of}
use Rattle.loop_core.specs.Sequence.{word_of}
use Rattle.loop_core.specs.Registers.{shared_reads, words_found, register_value}
use Rattle.loop_core.proofs.Formulas.{enough}
use Rattle.core_rows.specs.Deeds.{Deed}
use Rattle.core_rows.specs.Replay.{instance_of}
use Rattle.core_rows.specs.Progress.{Progress, begun_row, caught_up}
use Rattle.core_rows.proofs.Steps.{steps, drop_twice}
use Rattle.core_nest.specs.Nested.{cell_of, deed_of}
use Rattle.core_value.specs.Taken.{Taken, taken, taken_step, first_of, other_words}

filter_append : {A : Type 0} (q : A → Bool) (xs ys : List A) → filter q (xs ++ ys) ≡ filter q xs ++ filter q ys
filter_append q [] ys = refl
filter_append q (x ∷ xs) ys = by (q x) (filter_append q xs ys)
  where
    by : (b : Bool) → filter q (xs ++ ys) ≡ filter q xs ++ filter q ys → (if b then x ∷ filter q (xs ++ ys) else filter q (xs ++ ys)) ≡ (if b then x ∷ filter q xs else filter q xs) ++ filter q ys
    by true h = ap (λ (l : List _). x ∷ l) h
    by false h = h

module _ (nest : Nest) (x : List (List ℤ)) where
  abbrev shared : List Place → List Place
  shared ps = filter (λ (p : Place). is_target nest p.array) ps

  abbrev found : List Place → List ℤ → List ℤ
  found = words_found nest x

  found_long : (ps : List Place) (registers : List ℤ) → length (found ps registers) ≡ length ps
  found_long [] registers = refl
  found_long (p ∷ ps) registers = by (is_target nest p.array) (found_long ps (drop 1 registers)) (found_long ps registers)
    where
      by : (b : Bool) → length (found ps (drop 1 registers)) ≡ length ps → length (found ps registers) ≡ length ps
          → length (if b then get_or registers 0 (pos 0) ∷ found ps (drop 1 registers) else word_of x p ∷ found ps registers) ≡ suc (length ps)
      by true h k = ap suc h
      by false h k = ap suc k

  found_append : (ps qs : List Place) (registers : List ℤ) → found (ps ++ qs) registers ≡ found ps registers ++ found qs (drop (length (shared ps)) registers)
  found_append [] qs registers = refl
  found_append (p ∷ ps) qs registers = by (is_target nest p.array) (found_append ps qs (drop 1 registers)) (found_append ps qs registers)
    where
      by : (b : Bool) → found (ps ++ qs) (drop 1 registers) ≡ found ps (drop 1 registers) ++ found qs (drop (length (shared ps)) (drop 1 registers))
          → found (ps ++ qs) registers ≡ found ps registers ++ found qs (drop (length (shared ps)) registers)
          → (if b then get_or registers 0 (pos 0) ∷ found (ps ++ qs) (drop 1 registers) else word_of x p ∷ found (ps ++ qs) registers)
          ≡ (if b then get_or registers 0 (pos 0) ∷ found ps (drop 1 registers) else word_of x p ∷ found ps registers) ++ found qs (drop (length (if b then p ∷ shared ps else shared ps)) registers)
      by true h k =
          let e : 1 + length (shared ps) ≡ suc (length (shared ps)) = omega arith in
          ap (λ (l : List ℤ). get_or registers 0 (pos 0) ∷ l) (h ∙ ap (λ (l : List ℤ). found ps (drop 1 registers) ++ found qs l) (sym (drop_twice 1 (length (shared ps)) registers) ∙ ap (λ (n : ℕ). drop n registers) e))
      by false h k = ap (λ (l : List ℤ). word_of x p ∷ l) k

module _ (nest : Nest) (a : Lists) (x : List (List ℤ)) (env : List Binding) (locals : List ℤ) where
  -- the formula's value, with what is left
  abbrev result : Formula → List ℤ → List ℤ → Taken
  result f registers more = record { value = register_value nest x locals f registers; registers = drop (length (shared_reads nest f)) registers; others = more }

  abbrev IsTaken : Expr → Type 0
  IsTaken e = (registers more : List ℤ) → taken (is_target nest) locals e registers (other_words nest x (formula a env e) ++ more) ≡ result (formula a env e) registers more

  abbrev TakenExpr : Type 0
  TakenExpr = (e : Expr) × IsTaken e

  read_case : (p : Place) (b : Bool) (registers more : List ℤ) → let others : List ℤ = map (word_of x) (if not b then p ∷ [] else []) ++ more in
      let one : Taken = (if b then (record { value = first_of registers; registers = drop 1 registers; others = others }) else (record { value = first_of others; registers = registers; others = drop 1 others })) in
      one ≡ record { value = get_or (if b then get_or registers 0 (pos 0) ∷ [] else word_of x p ∷ []) 0 (pos 0); registers = drop (length (if b then p ∷ [] else [])) registers; others = more }
  read_case p true registers more = refl
  read_case p false registers more = refl

  abbrev operate_on : Op → Taken → Taken → Taken
  operate_on op s t = record { value = operated op s.value t.value; registers = t.registers; others = t.others }

  -- the value of an operation is that of its sides
  sides : (op : Op) (f g : Formula) (registers : List ℤ) → register_value nest x locals (Apply op f g) registers
      ≡ operated op (register_value nest x locals f registers) (register_value nest x locals g (drop (length (shared_reads nest f)) registers))
  sides op f g registers =
      let l : List ℤ = words_found nest x (reads f) registers in
      let r : List ℤ = words_found nest x (reads g) (drop (length (shared_reads nest f)) registers) in
      let long = found_long nest x (reads f) registers in
      let one = enough f locals l r long in
      let two = drop_at l r (length (reads f)) long in
      ap (value_of (Apply op f g) locals) (found_append nest x (reads f) (reads g) registers)
      ∙ (λ i. operated op (one i) (value_of g locals (two i)))

  others_append : (op : Op) (f g : Formula) (more : List ℤ) → other_words nest x (Apply op f g) ++ more ≡ other_words nest x f ++ (other_words nest x g ++ more)
  others_append op f g more =
      let q : Place → Bool = (λ (p : Place). not (is_target nest p.array)) in
      ap (λ (l : List ℤ). l ++ more) (ap (map (word_of x)) (filter_append q (reads f) (reads g)) ∙ map-append (word_of x) (filter q (reads f)) (filter q (reads g)))
      ∙ append_assoc (other_words nest x f) (other_words nest x g) more

  left_registers : (op : Op) (f g : Formula) (registers : List ℤ) → drop (length (shared_reads nest g)) (drop (length (shared_reads nest f)) registers) ≡ drop (length (shared_reads nest (Apply op f g))) registers
  left_registers op f g registers =
      let q : Place → Bool = (λ (p : Place). is_target nest p.array) in
      let long = ap (λ (l : List Place). length l) (filter_append q (reads f) (reads g)) ∙ length-append (shared_reads nest f) (shared_reads nest g) in
      sym (drop_twice (length (shared_reads nest f)) (length (shared_reads nest g)) registers) ∙ ap (λ (n : ℕ). drop n registers) (sym long)

  expr_case : (y : Expr-F TakenExpr) → IsTaken (roll-Expr (map-Expr TakenExpr Expr (λ e. e.0) y))
  expr_case y registers more = let z : Expr-F Expr = map-Expr TakenExpr Expr (λ e. e.0) y in
      (λ i. fold-roll-Expr (List ℤ → List ℤ → Taken) (taken_step (is_target nest) locals) z i registers (other_words nest x (fold-roll-Expr Formula (expr_step a env) z i) ++ more))
      ∙ (by y registers more ∙ ap (λ (f : Formula). result f registers more) (sym (fold-roll-Expr Formula (expr_step a env) z)))
    where
      by : (y : Expr-F TakenExpr) (registers more : List ℤ) → let z : Expr-F Expr = map-Expr TakenExpr Expr (λ e. e.0) y in
          let f : Formula = expr_step a env (map-Expr Expr Formula (formula a env) z) in
          taken_step (is_target nest) locals (map-Expr Expr (List ℤ → List ℤ → Taken) (taken (is_target nest) locals) z) registers (other_words nest x f ++ more) ≡ result f registers more
      by (Expr-F.Lit value) registers more = refl
      by (Expr-F.Read array at) registers more = read_case (record { array = array; at = term_value a env at }) (is_target nest array) registers more
      by (Expr-F.Local local) registers more = refl
      by (Expr-F.Op op left right) registers more =
          let f : Formula = formula a env left.0 in
          let g : Formula = formula a env right.0 in
          let one = ap (taken (is_target nest) locals left.0 registers) (others_append op f g more) ∙ left.1 registers (other_words nest x g ++ more) in
          let two = right.1 (drop (length (shared_reads nest f)) registers) more in
          let value = sym (sides op f g registers) in
          let rest = left_registers op f g registers in
          (λ i. operate_on op (one i) (taken (is_target nest) locals right.0 (one i).registers (one i).others))
          ∙ ((λ i. operate_on op (result f registers (other_words nest x g ++ more)) (two i))
          ∙ (λ i. record { value = value i; registers = rest i; others = more }))

  pub takes : (e : Expr) → IsTaken e
  takes = ind-Expr IsTaken (λ x y is. subst (λ z. IsTaken (roll-Expr z)) is (expr_case y))

pub instance_takes : (nest : Nest) (a : Lists) (x : List (List ℤ)) (env : List Binding) (e : Expr) (s : Instance) (earlier : List Deed) (registers more : List ℤ) → s.value ≡ formula a env e
    → (instance_of 16 earlier (deed_of nest x s)).value registers
    ≡ (taken (is_target nest) (caught_up registers earlier (begun_row 16)).locals e (take (length (shared_reads nest s.value)) (drop (caught_up registers earlier (begun_row 16)).used registers)) (other_words nest x s.value ++ more)).value
instance_takes nest a x env e s earlier registers more same =
    let p : Progress = caught_up registers earlier (begun_row 16) in
    let own : List ℤ = take (length (shared_reads nest s.value)) (drop p.used registers) in
    steps 16 earlier (deed_of nest x s) registers
    ∙ (ap (λ (n : ℕ). register_value nest x p.locals s.value (take n (drop p.used registers))) (length-map (shared_reads nest s.value) cell_of)
    ∙ (ap (λ (f : Formula). register_value nest x p.locals f own) same
    ∙ (sym (ap (λ (t : Taken). t.value) (takes nest a x env p.locals e own more))
    ∙ ap (λ (f : Formula). (taken (is_target nest) p.locals e own (other_words nest x f ++ more)).value) (sym same))))
