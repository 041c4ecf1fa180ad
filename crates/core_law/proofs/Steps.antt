-- Each event keeps the invariant.
use Rattle.std.proofs.Common.{◌≡◌, ◌≢◌, ◌⊎◌, ℕ, zero, suc, ◌+◌, ◌<◌, ◌≤◌, Bool, true, false, cond, leb, List, [], ◌∷◌, ◌++◌, length, get_or, set, replicate, take, Option, Some, None, sym, refl, ap, ◌∙◌, subst, inl, inr, ⊎_elim, arith, add-zero}
use Rattle.std.specs.Prelude.{ℤ}
use Rattle.std.proofs.lemmas.List.{length-set, length-replicate, get_or-set_same, get_or-set_other}
use Rattle.std.proofs.lemmas.Bool.{leb-true, cases_lt, cases_eq}
use Rattle.wave_base.specs.declared.types.Cell.{Cell}
use Rattle.core_cells.specs.Cells.{at_cell, put, lengths}
use Rattle.core_law.specs.Works.{Work}
use Rattle.core_law.specs.Numbers.{instance_at}
use Rattle.core_law.specs.Sequential.{kept, word_before}
use Rattle.core_law.specs.Dependence.{Writes}
use Rattle.core_law.specs.Fit.{IsFit}
use Rattle.core_law.specs.Scripts.{Action, look, read, write, finish, script, next}
use Rattle.core_law.specs.Machine.{Stand, State, stand, stand_of, place, moved, acted, opening, run, Reached}
use Rattle.core_law.specs.Standing.{finishes, finished, Made, Passes}
use Rattle.core_law.specs.Prefixes.{IsPrefix}
use Rattle.core_cells.proofs.Stores.{put_same, put_other, put_shape, inside_same, cell_cases}
use Rattle.core_cells.proofs.Places.{take_next, some_same}
use Rattle.core_law.proofs.Laid.{recalled, recalled_at, For, Laid}
use Rattle.core_law.proofs.Kept.{Inv, finishes_append, recalled_append, is_worker}
use Rattle.core_law.proofs.Facts as facts

-- the worker k goes past the action a, which takes the state c to c'
pub record Goes (w : Work) (c c' : State) (k : ℕ) (a : Action) : Type 0 where
  pub is : next w k (place c k) ≡ Some a
  pub registers : List ℤ
  pub stands : c'.stands ≡ set c.stands k (stand (suc (place c k)) registers)
  pub recalls : registers ≡ recalled w (a ∷ []) (stand_of c k).registers
  pub counts_long : length c'.counts ≡ length c.counts
  pub mine : get_or c'.counts k 0 ≡ get_or c.counts k 0 + finishes (a ∷ [])
  pub others : (j : ℕ) → j ≢ k → get_or c'.counts j 0 ≡ get_or c.counts j 0
  pub looks : (f n : ℕ) → a ≡ look f n → n ≤ get_or c.counts f 0
  pub changed : (b : Bool) (g : ℕ) (x : Cell) → a ≡ write b g x → c'.cells ≡ put c.cells x (word_before w (suc g) x)
  pub same : ((b : Bool) (g : ℕ) (x : Cell) → a ≡ write b g x → ⊥) → c'.cells ≡ c.cells

is_write : (a : Action) → ((b : Bool) × (g : ℕ) × (x : Cell) × (a ≡ write b g x)) ⊎ ((b : Bool) (g : ℕ) (x : Cell) → a ≡ write b g x → ⊥)
is_write (write b g x) = inl (b, g, x, refl)
is_write (look f n) = inr (λ b g x e. cc)
is_write (read b g x) = inr (λ b g x e. cc)
is_write finish = inr (λ b g x e. cc)

same_instance : (b b' : Bool) (g h : ℕ) (x y : Cell) → write b g x ≡ write b' h y → g ≡ h
same_instance b b' g h x y e = cc

same_cell : (b b' : Bool) (g h : ℕ) (x y : Cell) → write b g x ≡ write b' h y → x ≡ y
same_cell b b' g h x y e = cc

module _ (w : Work) (fit : IsFit w) (laid : Laid w) (c c' : State) (inv : Inv w c) (k : ℕ) (a : Action) (goes : Goes w c c' k a) where
  here : stand_of c' k ≡ stand (suc (place c k)) goes.registers
  here = let l = is_worker w k (place c k) a goes.is in let n = inv.stands_long in
      ap (λ (ss : List Stand). get_or ss k (stand 0 [])) goes.stands ∙ get_or-set_same c.stands k (stand (suc (place c k)) goes.registers) (stand 0 []) (omega arith)

  else_where : (j : ℕ) → j ≢ k → stand_of c' j ≡ stand_of c j
  else_where j ne = ap (λ (ss : List Stand). get_or ss j (stand 0 [])) goes.stands ∙ get_or-set_other c.stands k j (stand (suc (place c k)) goes.registers) (stand 0 []) ne

  place_here : place c' k ≡ suc (place c k)
  place_here = ap (λ (s : Stand). s.place) here

  place_up : (j : ℕ) → place c j ≤ place c' j
  place_up j = ⊎_elim
      (λ (e : j ≡ k). subst (λ (i : ℕ). place c i ≤ place c' i) (sym e) (let h = place_here in omega arith))
      (λ (ne : j ≡ k → ⊥). let h : place c' j ≡ place c j = ap (λ (s : Stand). s.place) (else_where j ne) in omega arith)
      (cases_eq j k)

  count_up : (j : ℕ) → get_or c.counts j 0 ≤ get_or c'.counts j 0
  count_up j = ⊎_elim
      (λ (e : j ≡ k). subst (λ (i : ℕ). get_or c.counts i 0 ≤ get_or c'.counts i 0) (sym e) (let h = goes.mine in omega arith))
      (λ (ne : j ≡ k → ⊥). let h = goes.others j ne in omega arith)
      (cases_eq j k)

  take_here : take (place c' k) (script w k) ≡ take (place c k) (script w k) ++ a ∷ []
  take_here = ap (λ (p : ℕ). take p (script w k)) place_here ∙ take_next (script w k) (place c k) a goes.is

  counted : (j : ℕ) → get_or c'.counts j 0 ≡ finished w j (place c' j)
  counted j = ⊎_elim
      (λ (e : j ≡ k). subst (λ (i : ℕ). get_or c'.counts i 0 ≡ finished w i (place c' i)) (sym e)
      (goes.mine ∙ (ap (λ (n : ℕ). n + finishes (a ∷ [])) (inv.counted k) ∙ (sym (finishes_append (take (place c k) (script w k)) (a ∷ [])) ∙ ap finishes (sym take_here)))))
      (λ (ne : j ≡ k → ⊥). goes.others j ne ∙ (inv.counted j ∙ ap (λ (s : Stand). finished w j s.place) (sym (else_where j ne))))
      (cases_eq j k)

  held : (j : ℕ) → (stand_of c' j).registers ≡ recalled_at w j (place c' j)
  held j = ⊎_elim
      (λ (e : j ≡ k). subst (λ (i : ℕ). (stand_of c' i).registers ≡ recalled_at w i (place c' i)) (sym e)
      (ap (λ (s : Stand). s.registers) here ∙ (goes.recalls ∙ (ap (recalled w (a ∷ [])) (inv.held k)
      ∙ (sym (recalled_append w (take (place c k) (script w k)) (a ∷ []) []) ∙ ap (λ (xs : List Action). recalled w xs []) (sym take_here))))))
      (λ (ne : j ≡ k → ⊥). ap (λ (s : Stand). s.registers) (else_where j ne) ∙ (inv.held j ∙ ap (λ (s : Stand). recalled_at w j s.place) (sym (else_where j ne))))
      (cases_eq j k)

  -- an action that is passed now was passed before, or is this one
  passed : (j q : ℕ) (b : Action) → next w j q ≡ Some b → q < place c' j → (q < place c j) ⊎ (a ≡ b)
  passed j q b is lt = ⊎_elim
      (λ (e : j ≡ k). let h = place_here in let lt' : q < place c' k = subst (λ (i : ℕ). q < place c' i) e lt in ⊎_elim
      (λ (same : q ≡ place c k). inr (some_same a b (sym goes.is ∙ (ap (next w k) (sym same) ∙ (ap (λ (i : ℕ). next w i q) (sym e) ∙ is)))))
      (λ (ne : q ≡ place c k → ⊥). inl (subst (λ (i : ℕ). q < place c i) (sym e) (omega arith)))
      (cases_eq q (place c k)))
      (λ (ne : j ≡ k → ⊥). inl (subst (λ (s : Stand). q < s.place) (else_where j ne) lt))
      (cases_eq j k)

  looked : (j q f n : ℕ) → next w j q ≡ Some (look f n) → q < place c' j → n ≤ get_or c'.counts f 0
  looked j q f n is lt = let up = count_up f in ⊎_elim
      (λ (old : q < place c j). let h = inv.looked j q f n is old in omega arith)
      (λ (new : a ≡ look f n). let h = goes.looks f n new in omega arith)
      (passed j q (look f n) is lt)

  made_more : (h : ℕ) → Made w c h → Made w c' h
  made_more h m = let up = place_up m.0 in let lt = m.2 in (m.0, m.1, omega arith, m.3, m.4, m.5)

  made_new : (h : ℕ) → Made w c' h → Made w c h ⊎ ((b : Bool) × (x : Cell) × (a ≡ write b h x))
  made_new h m = ⊎_elim
      (λ (old : m.1 < place c m.0). inl (m.0, m.1, old, m.3, m.4, m.5))
      (λ (new : a ≡ write m.3 h m.4). inr (m.3, m.4, new))
      (passed m.0 m.1 (write m.3 h m.4) m.5 m.2)

  made_now : (b : Bool) (h : ℕ) (x : Cell) → a ≡ write b h x → Made w c' h
  made_now b h x e = let p = place_here in (k, place c k, omega arith, b, x, goes.is ∙ ap Some e)

  -- no write to the cell was made
  same_cut : (x : Cell) → at_cell c'.cells x ≡ at_cell c.cells x → ((b : Bool) (h : ℕ) (y : Cell) → a ≡ write b h y → Writes w h x → ⊥) → IsPrefix w c' x
  same_cut x e other = let t = inv.cut x in (
    t.0,
    t.1,
    e ∙ t.2,
    λ h l wr. (
      λ lt. made_more h ((t.3 h l wr).0 lt),
      λ m. ⊎_elim (λ (old : Made w c h). (t.3 h l wr).1 old) (λ new. absurd (other new.0 h new.1 new.2 wr)) (made_new h m),
    ),
  )

  cut_by_write : (b : Bool) (g : ℕ) (y : Cell) → a ≡ write b g y → (x : Cell) → IsPrefix w c' x
  cut_by_write b g y e x = let at_g : next w k (place c k) ≡ Some (write b g y) = goes.is ∙ ap Some e in let for_g : For w k (place c k) g = (write b g y, at_g, refl) in
      let small = laid.known k (place c k) g for_g in let writes = laid.writes k (place c k) g b y at_g in
      let inside = inside_same w.start c.cells y (sym inv.cells_shape) (fit.inside g y small writes) in ⊎_elim
      (λ (same : y ≡ x). let touches : Writes w g x = subst (Writes w g) same writes in (
        suc g,
        omega arith,
        subst (λ (z : Cell). at_cell c'.cells z ≡ word_before w (suc g) z) same (ap (λ (l : List (List ℤ)). at_cell l y) (goes.changed b g y e) ∙ put_same c.cells y (word_before w (suc g) y) inside),
        λ h l wr. (
          λ lt. ⊎_elim
              (λ (now : h ≡ g). made_now b h y (e ∙ ap (λ (i : ℕ). write b i y) (sym now)))
              (λ (ne : h ≡ g → ⊥). made_more h (facts.earlier_made w fit laid c inv k g for_g h x (omega arith) wr (inr touches)))
              (cases_eq h g),
          λ m. ⊎_elim
              (λ (old : Made w c h). ⊎_elim
              (λ (late : g < h). absurd (facts.later_not_made w fit laid c inv k g for_g h x late (inr touches) wr old))
              (λ (le : h ≤ g). let r : h < suc g = omega arith in r)
              (cases_lt g h))
              (λ new. let r = same_instance b new.0 g h y new.1 (sym e ∙ new.2) in let r' : h < suc g = omega arith in r')
              (made_new h m),
        ),
      ))
      (λ (ne : y ≡ x → ⊥). same_cut x
      (ap (λ (l : List (List ℤ)). at_cell l x) (goes.changed b g y e) ∙ put_other c.cells y x (word_before w (suc g) y) ne)
      (λ b' h y' new wr. let z = same_instance b b' g h y y' (sym e ∙ new) in ne (some_same y x (sym writes ∙ (ap (λ (i : ℕ). (instance_at w i).target) z ∙ wr)))))
      (cell_cases y x)

  cut : (x : Cell) → IsPrefix w c' x
  cut x = ⊎_elim
      (λ t. cut_by_write t.0 t.1 t.2 t.3 x)
      (λ none. same_cut x (ap (λ (l : List (List ℤ)). at_cell l x) (goes.same none)) (λ b h y e wr. none b h y e))
      (is_write a)

  cells_shape : lengths c'.cells ≡ lengths w.start
  cells_shape = ⊎_elim
      (λ t. ap lengths (goes.changed t.0 t.1 t.2 t.3) ∙ (put_shape c.cells t.2 (word_before w (suc t.1) t.2) ∙ inv.cells_shape))
      (λ none. ap lengths (goes.same none) ∙ inv.cells_shape)
      (is_write a)

  pub kept_by : Inv w c'
  kept_by = record {
    cells_shape = cells_shape;
    stands_long = ap length goes.stands ∙ (length-set c.stands k (stand (suc (place c k)) goes.registers) ∙ inv.stands_long);
    counts_long = goes.counts_long ∙ inv.counts_long;
    counted = counted;
    looked = looked;
    held = held;
    cut = cut;
  }

module _ (w : Work) (fit : IsFit w) (laid : Laid w) where
  acted_kept : (c : State) (k : ℕ) (a : Option Action) → Inv w c → next w k (place c k) ≡ a → Inv w (acted w c k (stand_of c k) a)
  acted_kept c k None inv is = inv
  acted_kept c k (Some (look f n)) inv is = by (leb n (get_or c.counts f 0)) refl
    where
      by : (b : Bool) → leb n (get_or c.counts f 0) ≡ b → Inv w (cond b (moved c k (stand (suc (place c k)) (stand_of c k).registers)) c)
      by false e = inv
      by true e = kept_by w fit laid c (moved c k (stand (suc (place c k)) (stand_of c k).registers)) inv k (look f n) record {
        is = is;
        registers = (stand_of c k).registers;
        stands = refl;
        recalls = refl;
        counts_long = refl;
        mine = sym (add-zero (get_or c.counts k 0));
        others = λ j ne. refl;
        looks = λ g m z. subst (Passes c) z (leb-true n (get_or c.counts f 0) e);
        changed = λ b g x z. absurd (let z' : look f n ≡ write b g x = z in cc);
        same = λ _. refl;
      }
  acted_kept c k (Some (read b g x)) inv is =
      kept_by w fit laid c (acted w c k (stand_of c k) (Some (read b g x))) inv k (read b g x) record {
        is = is;
        registers = kept b (stand_of c k).registers ++ at_cell c.cells x ∷ [];
        stands = refl;
        recalls = ap (λ (v : ℤ). kept b (stand_of c k).registers ++ v ∷ []) (facts.reads_right w fit laid c inv k g b x is);
        counts_long = refl;
        mine = sym (add-zero (get_or c.counts k 0));
        others = λ j ne. refl;
        looks = λ f n z. absurd (let z' : read b g x ≡ look f n = z in cc);
        changed = λ c h y z. absurd (let z' : read b g x ≡ write c h y = z in cc);
        same = λ _. refl;
      }
  acted_kept c k (Some (write b g x)) inv is =
      kept_by w fit laid c (acted w c k (stand_of c k) (Some (write b g x))) inv k (write b g x) record {
        is = is;
        registers = kept b (stand_of c k).registers;
        stands = refl;
        recalls = refl;
        counts_long = refl;
        mine = sym (add-zero (get_or c.counts k 0));
        others = λ j ne. refl;
        looks = λ f n z. absurd (let z' : write b g x ≡ look f n = z in cc);
        changed = λ b' h y z. let v : ℤ = (instance_at w g).value (kept b (stand_of c k).registers) in
            ap (put c.cells x) (facts.writes_right w fit laid c inv k g b x is) ∙ (λ d. put c.cells (same_cell b b' g h x y z d) (word_before w (suc (same_instance b b' g h x y z d)) (same_cell b b' g h x y z d)));
        same = λ none. absurd (none b g x refl);
      }
  acted_kept c k (Some finish) inv is = let l = is_worker w k (place c k) finish is in let n = inv.counts_long in
      kept_by w fit laid c (acted w c k (stand_of c k) (Some finish)) inv k finish record {
        is = is;
        registers = [];
        stands = refl;
        recalls = refl;
        counts_long = length-set c.counts k (get_or c.counts k 0 + 1);
        mine = get_or-set_same c.counts k (get_or c.counts k 0 + 1) 0 (omega arith);
        others = λ j ne. get_or-set_other c.counts k j (get_or c.counts k 0 + 1) 0 ne;
        looks = λ f n z. absurd (let z' : finish ≡ look f n = z in cc);
        changed = λ b h x z. absurd (let z' : finish ≡ write b h x = z in cc);
        same = λ _. refl;
      }

  fresh : (n k : ℕ) → get_or (replicate n (stand 0 [])) k (stand 0 []) ≡ stand 0 []
  fresh zero k = refl
  fresh (suc n) zero = refl
  fresh (suc n) (suc k) = fresh n k

  zeros : (n k : ℕ) → let z : ℕ = 0 in get_or (replicate n z) k z ≡ z
  zeros zero k = refl
  zeros (suc n) zero = refl
  zeros (suc n) (suc k) = zeros n k

  not_yet : (k q : ℕ) → q < place (opening w) k → ⊥
  not_yet k q l = let e : place (opening w) k ≡ 0 = ap (λ (s : Stand). s.place) (fresh (length w.workers) k) in omega arith

  opens : Inv w (opening w)
  opens = record {
    cells_shape = refl;
    stands_long = length-replicate (length w.workers) (stand 0 []);
    counts_long = length-replicate (length w.workers) 0;
    counted = λ k. zeros (length w.workers) k ∙ ap (λ (s : Stand). finished w k s.place) (sym (fresh (length w.workers) k));
    looked = λ k q f n is l. absurd (not_yet k q l);
    held = λ k. ap (λ (s : Stand). s.registers) (fresh (length w.workers) k) ∙ ap (λ (s : Stand). recalled_at w k s.place) (sym (fresh (length w.workers) k));
    cut = λ x. (0, omega arith, refl, λ h l wr. (λ lt. absurd (omega arith), λ m. absurd (not_yet m.0 m.1 m.2)));
  }

  run_kept : (es : List ℕ) → Inv w (run w es)
  run_kept [] = opens
  run_kept (k ∷ es) = acted_kept (run w es) k (next w k (place (run w es) k)) (run_kept es) refl

  pub reached_kept : (c : State) → Reached w c → Inv w c
  reached_kept c r = subst (Inv w) r.1 (run_kept r.0)
