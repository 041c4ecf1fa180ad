-- A table stays traced when a constraint is added to it and its edge to the edges.
use Rattle.std.proofs.Common.{take, drop, ℕ, ℤ, pos, ◌<◌, ◌≤◌, ◌≡◌, ◌⊎◌, inl, arith, refl, ◌∙◌, sym, subst, List, [], ◌∷◌, ◌++◌, length, cond, true, false, Bool}
use Rattle.std.specs.Prelude.{◌+ℤ◌, ◌≤ℤ◌}
use Rattle.std.specs.Int.Signed.{◌<ℤ◌, lt_z}
use Rattle.std.proofs.lemmas.Int.{ints}
use Rattle.std.proofs.lemmas.List.{length-append, get_or_append_left, take_at}
use Rattle.std.proofs.Math.Seq.{get_or-append_seam}
use Rattle.bound_table.specs.declared.edge.Edge.{Edge}
use Rattle.bound_table.specs.Rows.{far, entry, Adds, Within, IsTable, IsMarks, AllMarked, mark_of, unit_bound}
use Rattle.bound_table.specs.Marks.{no_edge, Via, Traced, IsTraced, mark_at, edge_at, edge_a, edge_b, edge_c}
use Rattle.bound_table.proofs.Traced.{Traced-add}
use Rattle.bound_table.proofs.Improve.{unit_finite}

mark-lower : (old new : ℤ) (m e : ℕ) → new <ℤ old → mark_of old new m e ≡ e
mark-lower old new m e h = let t : lt_z new old ≡ true = grind (arith, ints) in rw t refl

mark-kept : (old new : ℤ) (m e : ℕ) → new ≡ old → mark_of old new m e ≡ m
mark-kept old new m e h = let t : lt_z new old ≡ false = grind (arith, ints) in rw t refl

cond-most : (b : Bool) (m e : ℕ) → m ≤ e → cond b e m ≤ e
cond-most true m e h = omega arith
cond-most false m e h = h

mark-most : (old new : ℤ) (m e : ℕ) → m ≤ e → mark_of old new m e ≤ e
mark-most old new m e h = cond-most (lt_z new old) m e h

module _ (rows new : List (List ℤ)) (marks after : List (List ℕ)) (edges : List Edge) (edge : Edge) (t : IsTraced rows marks edges) (la : edge.a < length rows) (lb : edge.b < length rows) (w : Within 8388608 edge.c) (ok : entry rows edge.b edge.a <ℤ far → pos 0 ≤ℤ (entry rows edge.b edge.a +ℤ edge.c)) (long : length new ≡ length rows) (table : IsTable new) (u : Adds (length rows) (entry rows) edge.a edge.b edge.c (entry new)) (im : IsMarks (length rows) after) (am : AllMarked (length rows) (length edges) rows new marks after) where
  old_edge : (e : ℕ) → e < length edges → edge_at (edges ++ edge ∷ []) e ≡ edge_at edges e
  old_edge e l = get_or_append_left edges (edge ∷ []) no_edge e l

  new_edge : edge_at (edges ++ edge ∷ []) (length edges) ≡ edge
  new_edge = get_or-append_seam edges edge [] no_edge

  extended : Traced (length rows) (entry rows) (mark_at marks) (edge_a (edges ++ edge ∷ [])) (edge_b (edges ++ edge ∷ [])) (edge_c (edges ++ edge ∷ []))
  extended x y lx ly h =
      let l : mark_at marks x y < length edges = t.below x y lx ly in
      subst (λ (g : Edge). (x ≡ y) × (mark_at marks x y ≡ 0) ⊎ Via (length rows) (entry rows) (mark_at marks) x y g.a g.b g.c (mark_at marks x y)) (sym (old_edge (mark_at marks x y) l)) (t.traced x y lx ly h)

  pub IsTraced-add : IsTraced new after (edges ++ edge ∷ [])
  IsTraced-add = record {
    table = table;
    in_shape = subst (λ (n : ℕ). IsMarks n after) (sym long) im;
    below = λ x y lx ly. let b = mark-most (entry rows x y) (entry new x y) (mark_at marks x y) (length edges) (let l = t.below x y (omega arith) (omega arith) in omega arith) in let e : mark_at after x y ≡ mark_of (entry rows x y) (entry new x y) (mark_at marks x y) (length edges) = am x (omega arith) y (omega arith) in let n = length-append edges (edge ∷ []) in omega arith;
    traced = subst (λ (n : ℕ). Traced n (entry new) (mark_at after) (edge_a (edges ++ edge ∷ [])) (edge_b (edges ++ edge ∷ [])) (edge_c (edges ++ edge ∷ []))) (sym long)
        (Traced-add (length rows) (entry rows) (entry new) (mark_at marks) (mark_at after) (edge_a (edges ++ edge ∷ [])) (edge_b (edges ++ edge ∷ [])) (edge_c (edges ++ edge ∷ [])) (length edges) t.table.few t.table.sums
        (subst (λ (g : Edge). Adds (length rows) (entry rows) g.a g.b g.c (entry new)) (sym new_edge) u)
        (subst (λ (g : Edge). g.a < length rows) (sym new_edge) la)
        (subst (λ (g : Edge). g.b < length rows) (sym new_edge) lb)
        (subst (λ (g : Edge). Within 8388608 g.c) (sym new_edge) w)
        (subst (λ (g : Edge). entry rows g.b g.a <ℤ far → pos 0 ≤ℤ (entry rows g.b g.a +ℤ g.c)) (sym new_edge) ok)
        record {
          fresh = t.below;
          same = λ x y lx ly e. am x lx y ly ∙ mark-kept (entry rows x y) (entry new x y) (mark_at marks x y) (length edges) e;
          new = λ x y lx ly h. am x lx y ly ∙ mark-lower (entry rows x y) (entry new x y) (mark_at marks x y) (length edges) h;
        }
        extended);
  }

pub IsTraced-unit : (rows : List (List ℤ)) (marks : List (List ℕ)) (m : ℕ) → length rows ≡ m → IsTable rows → IsMarks m marks → ((x y : ℕ) → x < m → y < m → mark_at marks x y ≡ 0) → ((x y : ℕ) → x < m → y < m → entry rows x y ≡ unit_bound x y) → IsTraced rows marks (no_edge ∷ [])
IsTraced-unit rows marks m long table shape none each = record {
  table = table;
  in_shape = subst (λ (n : ℕ). IsMarks n marks) (sym long) shape;
  below = λ x y lx ly. let e = none x y (omega arith) (omega arith) in omega arith;
  traced = λ x y lx ly h. inl (unit_finite m (entry rows) each x y (omega arith) (omega arith) h, none x y (omega arith) (omega arith));
}

-- what a list holds after a slice of all of it was changed
pub lent : {A : Type 0} (xs new : List A) (n : ℕ) → n ≡ length new → take n (new ++ drop (length new) xs) ≡ new
lent xs new n e = take_at new (drop (length new) xs) n (sym e)
