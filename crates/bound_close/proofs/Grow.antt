-- How a table and its steps take in one constraint.
use Rattle.std.proofs.Common.{ap, ℕ, ℤ, Bool, true, false, refl, ◌⊎◌, ◌≤◌, pos, ◌<◌, ◌≡◌, inl, inr, arith, List, [], ◌∷◌, ◌++◌, length, slice_get, subst, sym, ◌∙◌, Some}
use Rattle.std.specs.Prelude.{◌+ℤ◌, ◌≤ℤ◌}
use Rattle.std.specs.Int.Signed.{◌<ℤ◌, lt_z}
use Rattle.std.proofs.lemmas.Int.{ints}
use Rattle.std.proofs.lemmas.Bool.{cases_lt}
use Rattle.std.proofs.lemmas.List.{length-append, append-nil, get_or_append_left}
use Rattle.std.proofs.Math.Seq.{get_or-append_seam}
use Rattle.loop_core.specs.declared.nest.Atom.{Atom}
use Rattle.uf_constraints.specs.declared.system.Diff.{Diff}
use Rattle.index_props.specs.declared.certificate.Step.{Step}
use Rattle.bound_table.specs.declared.edge.Edge.{Edge}
use Rattle.bound_close.specs.declared.workings.Workings.{Workings}
use Rattle.bound_ways.specs.Exact.{bound_of}
use Rattle.bound_ways.specs.Log.{EdgesIn, Refuting, edge_diff}
use Rattle.bound_ways.specs.Log.IsLog.{more}
use Rattle.bound_table.specs.Marks.{IsTraced, edge_at, no_edge, mark_at}
use Rattle.bound_ways.specs.Over.{IsOver}
use Rattle.bound_ways.specs.Places.{place_in, diff_at}
use Rattle.bound_table.specs.Rows.{far, Adds, Sums, AllMarked, mark_of}
use Rattle.bound_close.specs.Workings.{bounds, IsFine, Moves, Grown, Clashes}
use Rattle.bound_ways.proofs.Emits.{get-left, get-last, log-length, edges-left}
use Rattle.bound_ways.proofs.Bounding.{lower-refl, Adds-holds, Adds-sound, a_in, b_in, contradicts, diff-at}

-- the edges of a longer log
module _ (u : List Atom) (ds : List Diff) (d : Diff) (edges : List Edge) (edge : Edge) (h : EdgesIn u ds edges) (k : edge.step ≡ length ds) (is : diff_at u edge.a edge.b edge.c ≡ d) where
  new_edge : (e : ℕ) → e ≡ length edges → edge_at (edges ++ edge ∷ []) e ≡ edge
  new_edge e q = rw q (get_or-append_seam edges edge [] no_edge)

  old_edge : (e : ℕ) → e < length edges → edge_at (edges ++ edge ∷ []) e ≡ edge_at edges e
  old_edge e l = get_or_append_left edges (edge ∷ []) no_edge e l

  pub edges-more : EdgesIn u (ds ++ d ∷ []) (edges ++ edge ∷ [])
  edges-more e l g =
      let n = length-append edges (edge ∷ []) in
      elim (cases_lt e (length edges)) [
        | inl lt ↦ (let P : Edge → Type 0 = λ g. slice_get (ds ++ d ∷ []) g.step ≡ Some (diff_at u g.a g.b g.c) in subst P (sym (old_edge e lt)) (get-left ds (d ∷ []) (edge_at edges e).step (edge_diff u edges e) (h e l lt)))
        | inr ge ↦ (let P : Edge → Type 0 = λ g. slice_get (ds ++ d ∷ []) g.step ≡ Some (diff_at u g.a g.b g.c) in subst P (sym (new_edge e (omega arith))) (get-last ds d edge.step k ∙ ap Some (sym is)))
      ]

pub moves-refl : (m : ℕ) (w : Workings) → Moves m w w
moves-refl m w = record { longer = omega arith; each = λ x y lx ly. inl (refl, refl) }

pub moves-trans : (m : ℕ) (old mid new : Workings) → Moves m old mid → Moves m mid new → Moves m old new
moves-trans m old mid new f g = record {
  longer = (let a = f.longer in let b = g.longer in omega arith);
  each = λ x y lx ly. elim (g.each x y lx ly) [
    | inl s ↦ elim (f.each x y lx ly) [
      | inl t ↦ inl (s.0 ∙ t.0, s.1 ∙ t.1)
      | inr t ↦ inr (let e = s.1 in omega arith)
    ]
    | inr s ↦ inr (let a = f.longer in omega arith)
  ];
}

-- the mark of a bound is that of the new edge, where it was lowered
mark-moves : (old new : ℤ) (mark edge got : ℕ) → new ≤ℤ old → got ≡ mark_of old new mark edge → ((new ≡ old) × (got ≡ mark)) ⊎ (edge ≤ got)
mark-moves old new mark edge got l e = by_case (lt_z new old) refl
  where
    by_case : (b : Bool) → lt_z new old ≡ b → ((new ≡ old) × (got ≡ mark)) ⊎ (edge ≤ got)
    by_case true h = inr (let s : got ≡ edge = e ∙ rw h refl in omega arith)
    by_case false h = inl (grind (arith, ints, l, h), e ∙ rw h refl)

pub grown-known : (u : List Atom) (w : Workings) (d : Diff) (s : Step) → IsFine u w → bound_of u (bounds w) d ≤ℤ d.c → Grown u w w d s
grown-known u w d s f h = record {
  fine = f;
  lower = lower-refl (length u) (bounds w);
  moves = moves-refl (length u) w;
  holds = h;
  sound = λ base rules t i. t;
  longer = λ base rules ds log ein c. ([], rw append-nil log, rw append-nil ein);
}

abbrev pub edge_of : List Atom → Diff → ℕ → Edge
edge_of u d k = record { a = place_in u d.a; b = place_in u d.b; c = d.c; step = k }

module _ (u : List Atom) (old new : Workings) (d : Diff) (s : Step) (f : IsFine u old) (o : IsOver u d) where
  pub grown-added : length new.table.rows.items ≡ length old.table.rows.items → Adds (length old.table.rows.items) (bounds old) (place_in u d.a) (place_in u d.b) d.c (bounds new) → new.table.edges.items ≡ old.table.edges.items ++ edge_of u d (length old.steps) ∷ [] → AllMarked (length old.table.rows.items) (length old.table.edges.items) old.table.rows.items new.table.rows.items old.table.marks.items new.table.marks.items → IsTraced new.table.rows.items new.table.marks.items new.table.edges.items → new.steps ≡ old.steps ++ s ∷ [] → Grown u old new d s
  grown-added long adds edges marked traced steps =
      let w : Adds (length u) (bounds old) (place_in u d.a) (place_in u d.b) d.c (bounds new) = subst (λ (n : ℕ). Adds n (bounds old) (place_in u d.a) (place_in u d.b) d.c (bounds new)) f.long adds in
      let sums : Sums (length u) (bounds old) = subst (λ (n : ℕ). Sums n (bounds old)) f.long f.traced.table.sums in
      record {
        fine = record { long = long ∙ f.long; traced = traced };
        lower = w.lower;
        moves = record {
          longer = (let l = length-append old.table.edges.items (edge_of u d (length old.steps) ∷ []) in let e = ap length edges in omega arith);
          each = λ x y lx ly.
              let e = f.long in
              let wide = f.traced.table.wide x (omega arith) in
              mark-moves (bounds old x y) (bounds new x y) (mark_at old.table.marks.items x y) (length old.table.edges.items) (mark_at new.table.marks.items x y) (w.lower x y lx ly) (marked x (omega arith) y (omega arith));
        };
        holds = Adds-holds (length u) (bounds old) (place_in u d.a) (place_in u d.b) d.c (bounds new) (a_in u d o) (b_in u d o) sums w;
        sound = λ base rules t h. Adds-sound u d o (bounds old) (bounds new) base rules w h t;
        longer = λ base rules ds log ein c.
            let n = log-length log in
            (d ∷ [], rw steps (more old.steps ds s d log c), rw edges (edges-more u ds d old.table.edges.items (edge_of u d (length old.steps)) ein (sym n) (diff-at u d o)));
      }

  pub clash : (mid : List Step) → mid ≡ old.steps ++ s ∷ [] → bounds old (place_in u d.b) (place_in u d.a) <ℤ far → (bounds old (place_in u d.b) (place_in u d.a) +ℤ d.c) <ℤ pos 0 → Refuting u old.table.edges.items mid new.steps (edge_of u d (length old.steps)) → Clashes u old new d s
  clash mid is fin low r base rules ds t h log ein c =
      let n = log-length log in
      record {
        contradictory = contradicts u d o (bounds old) base rules fin low h t;
        shown = r base rules (ds ++ d ∷ []) (rw is (more old.steps ds s d log c)) (edges-left u ds (d ∷ []) old.table.edges.items ein)
            (get-last ds d (length old.steps) (sym n) ∙ ap Some (sym (diff-at u d o)));
      }
