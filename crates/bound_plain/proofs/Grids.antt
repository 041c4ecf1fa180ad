-- Constraints taken in by a table that is made from scratch.
use Rattle.std.proofs.Common.{ap, take, ℕ, ℤ, pos, ◌<◌, ◌+◌, ◌≡◌, ◌⊎◌, inl, inr, arith, List, [], ◌∷◌, ◌++◌, length, slice_index_or, slice_get, subst, sym, ◌∙◌, Some, Bool, true, false}
use Rattle.std.specs.Prelude.{◌+ℤ◌, ◌≤ℤ◌}
use Rattle.std.specs.Int.Signed.{◌<ℤ◌}
use Rattle.std.specs.List.{Contains}
use Rattle.std.proofs.lemmas.Bool.{cases_lt}
use Rattle.std.proofs.lemmas.Int.{ints}
use Rattle.std.proofs.lemmas.List.{take_more}
use Rattle.std.proofs.lemmas.List.Elements.{Contains-push_cases, Contains-push, Contains-append_left}
use Rattle.std.proofs.Math.Seq.{take-length}
use Rattle.loop_core.specs.declared.nest.Atom.{Atom}
use Rattle.uf_constraints.specs.declared.system.Diff.{Diff}
use Rattle.index_props.specs.declared.rule.RuleInst.{RuleInst}
use Rattle.bound_ways.specs.Exact.{bound_of, IsLower}
use Rattle.bound_ways.specs.Over.{IsOver, AreOver, AreRulesOver}
use Rattle.bound_ways.specs.Places.{place_in}
use Rattle.bound_plain.specs.Plain.{IsGrid, TakenIn, Opposed, IsFired, IsResult}
use Rattle.bound_table.specs.Rows.{far, entry, Adds, Sums, IsTable}
use Rattle.bound_ways.proofs.Exactly.{test_is}
use Rattle.bound_ways.proofs.Bounding.{a_in, b_in, Adds-holds, Adds-sound, contradicts, lower-refl, lower-trans, Contains-take, over-take, contains-got}

pub lower-one : (u : List Atom) (T U : ℕ → ℕ → ℤ) (d : Diff) → IsLower (length u) T U → IsOver u d → bound_of u T d ≤ℤ d.c → bound_of u U d ≤ℤ d.c
lower-one u T U d l o h = let k = l (place_in u d.a) (place_in u d.b) (a_in u d o) (b_in u d o) in omega (arith, ints)

here : (d : Diff) → Contains (d ∷ []) d
here d = Contains-push [] d

only : (d e : Diff) → Contains (d ∷ []) e → d ≡ e
only d e h = elim (Contains-push_cases [] d e h) [
  | inl p ↦ absurd (let l = p.1 in omega arith)
  | inr q ↦ q
]

pub taken-none : (u : List Atom) (D : Diff → Type 0) (rows : List (List ℤ)) → IsGrid u rows → ((d : Diff) → D d → ⊥) → TakenIn u D rows rows
taken-none u D rows g n = record {
  grid = g;
  lower = lower-refl (length u) (entry rows);
  holds = λ d h. absurd (n d h);
  sound = λ base rules f s. s;
}

pub taken-same : (u : List Atom) (D F : Diff → Type 0) (old new : List (List ℤ)) → ((d : Diff) → D d → F d) → ((d : Diff) → F d → D d) → TakenIn u D old new → TakenIn u F old new
taken-same u D F old new df fd t = record {
  grid = t.grid;
  lower = t.lower;
  holds = λ d h. t.holds d (fd d h);
  sound = λ base rules f s. t.sound base rules (λ d e. f d (df d e)) s;
}

-- two sets, one after the other
module _ (u : List Atom) (D E F : Diff → Type 0) (old mid : List (List ℤ)) (t : TakenIn u D old mid) (df : (d : Diff) → D d → F d) (ef : (d : Diff) → E d → F d) where
  pub taken-more : (new : List (List ℤ)) → ((d : Diff) → D d → IsOver u d) → ((d : Diff) → F d → D d ⊎ E d) → TakenIn u E mid new → TakenIn u F old new
  taken-more new over split s = record {
    grid = s.grid;
    lower = lower-trans (length u) (entry old) (entry mid) (entry new) t.lower s.lower;
    holds = λ d h. elim (split d h) [
      | inl p ↦ lower-one u (entry mid) (entry new) d s.lower (over d p) (t.holds d p)
      | inr q ↦ s.holds d q
    ];
    sound = λ base rules f i. s.sound base rules (λ d e. f d (ef d e)) (t.sound base rules (λ d e. f d (df d e)) i);
  }

  pub opposed-more : Opposed u E mid → Opposed u F old
  opposed-more o base rules f i = o base rules (λ d e. f d (ef d e)) (t.sound base rules (λ d e. f d (df d e)) i)

-- one constraint
module _ (u : List Atom) (old : List (List ℤ)) (d : Diff) (g : IsGrid u old) (o : IsOver u d) where
  pub taken-one : (new : List (List ℤ)) → length new ≡ length old → Adds (length old) (entry old) (place_in u d.a) (place_in u d.b) d.c (entry new) → IsTable new → TakenIn u (Contains (d ∷ [])) old new
  taken-one new long adds table =
      let w : Adds (length u) (entry old) (place_in u d.a) (place_in u d.b) d.c (entry new) = subst (λ (n : ℕ). Adds n (entry old) (place_in u d.a) (place_in u d.b) d.c (entry new)) g.long adds in
      let sums : Sums (length u) (entry old) = subst (λ (n : ℕ). Sums n (entry old)) g.long g.table.sums in
      record {
        grid = record { long = long ∙ g.long; table = table };
        lower = w.lower;
        holds = λ e h. subst (λ (e : Diff). bound_of u (entry new) e ≤ℤ e.c) (only d e h) (Adds-holds (length u) (entry old) (place_in u d.a) (place_in u d.b) d.c (entry new) (a_in u d o) (b_in u d o) sums w);
        sound = λ base rules f i. Adds-sound u d o (entry old) (entry new) base rules w (f d (here d)) i;
      }

  pub opposed-one : entry old (place_in u d.b) (place_in u d.a) <ℤ far → (entry old (place_in u d.b) (place_in u d.a) +ℤ d.c) <ℤ pos 0 → Opposed u (Contains (d ∷ [])) old
  opposed-one fin low base rules f i = contradicts u d o (entry old) base rules fin low (f d (here d)) i

-- constraints of a list
module _ (u : List Atom) (ds : List Diff) (over : AreOver u ds) (old mid : List (List ℤ)) (i : ℕ) (e : Diff) (lt : i < length ds) (is : e ≡ slice_index_or ds i e) (t : TakenIn u (Contains (take i ds)) old mid) where
  among : (d : Diff) → Contains (e ∷ []) d → Contains ds d
  among d h = subst (λ (d : Diff). Contains ds d) (only e d h) (i, lt, sym is)

  one_more : take (i + 1) ds ≡ take i ds ++ e ∷ []
  one_more = take_more ds i e lt ∙ ap (λ (d : Diff). take i ds ++ d ∷ []) (sym is)

  pub list-next : (new : List (List ℤ)) → TakenIn u (Contains (e ∷ [])) mid new → TakenIn u (Contains (take (i + 1) ds)) old new
  list-next new s =
      taken-more u (Contains (take i ds)) (Contains (e ∷ [])) (Contains (take (i + 1) ds)) old mid t
      (λ d h. rw one_more (Contains-append_left (take i ds) (e ∷ []) d h))
      (λ d h. rw one_more (subst (λ (d : Diff). Contains (take i ds ++ e ∷ []) d) (only e d h) (Contains-push (take i ds) e)))
      new (over-take u ds i over)
      (λ d h. elim (Contains-push_cases (take i ds) e d (rw one_more at h)) [
        | inl p ↦ inl p
        | inr q ↦ inr (subst (λ (d : Diff). Contains (e ∷ []) d) q (here e))
      ])
      s

  pub list-stop : Opposed u (Contains (e ∷ [])) mid → Opposed u (Contains ds) old
  list-stop o = opposed-more u (Contains (take i ds)) (Contains (e ∷ [])) (Contains ds) old mid t (λ d h. Contains-take ds i d h) among o

pub list-first : (u : List Atom) (ds : List Diff) (rows : List (List ℤ)) → IsGrid u rows → TakenIn u (Contains (take 0 ds)) rows rows
list-first u ds rows g = taken-none u (Contains (take 0 ds)) rows g (λ d h. let l = h.1 in omega arith)

pub list-all : (u : List Atom) (ds : List Diff) (old new : List (List ℤ)) (i : ℕ) → i ≡ length ds → TakenIn u (Contains (take i ds)) old new → TakenIn u (Contains ds) old new
list-all u ds old new i e t = subst (λ (l : List Diff). TakenIn u (Contains l) old new) (ap (λ (n : ℕ). take n ds) e ∙ take-length ds) t

-- results of the instances that have fired
pub result-over : (u : List Atom) (rules : List RuleInst) (fired : List Bool) (n : ℕ) → AreRulesOver u rules → (d : Diff) → IsResult rules fired n d → IsOver u d
result-over u rules fired n over d h = (over h.rule (contains-got rules h.at h.rule h.is)).results d h.among

same_rule : {r s : RuleInst} → Some r ≡ Some s → r ≡ s
same_rule e = cc

module _ (u : List Atom) (rules : List RuleInst) (fired : List Bool) (over : AreRulesOver u rules) (old mid : List (List ℤ)) (i : ℕ) (r : RuleInst) (at : slice_get rules i ≡ Some r) (t : TakenIn u (IsResult rules fired i) old mid) where
  wider : (n : ℕ) → i < n → (d : Diff) → IsResult rules fired i d → IsResult rules fired n d
  wider n l d h = record { at = h.at; below = (let b = h.below in omega arith); fires = h.fires; rule = h.rule; is = h.is; among = h.among }

  result : (n : ℕ) → i < n → IsFired fired i → (d : Diff) → Contains r.results d → IsResult rules fired n d
  result n l f d h = record { at = i; below = l; fires = f; rule = r; is = at; among = h }

  from_here : (d : Diff) (h : IsResult rules fired (i + 1) d) → i ≡ h.at → Contains r.results d
  from_here d h e =
      let same : slice_get rules i ≡ Some h.rule = subst (λ (k : ℕ). slice_get rules k ≡ Some h.rule) (sym e) h.is in
      subst (λ (s : RuleInst). Contains s.results d) (same_rule (sym same ∙ at)) h.among

  before_here : (d : Diff) (h : IsResult rules fired (i + 1) d) → h.at < i → IsResult rules fired i d
  before_here d h l = record { at = h.at; below = l; fires = h.fires; rule = h.rule; is = h.is; among = h.among }

  pub results-next : (new : List (List ℤ)) → IsFired fired i → TakenIn u (Contains r.results) mid new → TakenIn u (IsResult rules fired (i + 1)) old new
  results-next new f s =
      taken-more u (IsResult rules fired i) (Contains r.results) (IsResult rules fired (i + 1)) old mid t
      (wider (i + 1) (omega arith)) (result (i + 1) (omega arith) f) new (result-over u rules fired i over)
      (λ d h. elim (cases_lt h.at i) [
        | inl lt ↦ inl (before_here d h lt)
        | inr ge ↦ inr (from_here d h (let b = h.below in omega arith))
      ])
      s

  pub results-stop : i < length rules → IsFired fired i → Opposed u (Contains r.results) mid → Opposed u (IsResult rules fired (length rules)) old
  results-stop l f o =
      opposed-more u (IsResult rules fired i) (Contains r.results) (IsResult rules fired (length rules)) old mid t
      (wider (length rules) l) (result (length rules) l f) o

  pub results-skip : slice_index_or fired i false ≡ false → TakenIn u (IsResult rules fired (i + 1)) old mid
  results-skip n =
      taken-same u (IsResult rules fired i) (IsResult rules fired (i + 1)) old mid (wider (i + 1) (omega arith))
      (λ d h. elim (cases_lt h.at i) [
        | inl lt ↦ before_here d h lt
        | inr ge ↦ absurd (let e : h.at ≡ i = (let b = h.below in omega arith) in let f : slice_index_or fired i false ≡ true = subst (λ (k : ℕ). slice_index_or fired k false ≡ true) e h.fires in let x : false ≡ true = sym n ∙ f in cc)
      ])
      t

-- an instance of a pass over those that have fired, and what taking in its results has answered
module _ (u : List Atom) (rules : List RuleInst) (fired : List Bool) (over : AreRulesOver u rules) (old mid new : List (List ℤ)) (i : ℕ) (r : RuleInst) (at : slice_get rules i ≡ Some r) (t : TakenIn u (IsResult rules fired i) old mid) (fine : Bool) (skipped : slice_index_or fired i false ≡ false → (fine ≡ true) × (new ≡ mid)) where
  pub fired-next : fine ≡ true → (IsFired fired i → fine ≡ true → TakenIn u (Contains r.results) mid new) → TakenIn u (IsResult rules fired (i + 1)) old new
  fired-next e f = elim (test_is (slice_index_or fired i false)) [
    | inl y ↦ results-next u rules fired over old mid i r at t new y (f y e)
    | inr n ↦ subst (λ (rows : List (List ℤ)). TakenIn u (IsResult rules fired (i + 1)) old rows) (sym (skipped n).1) (results-skip u rules fired over old mid i r at t n)
  ]

  pub fired-stop : i < length rules → fine ≡ false → (fine ≡ false → Opposed u (Contains r.results) mid) → Opposed u (IsResult rules fired (length rules)) old
  fired-stop l e f = elim (test_is (slice_index_or fired i false)) [
    | inl y ↦ results-stop u rules fired over old mid i r at t l y (f e)
    | inr n ↦ absurd (let g : fine ≡ true = (skipped n).0 in cc)
  ]

pub results-first : (u : List Atom) (rules : List RuleInst) (fired : List Bool) (rows : List (List ℤ)) → IsGrid u rows → TakenIn u (IsResult rules fired 0) rows rows
results-first u rules fired rows g = taken-none u (IsResult rules fired 0) rows g (λ d h. let l = h.below in omega arith)
