-- The tasks that survive are those with no task between.
use Rattle.std.proofs.Common.{◌≡◌, ◌↔◌, ℕ, suc, zero, ◌+◌, ◌<◌, ◌≤◌, ◌∙◌, ◌⊎◌, inl, inr, List, [], ◌∷◌, length, get_or, replicate, arith, refl, ap, sym, subst}
use Rattle.std.proofs.lemmas.Bool.{cases_eq, cases_lt}
use Rattle.std.proofs.lemmas.List.{get_or-replicate, get_or_past, length-replicate}
use Rattle.wave_base.specs.declared.types.RowId.{RowId}
use Rattle.row_graph.specs.Rows.{row}
use Rattle.row_graph.proofs.Members.{In}
use Rattle.row_graph.proofs.Ascending.{Climbing}
use Rattle.wait_sparsify.specs.Written.{written}
use Rattle.wait_sparsify.specs.Survivors.{nexts, survivors, kept_lists}
use Rattle.wait_sparsify.proofs.Following.{next_in, next_out}
use Rattle.wait_sparsify.proofs.Stamping.{In-cases, length-written, written-in, written-out, stamped_in, stamped_none_of}
use Rattle.wait_sparsify.proofs.Surviving.{Survives, survives, survives_to, climbing-left}

pub zeros-at : (n u : ℕ) → ◌≡◌ {A = ℕ} (get_or (replicate n 0) u 0) 0
zeros-at n u =
    elim (cases_lt u n) as (λ _. ◌≡◌ {A = ℕ} (get_or (replicate n 0) u 0) 0) [
      | inl l ↦ get_or-replicate n u 0 0 l
      | inr g ↦ get_or_past (replicate n 0) u 0 (omega (arith, length-replicate {A = ℕ} n 0, g))
    ]

pub record IsCrossList (cross : List (List RowId)) (owners : List ℕ) : Type 0 where
  pub members : (l : ℕ) (u : RowId) → In u (get_or cross l []) → u.0 < length cross
  pub climbs : (l : ℕ) → Climbing 0 (get_or cross l [])
  pub rises : (a b : ℕ) → a ≤ b → b < length cross → get_or owners a 0 ≤ get_or owners b 0
  pub apart : (l : ℕ) (u : RowId) → In u (get_or cross l []) → get_or owners u.0 0 ≡ get_or owners l 0 → ⊥

-- one task before another: on different workers, or on one
abbrev pub Next : List (List RowId) → List ℕ → ℕ → ℕ → Type 0
Next cross owners k l =
    In (row k) (get_or cross l []) ⊎ ((get_or owners k 0 ≡ get_or owners l 0) × (k < l) × (l < length cross))

-- with no task between
abbrev pub Keeps : List (List RowId) → List ℕ → ℕ → ℕ → Type 0
Keeps cross owners k l =
    In (row k) (get_or cross l []) × ((m : ℕ) → Next cross owners k m → Next cross owners m l → ⊥)

-- what the stamps say when the tasks below a number are done
pub record Stamped (cross : List (List RowId)) (owners : List ℕ) (task : ℕ) (earlier among : List ℕ) : Type 0 where
  pub long : length earlier ≡ length cross
  pub wide : length among ≡ length cross
  pub least : (u v : ℕ) → u < length cross → v < task → In (row u) (get_or cross v []) → get_or owners v 0 + 1 ≤ get_or earlier u 0
  pub comes : (u : ℕ) → u < length cross → 0 < get_or earlier u 0 → (v : ℕ) × (v < task) × (get_or earlier u 0 ≡ get_or owners v 0 + 1) × In (row u) (get_or cross v [])
  pub low : (u : ℕ) → get_or among u 0 ≤ task

pub stamped_none : (cross : List (List RowId)) (owners : List ℕ) → Stamped cross owners 0 (replicate (length cross) 0) (replicate (length cross) 0)
stamped_none cross owners = record {
  long = length-replicate {A = ℕ} (length cross) 0;
  wide = length-replicate {A = ℕ} (length cross) 0;
  least = λ u v l h i. absurd (omega (arith, h));
  comes = λ u l h. absurd (omega (arith, h, zeros-at (length cross) u));
  low = λ u. omega (arith, zeros-at (length cross) u);
}

module _ (cross : List (List RowId)) (owners : List ℕ) (is : IsCrossList cross owners) (task : ℕ) (earlier among : List ℕ) (s : Stamped cross owners task earlier among) (within : task < length cross) where
  abbrev firsts : List RowId
  firsts = get_or cross task []

  abbrev worker : ℕ
  worker = get_or owners task 0 + 1

  abbrev after : List ℕ
  after = written (get_or owners task 0 + 1) (get_or cross task []) earlier

  abbrev beyond : List ℕ
  beyond = written (task + 1) (get_or cross task []) among

  low_more : (u : ℕ) → get_or beyond u 0 ≤ task + 1
  low_more u =
      elim (In-cases u firsts) as (λ _. get_or beyond u 0 ≤ task + 1) [
        | inl i ↦ elim (cases_lt u (length among)) as (λ _. get_or beyond u 0 ≤ task + 1) [
          | inl l ↦ omega (arith, written-in (task + 1) firsts among u l i)
          | inr g ↦ omega (arith, get_or_past beyond u 0 (omega (arith, length-written (task + 1) firsts among, g)))
        ]
        | inr lacks ↦ omega (arith, written-out (task + 1) firsts among u lacks, s.low u)
      ]

  pub stamped_more : Stamped cross owners (task + 1) after beyond
  stamped_more = record {
    long = length-written worker firsts earlier ∙ s.long;
    wide = length-written (task + 1) firsts among ∙ s.wide;
    least = λ u v l h i. elim (In-cases u firsts) as (λ _. get_or owners v 0 + 1 ≤ get_or after u 0) [
      | inl j ↦
          let e = written-in worker firsts earlier u (omega (arith, s.long, l)) j in
          let m = is.rises v task (omega (arith, h)) within in
          omega (arith, e, m)
      | inr lacks ↦
          let e = written-out worker firsts earlier u lacks in
          elim (cases_eq v task) as (λ _. get_or owners v 0 + 1 ≤ get_or after u 0) [
            | inl q ↦ absurd (lacks (subst (λ (v : ℕ). In (row u) (get_or cross v [])) q i))
            | inr ne ↦ omega (arith, e, s.least u v l (omega (arith, h, ne)) i)
          ]
    ];
    comes = λ u l h. elim (In-cases u firsts) as (λ _. (v : ℕ) × (v < task + 1) × (get_or after u 0 ≡ get_or owners v 0 + 1) × In (row u) (get_or cross v [])) [
      | inl j ↦ (task, omega arith, written-in worker firsts earlier u (omega (arith, s.long, l)) j, j)
      | inr lacks ↦
          let e = written-out worker firsts earlier u lacks in
          let r = s.comes u l (omega (arith, e, h)) in
          (r.0, omega (arith, r.1), e ∙ r.2, r.3)
    ];
    low = low_more;
  }

  abbrev lasting : List RowId
  lasting = survivors owners earlier (get_or owners task 0 + 1) (written (task + 1) (get_or cross task []) among) (task + 1) (nexts cross) (get_or cross task [])

  keeps : (u : ℕ) → In (row u) lasting → Keeps cross owners u task
  keeps u h =
      let t = survives owners earlier worker beyond (task + 1) (nexts cross) (length cross) is.rises 0 firsts (row u) (is.climbs task) (is.members task) h in
      let l : u < length cross = is.members task (row u) t.listed in (
        t.listed,
        λ m x y. elim y as (λ _. ⊥) [
          | inl c ↦ elim x as (λ _. ⊥) [
            | inl d ↦
                let i = next_in cross u m l d in
                let e = written-in (task + 1) firsts among m (omega (arith, s.wide, is.members task (row m) c)) c in
                let stamped = stamped_in beyond (task + 1) (get_or (nexts cross) u []) (row m) i e in
                let none = t.not_between in
                absurd (cc)
            | inr d ↦ t.no_later (row m) c d.1 d.0
          ]
          | inr c ↦ elim x as (λ _. ⊥) [
            | inl d ↦
                let a = s.least u m l c.1 d in
                let r = s.comes u l (omega (arith, a)) in
                let b = is.rises r.0 task (omega (arith, r.1)) within in
                t.not_earlier (omega (arith, a, r.2, b, c.0))
            | inr d ↦ is.apart task (row u) t.listed (d.0 ∙ c.0)
          ]
        ],
      )

  keeps_to : (u : ℕ) → Keeps cross owners u task → In (row u) lasting
  keeps_to u (i, lacks) =
      let l : u < length cross = is.members task (row u) i in
      let t : Survives owners earlier worker beyond (task + 1) (nexts cross) (length cross) is.rises (row u) firsts = record {
        listed = i;
        not_earlier = λ e. (
            let r = s.comes u l (omega (arith, e)) in
            let q : get_or owners r.0 0 ≡ get_or owners task 0 = omega (arith, r.2, e) in
            lacks r.0 (inl r.3) (inr (q, r.1, within)));
        not_between = stamped_none_of beyond (task + 1) (get_or (nexts cross) u []) (λ v j e. elim (In-cases v.0 firsts) as (λ _. ⊥) [
          | inl h ↦ lacks v.0 (inl (next_out cross u v l j)) (inl h)
          | inr out ↦ omega (arith, e, written-out (task + 1) firsts among v.0 out, s.low v.0)
        ]);
        no_later = λ v j lt q. lacks v.0 (inr (q, lt, is.members task v j)) (inl j);
      } in
      survives_to owners earlier worker beyond (task + 1) (nexts cross) (length cross) is.rises 0 firsts (row u) (is.climbs task) t i

  pub kept_here : ((u : ℕ) → In (row u) lasting ↔ Keeps cross owners u task) × Climbing 0 lasting
  kept_here =
      (λ u. (keeps u, keeps_to u), climbing-left owners earlier worker beyond (task + 1) (nexts cross) (length cross) is.rises 0 firsts (is.climbs task))

-- a list has the tasks that a task has to wait for, ascending
abbrev pub AreKeptAt : List (List RowId) → List ℕ → ℕ → List RowId → Type 0
AreKeptAt cross owners l list = ((u : ℕ) → In (row u) list ↔ Keeps cross owners u l) × Climbing 0 list

pub length-kept_lists : (after : List (List RowId)) (owners : List ℕ) (task : ℕ) (earlier among : List ℕ) (lists : List (List RowId)) → length (kept_lists after owners task earlier among lists) ≡ length lists
length-kept_lists after owners task earlier among [] = refl
length-kept_lists after owners task earlier among (firsts ∷ lists) =
    ap suc (length-kept_lists after owners (task + 1) (written (get_or owners task 0 + 1) firsts earlier) (written (task + 1) firsts among) lists)

pub kept_lists-at : (cross : List (List RowId)) (owners : List ℕ) (is : IsCrossList cross owners) (task : ℕ) (earlier among : List ℕ) (lists : List (List RowId)) → Stamped cross owners task earlier among → ((a : ℕ) → get_or lists a [] ≡ get_or cross (task + a) []) → task + length lists ≡ length cross → (a : ℕ) → a < length lists → AreKeptAt cross owners (task + a) (get_or (kept_lists (nexts cross) owners task earlier among lists) a [])
kept_lists-at cross owners is task earlier among [] s same long a h = absurd (omega (arith, h))
kept_lists-at cross owners is task earlier among (firsts ∷ lists) s same long zero h =
    let z : task + zero ≡ task = omega arith in
    let e : firsts ≡ get_or cross task [] = same zero ∙ ap (λ k. get_or cross k []) z in
    let k = kept_here cross owners is task earlier among s (omega (arith, long)) in
    subst (λ (t : ℕ). AreKeptAt cross owners t (survivors owners earlier (get_or owners task 0 + 1) (written (task + 1) firsts among) (task + 1) (nexts cross) firsts)) (sym z)
    (subst (λ (fs : List RowId). AreKeptAt cross owners task (survivors owners earlier (get_or owners task 0 + 1) (written (task + 1) fs among) (task + 1) (nexts cross) fs)) (sym e) k)
kept_lists-at cross owners is task earlier among (firsts ∷ lists) s same long (suc a) h =
    let z : task + zero ≡ task = omega arith in
    let e : firsts ≡ get_or cross task [] = same zero ∙ ap (λ k. get_or cross k []) z in
    let m = stamped_more cross owners is task earlier among s (omega (arith, long)) in
    let m' = subst (λ (fs : List RowId). Stamped cross owners (task + 1) (written (get_or owners task 0 + 1) fs earlier) (written (task + 1) fs among)) (sym e) m in
    let q : task + 1 + a ≡ task + suc a = omega arith in
    let next : (b : ℕ) → get_or lists b [] ≡ get_or cross (task + 1 + b) [] = λ b. (let p : task + suc b ≡ task + 1 + b = omega arith in same (suc b) ∙ ap (λ k. get_or cross k []) p) in
    let r = kept_lists-at cross owners is (task + 1) (written (get_or owners task 0 + 1) firsts earlier) (written (task + 1) firsts among) lists m' next (omega (arith, long)) a (omega (arith, h)) in
    subst (λ (t : ℕ). AreKeptAt cross owners t (get_or (kept_lists (nexts cross) owners (task + 1) (written (get_or owners task 0 + 1) firsts earlier) (written (task + 1) firsts among) lists) a [])) q r
