-- The tasks that a task is crossed with.
use Rattle.std.proofs.Common.{◌≡◌, ℕ, ◌+◌, ◌<◌, List, [], All, length, get_or, arith, ap, sym, subst}
use Rattle.std.proofs.lemmas.List.{get_or_default}
use Rattle.std.proofs.lemmas.List.Elements.{All-contains, Contains-get_or}
use Rattle.std.proofs.lemmas.List.FromFn.{get_or-map-range_with_len, length-map-range_with_len}
use Rattle.wave_base.specs.declared.types.RowId.{RowId}
use Rattle.row_graph.specs.Rows.{row}
use Rattle.row_graph.specs.Buckets.{rows_with}
use Rattle.row_graph.specs.Turned.{turned}
use Rattle.row_graph.proofs.Members.{In, In-from, In-to, In-rows_with, In-rows_with_to, In-turned, In-turned_to}
use Rattle.wait_sparsify.specs.Survivors.{nexts}
use Rattle.wait_sparsify.proofs.Places.{listed}

module _ (cross : List (List RowId)) where
  next_at : (u : ℕ) → u < length cross → get_or (nexts cross) u [] ≡ rows_with u (turned 0 cross)
  next_at u l = get_or-map-range_with_len (λ (key : ℕ). rows_with key (turned 0 cross)) 0 (length cross) u u [] l (omega arith)

  pub length-nexts : length (nexts cross) ≡ length cross
  length-nexts = length-map-range_with_len (λ (key : ℕ). rows_with key (turned 0 cross)) 0 (length cross)

  pub next_in : (u m : ℕ) → u < length cross → In (row u) (get_or cross m []) → In (row m) (get_or (nexts cross) u [])
  next_in u m l h =
      let z : 0 + m ≡ m = omega arith in
      let i = subst (λ (k : ℕ). In (u, row k) (turned 0 cross)) z (In-turned_to 0 cross u m h) in
      subst (λ (rows : List RowId). In (row m) rows) (sym (next_at u l)) (In-rows_with_to u (turned 0 cross) (row m) i)

  pub next_out : (u : ℕ) (v : RowId) → u < length cross → In v (get_or (nexts cross) u []) → In (row u) (get_or cross v.0 [])
  next_out u v l h =
      let i = subst (λ (rows : List RowId). In v rows) (next_at u l) h in
      let t = In-turned 0 cross u v (In-rows_with u (turned 0 cross) v i) in
      let z : 0 + t.0 ≡ v.0 = ap (λ (r : RowId). r.0) t.1 in
      let k : t.0 ≡ v.0 = omega (arith, z) in
      subst (λ (n : ℕ). In (row u) (get_or cross n [])) k t.2

  -- all numbers stay within the list
  pub nexts_within : All (λ (list : List RowId). All (λ (v : RowId). v.0 < length cross) list) (nexts cross)
  nexts_within k d l a e m =
      let list = get_or (nexts cross) k d in
      let v = get_or list a e in
      let n : k < length cross = omega (arith, l, length-nexts) in
      let q = get_or_default (nexts cross) k d [] l in
      let i = subst (λ (rows : List RowId). In v rows) q (In-from list v (Contains-get_or list a e m)) in
      listed cross v.0 (row k) (next_out k v n i)

  pub entries_within : All (λ (list : List RowId). All (λ (u : RowId). u.0 < length cross) list) cross → All (λ (e : ℕ × RowId). e.0 < length cross) (turned 0 cross)
  entries_within h k d l =
      let e = get_or (turned 0 cross) k d in
      let t = In-turned 0 cross e.0 e.1 (In-from (turned 0 cross) e (Contains-get_or (turned 0 cross) k d l)) in
      let list = get_or cross t.0 [] in
      All-contains (λ (u : RowId). u.0 < length cross) list (row e.0) (h t.0 [] (listed cross t.0 (row e.0) t.2)) (In-to list (row e.0) t.2)
