-- The run of the plain instances is that of the rows.
use Rattle.std.proofs.Common.{◌≡◌, ℕ, zero, suc, ◌+◌, ◌<◌, ◌≤◌, Bool, List, [], ◌∷◌, ◌++◌, length, get_or, map, take, drop, Some, sym, refl, ap, ◌∙◌, arith, append_assoc}
use Rattle.std.specs.Prelude.{ℤ, pos, slice_get}
use Rattle.std.specs.List.{flat_map}
use Rattle.std.proofs.lemmas.List.{append-nil, length-append, length-map, take_all, drop_at}
use Rattle.std.proofs.lemmas.Option.{slice_get_within, slice_get-get_or}
use Rattle.core_cells.specs.Cells.{at_cell}
use Rattle.core_law.specs.Works.{Instance as PlainInstance, Work}
use Rattle.core_law.specs.Numbers.{instance_at, total, nothing}
use Rattle.core_law.specs.Sequential.{kept, put_at, after, read_before, read_with}
use Rattle.core_cells.proofs.Places.{none_is_some, some_same, take_next, take_left, at_some}
use Rattle.core_law.proofs.Numbers.{instance_is, first_opens, later_opens_not}
use Rattle.core_rows.specs.Deeds.{Effect, Sets, Keeps, Deed, RowWork}
use Rattle.core_rows.specs.Locals.{RowState, set_by, kept_by, value_in, after_deed, after_deeds, zeros, fresh, after_rows, row_of, before}
use Rattle.core_rows.specs.Replay.{replayed, target_of, instance_of, instances_after, work_of}
use Rattle.core_rows.specs.Progress.{reads_in}
use Rattle.core_rows.specs.RowLaws.{number}

-- the instances of a row

pub instances_long : (n : ℕ) (earlier ds : List Deed) → length (instances_after n earlier ds) ≡ length ds
instances_long n earlier [] = refl
instances_long n earlier (d ∷ ds) = ap suc (instances_long n (earlier ++ d ∷ []) ds)

instances_at : (n : ℕ) (earlier ds : List Deed) (j : ℕ) (d : Deed) → slice_get ds j ≡ Some d → get_or (instances_after n earlier ds) j nothing ≡ instance_of n (earlier ++ take j ds) d
instances_at n earlier [] j d e = absurd (none_is_some d e)
instances_at n earlier (q ∷ ds) zero d e = (λ i. instance_of n (sym (append-nil earlier) i) (some_same q d e i))
instances_at n earlier (q ∷ ds) (suc j) d e = instances_at n (earlier ++ q ∷ []) ds j d e ∙ ap (λ (l : List Deed). instance_of n l d) (append_assoc earlier (q ∷ []) (take j ds))

pub rows_at : (n : ℕ) (rows : List (List Deed)) (i : ℕ) → get_or (map (instances_after n []) rows) i [] ≡ instances_after n [] (get_or rows i [])
rows_at n [] i = refl
rows_at n (r ∷ rows) zero = refl
rows_at n (r ∷ rows) (suc i) = rows_at n rows i

in_rows : (rows : List (List Deed)) (i j : ℕ) → j < length (get_or rows i []) → i < length rows
in_rows [] i j l = absurd (omega arith)
in_rows (r ∷ rows) zero j l = omega arith
in_rows (r ∷ rows) (suc i) j l = let h = in_rows rows i j l in omega arith

-- one deed more

after_deeds_push : (ds : List Deed) (d : Deed) (o : RowState) → after_deeds (ds ++ d ∷ []) o ≡ after_deed d (after_deeds ds o)
after_deeds_push [] d o = refl
after_deeds_push (e ∷ ds) d o = after_deeds_push ds d (after_deed e o)

set_is : (e : Effect) (x : List (List ℤ)) (v : ℤ) → put_at x (target_of e) v ≡ set_by e x v
set_is (Sets cell) x v = refl
set_is (Keeps local) x v = refl

take_own : (d : Deed) (x : List (List ℤ)) (vs : List ℤ) → take (length d.reads) (map (at_cell x) d.reads ++ vs) ≡ map (at_cell x) d.reads
take_own d x vs = let n = length-map d.reads (at_cell x) in
    take_left (map (at_cell x) d.reads) vs (length d.reads) (omega arith) ∙ take_all (length d.reads) (map (at_cell x) d.reads) (omega arith)

drop_own : (d : Deed) (x : List (List ℤ)) (vs : List ℤ) → drop (length d.reads) (map (at_cell x) d.reads ++ vs) ≡ vs
drop_own d x vs = drop_at (map (at_cell x) d.reads) vs (length d.reads) (length-map d.reads (at_cell x))

reads_append : (ds : List Deed) (d : Deed) → reads_in (ds ++ d ∷ []) ≡ reads_in ds + length d.reads
reads_append [] d = omega arith
reads_append (e ∷ ds) d = let h = reads_append ds d in omega arith

module _ (r : RowWork) where
  abbrev w : Work
  w = work_of r

  rows_long : length w.rows ≡ length r.rows
  rows_long = length-map r.rows (instances_after r.locals [])

  -- the j-th instance of the row i
  pub deed_at : (i j : ℕ) (d : Deed) → slice_get (row_of r i) j ≡ Some d → instance_at w (number r i j) ≡ instance_of r.locals (take j (row_of r i)) d
  deed_at i j d e = let l = slice_get_within (row_of r i) j d e in let m = in_rows r.rows i j l in let n = rows_long in let same = rows_at r.locals r.rows i in
      let long = ap (λ (z : List PlainInstance). length z) same ∙ instances_long r.locals [] (row_of r i) in
      instance_is w i j (omega arith) (omega arith) ∙ (ap (λ (z : List PlainInstance). get_or z j nothing) same ∙ instances_at r.locals [] (row_of r i) j d e)

  -- before the instance j of the row i the run is where the rows are, and the registers lead to their locals
  record Agree (i j : ℕ) : Type 0 where
    cells : (after w (number r i j)).cells ≡ (before r i j).cells
    locals : (more : List Deed) (d : Deed) (vs : List ℤ) → replayed (take j (row_of r i) ++ more) d (zeros r.locals) (read_before w (number r i j) ++ vs) ≡ replayed more d (before r i j).locals vs

  begins_row : (i : ℕ) → 0 < length (row_of r i) → read_before w (number r i 0) ≡ []
  begins_row i l = let m = in_rows r.rows i 0 l in let n = rows_long in let long = ap (λ (z : List PlainInstance). length z) (rows_at r.locals r.rows i) ∙ instances_long r.locals [] (row_of r i) in
      ap (λ (b : Bool). kept b (after w (number r i 0)).registers) (first_opens w i (omega arith) (omega arith))

  continues_row : (i j : ℕ) → suc j < length (row_of r i) → read_before w (number r i (suc j)) ≡ (after w (number r i (suc j))).registers
  continues_row i j l = let m = in_rows r.rows i (suc j) l in let n = rows_long in let long = ap (λ (z : List PlainInstance). length z) (rows_at r.locals r.rows i) ∙ instances_long r.locals [] (row_of r i) in
      ap (λ (b : Bool). kept b (after w (number r i (suc j))).registers) (later_opens_not w i j (omega arith) (omega arith))

  -- what the instance has read, and its value
  heard_is : (i j : ℕ) (d : Deed) → slice_get (row_of r i) j ≡ Some d → Agree i j → read_with w (number r i j) ≡ read_before w (number r i j) ++ map (at_cell (before r i j).cells) d.reads
  heard_is i j d e agree = (λ z. read_before w (number r i j) ++ map (at_cell (agree.cells z)) (deed_at i j d e z).reads)

  value_is : (i j : ℕ) (d : Deed) → slice_get (row_of r i) j ≡ Some d → Agree i j → (instance_at w (number r i j)).value (read_with w (number r i j)) ≡ value_in d (before r i j)
  value_is i j d e agree = let x : List (List ℤ) = (before r i j).cells in let own : List ℤ = map (at_cell x) d.reads in
      (λ z. (deed_at i j d e z).value (heard_is i j d e agree z))
      ∙ (ap (λ (l : List Deed). replayed l d (zeros r.locals) (read_before w (number r i j) ++ own)) (sym (append-nil (take j (row_of r i))))
      ∙ (agree.locals [] d own
      ∙ ap (d.value (before r i j).locals) (ap (take (length d.reads)) (sym (append-nil own)) ∙ take_own d x [])))

  push : (i j : ℕ) (d : Deed) → slice_get (row_of r i) j ≡ Some d → before r i (suc j) ≡ after_deed d (before r i j)
  push i j d e = let o : RowState = fresh r.locals (after_rows r.locals (take i r.rows) r.start) in
      ap (λ (l : List Deed). after_deeds l o) (take_next (row_of r i) j d e) ∙ after_deeds_push (take j (row_of r i)) d o

  -- the words after an instance
  cells_next : (i j : ℕ) (d : Deed) → slice_get (row_of r i) j ≡ Some d → Agree i j → (after w (number r i (suc j))).cells ≡ (before r i (suc j)).cells
  cells_next i j d e agree = let m : number r i (suc j) ≡ suc (number r i j) = omega arith in let v : ℤ = (instance_at w (number r i j)).value (read_with w (number r i j)) in
      ap (λ (g : ℕ). (after w g).cells) m
      ∙ ((λ z. put_at (agree.cells z) (deed_at i j d e z).target (value_is i j d e agree z))
      ∙ (set_is d.effect (before r i j).cells (value_in d (before r i j))
      ∙ ap (λ (o : RowState). o.cells) (sym (push i j d e))))

  next_agrees : (i j : ℕ) (d : Deed) → slice_get (row_of r i) j ≡ Some d → suc j < length (row_of r i) → Agree i j → Agree i (suc j)
  next_agrees i j d e l agree = let x : List (List ℤ) = (before r i j).cells in let own : List ℤ = map (at_cell x) d.reads in let m : number r i (suc j) ≡ suc (number r i j) = omega arith in
      let reads_so_far : read_before w (number r i (suc j)) ≡ read_before w (number r i j) ++ own = continues_row i j l ∙ (ap (λ (g : ℕ). (after w g).registers) m ∙ heard_is i j d e agree) in record {
        cells = cells_next i j d e agree;
        locals = λ more q vs.
            let locals : List ℤ = (before r i j).locals in
            (λ z. replayed (take_next (row_of r i) j d e z ++ more) q (zeros r.locals) (reads_so_far z ++ vs))
            ∙ ((λ z. replayed (append_assoc (take j (row_of r i)) (d ∷ []) more z) q (zeros r.locals) (append_assoc (read_before w (number r i j)) own vs z))
            ∙ (agree.locals (d ∷ more) q (own ++ vs)
            ∙ ((λ z. replayed more q (kept_by d.effect locals (d.value locals (take_own d x vs z))) (drop_own d x vs z))
            ∙ ap (λ (o : RowState). replayed more q o.locals vs) (sym (push i j d e)))));
      }

  -- from the first instance of a row on
  in_row : (i j : ℕ) → j < length (row_of r i) → (after w (number r i 0)).cells ≡ after_rows r.locals (take i r.rows) r.start → Agree i j
  in_row i zero l at = record {
    cells = at;
    locals = λ more d vs. ap (λ (rs : List ℤ). replayed more d (zeros r.locals) (rs ++ vs)) (begins_row i l);
  }
  in_row i (suc j) l at = let d : Deed = get_or (row_of r i) j nothing_done in next_agrees i j d (slice_get-get_or (row_of r i) j nothing_done (omega arith)) l (in_row i j (omega arith) at)
    where
      nothing_done : Deed
      nothing_done = record { reads = []; effect = Keeps 0; value = λ _ _. pos 0 }

  -- past the last instance of a row
  whole_row : (i : ℕ) (ds : List Deed) → row_of r i ≡ ds → (after w (number r i 0)).cells ≡ after_rows r.locals (take i r.rows) r.start
      → (after w (number r i (length ds))).cells ≡ (after_deeds ds (fresh r.locals (after_rows r.locals (take i r.rows) r.start))).cells
  whole_row i [] e at = at
  whole_row i (q ∷ ds) e at = let j : ℕ = length ds in let l : j < length (q ∷ ds) = omega arith in let all = ap (λ (z : List Deed). length z) e in
      let d : Deed = get_or (q ∷ ds) j q in let at_j : slice_get (row_of r i) j ≡ Some d = ap (λ (z : List Deed). slice_get z j) e ∙ slice_get-get_or (q ∷ ds) j q l in
      cells_next i j d at_j (in_row i j (omega arith) at)
      ∙ ap (λ (z : List Deed). (after_deeds z (fresh r.locals (after_rows r.locals (take i r.rows) r.start))).cells) (ap (take (suc j)) e ∙ take_all (suc j) (q ∷ ds) (omega arith))

  pub rows_push : (n : ℕ) (rows : List (List Deed)) (i : ℕ) (x : List (List ℤ)) → i < length rows → after_rows n (take (suc i) rows) x ≡ (after_deeds (get_or rows i []) (fresh n (after_rows n (take i rows) x))).cells
  rows_push n [] i x l = absurd (omega arith)
  rows_push n (q ∷ rows) zero x l = refl
  rows_push n (q ∷ rows) (suc i) x l = rows_push n rows i (after_deeds q (fresh n x)).cells (omega arith)

  first_next : (n : ℕ) (rows : List (List Deed)) (i : ℕ) → i < length rows
      → length (flat_map (λ (q : List PlainInstance). q) (take (suc i) (map (instances_after n []) rows))) ≡ length (flat_map (λ (q : List PlainInstance). q) (take i (map (instances_after n []) rows))) + length (get_or rows i [])
  first_next n [] i l = absurd (omega arith)
  first_next n (q ∷ rows) zero l = let a = length-append (instances_after n [] q) [] in let b = instances_long n [] q in omega arith
  first_next n (q ∷ rows) (suc i) l = let h = first_next n rows i (omega arith) in
      let a = length-append (instances_after n [] q) (flat_map (λ (z : List PlainInstance). z) (take (suc i) (map (instances_after n []) rows))) in
      let b = length-append (instances_after n [] q) (flat_map (λ (z : List PlainInstance). z) (take i (map (instances_after n []) rows))) in omega arith

  -- at the first instance of each row
  pub at_row : (i : ℕ) → i ≤ length r.rows → (after w (number r i 0)).cells ≡ after_rows r.locals (take i r.rows) r.start
  at_row zero l = refl
  at_row (suc i) l = let n = first_next r.locals r.rows i (omega arith) in let m : number r (suc i) 0 ≡ number r i (length (row_of r i)) = omega arith in
      ap (λ (g : ℕ). (after w g).cells) m ∙ (whole_row i (row_of r i) refl (at_row i (omega arith)) ∙ sym (rows_push r.locals r.rows i r.start (omega arith)))

  agree : (i j : ℕ) → j < length (row_of r i) → Agree i j
  agree i j l = let m = in_rows r.rows i j l in in_row i j l (at_row i (omega arith))

  pub cells_agree : (i j : ℕ) → j < length (row_of r i) → (after w (number r i j)).cells ≡ (before r i j).cells
  cells_agree i j l = (agree i j l).cells

  pub values_agree : (i j : ℕ) (d : Deed) → slice_get (row_of r i) j ≡ Some d → (instance_at w (number r i j)).value (read_with w (number r i j)) ≡ value_in d (before r i j)
  values_agree i j d e = value_is i j d e (agree i j (slice_get_within (row_of r i) j d e))

  pub ends_agree : (after w (total w)).cells ≡ after_rows r.locals r.rows r.start
  ends_agree = let n = rows_long in
      let m : total w ≡ number r (length r.rows) 0 = (let e = ap (λ (z : List (List PlainInstance)). length (flat_map (λ (q : List PlainInstance). q) z)) (take_all (length r.rows) w.rows (omega arith)) in omega arith) in
      ap (λ (g : ℕ). (after w g).cells) m ∙ (at_row (length r.rows) (omega arith) ∙ ap (λ (z : List (List Deed)). after_rows r.locals z r.start) (take_all (length r.rows) r.rows (omega arith)))

  -- how much was read before an instance of a row, and with it
  pub long_before : (i j : ℕ) → j < length (row_of r i) → length (read_before w (number r i j)) ≡ reads_in (take j (row_of r i))
  long_before i zero l = ap (λ (rs : List ℤ). length rs) (begins_row i l)
  long_before i (suc j) l =
      let d = at_some (row_of r i) j (omega arith) in
      let x : List (List ℤ) = (before r i j).cells in
      let own : List ℤ = map (at_cell x) d.0.reads in
      let m : number r i (suc j) ≡ suc (number r i j) = omega arith in
      let heard : read_before w (number r i (suc j)) ≡ read_before w (number r i j) ++ own =
      continues_row i j l ∙ (ap (λ (g : ℕ). (after w g).registers) m ∙ heard_is i j d.0 d.1 (agree i j (omega arith)))
      in
      let h = long_before i j (omega arith) in
      let a = ap (λ (rs : List ℤ). length rs) heard in
      let b = length-append (read_before w (number r i j)) own in
      let c = length-map d.0.reads (at_cell x) in
      let t = ap reads_in (take_next (row_of r i) j d.0 d.1) in
      let n = reads_append (take j (row_of r i)) d.0 in
      omega arith

  pub long_with : (i j : ℕ) (d : Deed) → slice_get (row_of r i) j ≡ Some d → length (read_with w (number r i j)) ≡ reads_in (take j (row_of r i)) + length d.reads
  long_with i j d e =
      let l = slice_get_within (row_of r i) j d e in
      let x : List (List ℤ) = (before r i j).cells in
      let a = ap (λ (rs : List ℤ). length rs) (heard_is i j d e (agree i j l)) in
      let b = length-append (read_before w (number r i j)) (map (at_cell x) d.reads) in
      let c = length-map d.reads (at_cell x) in
      let h = long_before i j l in
      omega arith
