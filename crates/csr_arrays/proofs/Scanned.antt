-- What the plain bodies have seen of the triples and of a row.
use Rattle.std.proofs.Common.{◌≡◌, ℕ, zero, suc, ℤ, pos, ◌+ℤ◌, ◌-◌, ◌+◌, ◌<◌, ◌≤◌, Bool, true, false, cond, List, [], ◌∷◌, ◌++◌, length, get_or, take, map, refl, sym, ap, ◌∙◌, subst, arith, rules, append_assoc}
use Rattle.std.specs.Prelude.{nat_lt, nat_le, if◌then◌else◌, ◌==◌, ◌&&◌}
use Rattle.std.specs.Int.{w64}
use Rattle.std.specs.List.{filter, fold, flat_map, range_with_len, position_or_len}
use Rattle.std.proofs.lemmas.Bool.Decides.{nat_tests}
use Rattle.std.proofs.lemmas.Int.{int_wrap-add_left, int_wrap_fits}
use Rattle.std.proofs.lemmas.List.{append-nil, length-append, length-map, map-append}
use Rattle.std.proofs.lemmas.List.Elements.{filter_more, filter-append}
use Rattle.std.proofs.lemmas.List.Sums.{fold-append}
use Rattle.wave_base.specs.Word.{wrapped, wrapped_sum}
use Rattle.csr_arrays.specs.Axes.{Triple, Inside, nothing}
use Rattle.csr_arrays.specs.Arrays.{at_place, is_stored, value_at, columns, index_below}
use Rattle.csr_arrays.specs.Rows.{Cell, cell, in_row, by_rows, in_column}
use Rattle.csr_arrays.proofs.Buckets.{known, range_more, bucket, start, start_more, start_le, start_all, flat_map_more}
use Rattle.csr_arrays.proofs.Places.{columns_are, columns_below}

-- ---- one triple more

abbrev is_there : ℕ → ℕ → Triple → Bool
is_there r c t = t.0 == r && t.1 == c

place_more : (ts : List Triple) (i r c : ℕ) → i < length ts → at_place (take (i + 1) ts) r c ≡ at_place (take i ts) r c ++ cond (is_there r c (get_or ts i nothing)) (get_or ts i nothing ∷ []) []
place_more ts i r c lt = filter_more (is_there r c) ts i nothing lt

place_in : (ts : List Triple) (i r c : ℕ) → i < length ts → is_there r c (get_or ts i nothing) ≡ true → at_place (take (i + 1) ts) r c ≡ at_place (take i ts) r c ++ get_or ts i nothing ∷ []
place_in ts i r c lt e = place_more ts i r c lt ∙ ap (λ (b : Bool). at_place (take i ts) r c ++ cond b (get_or ts i nothing ∷ []) []) e

place_out : (ts : List Triple) (i r c : ℕ) → i < length ts → is_there r c (get_or ts i nothing) ≡ false → at_place (take (i + 1) ts) r c ≡ at_place (take i ts) r c
place_out ts i r c lt e = place_more ts i r c lt ∙ ap (λ (b : Bool). at_place (take i ts) r c ++ cond b (get_or ts i nothing ∷ []) []) e ∙ append-nil (at_place (take i ts) r c)

pub count_in : (ts : List Triple) (i r c : ℕ) → i < length ts → is_there r c (get_or ts i nothing) ≡ true → length (at_place (take (i + 1) ts) r c) ≡ length (at_place (take i ts) r c) + 1
count_in ts i r c lt e = ap length (place_in ts i r c lt e) ∙ length-append (at_place (take i ts) r c) (get_or ts i nothing ∷ [])

value_in : (ts : List Triple) (i r c : ℕ) → i < length ts → is_there r c (get_or ts i nothing) ≡ true → value_at (take (i + 1) ts) r c ≡ wrapped_sum (value_at (take i ts) r c) (get_or ts i nothing).2
value_in ts i r c lt e =
    let s = at_place (take i ts) r c in
    let x = get_or ts i nothing in
    ap (λ (l : List Triple). wrapped (fold (λ z t. z +ℤ t.2) (pos 0) l)) (place_in ts i r c lt e)
    ∙ ap wrapped (fold-append (λ (z : ℤ) (t : Triple). z +ℤ t.2) (pos 0) s (x ∷ []))
    ∙ sym (int_wrap-add_left w64 (fold (λ z t. z +ℤ t.2) (pos 0) s) x.2)

value_out : (ts : List Triple) (i r c : ℕ) → i < length ts → is_there r c (get_or ts i nothing) ≡ false → value_at (take (i + 1) ts) r c ≡ value_at (take i ts) r c
value_out ts i r c lt e = ap (λ (l : List Triple). wrapped (fold (λ z t. z +ℤ t.2) (pos 0) l)) (place_out ts i r c lt e)

pub value_next : (ts : List Triple) (i r c : ℕ) (there : Bool) (x : Triple) → i < length ts → x ≡ get_or ts i nothing → there ≡ is_there r c x → value_at (take (i + 1) ts) r c ≡ (if there then wrapped_sum (value_at (take i ts) r c) x.2 else value_at (take i ts) r c)
value_next ts i r c there x lt f e =
    let here : is_there r c (get_or ts i nothing) ≡ there = ap (is_there r c) (sym f) ∙ sym e in
    known (λ b. (is_there r c (get_or ts i nothing) ≡ b) → value_at (take (i + 1) ts) r c ≡ (if b then wrapped_sum (value_at (take i ts) r c) x.2 else value_at (take i ts) r c)) there
    (λ _ h. value_in ts i r c lt h ∙ ap (λ (t : Triple). wrapped_sum (value_at (take i ts) r c) t.2) (sym f))
    (λ _ h. value_out ts i r c lt h)
    here

pub stored_is : (ts : List Triple) (r c k : ℕ) → k ≡ length (at_place ts r c) → 0 < k → is_stored ts r c ≡ true
stored_is ts r c k e lt = let some : 0 < length (at_place ts r c) = omega (arith, e, lt) in grind (arith, nat_tests)

pub not_stored : (ts : List Triple) (r c k : ℕ) → k ≡ length (at_place ts r c) → k ≤ 0 → is_stored ts r c ≡ false
not_stored ts r c k e le = let none : length (at_place ts r c) ≤ 0 = omega (arith, e, le) in grind (arith, nat_tests)

pub no_value : (ts : List Triple) (r c : ℕ) → value_at (take 0 ts) r c ≡ pos 0
no_value ts r c = int_wrap_fits w64 (pos 0) (search rules)

-- ---- one column more

columns_more : (ts : List Triple) (r k : ℕ) → columns (k + 1) ts r ≡ columns k ts r ++ cond (is_stored ts r k) (k ∷ []) []
columns_more ts r k =
    let z : 0 + k ≡ k = omega arith in
    ap (filter (is_stored ts r)) (subst (λ (j : ℕ). range_with_len 0 (k + 1) ≡ range_with_len 0 k ++ j ∷ []) z (range_more 0 k))
    ∙ filter-append (is_stored ts r) (range_with_len 0 k) (k ∷ [])

pub column_in : (ts : List Triple) (r k : ℕ) → is_stored ts r k ≡ true → columns (k + 1) ts r ≡ columns k ts r ++ k ∷ []
column_in ts r k e = columns_more ts r k ∙ ap (λ (b : Bool). columns k ts r ++ cond b (k ∷ []) []) e

pub column_out : (ts : List Triple) (r k : ℕ) → is_stored ts r k ≡ false → columns (k + 1) ts r ≡ columns k ts r
column_out ts r k e = columns_more ts r k ∙ ap (λ (b : Bool). columns k ts r ++ cond b (k ∷ []) []) e ∙ append-nil (columns k ts r)

pub mapped_in : {Y : Type 0} (f : ℕ → Y) (ts : List Triple) (r k : ℕ) (ys : List Y) → is_stored ts r k ≡ true → (ys ++ map f (columns k ts r)) ++ f k ∷ [] ≡ ys ++ map f (columns (k + 1) ts r)
mapped_in f ts r k ys e =
    append_assoc ys (map f (columns k ts r)) (f k ∷ []) ∙ ap (λ l. ys ++ l) (sym (map-append f (columns k ts r) (k ∷ [])) ∙ ap (map f) (sym (column_in ts r k e)))

pub mapped_out : {Y : Type 0} (f : ℕ → Y) (ts : List Triple) (r k : ℕ) (ys : List Y) → is_stored ts r k ≡ false → ys ++ map f (columns k ts r) ≡ ys ++ map f (columns (k + 1) ts r)
mapped_out f ts r k ys e = ap (λ l. ys ++ map f l) (sym (column_out ts r k e))

-- ---- the first column from the diagonal on

none_before : (p : ℕ → Bool) (r a k : ℕ) → r ≤ a → position_or_len (λ c. nat_le r c) (filter p (range_with_len a k)) ≡ 0
none_before p r a zero le = refl
none_before p r a (suc k) le =
    known (λ b. position_or_len (λ c. nat_le r c) (cond b (a ∷ filter p (range_with_len (a + 1) k)) (filter p (range_with_len (a + 1) k))) ≡ 0) (p a)
    (λ _. let t : nat_le r a ≡ true = grind (arith, nat_tests) in rw t refl)
    (λ _. none_before p r (a + 1) k (omega (arith, le)))

first_from : (p : ℕ → Bool) (r a k : ℕ) → a ≤ r → r ≤ a + k → position_or_len (λ c. nat_le r c) (filter p (range_with_len a k)) ≡ length (filter p (range_with_len a (r - a)))
first_from p r a zero low high =
    let z : r - a ≡ 0 = omega (arith, low, high) in
    ap (λ (j : ℕ). length (filter p (range_with_len a j))) (sym z)
first_from p r a (suc k) low high =
    known (λ _. position_or_len (λ c. nat_le r c) (filter p (range_with_len a (suc k))) ≡ length (filter p (range_with_len a (r - a)))) (nat_lt a r)
    (λ t.
    let less : a < r = grind (arith, nat_tests) in
    let s : r - a ≡ suc (r - (a + 1)) = omega (arith, less) in
    let h = first_from p r (a + 1) k (omega (arith, less)) (omega (arith, high)) in
    known (λ b. position_or_len (λ c. nat_le r c) (cond b (a ∷ filter p (range_with_len (a + 1) k)) (filter p (range_with_len (a + 1) k))) ≡ length (cond b (a ∷ filter p (range_with_len (a + 1) (r - (a + 1)))) (filter p (range_with_len (a + 1) (r - (a + 1)))))) (p a)
    (λ _. let u : nat_le r a ≡ false = grind (arith, nat_tests) in rw u (omega (arith, h)))
    (λ _. h)
    ∙ ap (λ (j : ℕ). length (filter p (range_with_len a j))) (sym s))
    (λ t.
    let same : r ≡ a = (let ge : r ≤ a = grind (arith, nat_tests) in omega (arith, low)) in
    let z : r - a ≡ 0 = omega (arith, same) in
    none_before p r a (suc k) (omega (arith, same)) ∙ ap (λ (j : ℕ). length (filter p (range_with_len a j))) (sym z))

pub diagonal_is : (n : ℕ) (ts : List Triple) (r : ℕ) → r ≤ n → position_or_len (λ c. nat_le r c) (columns n ts r) ≡ length (columns r ts r)
diagonal_is n ts r le =
    let z : r - 0 ≡ r = omega arith in
    first_from (is_stored ts r) r 0 n (omega arith) (omega (arith, le)) ∙ ap (λ (j : ℕ). length (filter (is_stored ts r) (range_with_len 0 j))) z

pub index_more : (n : ℕ) (us : List Triple) (r : ℕ) (is is' : List ℤ) → is ≡ index_below n us r → is' ≡ is ++ map pos (columns n us r) → is' ≡ index_below n us (r + 1)
index_more n us r is is' h e = e ∙ ap (λ (l : List ℤ). l ++ map pos (columns n us r)) h ∙ sym (flat_map_more (λ r. map pos (columns n us r)) r)

-- ---- no more places than triples

some_cells : (cells : List Cell) (a k : ℕ) → length (filter (λ c. nat_lt 0 (length (in_column cells c))) (range_with_len a k)) ≤ length (flat_map (in_column cells) (range_with_len a k))
some_cells cells a zero = omega arith
some_cells cells a (suc k) =
    let h = some_cells cells (a + 1) k in
    let rest = flat_map (in_column cells) (range_with_len (a + 1) k) in
    let long : length (in_column cells a ++ rest) ≡ length (in_column cells a) + length rest = length-append (in_column cells a) rest in
    let cs = filter (λ c. nat_lt 0 (length (in_column cells c))) (range_with_len (a + 1) k) in
    known (λ b. (nat_lt 0 (length (in_column cells a)) ≡ b) → length (cond b (a ∷ cs) cs) ≤ length (in_column cells a ++ rest)) (nat_lt 0 (length (in_column cells a)))
    (λ _ t. let some : 0 < length (in_column cells a) = grind (arith, nat_tests) in omega (arith, h, long, some))
    (λ _ t. omega (arith, h, long))
    refl

columns_few : (n : ℕ) (us : List Triple) (r : ℕ) → Inside n us → length (columns n us r) ≤ length (in_row us r)
columns_few n us r inside =
    let cells = in_row us r in
    omega (arith, some_cells cells 0 n, ap length (columns_are n us r), start_all (λ (e : Cell). e.0) cells n (columns_below n us r inside))

index_few : (n : ℕ) (us : List Triple) (k : ℕ) → Inside n us → length (index_below n us k) ≤ length (by_rows us k)
index_few n us zero inside = omega arith
index_few n us (suc k) inside =
    let e : k + 1 ≡ suc k = omega arith in
    let one : length (index_below n us (k + 1)) ≡ length (index_below n us k) + length (columns n us k) = ap length (flat_map_more (λ r. map pos (columns n us r)) k) ∙ length-append (index_below n us k) (map pos (columns n us k)) ∙ ap (λ (j : ℕ). length (index_below n us k) + j) (length-map (columns n us k) pos) in
    let two : length (by_rows us (k + 1)) ≡ length (by_rows us k) + length (in_row us k) = ap length (flat_map_more (in_row us) k) ∙ length-append (by_rows us k) (in_row us k) in
    subst (λ (j : ℕ). length (index_below n us j) ≤ length (by_rows us j)) e (omega (arith, one, two, columns_few n us k inside, index_few n us k inside))

by_rows_is_start : (us : List Triple) (k : ℕ) → length (by_rows us k) ≡ start (λ (t : Triple). t.0) us k
by_rows_is_start us zero = refl
by_rows_is_start us (suc k) =
    let e : k + 1 ≡ suc k = omega arith in
    let key : Triple → ℕ = λ t. t.0 in
    let two : length (by_rows us (k + 1)) ≡ length (by_rows us k) + length (in_row us k) = ap length (flat_map_more (in_row us) k) ∙ length-append (by_rows us k) (in_row us k) in
    let one : length (in_row us k) ≡ length (bucket key us k) = length-map (bucket key us k) cell in
    subst (λ (j : ℕ). length (by_rows us j) ≡ start key us j) e (omega (arith, two, one, start_more key us k, by_rows_is_start us k))

pub index_below_few : (n : ℕ) (us : List Triple) (k : ℕ) → Inside n us → k ≤ n → length (index_below n us k) ≤ length us
index_below_few n us k inside le =
    let key : Triple → ℕ = λ t. t.0 in
    omega (arith, index_few n us k inside, by_rows_is_start us k, start_le key us k n le, start_all key us n (λ j d lt. (inside j d lt).0))
