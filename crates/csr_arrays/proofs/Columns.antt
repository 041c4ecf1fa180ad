-- What the cells of one row leave in the arrays.
use Rattle.std.proofs.Common.{◌≡◌, ℕ, zero, suc, ℤ, pos, ◌+ℤ◌, ◌-◌, ◌+◌, ◌<◌, ◌≤◌, ◌<ℤ◌, ◌≤ℤ◌, Bool, true, false, cond, List, [], ◌∷◌, ◌++◌, length, get_or, drop, map, Option, None, Some, refl, sym, ap, ◌∙◌, subst, arith, rules, append_assoc}
use Rattle.std.specs.Prelude.{nat_lt, nat_le, not, if◌then◌else◌, ◌==◌, ◌&&◌}
use Rattle.std.specs.Ordering.{is_lt, nat_cmp}
use Rattle.std.specs.declared.cmp.Ordering.TheVariants.{Less, Equal, Greater}
use Rattle.std.specs.Int.{w64}
use Rattle.std.specs.List.{All, filter, fold, flat_map, range_with_len, position_or_len}
use Rattle.std.specs.List.Sorted.{IsPermutation, IsStableByKey, ties}
use Rattle.std.proofs.lemmas.Bool.Decides.{nat_tests}
use Rattle.std.proofs.lemmas.Int.{ints, int_wrap-add_left, int_wrap_fits}
use Rattle.std.proofs.lemmas.List.{append-nil, drop_more, length_push, length-map, get_or_at, set_at}
use Rattle.std.proofs.lemmas.List.Elements.{All-head, All-tail, filter_agree}
use Rattle.std.proofs.lemmas.List.Sorted.{All-permutation}
use Rattle.std.proofs.lemmas.List.Sums.{position_or_len_is}
use Rattle.wave_base.specs.Word.{wrapped, wrapped_sum}
use Rattle.csr_arrays.specs.Rows.{Cell, IsAscending, in_column, row_columns, sum_in, added, is_last, run}
use Rattle.csr_arrays.proofs.Buckets.{known}

pub map_agree : {X Y : Type 0} (f g : X → Y) → ((x : X) → f x ≡ g x) → (xs : List X) → map f xs ≡ map g xs
map_agree f g h [] = refl
map_agree f g h (x ∷ xs) = ap (λ y. y ∷ map f xs) (h x) ∙ ap (λ l. g x ∷ l) (map_agree f g h xs)

-- ---- the cells in one column

column_in : (c : ℕ) (e : Cell) (es : List Cell) → (e.0 == c) ≡ true → in_column (e ∷ es) c ≡ e ∷ in_column es c
column_in c e es t = rw t refl

column_out : (c : ℕ) (e : Cell) (es : List Cell) → (e.0 == c) ≡ false → in_column (e ∷ es) c ≡ in_column es c
column_out c e es t = rw t refl

-- ---- cells that ascend are their columns' cells, column by column

-- each column is at least the one before it, and the first at least a
abbrev Up : ℕ → List Cell → Type 0
Up a [] = Unit {0}
Up a (e ∷ es) = (a ≤ e.0) × Up e.0 es

up_from : (a : ℕ) (es : List Cell) → All (λ e. a ≤ e.0) es → IsAscending es → Up a es
up_from a [] low up = tt
up_from a (e ∷ es) low up =
    (All-head (λ e. a ≤ e.0) e es low, up_from e.0 es (λ k d lt. up 0 (suc k) d (omega arith) (omega (arith, lt))) (λ i j d le lt. up (suc i) (suc j) d (omega (arith, le)) (omega (arith, lt))))

none_low : (c b : ℕ) (es : List Cell) → c < b → Up b es → in_column es c ≡ []
none_low c b [] lt up = refl
none_low c b (e ∷ es) lt up =
    let le : b ≤ e.0 = up.0 in
    let t : (e.0 == c) ≡ false = grind (arith, nat_tests) in
    column_out c e es t ∙ none_low c e.0 es (omega (arith, le, lt)) up.1

-- the first cell isn't in a later column
later : (e : Cell) (es : List Cell) (b k : ℕ) → e.0 < b → flat_map (in_column (e ∷ es)) (range_with_len b k) ≡ flat_map (in_column es) (range_with_len b k)
later e es b zero lt = refl
later e es b (suc k) lt =
    let t : (e.0 == b) ≡ false = grind (arith, nat_tests) in
    ap (λ (l : List Cell). l ++ flat_map (in_column (e ∷ es)) (range_with_len (b + 1) k)) (column_out b e es t)
    ∙ ap (λ (l : List Cell). in_column es b ++ l) (later e es (b + 1) k (omega (arith, lt)))

abbrev Grouped : ℕ → ℕ → List Cell → Type 0
Grouped a k es = Up a es → All (λ e. e.0 < a + k) es → flat_map (in_column es) (range_with_len a k) ≡ es

one_column : (a k : ℕ) → ((es : List Cell) → Grouped (a + 1) k es) → (es : List Cell) → Grouped a (suc k) es
one_column a k next [] up high = next [] tt (λ m d lt. absurd (omega (arith, lt)))
one_column a k next (e ∷ es) up high =
    let le : a ≤ e.0 = up.0 in
    known (λ _. in_column (e ∷ es) a ++ flat_map (in_column (e ∷ es)) (range_with_len (a + 1) k) ≡ e ∷ es) (e.0 == a)
    (λ t. let same : e.0 ≡ a = grind (arith, nat_tests) in
    ap (λ (l : List Cell). l ++ flat_map (in_column (e ∷ es)) (range_with_len (a + 1) k)) (column_in a e es t)
    ∙ ap (λ (l : List Cell). e ∷ (in_column es a ++ l)) (later e es (a + 1) k (omega (arith, same)))
    ∙ ap (λ (l : List Cell). e ∷ l) (one_column a k next es (subst (λ (b : ℕ). Up b es) same up.1) (All-tail (λ e. e.0 < a + suc k) e es high)))
    (λ t. let more : a < e.0 = grind (arith, nat_tests) in
    ap (λ (l : List Cell). l ++ flat_map (in_column (e ∷ es)) (range_with_len (a + 1) k)) (none_low a (a + 1) (e ∷ es) (omega arith) (omega (arith, more), up.1))
    ∙ next (e ∷ es) (omega (arith, more), up.1) (λ m d lt. omega (arith, high m d lt)))

grouped : (a k : ℕ) (es : List Cell) → Grouped a k es
grouped a zero [] up high = refl
grouped a zero (e ∷ es) up high = absurd (omega (arith, up.0, All-head (λ e. e.0 < a + 0) e es high))
grouped a (suc k) es up high = one_column a k (grouped (a + 1) k) es up high

-- ---- wrapped sums

abbrev sum_on : ℤ → List Cell → ℤ
sum_on v es = fold (λ z e. wrapped_sum z e.1) v es

wrap_fold : (v : ℤ) (es : List Cell) → sum_on (wrapped v) es ≡ wrapped (fold (λ z e. z +ℤ e.1) v es)
wrap_fold v [] = refl
wrap_fold v (e ∷ es) =
    let one : wrapped_sum (wrapped v) e.1 ≡ wrapped (v +ℤ e.1) = int_wrap-add_left w64 v e.1 in
    ap (λ (z : ℤ). sum_on z es) one ∙ wrap_fold (v +ℤ e.1) es

sum_is : (es : List Cell) (c : ℕ) → sum_on (pos 0) (in_column es c) ≡ sum_in es c
sum_is es c =
    let none : wrapped (pos 0) ≡ pos 0 = int_wrap_fits w64 (pos 0) (search rules) in
    ap (λ (z : ℤ). sum_on z (in_column es c)) (sym none) ∙ wrap_fold (pos 0) (in_column es c)

-- ---- one cell more

added_end : (vs : List ℤ) (v a : ℤ) → added (vs ++ v ∷ []) a ≡ vs ++ wrapped_sum v a ∷ []
added_end vs v a =
    let k : length (vs ++ v ∷ []) - 1 ≡ length vs = omega (arith, length_push vs v) in
    rw (k, get_or_at vs v [] (pos 0) (length vs) refl) (set_at vs v [] (wrapped_sum v a) (length vs) refl)

pub run_next : (cells : List Cell) (i : ℕ) (e : Cell) (is vs is' vs' : List ℤ) (last : Option ℕ) (again : Bool) → i < length cells → e ≡ get_or cells i (0, pos 0) → again ≡ is_last last e.0
    → is' ≡ (if again then is else is ++ pos e.0 ∷ []) → vs' ≡ added (if again then vs else vs ++ pos 0 ∷ []) e.1 → run (drop i cells) is vs last ≡ run (drop (i + 1) cells) is' vs' (Some e.0)
run_next cells i e is vs is' vs' last again lt f b g h = rw (drop_more cells i (0, pos 0) lt, h, g, b, f) refl

run_again : (c : ℕ) (e : Cell) (s : List Cell) (is vs : List ℤ) (v : ℤ) → (e.0 == c) ≡ true → run (e ∷ s) is (vs ++ v ∷ []) (Some c) ≡ run s is (vs ++ wrapped_sum v e.1 ∷ []) (Some c)
run_again c e s is vs v t =
    let same : e.0 ≡ c = grind (arith, nat_tests) in
    rw (t, added_end vs v e.1) (ap (λ (d : ℕ). run s is (vs ++ wrapped_sum v e.1 ∷ []) (Some d)) same)

run_new : (c : ℕ) (e : Cell) (s : List Cell) (is vs : List ℤ) (last : Option ℕ) → (e.0 == c) ≡ true → is_last last c ≡ false → run (e ∷ s) is vs last ≡ run s (is ++ pos c ∷ []) (vs ++ wrapped_sum (pos 0) e.1 ∷ []) (Some c)
run_new c e s is vs last t l =
    let same : e.0 ≡ c = grind (arith, nat_tests) in
    rw (same, l, added_end vs (pos 0) e.1) refl

run_same : (c : ℕ) (es rest : List Cell) (is vs : List ℤ) (v : ℤ) → run (in_column es c ++ rest) is (vs ++ v ∷ []) (Some c) ≡ run rest is (vs ++ sum_on v (in_column es c) ∷ []) (Some c)
run_same c [] rest is vs v = refl
run_same c (e ∷ es) rest is vs v =
    known (λ _. run (in_column (e ∷ es) c ++ rest) is (vs ++ v ∷ []) (Some c) ≡ run rest is (vs ++ sum_on v (in_column (e ∷ es) c) ∷ []) (Some c)) (e.0 == c)
    (λ t. subst (λ (g : List Cell). run (g ++ rest) is (vs ++ v ∷ []) (Some c) ≡ run rest is (vs ++ sum_on v g ∷ []) (Some c)) (sym (column_in c e es t))
    (run_again c e (in_column es c ++ rest) is vs v t ∙ run_same c es rest is vs (wrapped_sum v e.1)))
    (λ t. subst (λ (g : List Cell). run (g ++ rest) is (vs ++ v ∷ []) (Some c) ≡ run rest is (vs ++ sum_on v g ∷ []) (Some c)) (sym (column_out c e es t)) (run_same c es rest is vs v))

some_long : (e : Cell) (g : List Cell) → nat_lt 0 (length (e ∷ g)) ≡ true
some_long e g = let lt : 0 < length (e ∷ g) = omega arith in grind (arith, nat_tests)

run_group : (c : ℕ) (es rest : List Cell) (is vs : List ℤ) (last : Option ℕ) → is_last last c ≡ false
    → run (in_column es c ++ rest) is vs last ≡ cond (nat_lt 0 (length (in_column es c))) (run rest (is ++ pos c ∷ []) (vs ++ sum_on (pos 0) (in_column es c) ∷ []) (Some c)) (run rest is vs last)
run_group c [] rest is vs last l = refl
run_group c (e ∷ es) rest is vs last l =
    let P : List Cell → Type 0 = λ g. run (g ++ rest) is vs last ≡ cond (nat_lt 0 (length g)) (run rest (is ++ pos c ∷ []) (vs ++ sum_on (pos 0) g ∷ []) (Some c)) (run rest is vs last) in
    known (λ _. P (in_column (e ∷ es) c)) (e.0 == c)
    (λ t. let g = in_column es c in
    subst P (sym (column_in c e es t)) (rw (some_long e g) (run_new c e (g ++ rest) is vs last t l ∙ run_same c es rest (is ++ pos c ∷ []) vs (wrapped_sum (pos 0) e.1))))
    (λ t. subst P (sym (column_out c e es t)) (run_group c es rest is vs last l))

abbrev has : List Cell → ℕ → Bool
has es c = nat_lt 0 (length (in_column es c))

run_place : (c : ℕ) (es rest : List Cell) (is vs : List ℤ) (last : Option ℕ) → is_last last c ≡ false
    → run (in_column es c ++ rest) is vs last ≡ cond (has es c) (run rest (is ++ pos c ∷ []) (vs ++ sum_in es c ∷ []) (Some c)) (run rest is vs last)
run_place c es rest is vs last l =
    run_group c es rest is vs last l
    ∙ ap (λ (z : ℤ). cond (has es c) (run rest (is ++ pos c ∷ []) (vs ++ z ∷ []) (Some c)) (run rest is vs last)) (sum_is es c)

-- ---- one row

abbrev Before : Option ℕ → ℕ → Type 0
Before None a = Unit {0}
Before (Some l) a = l < a

before_not : (last : Option ℕ) (a : ℕ) → Before last a → is_last last a ≡ false
before_not None a h = refl
before_not (Some l) a h = grind (arith, nat_tests)

before_more : (last : Option ℕ) (a : ℕ) → Before last a → Before last (a + 1)
before_more None a h = tt
before_more (Some l) a h = omega (arith, h)

abbrev columns_from : List Cell → ℕ → ℕ → List ℕ
columns_from es a k = filter (has es) (range_with_len a k)

columns_in : (es : List Cell) (a k : ℕ) → has es a ≡ true → columns_from es a (suc k) ≡ a ∷ columns_from es (a + 1) k
columns_in es a k e = rw e refl

columns_out : (es : List Cell) (a k : ℕ) → has es a ≡ false → columns_from es a (suc k) ≡ columns_from es (a + 1) k
columns_out es a k e = rw e refl

abbrev End : Type 0
End = List ℤ × List ℤ

abbrev row_end : List Cell → List ℤ → List ℤ → List ℕ → End
row_end es is vs cs = (is ++ map pos cs, vs ++ map (sum_in es) cs)

run_row : (es : List Cell) (a k : ℕ) (is vs : List ℤ) (last : Option ℕ) → Before last a → run (flat_map (in_column es) (range_with_len a k)) is vs last ≡ row_end es is vs (columns_from es a k)
run_row es a zero is vs last h = ap (λ (l : List ℤ). (l, vs)) (sym (append-nil is)) ∙ ap (λ (l : List ℤ). (is ++ [], l)) (sym (append-nil vs))
run_row es a (suc k) is vs last h =
    let tail = flat_map (in_column es) (range_with_len (a + 1) k) in
    run_place a es tail is vs last (before_not last a h)
    ∙ known (λ b. cond b (run tail (is ++ pos a ∷ []) (vs ++ sum_in es a ∷ []) (Some a)) (run tail is vs last) ≡ row_end es is vs (columns_from es a (suc k))) (has es a)
    (λ e. run_row es (a + 1) k (is ++ pos a ∷ []) (vs ++ sum_in es a ∷ []) (Some a) (omega arith)
    ∙ ap (λ (l : List ℤ). (l, (vs ++ sum_in es a ∷ []) ++ map (sum_in es) (columns_from es (a + 1) k))) (append_assoc is (pos a ∷ []) (map pos (columns_from es (a + 1) k)))
    ∙ ap (λ (l : List ℤ). (is ++ map pos (a ∷ columns_from es (a + 1) k), l)) (append_assoc vs (sum_in es a ∷ []) (map (sum_in es) (columns_from es (a + 1) k)))
    ∙ ap (λ (cs : List ℕ). row_end es is vs cs) (sym (columns_in es a k e)))
    (λ e. run_row es (a + 1) k is vs last (before_more last a h) ∙ ap (λ (cs : List ℕ). row_end es is vs cs) (sym (columns_out es a k e)))

run_ascending : (es : List Cell) (n : ℕ) (is vs : List ℤ) → IsAscending es → All (λ e. e.0 < n) es → run es is vs None ≡ (is ++ map pos (row_columns n es), vs ++ map (sum_in es) (row_columns n es))
run_ascending es n is vs up high =
    let all : flat_map (in_column es) (range_with_len 0 n) ≡ es = grouped 0 n es (up_from 0 es (λ k d lt. omega arith) up) (λ k d lt. omega (arith, high k d lt)) in
    ap (λ (l : List Cell). run l is vs None) (sym all) ∙ run_row es 0 n is vs None tt

-- ---- a stable sort by columns keeps each column's cells

less_is : (x y : ℕ) → is_lt (nat_cmp x y) ≡ nat_lt x y
less_is x y =
    known (λ b. is_lt (cond b Less (cond (x == y) Equal Greater)) ≡ b) (nat_lt x y) (λ _. refl)
    (λ _. known (λ b. is_lt (cond b Equal Greater) ≡ false) (x == y) (λ _. refl) (λ _. refl))

tie_is : (c x : ℕ) → (not (is_lt (nat_cmp c x)) && not (is_lt (nat_cmp x c))) ≡ (x == c)
tie_is c x =
    rw (less_is c x, less_is x c)
    (known (λ b. (not b && not (nat_lt x c)) ≡ (x == c)) (nat_lt c x)
    (λ t. let e : (x == c) ≡ false = grind (arith, nat_tests) in sym e)
    (λ t. known (λ b. not b ≡ (x == c)) (nat_lt x c)
    (λ u. let e : (x == c) ≡ false = grind (arith, nat_tests) in sym e)
    (λ u. let e : (x == c) ≡ true = (let le : x ≤ c = grind (arith, nat_tests) in let ge : c ≤ x = grind (arith, nat_tests) in grind (arith, nat_tests)) in sym e)))

columns_stay : (xs ys : List Cell) → IsStableByKey (λ (e : Cell). e.0) nat_cmp xs ys → (c : ℕ) → in_column ys c ≡ in_column xs c
columns_stay xs ys stable c =
    let tie : Cell → Bool = ties (λ (x y : Cell). is_lt (nat_cmp x.0 y.0)) (c, pos 0) in
    let agree : (l : List Cell) → filter tie l ≡ in_column l c = filter_agree tie (λ e. e.0 == c) (λ e. tie_is c e.0) in
    sym (agree ys) ∙ stable (c, pos 0) ∙ agree xs

places_stay : (xs ys : List Cell) (n : ℕ) → ((c : ℕ) → in_column ys c ≡ in_column xs c) → row_columns n ys ≡ row_columns n xs
places_stay xs ys n h = filter_agree (has ys) (has xs) (λ c. ap (λ (l : List Cell). nat_lt 0 (length l)) (h c)) (range_with_len 0 n)

sums_stay : (xs ys : List Cell) (n : ℕ) → ((c : ℕ) → in_column ys c ≡ in_column xs c) → map (sum_in ys) (row_columns n ys) ≡ map (sum_in xs) (row_columns n xs)
sums_stay xs ys n h =
    ap (map (sum_in ys)) (places_stay xs ys n h)
    ∙ map_agree (sum_in ys) (sum_in xs) (λ c. ap (λ (l : List Cell). wrapped (fold (λ z e. z +ℤ e.1) (pos 0) l)) (h c)) (row_columns n xs)

abbrev Stored : ℕ → List Cell → List ℤ → List ℤ → List ℤ → List ℤ → Type 0
Stored n cells is vs is' vs' = (is' ≡ is ++ map pos (row_columns n cells)) × (vs' ≡ vs ++ map (sum_in cells) (row_columns n cells))

pub stored_ascending : (cells : List Cell) (n : ℕ) (is vs is' vs' : List ℤ) → IsAscending cells → All (λ e. e.0 < n) cells → run cells is vs None ≡ (is', vs') → Stored n cells is vs is' vs'
stored_ascending cells n is vs is' vs' up high e =
    let f = sym e ∙ run_ascending cells n is vs up high in
    (ap (λ (x : End). x.0) f, ap (λ (x : End). x.1) f)

pub stored_sorted : (cells sorted : List Cell) (n : ℕ) (is vs is' vs' : List ℤ) → IsPermutation cells sorted → IsStableByKey (λ (e : Cell). e.0) nat_cmp cells sorted → IsAscending sorted → All (λ e. e.0 < n) cells → run sorted is vs None ≡ (is', vs') → Stored n cells is vs is' vs'
stored_sorted cells sorted n is vs is' vs' same stable up high e =
    let h = stored_ascending sorted n is vs is' vs' up (All-permutation (λ (e : Cell). e.0 < n) cells sorted same high) e in
    let stay = columns_stay cells sorted stable in
    (h.0 ∙ ap (λ (cs : List ℕ). is ++ map pos cs) (places_stay cells sorted n stay), h.1 ∙ ap (λ (l : List ℤ). vs ++ l) (sums_stay cells sorted n stay))

-- ---- the first column from a row on

get_or_pos : (cs : List ℕ) (k : ℕ) → get_or (map pos cs) k (pos 0) ≡ pos (get_or cs k 0)
get_or_pos [] k = refl
get_or_pos (c ∷ cs) zero = refl
get_or_pos (c ∷ cs) (suc k) = get_or_pos cs k

less_pos : (a b : ℕ) → pos a <ℤ pos b → a < b
less_pos a b h = omega (arith, ints, h)

le_pos : (a b : ℕ) → pos a ≤ℤ pos b → a ≤ b
le_pos a b h = omega (arith, ints, h)

pub first_is : (row i : ℕ) (ns : List ℤ) (cs : List ℕ) → ns ≡ map pos cs → i ≤ length ns → ((k : ℕ) → k < i → get_or ns k (pos 0) <ℤ pos row) → (i < length ns → pos row ≤ℤ get_or ns i (pos 0)) → i ≡ position_or_len (λ c. nat_le row c) cs
first_is row i ns cs e le before here =
    let len : length ns ≡ length cs = ap length e ∙ length-map cs pos in
    sym (position_or_len_is (λ c. nat_le row c) cs i 0 (omega (arith, len))
    (λ k lt. let h : get_or cs k 0 < row = less_pos (get_or cs k 0) row (subst (λ (z : ℤ). z <ℤ pos row) (ap (λ (l : List ℤ). get_or l k (pos 0)) e ∙ get_or_pos cs k) (before k lt)) in grind (arith, nat_tests))
    (λ lt. let h : row ≤ get_or cs i 0 = le_pos row (get_or cs i 0) (subst (λ (z : ℤ). pos row ≤ℤ z) (ap (λ (l : List ℤ). get_or l i (pos 0)) e ∙ get_or_pos cs i) (here (omega (arith, len)))) in grind (arith, nat_tests)))
