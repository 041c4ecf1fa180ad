-- What is read lies inside the matrix.
use Rattle.std.proofs.Common.{◌≡◌, ℕ, ℤ, pos, negsuc, ◌*◌, ◌<◌, ◌≤◌, Bool, true, false, cond, List, [], ◌∷◌, ◌++◌, length, take, drop, Option, Some, None, Result, Ok, Err, refl, ap, subst, arith}
use Rattle.std.specs.Prelude.{◌&&◌, ◌==◌, nat_lt}
use Rattle.std.specs.List.{All}
use Rattle.std.proofs.lemmas.Bool.Decides.{nat_tests}
use Rattle.std.proofs.lemmas.List.{length-append, length-take}
use Rattle.std.proofs.lemmas.List.Elements.{All-nil, All-cons, All-append}
use Rattle.text_base.specs.Numbers.{integer}
use Rattle.mtx_read.specs.declared.refusal.EntryKind.{EntryKind}
use Rattle.mtx_read.specs.declared.refusal.EntryKind.TheVariants as kinds
use Rattle.mtx_read.specs.declared.refusal.MtxRefusal.{MtxRefusal}
use Rattle.mtx_read.specs.declared.refusal.MtxRefusal.TheVariants as refusals
use Rattle.mtx_read.specs.declared.header.Field.{Field}
use Rattle.mtx_read.specs.declared.header.Field.TheVariants as fields
use Rattle.mtx_read.specs.declared.header.Symmetry.{Symmetry}
use Rattle.mtx_read.specs.declared.header.Symmetry.TheVariants.{General, Symmetric, Skew}
use Rattle.mtx_read.specs.declared.size.Shape.{Shape}
use Rattle.mtx_read.specs.Reading.{◌>>=◌, at_line, items_of, without_extra, announced}
use Rattle.mtx_read.specs.Entry.{fits_word, is_index, place_of, placed, ranged, valued, entry_by, entry, mirrored}
use Rattle.mtx_read.specs.Size.{is_square}
use Rattle.mtx_read.proofs.Rows.{bind_ok}

abbrev Triple : Type 0
Triple = ℕ × ℕ × ℤ

abbrev Within : ℕ → ℕ → Triple → Type 0
Within m n t = (t.0 < m) × (t.1 < n)

known : (P : Bool → Type 0) (b : Bool) → ((b ≡ true) → P true) → ((b ≡ false) → P false) → P b
known P true at_true at_false = at_true refl
known P false at_true at_false = at_false refl

both : (a b : Bool) → (a && b) ≡ true → (a ≡ true) × (b ≡ true)
both true b e = (refl, e)
both false b e = absurd cc

-- ---- one entry

index_place : (limit : ℕ) (z : ℤ) → is_index limit z ≡ true → place_of z < limit
index_place limit (pos n) e = grind (arith, nat_tests)
index_place limit (negsuc n) e = absurd cc

abbrev Entry : Type 0
Entry = Result Triple EntryKind

abbrev good : Triple → Entry
good e = Ok e

good_is : (x y : Triple) → good x ≡ good y → x ≡ y
good_is x y e = cc

placed_is : (s : Symmetry) (i j : ℕ) (a : ℤ) (e : Triple) → placed s i j a ≡ Ok e → (i, j, a) ≡ e
placed_is General i j a e h = good_is _ _ h
placed_is Symmetric i j a e h =
    known (λ v. cond v (Err kinds.AboveDiagonal) (Ok (i, j, a)) ≡ good e → (i, j, a) ≡ e) (nat_lt i j) (λ _ f. absurd cc) (λ _ f. good_is _ _ f) h
placed_is Skew i j a e h =
    known (λ v. cond v (Err kinds.AboveDiagonal) (cond (i == j) (Err kinds.OnDiagonal) (Ok (i, j, a))) ≡ good e → (i, j, a) ≡ e) (nat_lt i j)
    (λ _ f. absurd cc)
    (λ _ f. known (λ v. cond v (Err kinds.OnDiagonal) (Ok (i, j, a)) ≡ good e → (i, j, a) ≡ e) (i == j) (λ _ g. absurd cc) (λ _ g. good_is _ _ g) f)
    h

ranged_within : (shape : Shape) (i j a : ℤ) (e : Triple) → ranged shape i j a ≡ Ok e → Within shape.rows shape.columns e
ranged_within shape i j a e h =
    known (λ v. cond v (placed shape.symmetry (place_of i) (place_of j) a) (Err kinds.Range) ≡ good e → Within shape.rows shape.columns e) (is_index shape.rows i && is_index shape.columns j)
    (λ t f. let p = both _ _ t in
    subst (λ (x : Triple). Within shape.rows shape.columns x) (placed_is shape.symmetry (place_of i) (place_of j) a e f) (index_place shape.rows i p.0, index_place shape.columns j p.1))
    (λ _ f. absurd cc)
    h

valued_within : (shape : Shape) (i j a : Option ℤ) (e : Triple) → valued shape i j a ≡ Ok e → Within shape.rows shape.columns e
valued_within shape None j a e h = absurd cc
valued_within shape (Some i) None a e h = absurd cc
valued_within shape (Some i) (Some j) None e h = absurd cc
valued_within shape (Some i) (Some j) (Some a) e h =
    known (λ v. cond v (ranged shape i j a) (Err kinds.Wide) ≡ good e → Within shape.rows shape.columns e) (fits_word a) (λ _ f. ranged_within shape i j a e f) (λ _ f. absurd cc) h

entry_within : (f : Field) (shape : Shape) (ws : List (List ℕ)) (e : Triple) → entry_by f shape ws ≡ Ok e → Within shape.rows shape.columns e
entry_within fields.Integer shape [] e h = absurd cc
entry_within fields.Integer shape (i ∷ []) e h = absurd cc
entry_within fields.Integer shape (i ∷ j ∷ []) e h = absurd cc
entry_within fields.Integer shape (i ∷ j ∷ a ∷ []) e h = valued_within shape (integer i) (integer j) (integer a) e h
entry_within fields.Integer shape (i ∷ j ∷ a ∷ b ∷ ws) e h = absurd cc
entry_within fields.Pattern shape [] e h = absurd cc
entry_within fields.Pattern shape (i ∷ []) e h = absurd cc
entry_within fields.Pattern shape (i ∷ j ∷ []) e h = valued_within shape (integer i) (integer j) (Some (pos 1)) e h
entry_within fields.Pattern shape (i ∷ j ∷ a ∷ ws) e h = absurd cc

-- ---- with its mirror

one_within : (m n : ℕ) (e : Triple) → Within m n e → All (Within m n) (e ∷ [])
one_within m n e h = All-cons (Within m n) e [] h (All-nil (Within m n))

two_within : (m n : ℕ) (e : Triple) (a : ℤ) → m ≡ n → Within m n e → All (Within m n) (e ∷ (e.1, e.0, a) ∷ [])
two_within m n e a same h = All-cons (Within m n) e ((e.1, e.0, a) ∷ []) h (one_within m n (e.1, e.0, a) (omega (arith, same, h.1), omega (arith, same, h.0)))

mirrored_within : (s : Symmetry) (m n : ℕ) (e : Triple) → is_square s m n ≡ true → Within m n e → All (Within m n) (mirrored s e) × (length (mirrored s e) ≤ 2)
mirrored_within General m n e q h = (one_within m n e h, omega arith)
mirrored_within Symmetric m n e q h =
    let same : m ≡ n = grind (arith, nat_tests) in
    known (λ v. All (Within m n) (cond v (e ∷ []) (e ∷ (e.1, e.0, e.2) ∷ [])) × (length (cond v (e ∷ []) (e ∷ (e.1, e.0, e.2) ∷ [])) ≤ 2)) (e.0 == e.1)
    (λ _. (one_within m n e h, omega arith))
    (λ _. (two_within m n e e.2 same h, omega arith))
mirrored_within Skew m n e q h =
    let same : m ≡ n = grind (arith, nat_tests) in
    (two_within m n e _ same h, omega arith)

-- ---- all entries

at_ok : {A : Type 0} (k : ℕ) (r : Result A EntryKind) (x : A) → at_line k r ≡ Ok x → r ≡ Ok x
at_ok k (Ok y) x e = let same : y ≡ x = cc in ap (λ z. Ok z) same
at_ok k (Err d) x e = absurd cc

abbrev done : List Triple → Result (List Triple) MtxRefusal
done x = Ok x

done_is : (x y : List Triple) → done x ≡ done y → x ≡ y
done_is x y e = cc

items_within : (shape : Shape) → is_square shape.symmetry shape.rows shape.columns ≡ true → (ls : List (ℕ × List (List ℕ))) (es : List Triple) → items_of (entry shape) (mirrored shape.symmetry) ls ≡ Ok es → All (Within shape.rows shape.columns) es × (length es ≤ 2 * length ls)
items_within shape q [] es h =
    let none : [] ≡ es = done_is _ _ h in
    (subst (λ (l : List Triple). All (Within shape.rows shape.columns) l) none (All-nil (Within shape.rows shape.columns)), omega (arith, ap length none))
items_within shape q (l ∷ ls) es h =
    let spread = mirrored shape.symmetry in
    let a = bind_ok (at_line l.0 (entry shape l.1)) (λ e. items_of (entry shape) spread ls >>= λ es. Ok (spread e ++ es)) es h in
    let b = bind_ok (items_of (entry shape) spread ls) (λ es. Ok (spread a.0 ++ es)) es a.2 in
    let made : spread a.0 ++ b.0 ≡ es = done_is _ _ b.2 in
    let one = mirrored_within shape.symmetry shape.rows shape.columns a.0 q (entry_within shape.field shape l.1 a.0 (at_ok l.0 (entry shape l.1) a.0 a.1)) in
    let more = items_within shape q ls b.0 b.1 in (
      subst (λ (x : List Triple). All (Within shape.rows shape.columns) x) made (All-append (Within shape.rows shape.columns) (spread a.0) b.0 one.0 more.0),
      omega (arith, ap length made, length-append (spread a.0) b.0, one.1, more.1),
    )

without_is : (ls : List (ℕ × List (List ℕ))) (x y : List Triple) → without_extra ls x ≡ Ok y → x ≡ y
without_is [] x y e = done_is _ _ e
without_is (l ∷ ls) x y e = absurd cc

pub announced_within : (shape : Shape) → is_square shape.symmetry shape.rows shape.columns ≡ true → (ls : List (ℕ × List (List ℕ))) (es : List Triple) → announced (entry shape) (mirrored shape.symmetry) shape.stored ls ≡ Ok es → All (Within shape.rows shape.columns) es × (length es ≤ 2 * shape.stored)
announced_within shape q ls es h =
    let a = bind_ok (items_of (entry shape) (mirrored shape.symmetry) (take shape.stored ls)) (λ es. cond (nat_lt (length ls) shape.stored) (Err (refusals.Short (length ls) shape.stored)) (without_extra (drop shape.stored ls) es)) es h in
    let same : a.0 ≡ es = known (λ v. cond v (Err (refusals.Short (length ls) shape.stored)) (without_extra (drop shape.stored ls) a.0) ≡ done es → a.0 ≡ es) (nat_lt (length ls) shape.stored) (λ _ f. absurd cc) (λ _ f. without_is _ _ _ f) a.2 in
    let w = items_within shape q (take shape.stored ls) a.0 a.1 in
    (subst (λ (x : List Triple). All (Within shape.rows shape.columns) x) same w.0, omega (arith, ap length same, w.1, length-take shape.stored ls))
