-- Arrays have the lengths that their declarations name.
use Rattle.std.proofs.Common.{◌≡◌, ℕ, zero, suc, ℤ, pos, ◌+◌, ◌<◌, ◌≤◌, false, IsTrue, cond, List, [], ◌∷◌, ◌++◌, length, map, slice_get, slice_index_or, Option, Some, None, Ok, refl, sym, ◌∙◌, subst, arith}
use Rattle.std.specs.Prelude.{if◌then◌else◌, ◌==◌}
use Rattle.std.specs.List.{count_by, flat_map, range_with_len}
use Rattle.std.specs.Option.{option_map, option_map_or}
use Rattle.std.proofs.lemmas.Bool.{false≢true}
use Rattle.std.proofs.lemmas.Bool.Decides.{nat_tests}
use Rattle.std.proofs.lemmas.List.{length-append, length-map, length-replicate}
use Rattle.std.proofs.lemmas.List.FromFn.{length-map-range_with_len}
use Rattle.std.proofs.lemmas.List.Sums.{sum_by-cons}
use Rattle.std.proofs.lemmas.Option.{none-some}
use Rattle.wave_base.specs.declared.types.ArrayId.{ArrayId}
use Rattle.loop_core.specs.declared.decl.Decl.{Decl}
use Rattle.loop_core.specs.declared.decl.DeclKind.{DeclKind}
use Rattle.loop_core.specs.declared.decl.DeclKind.TheVariants.{Matrix, Index, Vector}
use Rattle.loop_core.specs.declared.decl.Form.{Form}
use Rattle.loop_core.specs.declared.decl.Form.TheVariants.{Csr, Csc}
use Rattle.loop_core.specs.declared.decl.Size.{Size}
use Rattle.loop_core.specs.declared.decl.Source.TheVariants.{File, Zeros}
use Rattle.loop_core.specs.IsNest.{is_matrix}
use Rattle.loop_core.specs.Lists.{list_of}
use Rattle.loop_core.specs.Sizes.{Kind, Places, Data, holds_places, holds_data, kinds, kinds_of, sizes, sizes_of, size_length}
use Rattle.csr_arrays.specs.Axes.{Triple, flipped}
use Rattle.csr_arrays.specs.Arrays.{pointer, diagonal, columns, value_at}
use Rattle.csr_arrays.specs.declared.compressed.Compressed.{Compressed}
use Rattle.csr_arrays.proofs.Buckets.{known}
use Rattle.array_bind.specs.declared.bind.Bound.{Bound}
use Rattle.array_bind.specs.declared.shape.OtherLength.{OtherLength}
use Rattle.array_bind.specs.declared.shape.ShapeRefusal.TheVariants as refusals
use Rattle.array_bind.specs.Matrix.{matrix_form, by_rows, compressed}
use Rattle.array_bind.specs.Shape.{file_size, before, file_sizes, length_fault, length_refusal, stored, files_fault, shape_fault}
use Rattle.array_bind.specs.Lists.{first_file, other_files, files_after, index_of, data_of, matrix_after, index_lists, data_lists, bound_of, Binds}
use Rattle.array_bind.specs.Lengths.{AreDeclared}

-- ---- the arrays of a matrix

record IsWhole (n nnz : ℕ) (m : Compressed) : Type 0 where
  pub ptr : length m.ptr ≡ n + 1
  pub index : length m.index ≡ nnz
  pub diag : length m.diag ≡ n
  pub val : length m.val ≡ nnz

as_long : (f g : ℕ → List ℤ) → ((r : ℕ) → length (f r) ≡ length (g r)) → (rs : List ℕ) → length (flat_map f rs) ≡ length (flat_map g rs)
as_long f g h [] = refl
as_long f g h (r ∷ rs) = let e = length-append (f r) (flat_map f rs) in let k = length-append (g r) (flat_map g rs) in omega (arith, e, k, h r, as_long f g h rs)

rows_whole : (n : ℕ) (ts : List Triple) → IsWhole n (length (by_rows n ts).index) (by_rows n ts)
rows_whole n ts = record {
  ptr = length-map-range_with_len (λ i. pos (pointer n ts i)) 0 (n + 1);
  index = refl;
  diag = length-map-range_with_len (λ i. pos (diagonal n ts i)) 0 n;
  val = as_long (λ r. map (value_at ts r) (columns n ts r)) (λ r. map pos (columns n ts r)) (λ r. length-map (columns n ts r) (value_at ts r) ∙ sym (length-map (columns n ts r) pos)) (range_with_len 0 n);
}

whole : (form : Form) (n : ℕ) (ts : List Triple) → IsWhole n (length (compressed form n ts).index) (compressed form n ts)
whole Csr n ts = rows_whole n ts
whole Csc n ts = rows_whole n (map flipped ts)

-- ---- the files

abbrev FilesFit : ℕ → ℕ → List Size → List (List ℤ) → Type 0
FilesFit n nnz [] files = Unit {0}
FilesFit n nnz (size ∷ more) files = (length (first_file files) ≡ size_length n nnz size) × FilesFit n nnz more (other_files files)

equal_then : {X : Type 0} (a b : ℕ) (o : Option X) (x : X) → (if a == b then o else Some x) ≡ None → (a ≡ b) × (o ≡ None)
equal_then a b o x =
    known (λ t. (if t then o else Some x) ≡ None → (a ≡ b) × (o ≡ None)) (a == b)
    (λ e h. let same : a ≡ b = grind (arith, nat_tests) in (same, h))
    (λ e h. absurd (none-some x (sym h)))

fault_free : (n nnz k : ℕ) (ss : List Size) (files : List (List ℤ)) → length files ≡ length ss → length_fault n nnz k ss files ≡ None → FilesFit n nnz ss files
fault_free n nnz k [] files long none = tt
fault_free n nnz k (s ∷ ss) [] long none = absurd (omega (arith, long))
fault_free n nnz k (s ∷ ss) (f ∷ fs) long none =
    let h = equal_then (length f) (size_length n nnz s) (length_fault n nnz (k + 1) ss fs) (record { file = k; have = length f; want = size_length n nnz s }) none in
    (h.0, fault_free n nnz (k + 1) ss fs (omega (arith, long)) h.1)

-- ---- what each declaration takes has its length

abbrev Takes : ℕ → ℕ → Compressed → DeclKind → List (List ℤ) → Type 0
Takes n nnz m (Matrix form) files = IsWhole n nnz m
Takes n nnz m (Index size) files = length (first_file files) ≡ size_length n nnz size
Takes n nnz m (Vector size File) files = length (first_file files) ≡ size_length n nnz size
Takes n nnz m (Vector size Zeros) files = Unit {0}

abbrev AllTake : ℕ → ℕ → Compressed → List Decl → List (List ℤ) → Type 0
AllTake n nnz m [] files = Unit {0}
AllTake n nnz m (d ∷ ds) files = Takes n nnz m d.kind files × AllTake n nnz (matrix_after d.kind m) ds (files_after d.kind files)

-- how many matrices a declaration has, and declarations have
abbrev one_matrix : DeclKind → ℕ
one_matrix kind = cond (is_matrix kind) 1 0

abbrev matrices : List Decl → ℕ
matrices ds = count_by (λ d. is_matrix d.kind) ds

takes : (n nnz : ℕ) (kind : DeclKind) (m : Compressed) (c : ℕ) (ss : List Size) (files : List (List ℤ)) → one_matrix kind + c ≤ 1 → (0 < one_matrix kind + c → IsWhole n nnz m) → FilesFit n nnz (before (file_size kind) ss) files
    → Takes n nnz m kind files × (c ≤ 1) × (0 < c → IsWhole n nnz (matrix_after kind m)) × FilesFit n nnz ss (files_after kind files)
takes n nnz (Matrix form) m c ss files few all fit = (all (omega arith), omega (arith, few), λ some. absurd (omega (arith, few, some)), fit)
takes n nnz (Index size) m c ss files few all fit = (fit.0, omega (arith, few), λ some. all (omega (arith, some)), fit.1)
takes n nnz (Vector size File) m c ss files few all fit = (fit.0, omega (arith, few), λ some. all (omega (arith, some)), fit.1)
takes n nnz (Vector size Zeros) m c ss files few all fit = (tt, omega (arith, few), λ some. all (omega (arith, some)), fit)

all_take : (n nnz : ℕ) (m : Compressed) (ds : List Decl) (files : List (List ℤ)) → matrices ds ≤ 1 → (0 < matrices ds → IsWhole n nnz m) → FilesFit n nnz (file_sizes ds) files → AllTake n nnz m ds files
all_take n nnz m [] files few all fit = tt
all_take n nnz m (d ∷ ds) files few all fit =
    let e : matrices (d ∷ ds) ≡ one_matrix d.kind + matrices ds = sum_by-cons (λ d. one_matrix d.kind) d ds in
    let h = takes n nnz d.kind m (matrices ds) (file_sizes ds) files (subst (λ k. k ≤ 1) e few) (λ some. all (subst (λ k. 0 < k) (sym e) some)) fit in
    (h.0, all_take n nnz (matrix_after d.kind m) ds (files_after d.kind files) h.1 h.2 h.3)

-- ---- the lists at an array number

abbrev Right : ℕ → ℕ → Option Kind → Option Size → List ℤ → List ℤ → Type 0
Right n nnz (Some Places) size f x = (length f ≡ option_map_or (size_length n nnz) size 0) × (x ≡ [])
Right n nnz (Some Data) size f x = (length x ≡ option_map_or (size_length n nnz) size 0) × (f ≡ [])
Right n nnz None size f x = Unit {0}

abbrev RightAt : ℕ → ℕ → List Kind → List Size → List (List ℤ) → List (List ℤ) → ℕ → Type 0
RightAt n nnz ks ss fs xs i = Right n nnz (slice_get ks i) (slice_get ss i) (slice_index_or fs i []) (slice_index_or xs i [])

right_one : (n nnz : ℕ) (kind : DeclKind) (m : Compressed) (files : List (List ℤ)) (ks : List Kind) (ss : List Size) (fs xs : List (List ℤ)) → Takes n nnz m kind files → ((i : ℕ) → RightAt n nnz ks ss fs xs i)
    → (i : ℕ) → RightAt n nnz (kinds_of kind ++ ks) (sizes_of kind ++ ss) (index_of m kind files ++ fs) (data_of n nnz m kind files ++ xs) i
right_one n nnz (Matrix form) m files ks ss fs xs t h zero = (t.ptr, refl)
right_one n nnz (Matrix form) m files ks ss fs xs t h (suc zero) = (t.index, refl)
right_one n nnz (Matrix form) m files ks ss fs xs t h (suc (suc zero)) = (t.diag, refl)
right_one n nnz (Matrix form) m files ks ss fs xs t h (suc (suc (suc zero))) = (t.val, refl)
right_one n nnz (Matrix form) m files ks ss fs xs t h (suc (suc (suc (suc i)))) = h i
right_one n nnz (Index size) m files ks ss fs xs t h zero = (t, refl)
right_one n nnz (Index size) m files ks ss fs xs t h (suc i) = h i
right_one n nnz (Vector size File) m files ks ss fs xs t h zero = (t, refl)
right_one n nnz (Vector size File) m files ks ss fs xs t h (suc i) = h i
right_one n nnz (Vector size Zeros) m files ks ss fs xs t h zero = (length-replicate (size_length n nnz size) (pos 0), refl)
right_one n nnz (Vector size Zeros) m files ks ss fs xs t h (suc i) = h i

right : (n nnz : ℕ) (m : Compressed) (ds : List Decl) (files : List (List ℤ)) → AllTake n nnz m ds files → (i : ℕ) → RightAt n nnz (kinds ds) (sizes ds) (index_lists m ds files) (data_lists n nnz m ds files) i
right n nnz m [] files t i = tt
right n nnz m (d ∷ ds) files t i =
    right_one n nnz d.kind m files (kinds ds) (sizes ds) (index_lists (matrix_after d.kind m) ds (files_after d.kind files)) (data_lists n nnz (matrix_after d.kind m) ds (files_after d.kind files)) t.0
    (right n nnz (matrix_after d.kind m) ds (files_after d.kind files) t.1) i

of_places : (n nnz : ℕ) (kind : Option Kind) (size : Option Size) (f x : List ℤ) → Right n nnz kind size f x → IsTrue (option_map_or holds_places kind false) → (length f ≡ option_map_or (size_length n nnz) size 0) × (x ≡ [])
of_places n nnz (Some Places) size f x r h = r
of_places n nnz (Some Data) size f x r h = absurd (false≢true h)
of_places n nnz None size f x r h = absurd (false≢true h)

of_data : (n nnz : ℕ) (kind : Option Kind) (size : Option Size) (f x : List ℤ) → Right n nnz kind size f x → IsTrue (option_map_or holds_data kind false) → (length x ≡ option_map_or (size_length n nnz) size 0) × (f ≡ [])
of_data n nnz (Some Places) size f x r h = absurd (false≢true h)
of_data n nnz (Some Data) size f x r h = r
of_data n nnz None size f x r h = absurd (false≢true h)

-- ---- how many lists

one_index : (m : Compressed) (kind : DeclKind) (files : List (List ℤ)) → length (index_of m kind files) ≡ length (sizes_of kind)
one_index m (Matrix form) files = refl
one_index m (Index size) files = refl
one_index m (Vector size source) files = refl

many_index : (m : Compressed) (ds : List Decl) (files : List (List ℤ)) → length (index_lists m ds files) ≡ length (sizes ds)
many_index m [] files = refl
many_index m (d ∷ ds) files =
    let rest = index_lists (matrix_after d.kind m) ds (files_after d.kind files) in
    let e = length-append (index_of m d.kind files) rest in
    let k = length-append (sizes_of d.kind) (sizes ds) in
    omega (arith, e, k, one_index m d.kind files, many_index (matrix_after d.kind m) ds (files_after d.kind files))

one_data : (n nnz : ℕ) (m : Compressed) (kind : DeclKind) (files : List (List ℤ)) → length (data_of n nnz m kind files) ≡ length (sizes_of kind)
one_data n nnz m (Matrix form) files = refl
one_data n nnz m (Index size) files = refl
one_data n nnz m (Vector size File) files = refl
one_data n nnz m (Vector size Zeros) files = refl

many_data : (n nnz : ℕ) (m : Compressed) (ds : List Decl) (files : List (List ℤ)) → length (data_lists n nnz m ds files) ≡ length (sizes ds)
many_data n nnz m [] files = refl
many_data n nnz m (d ∷ ds) files =
    let rest = data_lists n nnz (matrix_after d.kind m) ds (files_after d.kind files) in
    let e = length-append (data_of n nnz m d.kind files) rest in
    let k = length-append (sizes_of d.kind) (sizes ds) in
    omega (arith, e, k, one_data n nnz m d.kind files, many_data n nnz (matrix_after d.kind m) ds (files_after d.kind files))

-- ---- all arrays

no_other : (o : Option OtherLength) → option_map length_refusal o ≡ None → o ≡ None
no_other None e = refl
no_other (Some other) e = absurd (none-some (length_refusal other) (sym e))

files_fit : (decls : List Decl) (n columns : ℕ) (ts : List Triple) (files : List (List ℤ)) → shape_fault decls n columns ts files ≡ None → FilesFit n (stored decls n ts) (file_sizes decls) files
files_fit decls n columns ts files none =
    let square = equal_then n columns (files_fault decls n ts files) (refusals.NotSquare n columns) none in
    let many = equal_then (length files) (length (file_sizes decls)) (option_map length_refusal (length_fault n (stored decls n ts) 0 (file_sizes decls) files)) (refusals.Files (length files) (length (file_sizes decls))) square.1 in
    fault_free n (stored decls n ts) 0 (file_sizes decls) files many.0 (no_other (length_fault n (stored decls n ts) 0 (file_sizes decls) files) many.1)

declared : (decls : List Decl) (n columns : ℕ) (ts : List Triple) (files : List (List ℤ)) → matrices decls ≡ 1 → shape_fault decls n columns ts files ≡ None → AreDeclared decls (bound_of decls n ts files)
declared decls n columns ts files one none =
    let m = compressed (matrix_form decls) n ts in
    let nnz = stored decls n ts in
    let taken = all_take n nnz m decls files (omega (arith, one)) (λ some. whole (matrix_form decls) n ts) (files_fit decls n columns ts files none) in
    let fs = index_lists m decls files in
    let xs = data_lists n nnz m decls files in
    let at_places = λ (array : ArrayId). of_places n nnz (slice_get (kinds decls) array.0) (slice_get (sizes decls) array.0) (list_of fs array) (list_of xs array) (right n nnz m decls files taken array.0) in
    let at_data = λ (array : ArrayId). of_data n nnz (slice_get (kinds decls) array.0) (slice_get (sizes decls) array.0) (list_of fs array) (list_of xs array) (right n nnz m decls files taken array.0) in
    record {
      have_lengths = record { of_index = λ array h. (at_places array h).0; of_data = λ array h. (at_data array h).0 };
      index_lists = many_index m decls files;
      data_lists = many_data n nnz m decls files;
      no_index = λ array h. (at_data array h).1;
      no_data = λ array h. (at_places array h).1;
    }

pub bound_is_declared : (decls : List Decl) (rows columns : ℕ) (ts : List Triple) (files : List (List ℤ)) (bound : Bound) → matrices decls ≡ 1 → Binds decls rows columns ts files (Ok bound) → AreDeclared decls bound
bound_is_declared decls rows columns ts files bound one binds = subst (AreDeclared decls) (sym binds.1) (declared decls rows columns ts files one binds.0)
