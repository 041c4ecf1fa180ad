-- Files, and bytes that they may have.
use Rattle.std.proofs.Common.{ℕ, zero, suc, ◌≡◌, ◌⊎◌, inl, inr, ◌<◌, ◌≤◌, ◌+◌, ◌-◌, ◌^◌, List, [], ◌∷◌, ◌++◌, Option, Some, None, length, map, drop, Bool, true, false, nat_lt, refl, sym, ◌∙◌, ap, subst, arith, replicate}
use Rattle.std.proofs.lemmas.Bool.Decides.{nat_tests}
use Rattle.std.specs.Prelude.{IfSome, Vec, String, string_bytes, get_or, take, Result, Ok, Err, IsErrAnd, IfErr, MatchResult}
use Rattle.wave_io.specs.Faults.{Rose}
use Rattle.wave_words.specs.Words.{texts}
use Rattle.wave_main.specs.declared.status.Status.{Status}
use Rattle.wave_main.specs.declared.status.Status.TheVariants.{ReadFault, Memory}
use Rattle.std.specs.declared.alloc.Global.{Global}
use Rattle.std.proofs.lemmas.List.{length-append, length-replicate, length-drop, get_or-drop, ext_get_or, length-map}
use Rattle.wave_words.specs.declared.form.Form.{Form}
use Rattle.wave_main.specs.declared.fetch.InputBytes.{InputBytes}
use Rattle.wave_main.specs.Answers.{AreFilesOf, AreTold}
use Rattle.wave_main.specs.Commands.{IsAsked, IsFilePlace, first_file, inputs_of, reads_files, skipped}
use Rattle.wave_main.specs.Fetching.{IsInputFetched, IsInputFault, IsFaultFrom}
use Rattle.wave_main.specs.Files.{Inputs, MayBe, IsFetched, IsOfFile, AreFetched, MayBeAll, AreOfFiles, word_of}
use Rattle.wave_main.proofs.WordLaws.{one_form}

pub some_long : (limit : ℕ) (told : Option (List ℕ)) → IfSome told (λ all. limit < length all)
    → (bytes : List ℕ) × MayBe told bytes × (limit < length bytes)
some_long limit None long =
    let bytes : List ℕ = replicate (limit + 1) 0 in
    (bytes, tt, let e : length bytes ≡ limit + 1 = length-replicate (limit + 1) 0 in omega (arith, e))
some_long limit (Some all) long = (all, refl, long)

-- the same file in a library that tells the same
pub of_same_file : (limit : ℕ) (told now_told : Option (List ℕ)) (got : Option (Vec ℕ Global)) → told ≡ now_told → IsOfFile limit told got → IsOfFile limit now_told got
of_same_file limit told now_told got same file = let P : Option (List ℕ) → Type 0 = λ t. IsOfFile limit t got in subst P same file

-- one more file after others
may_be_more : (held : List ℕ → Option (List ℕ)) (names : List (List ℕ)) (files : List (List ℕ)) (name bytes : List ℕ) → MayBeAll held names files → MayBe (held name) bytes
    → MayBeAll held (names ++ name ∷ []) (files ++ bytes ∷ [])
may_be_more held [] [] name bytes all one = (one, tt)
may_be_more held (n ∷ ns) (f ∷ fs) name bytes (first, rest) one = (first, may_be_more held ns fs name bytes rest one)
may_be_more held [] (f ∷ fs) name bytes all one = absurd all
may_be_more held (n ∷ ns) [] name bytes all one = absurd all

fetched_more : (files : List (List ℕ)) (got : List (Option (Vec ℕ Global))) (bytes : List ℕ) (one : Option (Vec ℕ Global)) → AreFetched (2 ^ 28) files got → IsFetched (2 ^ 28) bytes one
    → AreFetched (2 ^ 28) (files ++ bytes ∷ []) (got ++ one ∷ [])
fetched_more [] [] bytes one all is = (is, tt)
fetched_more (f ∷ fs) (g ∷ gs) bytes one (first, rest) is = (first, fetched_more fs gs bytes one rest is)
fetched_more [] (g ∷ gs) bytes one all is = absurd all
fetched_more (f ∷ fs) [] bytes one all is = absurd all

pub one_more_file : (held : List ℕ → Option (List ℕ)) (names : List (List ℕ)) (name : List ℕ) (got : List (Option (Vec ℕ Global))) (one : Option (Vec ℕ Global))
    → AreOfFiles held names got → IsOfFile (2 ^ 28) (held name) one → AreOfFiles held (names ++ name ∷ []) (got ++ one ∷ [])
one_more_file held names name got one (files, may, are) (bytes, may_one, is) =
    (files ++ bytes ∷ [], may_be_more held names files name bytes may may_one, fetched_more files got bytes one are is)

pub may_be_lengths : (held : List ℕ → Option (List ℕ)) (names files : List (List ℕ)) → MayBeAll held names files → length files ≡ length names
may_be_lengths held [] [] all = refl
may_be_lengths held (n ∷ ns) (f ∷ fs) (first, rest) = let e = may_be_lengths held ns fs rest in omega (arith, e)
may_be_lengths held [] (f ∷ fs) all = absurd all
may_be_lengths held (n ∷ ns) [] all = absurd all

pub fetched_lengths : (files : List (List ℕ)) (got : List (Option (Vec ℕ Global))) → AreFetched (2 ^ 28) files got → length got ≡ length files
fetched_lengths [] [] all = refl
fetched_lengths (f ∷ fs) (g ∷ gs) (first, rest) = let e = fetched_lengths fs gs rest in omega (arith, e)
fetched_lengths [] (g ∷ gs) all = absurd all
fetched_lengths (f ∷ fs) [] all = absurd all

may_be_at : (held : List ℕ → Option (List ℕ)) (names files : List (List ℕ)) (i : ℕ) → MayBeAll held names files → i < length names → MayBe (held (word_of names i)) (word_of files i)
may_be_at held [] files i all h = absurd (omega (arith, h))
may_be_at held (n ∷ ns) [] i all h = absurd all
may_be_at held (n ∷ ns) (f ∷ fs) zero (first, rest) h = first
may_be_at held (n ∷ ns) (f ∷ fs) (suc i) (first, rest) h = may_be_at held ns fs i rest (omega (arith, h))

-- ---- the files of a command

input_file : (held : List ℕ → Option (List ℕ)) (ws : List (List ℕ)) (first : ℕ) (files : List (List ℕ)) (got : InputBytes) → IsInputFetched held ws first files got
    → (place : ℕ) → place < length ws → (place ≡ 1) ⊎ (place ≡ 2) ⊎ (first ≤ place) → MayBe (held (word_of ws place)) (word_of files place)
input_file held ws first files got is place below which =
    let P : ℕ → Type 0 = λ p. MayBe (held (word_of ws p)) (word_of files p) in
    elim which [
      | inl one ↦ subst P (sym one) is.loop_may
      | inr later ↦ elim later [
        | inl two ↦ subst P (sym two) is.matrix_may
        | inr from ↦
            let i = place - first in
            let inside : i < length (drop first ws) = (let e = length-drop first ws in omega (arith, e, from, below)) in
            let at : first + i ≡ place = omega (arith, from) in
            let found : MayBe (held (word_of (drop first ws) i)) (word_of (drop first files) i) = may_be_at held (drop first ws) (drop first files) i is.vectors_may inside in
            let there : P (first + i) = rw (← get_or-drop first ws i [], ← get_or-drop first files i []) found in
            subst P at there
      ]
    ]

pub input_files : (held : List ℕ → Option (List ℕ)) (ws : List (List ℕ)) (form : Form) (files : List (List ℕ)) (got : InputBytes) → IsAsked ws form → IsInputFetched held ws (first_file form) files got → AreFilesOf held ws files
input_files held ws form files got asks is = record {
  one_each = is.one_each;
  may_be = λ place (other, also, reads, below, which).
      let same = one_form ws form other asks also in
      let P : Form → Type 0 = λ f. (place ≡ 1) ⊎ (place ≡ 2) ⊎ (first_file f ≤ place) in
      input_file held ws (first_file form) files got is place below (subst P same which);
}

pub loop_files : (held : List ℕ → Option (List ℕ)) (ws : List (List ℕ)) (form : Form) (bytes : List ℕ) → IsAsked ws form → length ws ≡ 2 → first_file form ≡ 2 → MayBe (held (word_of ws 1)) bytes → AreFilesOf held ws ([] ∷ bytes ∷ [])
loop_files held ws form bytes asks two after may = record {
  one_each = sym two;
  may_be = λ place (other, also, reads, below, which).
      let same = one_form ws form other asks also in
      let P : Form → Type 0 = λ f. (place ≡ 1) ⊎ (place ≡ 2) ⊎ (first_file f ≤ place) in
      let Q : ℕ → Type 0 = λ p. MayBe (held (word_of ws p)) (word_of ([] ∷ bytes ∷ []) p) in
      elim (subst P same which) [
        | inl one ↦ subst Q (sym one) may
        | inr later ↦ elim later [ inl at ↦ absurd (omega (arith, at, below, two)) | inr from ↦ absurd (omega (arith, from, below, two, after)) ]
      ];
}

-- ---- each file has some bytes

abbrev bytes_or : Option (List ℕ) → List ℕ
bytes_or None = []
bytes_or (Some bytes) = bytes

may_be : (told : Option (List ℕ)) → MayBe told (bytes_or told)
may_be None = tt
may_be (Some bytes) = refl

some_at : (held : List ℕ → Option (List ℕ)) (ws : List (List ℕ)) (place : ℕ) → place < length ws → MayBe (held (word_of ws place)) (word_of (map (λ w. bytes_or (held w)) ws) place)
some_at held [] place h = absurd (omega (arith, h))
some_at held (w ∷ ws) zero h = may_be (held w)
some_at held (w ∷ ws) (suc i) h = some_at held ws i (omega (arith, h))

pub some_files : (held : List ℕ → Option (List ℕ)) (ws : List (List ℕ)) → (files : List (List ℕ)) × AreFilesOf held ws files
some_files held ws = (
  map (λ w. bytes_or (held w)) ws,
  record { one_each = length-map ws (λ w. bytes_or (held w)); may_be = λ place (form, asks, reads, below, which). some_at held ws place below },
)

-- ---- told files are those

same_as_told : (told : Option (List ℕ)) (a b : List ℕ) → MayBe told a → told ≡ Some b → a ≡ b
same_as_told None a b may is = absurd (let e : None ≡ Some b = is in cc)
same_as_told (Some all) a b may is = let e : Some all ≡ Some b = is in let f : all ≡ b = cc in may ∙ f

pub same_file : (held : List ℕ → Option (List ℕ)) (ws files told : List (List ℕ)) → AreFilesOf held ws files → AreTold held ws told → (place : ℕ) → IsFilePlace ws place → word_of files place ≡ word_of told place
same_file held ws files told are is place which = same_as_told (held (word_of ws place)) (word_of files place) (word_of told place) (are.may_be place which) (is.told place which)

past_end : (files : List (List ℕ)) (place : ℕ) → length files ≤ place → word_of files place ≡ []
past_end [] place h = refl
past_end (f ∷ fs) zero h = absurd (omega (arith, h))
past_end (f ∷ fs) (suc i) h = past_end fs i (omega (arith, h))

by_order : (P : Type 0) (a b : ℕ) → ((a < b) → P) → ((b ≤ a) → P) → P
by_order P a b f g = by_cases (nat_lt a b) refl
  where
    by_cases : (c : Bool) → nat_lt a b ≡ c → P
    by_cases true e = f (grind (arith, nat_tests, e))
    by_cases false e = g (grind (arith, nat_tests, e))

same_place : (held : List ℕ → Option (List ℕ)) (ws files told : List (List ℕ)) (form : Form) → IsAsked ws form → reads_files form ≡ true → AreFilesOf held ws files → AreTold held ws told
    → (place : ℕ) → (place ≡ 1) ⊎ (place ≡ 2) ⊎ (first_file form ≤ place) → word_of files place ≡ word_of told place
same_place held ws files told form asks reads are is place which =
    by_order (word_of files place ≡ word_of told place) place (length ws)
    (λ below. same_file held ws files told are is place (form, asks, reads, below, which))
    (λ past. past_end files place (omega (arith, past, are.one_each)) ∙ sym (past_end told place (omega (arith, past, is.one_each))))

same_vectors : (held : List ℕ → Option (List ℕ)) (ws files told : List (List ℕ)) (form : Form) → IsAsked ws form → reads_files form ≡ true → AreFilesOf held ws files → AreTold held ws told → drop (first_file form) files ≡ drop (first_file form) told
same_vectors held ws files told form asks reads are is =
    let n = first_file form in
    let a = length-drop n files in
    let b = length-drop n told in
    ext_get_or [] (drop n files) (drop n told) (omega (arith, a, b, are.one_each, is.one_each)) (λ i h.
    get_or-drop n files i [] ∙ same_place held ws files told form asks reads are is (n + i) (inr (inr (omega arith))) ∙ sym (get_or-drop n told i []))

-- the files of a command are those that are told
pub same_inputs : (held : List ℕ → Option (List ℕ)) (ws files told : List (List ℕ)) (form : Form) → IsAsked ws form → reads_files form ≡ true → AreFilesOf held ws files → AreTold held ws told → inputs_of form files ≡ inputs_of form told
same_inputs held ws files told form asks reads are is =
    let l = same_place held ws files told form asks reads are is 1 (inl refl) in
    let m = same_place held ws files told form asks reads are is 2 (inr (inl refl)) in
    let v = same_vectors held ws files told form asks reads are is in
    λ k. record { loop_file = l k; matrix = m k; vectors = v k; first = first_file form; skips = skipped form }

-- ---- names among the words of a call

pub text_at : (ws : List (String Global)) (i : ℕ) (w : String Global) → i < length ws → w ≡ get_or ws i w → word_of (texts ws) i ≡ string_bytes w
text_at [] i w h e = absurd (omega (arith, h))
text_at (x ∷ ws) zero w h e = ap string_bytes (sym e)
text_at (x ∷ ws) (suc i) w h e = text_at ws i w (omega (arith, h)) e

take_text : (ws : List (String Global)) (i : ℕ) (w : String Global) → i < length ws → w ≡ get_or ws i w → take (suc i) (texts ws) ≡ take i (texts ws) ++ string_bytes w ∷ []
take_text [] i w h e = absurd (omega (arith, h))
take_text (x ∷ ws) zero w h e = ap (λ v. string_bytes v ∷ []) (sym e)
take_text (x ∷ ws) (suc i) w h e = ap (λ l. string_bytes x ∷ l) (take_text ws i w (omega (arith, h)) e)

drop_texts : (n : ℕ) (ws : List (String Global)) → texts (drop n ws) ≡ drop n (texts ws)
drop_texts zero ws = refl
drop_texts (suc n) [] = refl
drop_texts (suc n) (w ∷ ws) = drop_texts n ws

pub plus_one : (i : ℕ) → suc i ≡ i + 1
plus_one i = omega arith

-- ---- vector files, one after another

pub files_next : (held now : List ℕ → Option (List ℕ)) (names : List (String Global)) (i : ℕ) (w : String Global) (name : List ℕ) (got more : List (Option (Vec ℕ Global))) (one : Option (Vec ℕ Global))
    → i < length names → w ≡ get_or names i w → name ≡ string_bytes w → ((other : List ℕ) → now other ≡ held other)
    → AreOfFiles held (take i (texts names)) got → IsOfFile (2 ^ 28) (now name) one → more ≡ got ++ one ∷ [] → AreOfFiles held (take (i + 1) (texts names)) more
files_next held now names i w name got more one h e is stays all file grown =
    let here : IsOfFile (2 ^ 28) (held name) one = of_same_file (2 ^ 28) (now name) (held name) one (stays name) file in
    let next : AreOfFiles held (take i (texts names) ++ name ∷ []) (got ++ one ∷ []) = one_more_file held (take i (texts names)) name got one all here in
    let taken : take i (texts names) ++ name ∷ [] ≡ take (i + 1) (texts names) = ap (λ n. take i (texts names) ++ n ∷ []) is ∙ sym (take_text names i w h e) ∙ ap (λ n. take n (texts names)) (plus_one i) in
    let named : AreOfFiles held (take (i + 1) (texts names)) (got ++ one ∷ []) = subst (λ (l : List (List ℕ)). AreOfFiles held l (got ++ one ∷ [])) taken next in
    subst (λ (l : List (Option (Vec ℕ Global))). AreOfFiles held (take (i + 1) (texts names)) l) (sym grown) named

rose_earlier : (old mid new : ℕ) → old ≤ mid → Rose mid new → Rose old new
rose_earlier old mid new before rose = omega (arith, before, rose)

pub fault_from : (first i : ℕ) (names : List (String Global)) (w : String Global) (name : List ℕ) (old mid new : List ℕ → ℕ) (status : Status)
    → i < length names → w ≡ get_or names i w → name ≡ string_bytes w → ((other : List ℕ) → old other ≤ mid other)
    → (status ≡ Memory) ⊎ ((status ≡ ReadFault (first + i)) × Rose (mid name) (new name)) → (status ≡ Memory) ⊎ IsFaultFrom first (texts names) old new status
fault_from first i names w name old mid new status h e is before cause = elim cause [
  | inl want ↦ inl want
  | inr (fault, rose) ↦
      let at : name ≡ word_of (texts names) i = is ∙ sym (text_at names i w h e) in
      let P : List ℕ → Type 0 = λ n. Rose (old n) (new n) in
      let len = length-map names string_bytes in
      let earlier : Rose (old name) (new name) = rose_earlier (old name) (mid name) (new name) (before name) rose in
      inr (i, (omega (arith, h, len)), fault, subst P at earlier)
]

may_all_same : (now held : List ℕ → Option (List ℕ)) (names files : List (List ℕ)) → ((other : List ℕ) → now other ≡ held other) → MayBeAll now names files → MayBeAll held names files
may_all_same now held [] [] same all = tt
may_all_same now held (n ∷ ns) (f ∷ fs) same (first, rest) = (subst (λ (o : Option (List ℕ)). MayBe o f) (same n) first, may_all_same now held ns fs same rest)
may_all_same now held [] (f ∷ fs) same all = absurd all
may_all_same now held (n ∷ ns) [] same all = absurd all

all_of : {X : Type 0} (n : ℕ) (xs : List X) → length xs ≤ n → take n xs ≡ xs
all_of zero [] h = refl
all_of (suc n) [] h = refl
all_of zero (x ∷ xs) h = absurd (omega (arith, h))
all_of (suc n) (x ∷ xs) h = ap (λ l. x ∷ l) (all_of n xs (omega (arith, h)))

-- ---- what was fetched of a command's files

drop_all : (n : ℕ) (vs : List (List ℕ)) → drop n (replicate n [] ++ vs) ≡ vs
drop_all zero vs = refl
drop_all (suc n) vs = drop_all n vs

drop_gap : (first : ℕ) (l m : List ℕ) (vs : List (List ℕ)) → 3 ≤ first → drop first ([] ∷ l ∷ m ∷ (replicate (first - 3) [] ++ vs)) ≡ vs
drop_gap first l m vs apart =
    let n = first - 3 in
    let P : ℕ → Type 0 = λ k. drop k ([] ∷ l ∷ m ∷ (replicate n [] ++ vs)) ≡ vs in
    let here : P (suc (suc (suc n))) = drop_all n vs in
    let at : suc (suc (suc n)) ≡ first = omega (arith, apart) in
    subst P at here

pub input_fetched : (held one two : List ℕ → Option (List ℕ)) (words : List (String Global)) (first : ℕ) (loop_name matrix_name : List ℕ) (got : InputBytes)
    → 3 ≤ first → first ≤ length words → loop_name ≡ word_of (texts words) 1 → matrix_name ≡ word_of (texts words) 2
    → ((other : List ℕ) → one other ≡ held other) → ((other : List ℕ) → two other ≡ one other)
    → IsOfFile 65536 (held loop_name) got.loop_file → IsOfFile (2 ^ 28) (one matrix_name) got.matrix → AreOfFiles two (texts (take (length words - first) (drop first words))) got.vectors.items
    → (files : List (List ℕ)) × IsInputFetched held (texts words) first files got
input_fetched held one two words first loop_name matrix_name got apart within at1 at2 same1 same2 (l, may_l, is_l) matrix (vs, may_v, are_v) =
    let whole : take (length words - first) (drop first words) ≡ drop first words = all_of (length words - first) (drop first words) (let e = length-drop first words in omega (arith, e)) in
    let m = of_same_file (2 ^ 28) (one matrix_name) (held matrix_name) got.matrix (same1 matrix_name) matrix in
    let names : texts (drop first words) ≡ drop first (texts words) = drop_texts first words in
    let all : MayBeAll held (texts (drop first words)) vs = subst (λ (ws : List (String Global)). MayBeAll held (texts ws) vs) whole (may_all_same two held (texts (take (length words - first) (drop first words))) vs (λ other. same2 other ∙ same1 other) may_v) in
    let lens = may_be_lengths held (texts (drop first words)) vs all in
    let len = length-map words string_bytes in
    let short = length-map (drop first words) string_bytes in
    let dropped = length-drop first words in
    let P : List ℕ → List ℕ → Type 0 = λ bytes name. MayBe (held name) bytes in
    let gap : List (List ℕ) = replicate (first - 3) [] in
    let none : length gap ≡ first - 3 = length-replicate (first - 3) [] in
    let rest : drop first ([] ∷ l ∷ m.0 ∷ (gap ++ vs)) ≡ vs = drop_gap first l m.0 vs apart in (
      [] ∷ l ∷ m.0 ∷ (gap ++ vs),
      record {
        one_each = (let joined = length-append gap vs in omega (arith, joined, none, lens, len, short, dropped, within, apart));
        loop_may = subst (P l) at1 may_l;
        matrix_may = subst (P m.0) at2 m.1;
        vectors_may = subst (λ (ns : List (List ℕ)). MayBeAll held ns (drop first ([] ∷ l ∷ m.0 ∷ (gap ++ vs)))) names (subst (λ (fs : List (List ℕ)). MayBeAll held (texts (drop first words)) fs) (sym rest) all);
        are = record { loop_is = is_l; matrix_is = m.2; vectors_are = subst (λ (fs : List (List ℕ)). AreFetched (2 ^ 28) fs got.vectors.items) (sym rest) are_v };
      },
    )

-- a fault at the name of a vector
pub vectors_unread : (words : List (String Global)) (first : ℕ) (old mid new : List ℕ → ℕ) (status : Status) → 3 ≤ first → first ≤ length words → ((other : List ℕ) → old other ≤ mid other)
    → (status ≡ Memory) ⊎ IsFaultFrom first (texts (take (length words - first) (drop first words))) mid new status → (status ≡ Memory) ⊎ IsInputFault first (texts words) old new status
vectors_unread words first old mid new status apart within before cause = elim cause [
  | inl want ↦ inl want
  | inr (at, below, is, rose) ↦
      let whole : take (length words - first) (drop first words) ≡ drop first words = all_of (length words - first) (drop first words) (let e = length-drop first words in omega (arith, e)) in
      let names : texts (take (length words - first) (drop first words)) ≡ drop first (texts words) = ap texts whole ∙ drop_texts first words in
      let name : word_of (texts (take (length words - first) (drop first words))) at ≡ word_of (texts words) (first + at) = ap (λ (l : List (List ℕ)). word_of l at) names ∙ get_or-drop first (texts words) at [] in
      let P : List ℕ → Type 0 = λ n. Rose (mid n) (new n) in
      let there : Rose (mid (word_of (texts words) (first + at))) (new (word_of (texts words) (first + at))) = subst P name rose in
      let len : length (texts (take (length words - first) (drop first words))) ≡ length (drop first (texts words)) = ap length names in
      let dropped = length-drop first (texts words) in
      inr (first + at, (omega (arith, below, len, dropped)), inr (inr (omega arith)), is, rose_earlier (old (word_of (texts words) (first + at))) (mid (word_of (texts words) (first + at))) (new (word_of (texts words) (first + at))) (before (word_of (texts words) (first + at))) there)
]

pub few_vectors : (held : List ℕ → Option (List ℕ)) (words : List (String Global)) (first : ℕ) (files : List (List ℕ)) (got : InputBytes) → first ≤ length words → IsInputFetched held (texts words) first files got → first + length got.vectors.items ≡ length words
few_vectors held words first files got within is =
    let a = fetched_lengths (drop first files) got.vectors.items is.are.vectors_are in
    let b = length-drop first files in
    let c = length-map words string_bytes in
    omega (arith, a, b, c, is.one_each, within)

-- ---- an error that a `?` hands on

pub if_err : {T : Type 0} (outcome : Result T Status) (status : Status) (P : Status → Type 0) → IsErrAnd outcome (λ e. e ≡ status) → P status → IfErr outcome P
if_err (Ok value) status P is p = absurd is
if_err (Err e) status P is p = subst P (sym is) p

pub match_err : {T : Type 0} (outcome : Result T Status) (status : Status) (Q : T → Type 0) (P : Status → Type 0) → IsErrAnd outcome (λ e. e ≡ status) → P status → MatchResult outcome Q P
match_err (Ok value) status Q P is p = absurd is
match_err (Err e) status Q P is p = subst P (sym is) p
