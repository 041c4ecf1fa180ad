-- The matrix and the right side that are made for a demo, and the sum of its answer.
use Rattle.std.proofs.Common.{ℕ, ℤ, pos, ◌+ℤ◌, ◌≡◌, ◌<◌, ◌≤◌, ◌+◌, ◌*◌, ◌^◌, true, List, [], ◌∷◌, ◌++◌, length, get_or, take, sym, ap, subst, ◌∙◌, w64, arith, FitsSigned, to_z, of_z}
use Rattle.std.specs.Prelude.{Option, Some, Result, Ok, Err, Vec, IfOk}
use Rattle.std.specs.declared.alloc.Global.{Global}
use Rattle.std.specs.List.{fold}
use Rattle.std.proofs.Math.Seq.{take-suc}
use Rattle.std.proofs.lemmas.Int.{int_wrap-add_left, SFits-int_wrap, to_z-of_z}
use Rattle.std.proofs.lemmas.List.{take_all}
use Rattle.std.proofs.lemmas.List.Sums.{fold-append}
use Rattle.wave_base.specs.Word.{wrapped, wrapped_sum}
use Rattle.mtx_read.specs.Files.{matrix}
use Rattle.mtx_read.specs.declared.refusal.MtxRefusal.{MtxRefusal}
use Rattle.mtx_read.specs.declared.triples.Triples.{Triples}
use Rattle.csr_arrays.specs.Axes.{Triple}
use Rattle.csr_arrays.specs.Arrays.{AreArrays}
use Rattle.csr_arrays.specs.declared.compressed.Compressed.{Compressed}
use Rattle.array_bind.specs.Lists.{arrays_of, values_of}
use Rattle.array_bind.specs.Matrix.{by_rows}
use Rattle.wave_base.specs.declared.types.Memory.{Memory}
use Rattle.access_bounds.specs.Accepted.{IsAccepted}
use Rattle.dep_simplify.specs.declared.verdict.Verdict.{Verdict}
use Rattle.loop_core.specs.declared.nest.Nest.{Nest}
use Rattle.wave_report.specs.declared.counts.Summary.{Summary}
use Rattle.wave_report.specs.DemoText.{head_text, sum_text}
use Rattle.wave_report.specs.SummaryText.{summary_text}
use Rattle.wave_words.specs.Forms.{number}
use Rattle.wave_words.specs.declared.form.Form.TheVariants as forms
use Rattle.wave_gen.specs.Grid.{grid_entries, grid_text}
use Rattle.wave_gen.specs.Lower.{lower_entries, lower_text}
use Rattle.wave_gen.specs.RightSide.{right_side}
use Rattle.loop_core.specs.Lists.{list_of}
use Rattle.loop_core.specs.Sequence.{sequential}
use Rattle.loop_core.specs.Shape.{is_target}
use Rattle.core_machine.specs.declared.work.Work.{Work as CoreWork}
use Rattle.done_words.specs.Sound.{IsClosed}
use Rattle.wave_main.specs.declared.demo.Kind.{Kind}
use Rattle.wave_main.specs.declared.demo.Kind.TheVariants.{Grid, Lower}
use Rattle.wave_main.specs.declared.input.Input.{Input}
use Rattle.wave_main.specs.declared.work.Planned.{Planned}
use Rattle.wave_main.specs.Commands.{IsAsked, Prints, demo_form}
use Rattle.wave_main.specs.Demo.{DemoPrints, IsDemo, IsNumberOf, demo_text, drawn_rows, entries_of, kind_word, rows_of, solve_loop, solved, total}
use Rattle.wave_main.specs.Files.{word_of}
use Rattle.wave_main.specs.Matrices.{Parts, ok_or}
use Rattle.wave_main.specs.Loops.{IsLoop}
use Rattle.wave_main.specs.Making.{IsMade}
use Rattle.wave_main.specs.Planning.{HasDemo, IsPlanFor, made_text, work_of}
use Rattle.wave_main.specs.Run.{summary_of}
use Rattle.wave_main.specs.Sound.{Work, core_work}
use Rattle.wave_main.proofs.FileLaws.{plus_one, some_files}

-- ---- the made matrix

some_rows : 1 ≤ drawn_rows
unfolding drawn_rows
some_rows = omega arith

few_rows : drawn_rows ≤ 2 ^ 20
unfolding drawn_rows
few_rows = omega arith

abbrev pub GridsAreRead : Type 0
GridsAreRead = (k : ℕ) → 1 ≤ k → k ≤ 400 → matrix (grid_text k) ≡ Ok (k * k, k * k, grid_entries k)

abbrev pub LowersAreRead : Type 0
LowersAreRead = (n seed : ℕ) → 1 ≤ n → n ≤ 2 ^ 20 → matrix (lower_text n seed) ≡ Ok (n, n, lower_entries n seed)

read_made : GridsAreRead → LowersAreRead → (kind : Kind) (made : ℕ) → IsNumberOf kind made → matrix (made_text kind made) ≡ Ok (rows_of kind made, rows_of kind made, entries_of kind made)
read_made grids lowers Grid k is = grids k is.0 is.1
read_made grids lowers Lower seed is = lowers drawn_rows seed some_rows few_rows

-- what the reader gives for the made text
pub record IsMatrix (kind : Kind) (made : ℕ) (t : Triples) : Type 0 where
  pub rows : t.rows ≡ rows_of kind made
  pub columns : t.columns ≡ rows_of kind made
  pub entries : t.entries ≡ entries_of kind made

pub made_is : GridsAreRead → LowersAreRead → (kind : Kind) (made : ℕ) (text : List ℕ) (t : Triples) → IsNumberOf kind made → text ≡ made_text kind made → matrix text ≡ Ok (t.rows, t.columns, t.entries) → IsMatrix kind made t
made_is grids lowers kind made text t is same given =
    let read : matrix text ≡ Ok (rows_of kind made, rows_of kind made, entries_of kind made) = ap matrix same ∙ read_made grids lowers kind made is in
    let parts : (t.rows, t.columns, t.entries) ≡ (rows_of kind made, rows_of kind made, entries_of kind made) = ap (λ (r : Result Parts MtxRefusal). ok_or (0, 0, []) r) (sym given ∙ read) in
    record { rows = ap (λ (p : Parts). p.0) parts; columns = ap (λ (p : Parts). p.1) parts; entries = ap (λ (p : Parts). p.2) parts }

pub by_rows_is : (n : ℕ) (ts : List Triple) (m : Compressed) → AreArrays n ts m → m ≡ by_rows n ts
by_rows_is n ts m are = λ k. record { ptr = are.ptr_is k; index = are.index_is k; diag = are.diag_is k; val = are.val_is k }

-- ---- what is run

abbrev right_of : ℕ → List Triple → List (List ℤ)
right_of rows entries = right_side (by_rows rows entries) ∷ []

-- the accepted loop over the matrix that was read, and the right side for it
pub input_is : (kind : Kind) (made : ℕ) (nest : Nest) (t : Triples) (input : Input) → IsLoop solve_loop nest → IsAccepted nest → t.rows ≡ rows_of kind made → t.entries ≡ entries_of kind made → input.nest ≡ nest
    → input.arrays ≡ arrays_of nest.decls t.rows t.entries (right_side (by_rows t.rows t.entries) ∷ [])
    → input.values ≡ values_of nest.decls t.rows t.entries (right_side (by_rows t.rows t.entries) ∷ []) → IsDemo kind made input
input_is kind made nest t input loop accepted rows entries same arrays values = record {
  is_loop = subst (IsLoop solve_loop) (sym same) loop;
  accepted = subst IsAccepted (sym same) accepted;
  arrays = arrays ∙ (λ k. arrays_of (sym same k).decls (rows k) (entries k) (right_of (rows k) (entries k)));
  values = values ∙ (λ k. values_of (sym same k).decls (rows k) (entries k) (right_of (rows k) (entries k)));
}

-- the text of a demo's work, in the words of the work
pub demo_lines : (kind : Kind) (made : ℕ) (work : Work) (verdicts : List Verdict) (numbers : Summary) (core_of : CoreWork) (sum : ℤ) (result : Result (Vec ℕ Global) Memory) → numbers ≡ summary_of work.input verdicts work.plan → core_of ≡ core_work work
    → sum ≡ total (list_of (sequential core_of.nest core_of.arrays core_of.values) solved)
    → IfOk result (λ text. text.items ≡ head_text (kind_word kind) made work.workers ++ summary_text numbers ++ sum_text sum)
    → IfOk result (λ text. text.items ≡ demo_text kind made work verdicts)
demo_lines kind made work verdicts numbers core_of sum (Ok text) said same is printed =
    let ended : sum ≡ total (list_of (sequential work.input.nest work.input.arrays work.input.values) solved) = is ∙ (λ k. total (list_of (sequential (same k).nest (same k).arrays (same k).values) solved)) in
    printed ∙ (λ k. head_text (kind_word kind) made work.workers ++ summary_text (said k) ++ sum_text (ended k))
demo_lines kind made work verdicts numbers core_of sum (Err want) said same is h = tt

-- the text of a demo that is planned, or none
pub demo_of : (kind : Kind) (made workers : ℕ) (input : Input) (planned : Planned) (result : Result (Vec ℕ Global) Memory) → IsDemo kind made input → IsPlanFor input workers planned
    → IfOk result (λ text. text.items ≡ demo_text kind made (work_of planned workers) planned.verdicts) → IfOk result (λ text. HasDemo kind made workers text.items)
demo_of kind made workers input planned (Ok text) is plan printed = record {
  planned = planned;
  is_demo = subst (IsDemo kind made) (sym plan.same) is;
  verdicts = plan.verdicts;
  sound = plan.sound;
  printed = printed;
}
demo_of kind made workers input planned (Err want) is plan h = tt

demo_printed : (kind : Kind) (ws files : List (List ℕ)) (text : List ℕ) → IsAsked ws (demo_form kind) → DemoPrints kind ws text → Prints ws files text
demo_printed Grid ws files text asks prints = (forms.DemoGrid, asks, tt, prints)
demo_printed Lower ws files text asks prints = (forms.DemoLower, asks, tt, prints)

-- the text that words of a demo ask for is the same for all bytes that files may have
pub demo_made : (held : List ℕ → Option (List ℕ)) (ws : List (List ℕ)) (kind : Kind) (made workers : ℕ) (text : List ℕ) → IsAsked ws (demo_form kind) → number (word_of ws 2) ≡ Some made → number (word_of ws 3) ≡ Some workers
    → HasDemo kind made workers text → IsMade held ws text
demo_made held ws kind made workers text asks named many has =
    let some = some_files held ws in
    let prints : DemoPrints kind ws text = record {
      made = made;
      work = work_of has.planned workers;
      named = named;
      is_demo = has.is_demo;
      workers = many;
      sound = has.sound;
      verdicts = has.planned.verdicts;
      are_verdicts = has.verdicts;
      printed = has.printed;
    } in (some.0, some.1, demo_printed kind ws some.0 text asks prints)

-- ---- the sum of x

-- one word more of a wrapped sum
pub total_next : (words : List ℤ) (i : ℕ) (sum next : ℤ) → i < length words → sum ≡ total (take i words) → next ≡ wrapped_sum sum (get_or words i (pos 0)) → next ≡ total (take (i + 1) words)
total_next words i sum next lt before added =
    let x = get_or words i (pos 0) in
    let so = take i words in
    let f : ℤ → ℤ → ℤ = λ z word. z +ℤ word in
    let more : take (i + 1) words ≡ so ++ x ∷ [] = ap (λ n. take n words) (sym (plus_one i)) ∙ take-suc words i (pos 0) lt in
    added ∙ ap (λ (z : ℤ). wrapped (z +ℤ x)) before ∙ int_wrap-add_left w64 (fold f (pos 0) so) x
    ∙ ap wrapped (sym (fold-append f (pos 0) so (x ∷ []))) ∙ ap total (sym more)

-- a wrapped sum is a word
pub total_fits : (words : List ℤ) (sum : ℤ) → sum ≡ total words → to_z w64 (of_z w64 sum) ≡ sum
total_fits words sum is = to_z-of_z w64 sum (subst (FitsSigned w64) (sym is) (SFits-int_wrap w64 (fold (λ z word. z +ℤ word) (pos 0) words)))

pub total_all : (words : List ℤ) (i : ℕ) (sum : ℤ) → length words ≤ i → sum ≡ total (take i words) → sum ≡ total words
total_all words i sum end before = before ∙ ap total (take_all i words end)

-- the workers leave the array that the loop run in order leaves, where the loop writes it
pub closed_total : (w : CoreWork) (before after : List (List ℤ)) → IsClosed w before after → is_target w.nest solved ≡ true → total (list_of after solved) ≡ total (list_of (sequential w.nest w.arrays w.values) solved)
closed_total w before after closed writes = ap total (closed.written solved writes)
