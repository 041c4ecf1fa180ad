-- What a demo runs: forward substitution over a made matrix and a right side for it, and its text.
use Rattle.std.specs.Prelude.{◌≡◌, ◌≤◌, ℕ, ◌*◌, ℤ, pos, ◌+ℤ◌, List, [], ◌∷◌, ◌++◌, Some, codes}
use Rattle.std.specs.List.{fold}
use Rattle.wave_base.specs.Word.{wrapped}
use Rattle.wave_base.specs.declared.types.ArrayId.{ArrayId}
use Rattle.csr_arrays.specs.Axes.{Triple}
use Rattle.array_bind.specs.Lists.{arrays_of, values_of}
use Rattle.array_bind.specs.Matrix.{by_rows}
use Rattle.wave_gen.specs.Grid.{grid_entries}
use Rattle.wave_gen.specs.Lower.{lower_entries}
use Rattle.wave_gen.specs.RightSide.{right_side}
use Rattle.loop_core.specs.declared.decl.Decl.{Decl}
use Rattle.loop_core.specs.Lists.{Lists, list_of}
use Rattle.loop_core.specs.Sequence.{sequential}
use Rattle.access_bounds.specs.Accepted.{IsAccepted}
use Rattle.dep_simplify.specs.declared.verdict.Verdict.{Verdict}
use Rattle.dep_simplify.specs.Verdicts.{AreVerdicts}
use Rattle.wave_report.specs.DemoText.{head_text, sum_text}
use Rattle.wave_report.specs.SummaryText.{summary_text}
use Rattle.wave_words.specs.Forms.{number}
use Rattle.wave_main.specs.declared.demo.Kind.{Kind}
use Rattle.wave_main.specs.declared.demo.Kind.TheVariants.{Grid, Lower}
use Rattle.wave_main.specs.declared.input.Input.{Input}
use Rattle.wave_main.specs.Files.{word_of}
use Rattle.wave_main.specs.Loops.{IsLoop}
use Rattle.wave_main.specs.Run.{summary_of}
use Rattle.wave_main.specs.Sound.{IsSound, Work}

-- the loop: forward substitution
unfoldable pub solve_loop : List ℕ
solve_loop = codes "matrix a csr\nvector b n file\nvector x n zero\nrange a.ptr 0 nnz+1\nrange a.col 0 n\nrising a.ptr\nsorted a.col by a.ptr\ndiagonal a.diag of a.col by a.ptr\nloop i\n  set x[i] = b[i]\n  for p in a.ptr[i]..a.diag[i]\n    set x[i] = x[i] - a.val[p] * x[a.col[p]]\n  end\n  set x[i] = x[i] / a.val[a.diag[i]]\nend\n"

-- the number of x among its arrays: those of the matrix have 0 to 3, and b has 4
abbrev pub solved : ArrayId
solved = record { 0 = 5 }

abbrev pub kind_word : Kind → List ℕ
kind_word Grid = codes "grid"
kind_word Lower = codes "lower"

-- a grid has 1 to 400 points a side; a drawn matrix begins from any seed
abbrev pub IsNumberOf : Kind → ℕ → Type 0
IsNumberOf Grid k = (1 ≤ k) × (k ≤ 400)
IsNumberOf Lower seed = Unit {0}

unfoldable pub drawn_rows : ℕ
drawn_rows = 4096

-- the rows and the entries of the matrix that is made
abbrev pub rows_of : Kind → ℕ → ℕ
rows_of Grid k = k * k
rows_of Lower seed = drawn_rows

abbrev pub entries_of : Kind → ℕ → List Triple
entries_of Grid k = grid_entries k
entries_of Lower seed = lower_entries drawn_rows seed

-- the one vector: the right side b, made so that x is to be 1, 2, 3 and so on
abbrev pub vectors_of : Kind → ℕ → List (List ℤ)
vectors_of kind made = right_side (by_rows (rows_of kind made) (entries_of kind made)) ∷ []

-- the index arrays and the data arrays of declarations over that matrix and that vector
abbrev pub made_arrays : Kind → ℕ → List Decl → Lists
made_arrays kind made decls = arrays_of decls (rows_of kind made) (entries_of kind made) (vectors_of kind made)

abbrev pub made_values : Kind → ℕ → List Decl → List (List ℤ)
made_values kind made decls = values_of decls (rows_of kind made) (entries_of kind made) (vectors_of kind made)

-- the loop, none of whose accesses can leave its array, with these arrays
pub record IsDemo (kind : Kind) (made : ℕ) (input : Input) : Type 0 where
  pub is_loop : IsLoop solve_loop input.nest
  pub accepted : IsAccepted input.nest
  pub arrays : input.arrays ≡ made_arrays kind made input.nest.decls
  pub values : input.values ≡ made_values kind made input.nest.decls

-- the wrapped sum of words
abbrev pub total : List ℤ → ℤ
total words = wrapped (fold (λ z word. z +ℤ word) (pos 0) words)

-- the line of the words, the summary, and the sum of x as the loop run in order leaves it
abbrev pub demo_text : Kind → ℕ → Work → List Verdict → List ℕ
demo_text kind made work verdicts =
    head_text (kind_word kind) made work.workers
    ++ summary_text (summary_of work.input verdicts work.plan)
    ++ sum_text (total (list_of (sequential work.input.nest work.input.arrays work.input.values) solved))

-- the text of the work that is made for the words' numbers, with the verdicts on its relations
pub record DemoPrints (kind : Kind) (words : List (List ℕ)) (text : List ℕ) : Type 0 where
  pub made : ℕ
  pub work : Work
  pub named : number (word_of words 2) ≡ Some made
  pub is_demo : IsDemo kind made work.input
  pub workers : number (word_of words 3) ≡ Some work.workers
  pub sound : IsSound work
  pub verdicts : List Verdict
  pub are_verdicts : AreVerdicts work.input.nest verdicts
  pub printed : text ≡ demo_text kind made work verdicts
