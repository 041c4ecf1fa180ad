-- The compressed arrays of a matrix, in the form that a nest declares.
use Rattle.std.specs.Prelude.{ℕ, pos, ◌+◌, List, [], ◌∷◌, map}
use Rattle.std.specs.List.{range_with_len}
use Rattle.loop_core.specs.declared.decl.Decl.{Decl}
use Rattle.loop_core.specs.declared.decl.DeclKind.{DeclKind}
use Rattle.loop_core.specs.declared.decl.DeclKind.TheVariants as kinds
use Rattle.loop_core.specs.declared.decl.Form.{Form}
use Rattle.loop_core.specs.declared.decl.Form.TheVariants.{Csr, Csc}
use Rattle.csr_arrays.specs.Axes.{Triple, flipped}
use Rattle.csr_arrays.specs.Arrays.{pointer, diagonal, index_below, values_below}
use Rattle.csr_arrays.specs.declared.compressed.Compressed.{Compressed}

-- the form of the first declared matrix, and rows where there is none
abbrev pub form_or : DeclKind → Form → Form
form_or (kinds.Matrix form) other = form
form_or (kinds.Index size) other = other
form_or (kinds.Vector size source) other = other

abbrev pub matrix_form : List Decl → Form
matrix_form [] = Csr
matrix_form (d ∷ more) = form_or d.kind (matrix_form more)

abbrev pub by_rows : ℕ → List Triple → Compressed
by_rows n ts = record {
  ptr = map (λ i. pos (pointer n ts i)) (range_with_len 0 (n + 1));
  index = index_below n ts n;
  diag = map (λ i. pos (diagonal n ts i)) (range_with_len 0 n);
  val = values_below n ts n;
}

abbrev pub compressed : Form → ℕ → List Triple → Compressed
compressed Csr n ts = by_rows n ts
compressed Csc n ts = by_rows n (map flipped ts)
