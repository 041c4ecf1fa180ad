-- The text of index terms.
use Rattle.std.specs.Prelude.{ℤ, pos, int_lt, if◌then◌else◌, codes, List, ℕ, [], ◌++◌}
use Rattle.std.specs.Fmt.{signed_decimal}
use Rattle.wave_base.specs.declared.types.ArrayId.{ArrayId}
use Rattle.loop_core.specs.declared.decl.Decl.{Decl}
use Rattle.loop_core.specs.declared.nest.Atom.{Atom}
use Rattle.loop_core.specs.declared.nest.Term.{Term}
use Rattle.loop_core.specs.declared.nest.Atom.TheOpen.{Atom-F, Term-F}
use Rattle.loop_core.specs.declared.nest.Atom.TheFolds.{fold-Atom, fold-Term}
use Rattle.loop_print.specs.PrintNames.{Block, array_name, variable_name}

-- a constant by itself: `NUM`, or `0-NUM`
abbrev pub number_text : ℤ → List ℕ
number_text z = if int_lt z (pos 0) then codes "0" ++ signed_decimal z else signed_decimal z

-- a constant after an atom: `+NUM`, `-NUM`, or nothing for 0
abbrev pub offset_text : ℤ → List ℕ
offset_text z = if int_lt (pos 0) z then codes "+" ++ signed_decimal z else (if int_lt z (pos 0) then signed_decimal z else [])

-- `ARR[TERM]`
abbrev pub entry_text : List Decl → ArrayId → List ℕ → List ℕ
entry_text decls array inner = array_name decls array ++ codes "[" ++ inner ++ codes "]"

-- an atom and a constant, with the text of the inner term in its place
abbrev pub atom_step : List Decl → List Block → Atom-F (ℤ → List ℕ) (List ℕ) → ℤ → List ℕ
atom_step decls blocks Atom-F.Zero plus = number_text plus
atom_step decls blocks Atom-F.N plus = codes "n" ++ offset_text plus
atom_step decls blocks Atom-F.Nnz plus = codes "nnz" ++ offset_text plus
atom_step decls blocks (Atom-F.Var var) plus = variable_name blocks var.line ++ offset_text plus
atom_step decls blocks (Atom-F.At array inner) plus = entry_text decls array inner ++ offset_text plus

abbrev pub term_step : Term-F (ℤ → List ℕ) (List ℕ) → List ℕ
term_step t = t.atom t.plus

abbrev pub term_text : List Decl → List Block → Term → List ℕ
term_text decls blocks = fold-Term (ℤ → List ℕ) (List ℕ) (atom_step decls blocks) term_step

abbrev pub atom_text : List Decl → List Block → Atom → ℤ → List ℕ
atom_text decls blocks = fold-Atom (ℤ → List ℕ) (List ℕ) (atom_step decls blocks) term_step
