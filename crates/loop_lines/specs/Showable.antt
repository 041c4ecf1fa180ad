-- Lines that a text can say.
use Rattle.std.specs.Prelude.{◌≡◌, ◌^◌, ℕ, ℤ, nat_abs, nat_lt, nat_le, Bool, true, false, ◌&&◌, List, length}
use Rattle.loop_core.specs.IsNest.{is_literal}
use Rattle.loop_core.specs.Names.{begins_with_letter, is_name}
use Rattle.loop_lines.specs.declared.tree.ArrayName.{ArrayName}
use Rattle.loop_lines.specs.declared.tree.ArrayName.TheVariants.{Own, Dotted}
use Rattle.loop_lines.specs.declared.tree.NamedAtom.TheOpen.{NamedAtom-F, NamedTerm-F}
use Rattle.loop_lines.specs.declared.tree.NamedAtom.TheFolds.{fold-NamedTerm}
use Rattle.loop_lines.specs.declared.tree.NamedTerm.{NamedTerm}
use Rattle.loop_lines.specs.declared.tree.NamedExpr.{NamedExpr}
use Rattle.loop_lines.specs.declared.tree.NamedExpr.TheOpen.{NamedExpr-F}
use Rattle.loop_lines.specs.declared.tree.NamedExpr.TheFolds.{fold-NamedExpr}
use Rattle.loop_lines.specs.declared.line.NamedProp.{NamedProp}
use Rattle.loop_lines.specs.declared.line.NamedProp.TheVariants.{Range, Rising, Strict, Injective, Sorted, Below, Upto, Diagonal, Before}
use Rattle.loop_lines.specs.declared.line.Line.{Line}
use Rattle.loop_lines.specs.declared.line.Line.TheVariants as lines
use Rattle.loop_lines.specs.Plain.{is_plain}

-- the part of a matrix: a letter and then up to 15 letters, digits and `_`, a reserved word or not
abbrev pub is_part : List ℕ → Bool
is_part name = begins_with_letter name && is_plain name && nat_le (length name) 16

abbrev pub is_array : ArrayName → Bool
is_array (Own name) = is_name name
is_array (Dotted matrix part) = is_name matrix && is_part part

-- from -9223372036854775807 to 9223372036854775807
abbrev pub is_shift : ℤ → Bool
is_shift z = nat_lt (nat_abs z) (2 ^ 63)

abbrev pub showable_atom_step : NamedAtom-F Bool Bool → Bool
showable_atom_step NamedAtom-F.Zero = true
showable_atom_step NamedAtom-F.N = true
showable_atom_step NamedAtom-F.Nnz = true
showable_atom_step (NamedAtom-F.Var name) = is_name name
showable_atom_step (NamedAtom-F.At array inner) = is_array array && inner

abbrev pub showable_term_step : NamedTerm-F Bool Bool → Bool
showable_term_step t = t.atom && is_shift t.plus

abbrev pub is_showable_term : NamedTerm → Bool
is_showable_term = fold-NamedTerm Bool Bool showable_atom_step showable_term_step

abbrev pub showable_value_step : NamedExpr-F Bool → Bool
showable_value_step (NamedExpr-F.Lit value) = is_literal value
showable_value_step (NamedExpr-F.Read array at) = is_array array && is_showable_term at
showable_value_step (NamedExpr-F.Local name) = is_name name
showable_value_step (NamedExpr-F.Op op left right) = left && right

abbrev pub is_showable_value : NamedExpr → Bool
is_showable_value = fold-NamedExpr Bool showable_value_step

-- a number, or `n` or `nnz` with a number
abbrev pub bound_step : NamedAtom-F Bool Bool → Bool
bound_step NamedAtom-F.Zero = true
bound_step NamedAtom-F.N = true
bound_step NamedAtom-F.Nnz = true
bound_step (NamedAtom-F.Var name) = false
bound_step (NamedAtom-F.At array inner) = false

abbrev pub bound_term_step : NamedTerm-F Bool Bool → Bool
bound_term_step t = t.atom && is_shift t.plus

abbrev pub is_showable_bound : NamedTerm → Bool
is_showable_bound = fold-NamedTerm Bool Bool bound_step bound_term_step

abbrev pub is_showable_prop : NamedProp → Bool
is_showable_prop (Range f lo hi) = is_array f && is_showable_bound lo && is_showable_bound hi
is_showable_prop (Rising p) = is_array p
is_showable_prop (Strict p) = is_array p
is_showable_prop (Injective f) = is_array f
is_showable_prop (Sorted f p) = is_array f && is_array p
is_showable_prop (Below f p) = is_array f && is_array p
is_showable_prop (Upto f p) = is_array f && is_array p
is_showable_prop (Diagonal d f p) = is_array d && is_array f && is_array p
is_showable_prop (Before f g) = is_array f && is_array g

abbrev pub is_showable : Line → Bool
is_showable (lines.Matrix name form) = is_name name
is_showable (lines.Index name size) = is_name name
is_showable (lines.Vector name size source) = is_name name
is_showable (lines.Local name) = is_name name
is_showable (lines.Prop prop) = is_showable_prop prop
is_showable (lines.Loop name) = is_name name
is_showable (lines.For name lo hi) = is_name name && is_showable_term lo && is_showable_term hi
is_showable (lines.When rel left right) = is_showable_term left && is_showable_term right
is_showable (lines.Set array at value) = is_array array && is_showable_term at && is_showable_value value
is_showable (lines.Keep name value) = is_name name && is_showable_value value
is_showable lines.End = true

-- its names, constants and literals are those that a text can have
abbrev pub IsShowable : Line → Type 0
IsShowable l = is_showable l ≡ true
