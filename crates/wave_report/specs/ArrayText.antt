-- The printed text of the arrays that a nest writes.
use Rattle.std.specs.Prelude.{ℕ, ◌+◌, IsTrue, ℤ, List, [], ◌∷◌, ◌++◌, length, codes, decimal, if◌then◌else◌}
use Rattle.std.specs.Fmt.{signed_decimal}
use Rattle.std.specs.List.{flat_map, list_all, All}
use Rattle.loop_core.specs.declared.decl.Decl.{Decl}
use Rattle.loop_core.specs.declared.decl.DeclKind.{DeclKind}
use Rattle.loop_core.specs.declared.decl.DeclKind.TheVariants.{Matrix, Index, Vector}
use Rattle.loop_core.specs.declared.nest.Nest.{Nest}
use Rattle.wave_base.specs.declared.types.ArrayId.{ArrayId}
use Rattle.loop_core.specs.Lists.{list_of}
use Rattle.loop_core.specs.Names.{is_name_byte}
use Rattle.loop_core.specs.Shape.{is_target}
use Rattle.loop_core.specs.Sizes.{sizes_of}
use Rattle.wave_report.specs.Line.{line}

-- a data array: its number and its name
pub record DataArray : Type 0 where
  pub array : ArrayId
  pub name : List ℕ

-- the data arrays of one declaration whose first array has that number
abbrev pub data_of : ℕ → List ℕ → DeclKind → List DataArray
data_of first name (Matrix form) = record { array = record { 0 = first + 3 }; name = name ++ codes ".val" } ∷ []
data_of first name (Index size) = []
data_of first name (Vector size source) = record { array = record { 0 = first }; name = name } ∷ []

-- the data arrays of the declarations, in order of number
abbrev pub data_arrays : ℕ → List Decl → List DataArray
data_arrays first [] = []
data_arrays first (d ∷ more) = data_of first d.name d.kind ++ data_arrays (first + length (sizes_of d.kind)) more

-- `array NAME LENGTH`, and then one value a line
abbrev pub array_text : List ℕ → List ℤ → List ℕ
array_text name list =
    line (codes "array " ++ name ++ codes " " ++ decimal (length list)) ++ flat_map (λ value. line (signed_decimal value)) list

abbrev pub written_text : Nest → List (List ℤ) → DataArray → List ℕ
written_text nest values data_array =
    if is_target nest data_array.array then array_text data_array.name (list_of values data_array.array) else []

-- the text of the written arrays, in order of number
abbrev pub arrays_text : Nest → List (List ℤ) → List ℕ
arrays_text nest values = flat_map (written_text nest values) (data_arrays 0 nest.decls)

-- the declared names consist of letters, digits and `_`
abbrev pub IsPlain : List ℕ → Type 0
IsPlain name = IsTrue (list_all is_name_byte name)

abbrev pub AreNamed : List Decl → Type 0
AreNamed decls = All (λ d. IsPlain d.name) decls
