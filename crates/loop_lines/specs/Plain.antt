-- Names that consist of letters, digits and `_`.
use Rattle.std.specs.Prelude.{◌≡◌, ℕ, Bool, true, IsTrue, List, ◌∷◌, ◌++◌}
use Rattle.std.specs.List.{list_all, flat_map}
use Rattle.loop_core.specs.declared.nest.Nest.{Nest}
use Rattle.loop_core.specs.IsNest.{declared_names}
use Rattle.loop_core.specs.Names.{is_name_byte}
use Rattle.loop_core.specs.Shape.{body_lines, line_names}
use Rattle.loop_lines.specs.declared.line.Line.{Line}
use Rattle.loop_lines.specs.declared.line.Line.TheVariants as lines

abbrev pub is_plain : List ℕ → Bool
is_plain name = list_all is_name_byte name

-- the name that a line declares consists of these
abbrev pub IsPlainLine : Line → Type 0
IsPlainLine (lines.Matrix name form) = is_plain name ≡ true
IsPlainLine (lines.Index name size) = is_plain name ≡ true
IsPlainLine (lines.Vector name size source) = is_plain name ≡ true
IsPlainLine (lines.Local name) = is_plain name ≡ true
IsPlainLine (lines.Loop name) = is_plain name ≡ true
IsPlainLine (lines.For name lo hi) = is_plain name ≡ true
IsPlainLine _ = Unit {0}

-- the names that a nest declares, its variables' among them
abbrev pub nest_names : Nest → List (List ℕ)
nest_names nest = declared_names nest ++ nest.name ∷ flat_map (λ l. line_names l.form) (body_lines nest)

-- they consist of letters, digits and `_`
pub record HasNames (nest : Nest) : Type 0 where
  pub names : IsTrue (list_all is_plain (nest_names nest))
