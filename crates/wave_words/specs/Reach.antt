-- How far words may begin those of a command.
use Rattle.std.specs.Prelude.{ℕ, max, List, [], ◌∷◌}
use Rattle.wave_words.specs.declared.form.Form.{Form}
use Rattle.wave_words.specs.Forms.{form_reach}

abbrev pub furthest : List (List ℕ) → List Form → ℕ
furthest words [] = 0
furthest words (form ∷ more) = max (form_reach words form) (furthest words more)
