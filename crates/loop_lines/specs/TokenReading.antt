-- Reading one word or sign from the left.
use Rattle.std.specs.Prelude.{ℕ, Bool, false, if◌then◌else◌, ◌==◌, ◌&&◌, List, [], ◌∷◌, Option, Some, None}
use Rattle.std.specs.Option.{option_map}
use Rattle.loop_core.specs.Names.{is_name_byte}
use Rattle.loop_lines.specs.declared.token.Token.{Token}
use Rattle.loop_lines.specs.declared.token.Token.TheVariants as tokens
use Rattle.loop_lines.specs.Words.{word_token, dotted}
use Rattle.loop_lines.specs.Tokens.{sign}

-- the run at the front, and the bytes after it
abbrev pub front_run : List ℕ → List ℕ
front_run [] = []
front_run (b ∷ bs) = if is_name_byte b then b ∷ front_run bs else []

abbrev pub after_run : List ℕ → List ℕ
after_run [] = []
after_run (b ∷ bs) = if is_name_byte b then after_run bs else b ∷ bs

abbrev pub starts_run : List ℕ → Bool
starts_run [] = false
starts_run (b ∷ bs) = is_name_byte b

abbrev pub starts_with : ℕ → List ℕ → Bool
starts_with b [] = false
starts_with b (c ∷ cs) = c == b

abbrev pub tail : List ℕ → List ℕ
tail [] = []
tail (b ∷ bs) = bs

abbrev pub with_rest : List ℕ → Option Token → Option (Token × List ℕ)
with_rest rest token = option_map (λ t. (t, rest)) token

-- a run, or a name and a word with a point between them
abbrev pub run_at : List ℕ → List ℕ → Option (Token × List ℕ)
run_at w rest = if starts_with 46 rest && starts_run (tail rest) then with_rest (after_run (tail rest)) (dotted w (front_run (tail rest))) else with_rest rest (word_token w)

abbrev pub point_at : List ℕ → Option (Token × List ℕ)
point_at rest = if starts_with 46 rest then Some (tokens.To, tail rest) else None

abbrev pub equals_at : List ℕ → Option (Token × List ℕ)
equals_at rest = if starts_with 61 rest then Some (tokens.Equal, tail rest) else Some (tokens.Assign, rest)

abbrev pub below_at : List ℕ → Option (Token × List ℕ)
below_at rest = if starts_with 61 rest then Some (tokens.AtMost, tail rest) else Some (tokens.Less, rest)

abbrev pub mark_at : ℕ → List ℕ → Option (Token × List ℕ)
mark_at b rest = if b == 46 then point_at rest else (if b == 61 then equals_at rest else (if b == 60 then below_at rest else with_rest rest (sign b)))

-- the word or sign at the front, where no blank is
abbrev pub token_at : List ℕ → Option (Token × List ℕ)
token_at [] = None
token_at (b ∷ bs) = if is_name_byte b then run_at (front_run (b ∷ bs)) (after_run (b ∷ bs)) else mark_at b bs
