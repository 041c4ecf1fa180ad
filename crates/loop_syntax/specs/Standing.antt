-- What names stand for, in a table.
use Rattle.std.specs.Prelude.{◌≡◌, if◌then◌else◌, ℕ, Bool, List, Option, Some, None, unwrap_or}
use Rattle.std.specs.HashMap.{HashMap, get}
use Rattle.std.specs.Str.{bytes_eq}
use Rattle.std.specs.Option.{option_map}
use Rattle.loop_syntax.specs.declared.scope.Meaning.{Meaning}
use Rattle.loop_syntax.specs.declared.scope.Meaning.TheVariants as meanings
use Rattle.loop_syntax.specs.declared.standing.Key.{Key}
use Rattle.loop_syntax.specs.declared.standing.Standing.{Standing}

abbrev pub key : List ℕ → Key
key name = record { name = name }

abbrev pub same_key : Key → Key → Bool
same_key a b = bytes_eq a.name b.name

-- a name that isn't in the table stands for nothing
abbrev pub nothing : Standing
nothing = record { declared = None; variable = None }

abbrev pub standing_of : {S : Type 0} → HashMap Key Standing S → List ℕ → Standing
standing_of table name = unwrap_or (get same_key table (key name)) nothing

-- the first of two meanings
abbrev pub first_meaning : Option Meaning → Option Meaning → Option Meaning
first_meaning (Some meaning) other = Some meaning
first_meaning None other = other

-- a declared name stands for what it stood for first
abbrev pub and_declared : Standing → Meaning → Standing
and_declared own meaning = record { declared = first_meaning own.declared (Some meaning); variable = own.variable }

abbrev pub with_variable : Standing → Option ℕ → Standing
with_variable own variable = record { declared = own.declared; variable = variable }

-- a variable goes before a declared name
abbrev pub own_meaning : Standing → Option Meaning
own_meaning own = first_meaning (option_map meanings.Variable own.variable) own.declared

-- one name stands for something else than before, and the other names for what they stood for
abbrev pub ChangesAt : {S : Type 0} → List ℕ → (Standing → Standing) → HashMap Key Standing S → HashMap Key Standing S → Type 0
ChangesAt name change before after = (other : List ℕ) → standing_of after other ≡ (if bytes_eq other name then change (standing_of before other) else standing_of before other)
