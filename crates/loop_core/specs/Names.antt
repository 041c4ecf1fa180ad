-- The names of the loop language.
use Rattle.std.specs.Prelude.{ℕ, Bool, true, false, ◌&&◌, ◌||◌, not, ◌==◌, nat_le, codes, List, [], ◌∷◌, length}
use Rattle.std.specs.List.{list_all, list_any}

abbrev pub same_name : List ℕ → List ℕ → Bool
same_name [] [] = true
same_name (a ∷ as') (b ∷ bs) = (a == b) && same_name as' bs
same_name _ _ = false

-- `a` to `z`
abbrev pub is_letter : ℕ → Bool
is_letter byte = nat_le 97 byte && nat_le byte 122

-- `0` to `9`
abbrev pub is_digit : ℕ → Bool
is_digit byte = nat_le 48 byte && nat_le byte 57

-- a letter, a digit or `_`
abbrev pub is_name_byte : ℕ → Bool
is_name_byte byte = is_letter byte || is_digit byte || byte == 95

abbrev pub reserved : List (List ℕ)
reserved =
    codes "matrix" ∷ codes "csr" ∷ codes "csc" ∷ codes "index" ∷ codes "vector" ∷ codes "file" ∷ codes "zero"
    ∷ codes "range" ∷ codes "rising" ∷ codes "strict" ∷ codes "injective" ∷ codes "sorted" ∷ codes "below" ∷ codes "upto"
    ∷ codes "diagonal" ∷ codes "before" ∷ codes "of" ∷ codes "by" ∷ codes "loop" ∷ codes "for" ∷ codes "in" ∷ codes "when"
    ∷ codes "set" ∷ codes "end" ∷ codes "n" ∷ codes "nnz" ∷ codes "local" ∷ codes "min" ∷ codes "max" ∷ codes "down"
    ∷ codes "block" ∷ []

abbrev pub begins_with_letter : List ℕ → Bool
begins_with_letter [] = false
begins_with_letter (byte ∷ more) = is_letter byte

-- a letter and then up to 15 letters, digits and `_`, and no reserved word
abbrev pub is_name : List ℕ → Bool
is_name name = begins_with_letter name && list_all is_name_byte name && nat_le (length name) 16 && not (list_any (same_name name) reserved)

-- whether no two names are the same
abbrev pub are_distinct : List (List ℕ) → Bool
are_distinct [] = true
are_distinct (name ∷ more) = not (list_any (same_name name) more) && are_distinct more
