-- Bytes that a stream has taken, where it tells them.
use Rattle.std.specs.Prelude.{◌≡◌, ℕ, List, ◌++◌, Option, None, Some}

-- the bytes so far with more at their end; what isn't known stays unknown
abbrev pub grown : Option (List ℕ) → List ℕ → Option (List ℕ)
grown None more = None
grown (Some bytes) more = Some (bytes ++ more)

-- the stream took a first part of these bytes and nothing else
pub record TookPart (old new : Option (List ℕ)) (bytes : List ℕ) : Type 0 where
  pub part : List ℕ
  pub left : List ℕ
  pub split : bytes ≡ part ++ left
  pub took : new ≡ grown old part
