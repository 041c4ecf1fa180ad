-- The first of a list that isn't so.
use Rattle.std.specs.Prelude.{◌≡◌, List, ◌∷◌, ◌++◌}
use Rattle.std.specs.List.{All}

-- x isn't P, and all before it are
pub record IsFirstNot {X : Type 0} (P : X → Type 0) (xs : List X) (x : X) : Type 0 where
  pub before : List X
  pub after : List X
  pub split : xs ≡ before ++ x ∷ after
  pub all : All P before
  pub never : P x → ⊥
