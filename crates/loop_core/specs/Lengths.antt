-- Arrays and values beside a nest.
use Rattle.std.specs.Prelude.{◌≡◌, ℤ, IsTrue, List, length}
use Rattle.wave_base.specs.declared.types.ArrayId.{ArrayId}
use Rattle.loop_core.specs.declared.decl.Decl.{Decl}
use Rattle.loop_core.specs.Lists.{Lists, list_of}
use Rattle.loop_core.specs.Sizes.{declared_length, is_index, is_data}

-- the index lists have the declared lengths, and so have the data lists
pub record HaveLengths (decls : List Decl) (a : Lists) (x : List (List ℤ)) : Type 0 where
  pub of_index : (array : ArrayId) → IsTrue (is_index decls array) → length (list_of a.lists array) ≡ declared_length decls a.n a.nnz array
  pub of_data : (array : ArrayId) → IsTrue (is_data decls array) → length (list_of x array) ≡ declared_length decls a.n a.nnz array
