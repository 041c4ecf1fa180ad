-- Arrays as the declarations of a nest name them.
use Rattle.std.specs.Prelude.{◌≡◌, IsTrue, List, [], length}
use Rattle.wave_base.specs.declared.types.ArrayId.{ArrayId}
use Rattle.loop_core.specs.declared.decl.Decl.{Decl}
use Rattle.loop_core.specs.Lists.{list_of}
use Rattle.loop_core.specs.Lengths.{HaveLengths}
use Rattle.loop_core.specs.Sizes.{sizes, is_index, is_data}
use Rattle.array_bind.specs.declared.bind.Bound.{Bound}

-- each array has its declared length; an index list and a data list stand for each array number, and that of the other kind is empty
pub record AreDeclared (decls : List Decl) (bound : Bound) : Type 0 where
  pub have_lengths : HaveLengths decls bound.arrays bound.values
  pub index_lists : length bound.arrays.lists ≡ length (sizes decls)
  pub data_lists : length bound.values ≡ length (sizes decls)
  pub no_index : (array : ArrayId) → IsTrue (is_data decls array) → list_of bound.arrays.lists array ≡ []
  pub no_data : (array : ArrayId) → IsTrue (is_index decls array) → list_of bound.values array ≡ []
