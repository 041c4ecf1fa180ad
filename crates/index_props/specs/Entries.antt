-- The array entries of a universe.
use Rattle.std.specs.Prelude.{pos, ◌==◌, Option, Some, None, slice_get, List, [], ◌∷◌, Bool, ◌&&◌, if◌then◌else◌}
use Rattle.std.specs.List.{flat_map, list_any}
use Rattle.wave_base.specs.declared.types.ArrayId.{ArrayId}
use Rattle.loop_core.specs.declared.decl.Decl.{Decl}
use Rattle.loop_core.specs.declared.decl.Size.{Size}
use Rattle.loop_core.specs.declared.decl.Size.TheVariants.{N as of_n, NPlusOne, Nnz as of_nnz}
use Rattle.loop_core.specs.declared.nest.Term.{Term}
use Rattle.loop_core.specs.declared.nest.Atom.{Atom, out-Atom}
use Rattle.loop_core.specs.declared.nest.Atom.TheVariants.{Zero, N, Nnz, At}
use Rattle.loop_core.specs.declared.nest.Atom.TheOpen.{Atom-F}
use Rattle.loop_core.specs.Sizes.{sizes}
use Rattle.uf_constraints.specs.Universe.{plain}
use Rattle.uf_constraints.specs.Same.{same_term}

-- an entry f[t]: its array with its length, its argument t, and f[t] itself as a term
pub record EntryTerms : Type 0 where
  pub array : ArrayId
  pub extent : Term
  pub index : Term
  pub value : Term

-- the length of an array as a term
abbrev pub size_term : Option Size → Term
size_term None = plain Zero
size_term (Some of_n) = plain N
size_term (Some NPlusOne) = record { atom = N; plus = pos 1 }
size_term (Some of_nnz) = plain Nnz

abbrev pub length_term : List Decl → ArrayId → Term
length_term decls f = size_term (slice_get (sizes decls) f.0)

abbrev pub entry_of : List Decl → ArrayId → Term → EntryTerms
entry_of decls f t = record { array = f; extent = length_term decls f; index = t; value = plain (At f t) }

abbrev pub entry_in : List Decl → Atom-F Atom Term → List EntryTerms
entry_in decls (Atom-F.At f t) = entry_of decls f t ∷ []
entry_in decls Atom-F.Zero = []
entry_in decls Atom-F.N = []
entry_in decls Atom-F.Nnz = []
entry_in decls (Atom-F.Var v) = []

-- the entry where the atom is one
abbrev pub entry_at : List Decl → Atom → List EntryTerms
entry_at decls a = entry_in decls (out-Atom a)

-- the entries among the atoms, in their order
abbrev pub entries : List Decl → List Atom → List EntryTerms
entries decls atoms = flat_map (entry_at decls) atoms

-- those of one array
abbrev pub if_of : ArrayId → EntryTerms → List EntryTerms
if_of f e = if e.array.0 == f.0 then e ∷ [] else []

abbrev pub of_array : ArrayId → List EntryTerms → List EntryTerms
of_array f es = flat_map (if_of f) es

-- two entries p[u] and p[u+1], between which a segment lies
pub record SegmentTerms : Type 0 where
  pub start : EntryTerms
  pub stop : EntryTerms

-- f[t] is one of the entries
abbrev pub has_entry : List EntryTerms → ArrayId → Term → Bool
has_entry es f t = list_any (λ e. (e.array.0 == f.0) && same_term t e.index) es
