use Rattle.std.proofs.Common.{ℕ, ◌<◌, List, subst, sym}
use Rattle.std.specs.Prelude.{IfOk}
use Rattle.std.specs.List.{All}
use Rattle.std.proofs.lemmas.List.{map-id}
use Rattle.csr_arrays.specs.Axes.{Triple, Inside}
use Rattle.csr_arrays.specs.Arrays.{AreArrays}
use Rattle.csr_arrays.proofs.csr.csr.Goals as goal

pub compress-requires-clause-inside : goal.compress-requires-clause-inside
compress-requires-clause-inside c =
    subst (λ (l : List Triple). Inside c.args.t.now.rows l) (sym c.as_slice.ensures)
    (subst (λ (n : ℕ). All (λ (e : Triple). (e.0 < c.args.t.now.rows) × (e.1 < n)) c.args.t.now.entries) c.requires.square c.requires.inside)

pub returns-clause-arrays : goal.returns-clause-arrays
returns-clause-arrays c = subst (λ (us : List Triple). IfOk c.compress.result (λ m. AreArrays c.args.t.now.rows us m)) (map-id c.args.t.now.entries) (rw (← c.as_slice.ensures) c.compress.ensures.arrays)
