use Rattle.std.proofs.Common.{ℕ, ◌<◌, List, subst, sym}
use Rattle.std.specs.List.{All}
use Rattle.csr_arrays.specs.Axes.{Triple, Inside}
use Rattle.csr_arrays.proofs.csr.csc.Goals as goal

pub compress-requires-clause-inside : goal.compress-requires-clause-inside
compress-requires-clause-inside c =
    subst (λ (l : List Triple). Inside c.args.t.now.rows l) (sym c.as_slice.ensures)
    (subst (λ (n : ℕ). All (λ (e : Triple). (e.0 < c.args.t.now.rows) × (e.1 < n)) c.args.t.now.entries) c.requires.square c.requires.inside)
