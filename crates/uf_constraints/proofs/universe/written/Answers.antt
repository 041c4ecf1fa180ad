use Rattle.std.proofs.Common.{◌≡◌, ◌^◌, [], ◌∷◌, subst, sym, rules}
use Rattle.loop_core.specs.declared.nest.Atom.TheVariants.{Zero, N, Nnz}
use Rattle.uf_constraints.specs.Constants.{IndexesWithin}
use Rattle.uf_constraints.specs.Universe.{written_atoms}
use Rattle.uf_constraints.proofs.Indexes.{written_within}
use Rattle.uf_constraints.proofs.universe.written.Goals as goal

pub returns-clause-within : goal.returns-clause-within
returns-clause-within c =
    let all : c.list_terms.new.into ≡ written_atoms c.args.base.now c.args.extra.now = search rules in
    let sizes : c.in_ok-atoms.atoms ≡ Zero ∷ N ∷ Nnz ∷ [] = search rules in
    let small = subst (IndexesWithin (2 ^ 21)) sizes c.in_ok-atoms.ensures.within in
    subst (IndexesWithin (2 ^ 21)) (sym all) (written_within (2 ^ 21) (Zero ∷ N ∷ Nnz ∷ []) c.args.base.now c.args.extra.now small c.requires.base c.requires.extra)
