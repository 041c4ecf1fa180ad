use Rattle.std.proofs.Common.{arith, ◌≡◌, ◌∙◌, ap, sym}
use Rattle.std.proofs.lemmas.List.{get_or_default}
use Rattle.loop_core.specs.declared.nest.Atom.{Atom}
use Rattle.loop_core.specs.declared.nest.Atom.TheVariants.{Zero}
use Rattle.bound_ways.specs.Places.{place_in, atom_at}
use Rattle.bound_ways.proofs.Atoms.{same-is}
use Rattle.bound_ways.proofs.places.find.Goals as goal

pub returns-then-same_atom : goal.returns-then-same_atom
returns-then-same_atom c =
    let same : c.args.atom.now ≡ c.index-atoms-at.result = same-is c.args.atom.now c.index-atoms-at.result (sym c.same_atom.ensures ∙ c.if-same_atom.true) in
    let there : c.index-atoms-at.result ≡ atom_at c.args.atoms.now c.held-at.result = c.index-atoms-at.is ∙ get_or_default c.args.atoms.now c.held-at.result c.index-atoms-at.result Zero (omega arith) in
    sym (ap (λ (a : Atom). place_in c.args.atoms.now a) (same ∙ there) ∙ c.held-at.ensures (omega arith))
