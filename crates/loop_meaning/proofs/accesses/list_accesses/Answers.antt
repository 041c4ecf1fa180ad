use Rattle.std.proofs.Common.{◌≡◌, List, ◌++◌, ap, ◌∙◌, pos}
use Rattle.std.specs.List.{flat_map}
use Rattle.loop_core.specs.declared.place.Place.{Place}
use Rattle.loop_core.specs.Instances.{Instance, instances}
use Rattle.loop_core.specs.Touches.{reads}
use Rattle.loop_meaning.specs.declared.accesses.Accesses.{Accesses}
use Rattle.loop_meaning.specs.Accesses.{places_set}
use Rattle.loop_meaning.proofs.Walks.{admits_all}
use Rattle.loop_meaning.proofs.Touched.{listed}
use Rattle.loop_meaning.proofs.accesses.list_accesses.Goals as goal

abbrev lists : Accesses → Instance → Accesses → Type 0
lists x s y = (y.reads.items ≡ x.reads.items ++ reads s.value) × (y.writes.items ≡ x.writes.items ++ places_set s.effect)

pub walk_row-requires-clause-admits : goal.walk_row-requires-clause-admits
walk_row-requires-clause-admits c = admits_all lists _ (instances c.args.arrays.now c.args.nest.now (pos c.args.row.0))

pub returns-clause-reads : goal.returns-clause-reads
returns-clause-reads c =
    let xs = instances c.args.arrays.now c.args.nest.now (pos c.args.row.0) in
    listed (λ (a : Accesses). a.reads.items) (λ s. reads s.value) lists (λ x i y m. m.0) _ xs c.walk_row.new.visitor c.in_ok-walk_row.ensures
    ∙ ap (λ (ps : List Place). ps ++ flat_map (λ s. reads s.value) xs) c.new.ensures.items

pub returns-clause-writes : goal.returns-clause-writes
returns-clause-writes c =
    let xs = instances c.args.arrays.now c.args.nest.now (pos c.args.row.0) in
    listed (λ (a : Accesses). a.writes.items) (λ s. places_set s.effect) lists (λ x i y m. m.1) _ xs c.walk_row.new.visitor c.in_ok-walk_row.ensures
    ∙ ap (λ (ps : List Place). ps ++ flat_map (λ s. places_set s.effect) xs) c.new-2.ensures.items
