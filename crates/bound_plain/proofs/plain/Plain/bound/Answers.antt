use Rattle.std.proofs.Common.{◌≡◌, sym, subst}
use Rattle.bound_ways.specs.Exact.{IsBound}
use Rattle.bound_plain.specs.Plain.{Saturated, IsSaturation}
use Rattle.bound_table.specs.Rows.{entry}
use Rattle.bound_plain.proofs.Visits.{answers}
use Rattle.bound_plain.proofs.plain.Plain.bound.Goals as goal

pub returns : goal.returns
returns c = λ base rules s n.
    let k : Saturated = record { atoms = c.self.inside.places; rows = c.self.inside.grid.rows.items; refuted = c.self.inside.refuted } in
    let v : c.args.self.now ≡ k = sym c.self.view_is in
    let g : IsSaturation k base rules = subst (λ (k : Saturated). IsSaturation k base rules) v s in
    subst (λ (k : Saturated). IsBound k.atoms base rules c.args.a.now c.args.b.now c.between.result) (sym v)
    (answers k.atoms base rules (entry k.rows) (g.found (search rules)) c.args.a.now c.args.b.now c.between.result c.between.ensures)
