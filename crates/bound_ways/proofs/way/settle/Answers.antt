use Rattle.std.proofs.Common.{rules, arith, ◌≡◌, ◌++◌, ◌∷◌, [], length, w64, to_z, of_z, ℤ, subst}
use Rattle.std.proofs.lemmas.Grind.{common_steps}
use Rattle.std.proofs.lemmas.Int.{to_z-of_z, ints}
use mir.Val.{SFits}
use Rattle.index_props.specs.declared.certificate.Step.TheVariants.{Weaken}
use Rattle.bound_ways.specs.Log.{Emitted}
use Rattle.bound_ways.specs.Places.{diff_at}
use Rattle.bound_table.specs.Rows.{entry}
use Rattle.bound_ways.proofs.Emits.{if-ok, emit-weaken}
use Rattle.bound_ways.proofs.way.settle.Goals as goal

pub returns : goal.returns
returns c =
    let fc : SFits w64 c.args.c = search rules in
    if-ok c.push_weaken.result (λ k. k ≡ length c.emit.new.steps) (λ k. Emitted c.args.atoms.now c.args.table.now.edges.items c.args.steps.now c.push_weaken.new.steps k (diff_at c.args.atoms.now c.args.x c.args.y c.args.c)) (c.push_weaken.new.steps ≡ c.emit.new.steps ++ Weaken c.in_ok-way.way (to_z w64 (of_z w64 c.args.c)) ∷ []) c.push_weaken.ensures.number c.push_weaken.ensures.steps
    (λ k n s. emit-weaken c.args.atoms.now c.args.table.now.edges.items c.args.steps.now c.emit.new.steps c.push_weaken.new.steps c.in_ok-way.way k c.args.x c.args.y (entry c.args.table.now.rows.items c.args.x c.args.y) c.args.c c.in_ok-way.ensures c.requires.holds (rw (to_z-of_z w64 c.args.c fc) at s) n)

pub returns-then-get-c : goal.returns-then-get-c
returns-then-get-c c =
    let e : entry c.args.table.now.rows.items c.args.x c.args.y ≡ c.args.c = first_of (search rules, grind (arith, ints, common_steps)) in
    subst (λ (z : ℤ). Emitted c.args.atoms.now c.args.table.now.edges.items c.args.steps.now c.emit.new.steps c.in_ok-way.way (diff_at c.args.atoms.now c.args.x c.args.y z)) e c.in_ok-way.ensures
