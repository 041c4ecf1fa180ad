use Rattle.std.proofs.Common.{arith, ◌≡◌, ◌++◌, ◌∷◌, ℕ, List, length, slice_index_or, [], pos, subst, ◌∙◌, ap}
use Rattle.std.proofs.lemmas.List.{get_or_default}
use Rattle.loop_core.specs.declared.nest.Atom.{Atom}
use Rattle.loop_core.specs.declared.nest.Atom.TheVariants.{Zero}
use Rattle.index_props.specs.declared.certificate.Step.TheVariants.{Same, Sum}
use Rattle.bound_ways.specs.Places.{atom_at, diff_at}
use Rattle.bound_table.specs.Rows.{entry}
use Rattle.bound_table.specs.Marks.{mark_at}
use Rattle.bound_ways.specs.Log.{Emitted}
use Rattle.bound_ways.proofs.Emits.{if-ok, emit-itself, way-edge, way-second, way-first, way-ends, way-both}
use Rattle.bound_ways.proofs.way.+emit.Goals as goal

pub returns-in_default : goal.returns-in_default
returns-in_default t c =
    let at : c.index-listed-x.result ≡ atom_at c.args.atoms.now c.args.x = c.index-listed-x.is ∙ ap (λ (l : List Atom). slice_index_or l c.args.x c.index-listed-x.result) c.as_slice-listed.ensures ∙ get_or_default c.args.atoms.now c.args.x c.index-listed-x.result Zero (omega arith) in
    let zero : entry c.args.table.now.rows.items c.args.x c.args.y ≡ pos 0 = subst (λ (k : ℕ). entry c.args.table.now.rows.items c.args.x k ≡ pos 0) c.in_default.ensures (c.requires.traced.table.sums.itself c.args.x c.requires.x) in
    if-ok c.push_same.result (λ k. k ≡ length c.args.steps.now) (λ k. Emitted c.args.atoms.now c.args.table.now.edges.items c.args.steps.now c.push_same.new.steps k (diff_at c.args.atoms.now c.args.x c.args.y (entry c.args.table.now.rows.items c.args.x c.args.y))) (c.push_same.new.steps ≡ c.args.steps.now ++ Same c.index-listed-x.result ∷ []) c.push_same.ensures.number c.push_same.ensures.steps
    (λ k n s. emit-itself c.args.atoms.now c.args.table.now.edges.items c.args.steps.now c.push_same.new.steps k c.args.x c.args.y (entry c.args.table.now.rows.items c.args.x c.args.y) (omega arith) (rw (← at) s) n c.in_default.ensures zero)

pub returns-then-edge-y : goal.returns-then-edge-y
returns-then-edge-y t c =
    let h = c.in-Some.ensures in
    way-edge c.args.atoms.now c.args.table.now.edges.items (length c.args.table.now.rows.items) (entry c.args.table.now.rows.items) (mark_at c.args.table.now.marks.items) c.args.x c.args.y (mark_at c.args.table.now.marks.items c.args.x c.args.y) c.in-Some.edge c.requires.traced.table.few c.requires.traced.table.sums c.requires.x c.requires.y h.via h.is h.within c.args.steps.now c.if-edge-x.true c.if-edge-y.true

pub returns-then-edge-x : goal.returns-then-edge-x
returns-then-edge-x t c =
    let h = c.in-Some.ensures in
    if-ok c.push_sum.result (λ k. k ≡ length c.emit.new.steps) (λ k. Emitted c.args.atoms.now c.args.table.now.edges.items c.args.steps.now c.push_sum.new.steps k (diff_at c.args.atoms.now c.args.x c.args.y (entry c.args.table.now.rows.items c.args.x c.args.y))) (c.push_sum.new.steps ≡ c.emit.new.steps ++ Sum c.in-Some.edge.step c.in_ok-second.second ∷ []) c.push_sum.ensures.number c.push_sum.ensures.steps
    (λ k n s. way-second c.args.atoms.now c.args.table.now.edges.items (length c.args.table.now.rows.items) (entry c.args.table.now.rows.items) (mark_at c.args.table.now.marks.items) c.args.x c.args.y (mark_at c.args.table.now.marks.items c.args.x c.args.y) c.in-Some.edge c.requires.traced.table.few c.requires.traced.table.sums c.requires.x c.requires.y h.via h.is h.within c.args.steps.now c.emit.new.steps c.push_sum.new.steps c.in_ok-second.second k c.if-edge-x.true c.in_ok-second.ensures s n)

pub returns-then-edge-y-2 : goal.returns-then-edge-y-2
returns-then-edge-y-2 t c =
    let h = c.in-Some.ensures in
    way-ends c.args.atoms.now c.args.table.now.edges.items (length c.args.table.now.rows.items) (entry c.args.table.now.rows.items) (mark_at c.args.table.now.marks.items) c.args.x c.args.y (mark_at c.args.table.now.marks.items c.args.x c.args.y) c.in-Some.edge c.requires.traced.table.few c.requires.traced.table.sums c.requires.x c.requires.y h.via h.is h.within c.args.steps.now c.push_sum-2.new.steps c.in_ok-at.at c.if-edge-y-2.true
    (way-first c.args.atoms.now c.args.table.now.edges.items (length c.args.table.now.rows.items) (entry c.args.table.now.rows.items) (mark_at c.args.table.now.marks.items) c.args.x c.args.y (mark_at c.args.table.now.marks.items c.args.x c.args.y) c.in-Some.edge c.requires.traced.table.few c.requires.traced.table.sums c.requires.x c.requires.y h.via h.is h.within c.args.steps.now c.emit-2.new.steps c.push_sum-2.new.steps c.in_ok-first.first c.in_ok-at.at c.in_ok-first.ensures c.in_ok-at.ensures.steps c.in_ok-at.ensures.number)

pub returns : goal.returns
returns t c =
    let h = c.in-Some.ensures in
    if-ok c.push_sum-3.result (λ k. k ≡ length c.emit-3.new.steps) (λ k. Emitted c.args.atoms.now c.args.table.now.edges.items c.args.steps.now c.push_sum-3.new.steps k (diff_at c.args.atoms.now c.args.x c.args.y (entry c.args.table.now.rows.items c.args.x c.args.y))) (c.push_sum-3.new.steps ≡ c.emit-3.new.steps ++ Sum c.in_ok-at.at c.in_ok-second-2.second ∷ []) c.push_sum-3.ensures.number c.push_sum-3.ensures.steps
    (λ k n s. way-both c.args.atoms.now c.args.table.now.edges.items (length c.args.table.now.rows.items) (entry c.args.table.now.rows.items) (mark_at c.args.table.now.marks.items) c.args.x c.args.y (mark_at c.args.table.now.marks.items c.args.x c.args.y) c.in-Some.edge c.requires.traced.table.few c.requires.traced.table.sums c.requires.x c.requires.y h.via h.is h.within c.args.steps.now c.push_sum-2.new.steps c.emit-3.new.steps c.push_sum-3.new.steps c.in_ok-at.at c.in_ok-second-2.second k
    (way-first c.args.atoms.now c.args.table.now.edges.items (length c.args.table.now.rows.items) (entry c.args.table.now.rows.items) (mark_at c.args.table.now.marks.items) c.args.x c.args.y (mark_at c.args.table.now.marks.items c.args.x c.args.y) c.in-Some.edge c.requires.traced.table.few c.requires.traced.table.sums c.requires.x c.requires.y h.via h.is h.within c.args.steps.now c.emit-2.new.steps c.push_sum-2.new.steps c.in_ok-first.first c.in_ok-at.at c.in_ok-first.ensures c.in_ok-at.ensures.steps c.in_ok-at.ensures.number)
    c.in_ok-second-2.ensures s n)
