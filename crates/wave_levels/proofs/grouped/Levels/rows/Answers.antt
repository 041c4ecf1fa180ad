use Rattle.std.proofs.Common.{◌≡◌, ◌↔◌, ◌<◌, ◌∙◌, ℕ, List, Contains, length, ap, sym, subst, arith}
use Rattle.wave_base.specs.declared.types.RowId.{RowId}
use Rattle.row_graph.specs.Predecessors.{AreAscending}
use Rattle.wave_levels.specs.Levels.{above, level_at, rows_at}
use Rattle.wave_levels.proofs.RowsAt.{rows_at-members, rows_at-ascending, rows_at-few}
use Rattle.wave_levels.proofs.grouped.Levels.rows.Goals as goal
use Rattle.wave_levels.proofs.grouped.Levels.rows.Goals.{After-list}

rows_are : (c : After-list) → c.list.result.now ≡ rows_at c.args.self.now c.args.level
rows_are c =
    let h = subst (λ (ls : List ℕ). c.args.level < above ls) (sym c.self.view_is) c.requires in
    c.list.ensures ∙ c.self.invariant.3 c.args.level h ∙ ap (λ (ls : List ℕ). rows_at ls c.args.level) c.self.view_is

pub returns-clause-members : goal.returns-clause-members
returns-clause-members c =
    subst (λ (rows : List RowId). (r : RowId) → Contains rows r ↔ ((r.0 < length c.args.self.now) × (level_at c.args.self.now r ≡ c.args.level))) (sym (rows_are c)) (rows_at-members c.args.self.now c.args.level)

pub returns-clause-ascending : goal.returns-clause-ascending
returns-clause-ascending c = subst AreAscending (sym (rows_are c)) (rows_at-ascending c.args.self.now c.args.level)

pub returns-clause-few : goal.returns-clause-few
returns-clause-few c =
    let same = ap (λ (rows : List RowId). length rows) (rows_are c) in
    let view = ap (λ (ls : List ℕ). length ls) c.self.view_is in
    omega (arith, same, view, c.self.invariant.0, rows_at-few c.args.self.now c.args.level)
