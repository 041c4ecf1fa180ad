use Rattle.std.proofs.Common.{◌≡◌, ◌<◌, ◌++◌, ◌∙◌, ℕ, List, [], All, length, get_or, ap, sym, subst, rules}
use Rattle.wave_base.specs.declared.types.RowId.{RowId}
use Rattle.super_tasks.specs.Shares.{AreEven, share, task_of}
use Rattle.super_tasks.proofs.Evenness.{groups_even}
use Rattle.super_tasks.proofs.Grouping.{grouping_more, grouping_end}
use Rattle.super_tasks.proofs.Weighing.{rows_at-within}
use Rattle.super_tasks.proofs.group.group.Goals as goal

pub loop-level-preserved : goal.loop-level-preserved
loop-level-preserved c =
    let levels = c.args.levels.now in
    let weights = c.args.weights.now in
    let workers = c.args.workers in
    let level = c.loop-level.level in
    let lists = c.loop-level.lists in
    let more = c.share_out.new.lists in
    let many : lists.len ≡ workers = lists.ok.0 ∙ c.loop-level.invariant.many in
    let len : length more.items ≡ length lists.items = sym more.ok.0 ∙ c.in_ok-share_out.ensures.len ∙ lists.ok.0 in
    let shares = subst (λ (n : ℕ). (w : ℕ) → w < n → get_or more.items w [] ≡ get_or lists.items w [] ++ task_of level (share weights n c.rows.result.now w)) many c.in_ok-share_out.ensures.shares in
    grouping_more levels weights workers level lists.items more.items c.loop-level.invariant len
    (λ w h. shares w h ∙ ap (λ (rows : List RowId). get_or lists.items w [] ++ task_of level (share weights workers rows w)) c.rows.ensures.rows)

pub share_out-requires-clause-weighed : goal.share_out-requires-clause-weighed
share_out-requires-clause-weighed c =
    subst (λ (rows : List RowId). All (λ (r : RowId). r.0 < length c.args.weights.now) rows) (sym c.rows.ensures.rows) (rows_at-within c.args.levels.now c.args.weights.now c.loop-level.level c.requires.weights)

pub returns-clause-tasks : goal.returns-clause-tasks
returns-clause-tasks c =
    c.from_vec.ensures ∙ grouping_end c.args.levels.now c.args.weights.now c.args.workers c.loop-level.level c.loop-level.lists.items c.loop-level.invariant (search rules)

pub returns-clause-even : goal.returns-clause-even
returns-clause-even c =
    let e = c.from_vec.ensures ∙ grouping_end c.args.levels.now c.args.weights.now c.args.workers c.loop-level.level c.loop-level.lists.items c.loop-level.invariant (search rules) in
    subst (AreEven c.args.levels.now c.args.weights.now c.args.workers) (sym e) (groups_even c.args.levels.now c.args.weights.now c.args.workers c.requires.weights)
