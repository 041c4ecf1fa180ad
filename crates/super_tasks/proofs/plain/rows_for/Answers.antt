use Rattle.std.proofs.Common.{◌≡◌, ◌++◌, ◌∷◌, ◌∙◌, [], true, false, eqb, cond, get_or, ap, sym, rules}
use Rattle.std.proofs.lemmas.List.{append-nil}
use Rattle.std.proofs.lemmas.Bool.{eq-eqb, ne_eqb}
use Rattle.row_graph.specs.Rows.{row_zero}
use Rattle.super_tasks.specs.Shares.{worker_at}
use Rattle.super_tasks.proofs.Searching.{share_so_far, share_more, share_end}
use Rattle.super_tasks.proofs.plain.rows_for.Goals as goal
use Rattle.super_tasks.proofs.plain.rows_for.Goals.{then-found-worker+in_ok-push, else-found-worker}

pub loop-place-preserved : goal.loop-place-preserved
loop-place-preserved c =
    let rows = c.args.rows.now in
    let weights = c.args.weights.now in
    let workers = c.args.workers in
    let worker = c.args.worker in
    let place = c.loop-place.place in
    let more = share_more weights workers rows worker place row_zero (search rules) in
    elim c.if-found-worker.branch [
      | then-found-worker+in_ok-push w ↦
          let t : eqb (worker_at weights workers rows place) worker ≡ true = eq-eqb (worker_at weights workers rows place) worker (search rules) in
          let e : c.if-found-worker.mine.items ≡ w.push.new.self.items = search rules in
          e ∙ w.in_ok-push.ensures.items ∙ ap (λ rs. rs ++ (get_or rows place row_zero) ∷ []) c.loop-place.invariant ∙ sym (more ∙ ap (λ b. share_so_far weights workers rows worker place ++ cond b (get_or rows place row_zero ∷ []) []) t)
      | else-found-worker w ↦
          let f : eqb (worker_at weights workers rows place) worker ≡ false = ne_eqb (worker_at weights workers rows place) worker (search rules) in
          let e : c.if-found-worker.mine.items ≡ c.loop-place.mine.items = search rules in
          e ∙ c.loop-place.invariant ∙ sym (more ∙ ap (λ b. share_so_far weights workers rows worker place ++ cond b (get_or rows place row_zero ∷ []) []) f ∙ append-nil (share_so_far weights workers rows worker place))
    ]

pub returns : goal.returns
returns c = c.loop-place.invariant ∙ share_end c.args.weights.now c.args.workers c.args.rows.now c.args.worker c.loop-place.place c.loop-place-test.false
