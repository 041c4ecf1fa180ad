use Rattle.std.proofs.Common.{◌≡◌, ◌*◌, ◌/◌, ◌∙◌, length, arith}
use Rattle.super_tasks.specs.Shares.{weight_of, worker_at}
use Rattle.super_tasks.proofs.Weighing.{weighed, weight_of-all, weight_of-some}
use Rattle.super_tasks.proofs.plain.worker_for.Goals as goal

pub nonzero_div-result : goal.nonzero_div-result
nonzero_div-result c =
    let weights = c.args.weights.now in
    let rows = c.args.rows.now in
    let are = weighed weights rows c.requires.weights c.requires.weighed in
    let some = weight_of-some weights rows are (omega (arith, c.requires.place)) in
    omega (arith, some, c.weight_before-total.ensures.weight, weight_of-all weights rows (length rows) (omega arith))

pub returns : goal.returns
returns c =
    let weights = c.args.weights.now in
    let rows = c.args.rows.now in
    let total : c.weight_before-total.result ≡ weight_of weights rows = c.weight_before-total.ensures.weight ∙ weight_of-all weights rows (length rows) (omega arith) in
    let e : c.weight_before-before.result * c.args.workers / c.weight_before-total.result ≡ worker_at weights c.args.workers rows c.args.place = λ x. c.weight_before-before.ensures.weight x * c.args.workers / total x in
    e
