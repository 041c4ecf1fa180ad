use Rattle.std.proofs.Common.{◌≤◌, length, arith}
use Rattle.text_base.proofs.LineLaws.{after_shorter}
use Rattle.mtx_read.proofs.head.split_head.Goals as goal

pub returns-clause-few : goal.returns-clause-few
returns-clause-few c =
    let less : length c.split_line.result.1.now ≤ length c.args.bytes.now = rw c.split_line.ensures.after (after_shorter c.args.bytes.now) in
    omega (arith, less, c.if-bytes.false)
