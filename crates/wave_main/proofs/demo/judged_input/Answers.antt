use Rattle.wave_main.proofs.DemoLaws.{input_is}
use Rattle.wave_main.proofs.demo.judged_input.Goals as goal

pub returns-clause-demo : goal.returns-clause-demo
returns-clause-demo c =
    input_is c.args.kind c.args.made c.in_ok-nest.nest c.in_ok-matrix.matrix c.in_ok-input.input c.in_ok-nest.ensures.is_loop c.in_ok-nest.ensures.accepted c.in_ok-matrix.ensures.rows c.in_ok-matrix.ensures.entries
    c.in_ok-input.ensures.nest c.in_ok-input.ensures.arrays c.in_ok-input.ensures.values
