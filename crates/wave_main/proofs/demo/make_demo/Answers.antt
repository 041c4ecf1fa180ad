use Rattle.wave_words.specs.Words.{texts}
use Rattle.wave_main.proofs.DemoLaws.{demo_made}
use Rattle.wave_main.proofs.WordLaws.{demo_number, demo_workers}
use Rattle.wave_main.proofs.demo.make_demo.Goals as goal

pub made_of-requires : goal.made_of-requires
made_of-requires g c = demo_number c.args.kind (texts c.args.words.now) c.requires

pub workers_of-requires : goal.workers_of-requires
workers_of-requires g c = demo_workers c.args.kind (texts c.args.words.now) c.requires

pub returns-clause-made : goal.returns-clause-made
returns-clause-made g c held =
    demo_made held (texts c.args.words.now) c.args.kind _ _ _ c.requires c.made_of.ensures.number c.workers_of.ensures.number c.in_ok-text.ensures
