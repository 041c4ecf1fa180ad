use Rattle.wave_main.proofs.commands.make_text.Goals as goal

pub returns-in-Demo-clause-made : goal.returns-in-Demo-clause-made
returns-in-Demo-clause-made g c = c.make_demo.ensures.made (g.L.Library.held c.args.lib.now)
