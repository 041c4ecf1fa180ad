use Rattle.std.proofs.Common.{◌∙◌}
use Rattle.wave_main.proofs.DemoLaws.{made_is}
use Rattle.wave_main.proofs.demo.made_matrix.Goals as goal

pub returns-in-Ok-clause-rows : goal.returns-in-Ok-clause-rows
returns-in-Ok-clause-rows c =
    (made_is c.grid_is_read.ensures c.lower_is_read.ensures c.args.kind c.args.made _ c.in-Ok.matrix c.requires (c.as_slice.ensures.value ∙ c.in_ok-text.ensures) c.in-Ok.ensures.gives).rows

pub returns-in-Ok-clause-columns : goal.returns-in-Ok-clause-columns
returns-in-Ok-clause-columns c =
    (made_is c.grid_is_read.ensures c.lower_is_read.ensures c.args.kind c.args.made _ c.in-Ok.matrix c.requires (c.as_slice.ensures.value ∙ c.in_ok-text.ensures) c.in-Ok.ensures.gives).columns

pub returns-in-Ok-clause-entries : goal.returns-in-Ok-clause-entries
returns-in-Ok-clause-entries c =
    (made_is c.grid_is_read.ensures c.lower_is_read.ensures c.args.kind c.args.made _ c.in-Ok.matrix c.requires (c.as_slice.ensures.value ∙ c.in_ok-text.ensures) c.in-Ok.ensures.gives).entries
