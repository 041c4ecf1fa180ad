use Rattle.std.proofs.Common.{ap, Err}
use Rattle.wave_main.proofs.FileLaws.{some_long}
use Rattle.wave_main.proofs.fetch.fetch_file.Goals as goal

pub returns-in-Err-Long-clause-file : goal.returns-in-Err-Long-clause-file
returns-in-Err-Long-clause-file g c =
    some_long c.args.limit (g.L.Library.held c.args.lib.now c.args.name.now)
    (c.in-Err-Long.ensures.long (ap Err c.in-Err-Long.field-0-is))
