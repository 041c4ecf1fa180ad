use Rattle.std.proofs.Common.{arith}
use Rattle.wave_io.proofs.Begins.{begins_after}
use Rattle.wave_io.proofs.read_all.fetch_after.Goals as goal

pub returns-clause-bytes : goal.returns-clause-bytes
returns-clause-bytes g c =
    begins_after c.fetch.result _ c.args.bytes.now c.fetch.new.into _ c.args.filled (omega arith) c.fetch.ensures.count c.fetch.ensures.bytes
