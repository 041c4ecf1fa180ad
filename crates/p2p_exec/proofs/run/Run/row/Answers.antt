use Rattle.std.proofs.Common.{pos}
use Rattle.loop_core.specs.Instances.{instances}
use Rattle.p2p_exec.specs.Rows.{IsRow}
use Rattle.p2p_exec.proofs.Standing.{still_same}
use Rattle.p2p_exec.proofs.RowLefts.{row_admitted, row_over, row_ran}
use Rattle.p2p_exec.proofs.run.Run.row.Goals as goal

pub walk_row-requires-clause-admits : goal.walk_row-requires-clause-admits
walk_row-requires-clause-admits c =
    let is : IsRow c.args.work.now c.args.row.0 = record { fit = c.requires.fit; rows = c.sizes_fit.ensures.0; entries = c.sizes_fit.ensures.1; here = c.requires.here } in
    row_admitted c.args.work.now c.args.self.now c.args.row is c.requires.over c.requires.begins c.requires.next

pub returns-clause-over : goal.returns-clause-over
returns-clause-over c =
    let is : IsRow c.args.work.now c.args.row.0 = record { fit = c.requires.fit; rows = c.sizes_fit.ensures.0; entries = c.sizes_fit.ensures.1; here = c.requires.here } in
    row_over c.args.work.now c.args.self.now c.walk_row.new.visitor c.args.row is c.requires.over c.requires.begins c.requires.next c.in-Ok.ensures

pub returns-clause-same : goal.returns-clause-same
returns-clause-same c = still_same (instances c.args.work.now.arrays c.args.work.now.nest (pos c.args.row.0)) c.args.self.now c.walk_row.new.visitor c.in-Ok.ensures

pub returns-clause-ran : goal.returns-clause-ran
returns-clause-ran c =
    let is : IsRow c.args.work.now c.args.row.0 = record { fit = c.requires.fit; rows = c.sizes_fit.ensures.0; entries = c.sizes_fit.ensures.1; here = c.requires.here } in
    row_ran c.args.work.now c.args.self.now c.walk_row.new.visitor c.args.row is c.requires.over c.requires.begins c.in-Ok.ensures
