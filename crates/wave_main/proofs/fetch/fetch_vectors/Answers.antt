use Rattle.std.proofs.Common.{◌∙◌, arith}
use Rattle.wave_main.proofs.FileLaws.{files_next, fault_from, if_err}
use Rattle.wave_main.proofs.fetch.fetch_vectors.Goals as goal

pub returns-in_err-file-clause-fault : goal.returns-in_err-file-clause-fault
returns-in_err-file-clause-fault g c =
    if_err c.from_residual.result c.in_err-file.field-0.0 _ c.from_residual.ensures.1
    (fault_from c.args.first c.loop-at.at c.args.names.now c.index-names-at.result c.as_str.result.now (g.L.Library.faults c.args.lib.now) (g.L.Library.faults c.loop-at.lib) (g.L.Library.faults c.fetch_file.new.lib) c.in_err-file.field-0.0 c.loop-at-test.true c.index-names-at.is c.as_str.ensures.value c.loop-at.invariant.1 c.in_err-file.ensures.fault)

pub loop-at-preserved : goal.loop-at-preserved
loop-at-preserved g c = (
  files_next (g.L.Library.held c.args.lib.now) (g.L.Library.held c.loop-at.lib) c.args.names.now c.loop-at.at c.index-names-at.result c.as_str.result.now _ _ c.in_ok-file.file c.loop-at-test.true c.index-names-at.is c.as_str.ensures.value c.loop-at.invariant.2 c.loop-at.invariant.0 c.in_ok-file.ensures.file c.in_ok-push.ensures.items,
  (λ other. let a = c.loop-at.invariant.1 other in let b = c.fetch_file.ensures.never_fall other in omega (arith, a, b)),
  (λ other. c.fetch_file.ensures.stays other ∙ c.loop-at.invariant.2 other),
)
