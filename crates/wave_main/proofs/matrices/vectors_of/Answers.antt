use Rattle.std.proofs.Common.{arith}
use Rattle.wave_main.proofs.FileLaws.{match_err}
use Rattle.wave_main.proofs.MatrixLaws.{fetched_here, refused_here, goes_on, more_vectors, none_left}
use Rattle.wave_main.proofs.matrices.vectors_of.Goals as goal

pub returns-in_err-vector-clause-answer : goal.returns-in_err-vector-clause-answer
returns-in_err-vector-clause-answer c bytes are =
    let here = fetched_here bytes c.args.files.now c.loop-file.file-index _ are c.loop-file-test.true c.file-item.is in
    match_err c.from_residual.result c.in_err-vector.field-0.0 _ _ c.from_residual.ensures.1
    (refused_here c.loop-file.word c.loop-file.file-index bytes here.0 _ _ here.1 (c.in_err-vector.ensures here.0 here.2) (c.loop-file.invariant.2 bytes are).0)

pub loop-file-preserved : goal.loop-file-preserved
loop-file-preserved c = (
  omega (arith, c.loop-file.invariant.0),
  more_vectors _ _ _ _ c.in_ok-push.ensures.items c.loop-file.invariant.1,
  (λ bytes are.
      let here = fetched_here bytes c.args.files.now c.loop-file.file-index _ are c.loop-file-test.true c.file-item.is in
      let read = c.in_ok-vector.ensures here.0 here.2 in
      goes_on c.loop-file.word c.loop-file.file-index bytes here.0 _ _ c.in_ok-vector.vector _ _ here.1 read.0 read.1 c.in_ok-push.ensures.items (c.loop-file.invariant.2 bytes are).0 (c.loop-file.invariant.2 bytes are).1),
)

pub returns-clause-answer : goal.returns-clause-answer
returns-clause-answer c bytes are = none_left c.loop-file.word c.loop-file.file-index bytes c.args.files.now _ _ are c.loop-file-test.false (c.loop-file.invariant.2 bytes are).0 (c.loop-file.invariant.2 bytes are).1
