use Rattle.std.proofs.Common.{refl, arith}
use Rattle.wave_main.specs.declared.fetch.InputBytes.{InputBytes}
use Rattle.wave_main.proofs.FileLaws.{input_fetched, few_vectors, vectors_unread, if_err}
use Rattle.wave_main.proofs.fetch.fetch_inputs.Goals as goal

pub returns-clause-fetched : goal.returns-clause-fetched
returns-clause-fetched g c =
    input_fetched (g.L.Library.held c.args.lib.now) (g.L.Library.held c.fetch_loop.new.lib) (g.L.Library.held c.fetch_file.new.lib) c.args.words.now c.args.first _ c.word_at.result.now (record { loop_file = c.in_ok-loop_file.loop_file; matrix = c.in_ok-matrix.matrix; vectors = c.in_ok-vectors.vectors })
    c.requires.apart c.requires.within refl c.word_at.ensures c.fetch_loop.ensures.stays c.fetch_file.ensures.stays c.in_ok-loop_file.ensures.file c.in_ok-matrix.ensures.file c.in_ok-vectors.ensures.files

pub returns-clause-count : goal.returns-clause-count
returns-clause-count g c =
    let got : InputBytes = record { loop_file = c.in_ok-loop_file.loop_file; matrix = c.in_ok-matrix.matrix; vectors = c.in_ok-vectors.vectors } in
    let is = input_fetched (g.L.Library.held c.args.lib.now) (g.L.Library.held c.fetch_loop.new.lib) (g.L.Library.held c.fetch_file.new.lib) c.args.words.now c.args.first _ c.word_at.result.now got
    c.requires.apart c.requires.within refl c.word_at.ensures c.fetch_loop.ensures.stays c.fetch_file.ensures.stays c.in_ok-loop_file.ensures.file c.in_ok-matrix.ensures.file c.in_ok-vectors.ensures.files in
    few_vectors (g.L.Library.held c.args.lib.now) c.args.words.now c.args.first is.0 got c.requires.within is.1

pub returns-in_err-vectors-clause-fault : goal.returns-in_err-vectors-clause-fault
returns-in_err-vectors-clause-fault g c =
    if_err c.from_residual-in_err-vectors.result c.in_err-vectors.field-0.0 _ c.from_residual-in_err-vectors.ensures.1
    (vectors_unread c.args.words.now c.args.first (g.L.Library.faults c.args.lib.now) (g.L.Library.faults c.fetch_file.new.lib) (g.L.Library.faults c.fetch_vectors.new.lib) c.in_err-vectors.field-0.0 c.requires.apart c.requires.within
    (λ other. let a = c.fetch_loop.ensures.never_fall other in let b = c.fetch_file.ensures.never_fall other in omega (arith, a, b)) c.in_err-vectors.ensures.fault)
