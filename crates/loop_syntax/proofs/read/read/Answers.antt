use Rattle.std.proofs.Common.{rules, sym, ◌∙◌, Ok, Err}
use Rattle.text_base.specs.Lines.{lines}
use Rattle.loop_syntax.proofs.ReadLaws.{badly_cut, badly_made, whole_refusal, whole_nested, whole_few, is_read}
use Rattle.loop_syntax.proofs.Accepted.{accepted}
use Rattle.loop_syntax.proofs.TextLaws.{answer_is}
use Rattle.loop_syntax.proofs.read.read.Goals as goal

pub returns-in_err-cut-clause-answer : goal.returns-in_err-cut-clause-answer
returns-in_err-cut-clause-answer c =
    let stop = badly_cut (lines c.args.bytes.now) c.in_err-cut.field-0.0 c.in_err-cut.ensures.answer in
    search (rules, stop)

pub returns-in_err-cut-clause-grammar : goal.returns-in_err-cut-clause-grammar
returns-in_err-cut-clause-grammar c =
    let ls = lines c.args.bytes.now in
    let stop = (answer_is ls (Err c.in_err-cut.field-0.0)).0 (badly_cut ls c.in_err-cut.field-0.0 c.in_err-cut.ensures.answer) in
    search (rules, stop)

pub returns-in-Some-clause-answer : goal.returns-in-Some-clause-answer
returns-in-Some-clause-answer c = badly_made (lines c.args.bytes.now) c.in_ok-cut.cut c.in_ok-why.field-0 c.in-Some.why c.in_ok-cut.ensures.answer c.in_ok-why.ensures c.in-Some.is

pub returns-in-Some-clause-grammar : goal.returns-in-Some-clause-grammar
returns-in-Some-clause-grammar c =
    let ls = lines c.args.bytes.now in
    (answer_is ls (Err c.in-Some.why)).0 (badly_made ls c.in_ok-cut.cut c.in_ok-why.field-0 c.in-Some.why c.in_ok-cut.ensures.answer c.in_ok-why.ensures c.in-Some.is)

pub build-requires-clause-nested : goal.build-requires-clause-nested
build-requires-clause-nested c =
    let ls = lines c.args.bytes.now in
    rw c.as_slice.ensures (whole_nested ls c.in_ok-cut.cut c.in_ok-cut.ensures.answer (whole_refusal ls c.in_ok-cut.cut c.in_ok-cut.ensures.answer ∙ sym c.in_ok-why.ensures ∙ c.in-None.is))

pub build-requires-clause-few : goal.build-requires-clause-few
build-requires-clause-few c =
    let ls = lines c.args.bytes.now in
    rw c.as_slice.ensures (whole_few ls c.in_ok-cut.cut c.in_ok-cut.ensures.answer (whole_refusal ls c.in_ok-cut.cut c.in_ok-cut.ensures.answer ∙ sym c.in_ok-why.ensures ∙ c.in-None.is))

pub returns : goal.returns
returns c =
    let nest = c.in_ok-build-in-None.field-0 in
    let read = is_read (lines c.args.bytes.now) c.in_ok-cut.cut c.as_slice.result.now c.in_ok-why.field-0 nest c.in_ok-cut.ensures.answer c.in_ok-why.ensures c.in-None.is c.as_slice.ensures c.in_ok-build-in-None.ensures in
    let also = accepted (lines c.args.bytes.now) nest read in
    record { answer = read; grammar = (answer_is (lines c.args.bytes.now) (Ok nest)).0 read; shallow = also.shallow; few = also.few; few_locals = also.few_locals; names = also.names }
