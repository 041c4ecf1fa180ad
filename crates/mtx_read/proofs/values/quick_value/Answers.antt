use Rattle.std.proofs.Common.{◌∙◌, ap, sym, rules}
use Rattle.std.specs.Prelude.{FitsSigned}
use Rattle.std.specs.Int.{w64}
use Rattle.std.proofs.lemmas.Int.{to_z-of_z}
use Rattle.text_base.proofs.QuickLaws.{one_word}
use Rattle.mtx_read.specs.declared.entry.Line.TheVariants as found
use Rattle.mtx_read.proofs.Clamps.{quick_value_is, fits_signed}
use Rattle.mtx_read.proofs.values.quick_value.Goals as goal

pub returns : goal.returns
returns c =
    let range : FitsSigned w64 c.in-Some.a = search rules in
    let one = one_word c.args.bytes.now c.skip_blanks-start.result.now c.in-Some.after_a.now c.skip_blanks.result.now c.in-Some-quick_close.rest.now c.in-Some.a c.skip_blanks-start.ensures (sym c.in-Some.ensures) c.skip_blanks.ensures (sym c.in-Some-quick_close.ensures) in
    record {
      reads = ap found.Entry (to_z-of_z w64 c.in-Some.a range) ∙ quick_value_is c.args.bytes.now c.in-Some.a c.in-Some-quick_close.rest.now one (fits_signed c.in-Some.a range);
      leaves = sym one.after;
    }
