use Rattle.std.proofs.Common.{◌∙◌, refl, sym, rules}
use Rattle.std.specs.Prelude.{FitsSigned}
use Rattle.std.specs.Int.{w64}
use Rattle.std.proofs.lemmas.Int.{to_z-of_z}
use Rattle.text_base.proofs.QuickLaws.{three_words}
use Rattle.mtx_read.proofs.Clamps.{quick_is, fits_signed}
use Rattle.mtx_read.proofs.entry.quick_integers.Goals as goal

pub returns : goal.returns
returns c =
    let range : FitsSigned w64 c.in-Some-quick_integer.a = search rules in
    let ranged = simp to_z-of_z at c.range.ensures in
    let numbers = c.in-Some.ensures in
    let three = three_words c.args.bytes.now _ numbers.after_first numbers.at_second c.in-Some.after_j.now c.in-Some-quick_gap.at_a.now c.in-Some-quick_integer.after_a.now c.skip_blanks.result.now c.in-Some-quick_close.rest.now c.in-Some.i c.in-Some.j c.in-Some-quick_integer.a refl numbers.one numbers.gap numbers.two (sym c.in-Some-quick_gap.ensures) (sym c.in-Some-quick_integer.ensures) c.skip_blanks.ensures (sym c.in-Some-quick_close.ensures) in
    record {
      reads = ranged ∙ quick_is c.args.shape.now c.args.bytes.now c.in-Some.i c.in-Some.j c.in-Some-quick_integer.a c.in-Some-quick_close.rest.now c.requires three (fits_signed c.in-Some-quick_integer.a range);
      leaves = sym three.after;
    }
