use Rattle.std.proofs.Common.{◌∙◌, refl, sym}
use Rattle.text_base.proofs.QuickLaws.{two_words}
use Rattle.mtx_read.proofs.Clamps.{quick_pattern_is}
use Rattle.mtx_read.proofs.entry.quick_pattern.Goals as goal

pub returns : goal.returns
returns c =
    let numbers = c.in-Some.ensures in
    let two = two_words c.args.bytes.now _ numbers.after_first numbers.at_second c.in-Some.after_j.now c.skip_blanks.result.now c.in-Some-quick_close.rest.now c.in-Some.i c.in-Some.j refl numbers.one numbers.gap numbers.two c.skip_blanks.ensures (sym c.in-Some-quick_close.ensures) in
    record {
      reads = c.range.ensures ∙ quick_pattern_is c.args.shape.now c.args.bytes.now c.in-Some.i c.in-Some.j c.in-Some-quick_close.rest.now c.requires two;
      leaves = sym two.after;
    }
