use Rattle.std.proofs.Common.{arith}
use Rattle.std.specs.Prelude.{string_bytes}
use Rattle.std.proofs.lemmas.List.{length-map}
use Rattle.wave_words.specs.Words.{texts}
use Rattle.wave_words.proofs.WordLaws.{usage_at}
use Rattle.wave_words.proofs.usage.first_wrong.Goals as goal

pub returns : goal.returns
returns c =
    let same = length-map c.args.words.now string_bytes in
    usage_at c.args.forms.now (texts c.args.words.now) c.furthest.result c.requires.some c.requires.refused (omega (arith, same, c.furthest.ensures.within)) c.furthest.ensures.count
