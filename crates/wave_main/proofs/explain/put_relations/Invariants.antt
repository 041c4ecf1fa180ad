use Rattle.std.proofs.Common.{◌≡◌, ◌++◌, ◌+◌, drop}
use Rattle.std.specs.String.{string_bytes}
use Rattle.wave_main.specs.Texts.{relation_lines}
use Rattle.wave_main.proofs.explain.put_relations.Given as goal

-- the text so far and the lines of the relations left are the whole text
abbrev pub invariant-loop-at : goal.invariant-loop-at
invariant-loop-at l =
    string_bytes l.text ++ relation_lines (l.at + 1) (drop l.at l.relations) (drop l.at l.verdicts)
    ≡ string_bytes l.fn.text ++ relation_lines 1 l.relations l.verdicts
