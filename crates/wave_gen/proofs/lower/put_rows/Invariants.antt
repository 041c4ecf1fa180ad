use Rattle.std.proofs.Common.{◌≡◌, ◌++◌, ◌-◌}
use Rattle.wave_gen.specs.Texts.{entries_text}
use Rattle.wave_gen.specs.Lower.{rows_from}
use Rattle.wave_gen.proofs.lower.put_rows.Given as goal

-- the text so far and that of the rows left, after the state, are the whole text
abbrev pub invariant-loop-i : goal.invariant-loop-i
invariant-loop-i l =
    l.text.items ++ entries_text (rows_from (l.n - l.i) l.i l.state)
    ≡ l.fn.text.items ++ entries_text (rows_from l.n 0 l.seed)
