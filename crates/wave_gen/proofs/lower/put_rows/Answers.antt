use Rattle.std.proofs.Common.{◌++◌, ◌-◌, ◌+◌, ℕ, ap, ◌∙◌, arith}
use Rattle.wave_gen.specs.Texts.{entries_text}
use Rattle.wave_gen.specs.Lower.{rows_from}
use Rattle.wave_gen.proofs.Steps.{put_drawn}
use Rattle.wave_gen.proofs.lower.put_rows.Goals as goal

pub loop-i-preserved : goal.loop-i-preserved
loop-i-preserved c =
    let n = c.args.n in
    let i = c.loop-i.i in
    ap (λ (s : ℕ). c.put_diagonal.new.text.items ++ entries_text (rows_from (n - (i + 1)) (i + 1) s)) c.in_ok-put_diagonal.ensures.state
    ∙ put_drawn n i c.loop-i.state c.put_lefts.new.state _ _ _ _ (omega arith) c.in_ok-put_lefts.ensures.text c.in_ok-put_lefts.ensures.state c.in_ok-put_diagonal.ensures.text c.loop-i.invariant
