use Rattle.std.proofs.Common.{inl, inr}
use Rattle.wave_main.proofs.WordLaws.{not_true}
use Rattle.wave_main.proofs.top.quiet_main.Goals as goal

pub serve_quiet-requires-clause-quiet : goal.serve_quiet-requires-clause-quiet
serve_quiet-requires-clause-quiet g c κs within others = elim others [
  | inl run ↦ not_true _ c.if-begins.false (c.begins.ensures.1 run)
  | inr demo ↦ not_true _ c.if-begins-2.false (c.begins-else-begins.ensures.1 demo)
]
