use Rattle.std.proofs.Common.{◌≡◌, false, length}
use Rattle.loop_lines.specs.Tokens.{line_tokens}
use Rattle.loop_lines.proofs.TokenLaws.{behind, starts_blank}
use Rattle.loop_lines.proofs.lexer.read_tokens.Given as goal

abbrev pub invariant-loop-rest : goal.invariant-loop-rest
invariant-loop-rest l = (behind l.found.items (line_tokens l.rest) ≡ line_tokens l.line) × (starts_blank l.rest ≡ false)

abbrev pub decreases-loop-rest : goal.decreases-loop-rest
decreases-loop-rest l = length l.rest
