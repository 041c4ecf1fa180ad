use Rattle.std.proofs.Common.{sym, ◌∙◌}
use Rattle.std.proofs.lemmas.Bool.{false≢true}
use Rattle.props_plain.proofs.meaning.is_diagonal_at.Goals as goal

pub returns-then-not-lies_in : goal.returns-then-not-lies_in
returns-then-not-lies_in g c =
    (λ h. absurd (false≢true h), λ x. absurd (false≢true (sym c.if-not-lies_in.true ∙ c.lies_in.ensures.1 (x.from, x.below))))

pub returns : goal.returns
returns g c = (
  λ t. let both = c.lies_in.ensures.0 c.if-not-lies_in.false in record { from = both.0; below = both.1; here = c.holds_there.ensures.0 t },
  λ x. c.holds_there.ensures.1 x.here,
)
