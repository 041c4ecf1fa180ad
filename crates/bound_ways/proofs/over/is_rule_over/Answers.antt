use Rattle.bound_ways.proofs.over.is_rule_over.Goals as goal

pub returns-then-are_over-clause-yes : goal.returns-then-are_over-clause-yes
returns-then-are_over-clause-yes c = λ h. record {
  premises = rw (← c.as_slice.ensures) (c.are_over.ensures.yes c.if-are_over.true);
  results = rw (← c.as_slice-then-are_over.ensures) (c.are_over-then-are_over.ensures.yes h);
}

pub returns-then-are_over-clause-no : goal.returns-then-are_over-clause-no
returns-then-are_over-clause-no c = λ h over. c.are_over-then-are_over.ensures.no h (rw c.as_slice-then-are_over.ensures over.results)

pub returns-else-are_over-clause-no : goal.returns-else-are_over-clause-no
returns-else-are_over-clause-no c = λ _ over. c.are_over.ensures.no c.if-are_over.false (rw c.as_slice.ensures over.premises)
