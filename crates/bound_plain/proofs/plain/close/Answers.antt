use Rattle.bound_plain.proofs.plain.close.Goals as goal

pub saturated-requires-clause-base : goal.saturated-requires-clause-base
saturated-requires-clause-base c = λ d i. rw (c.in_ok-places.ensures, c.as_slice.ensures) (c.requires.base d i)

pub saturated-requires-clause-rules : goal.saturated-requires-clause-rules
saturated-requires-clause-rules c = λ r i. rw (c.in_ok-places.ensures, c.as_slice.ensures) (c.requires.rules r i)
