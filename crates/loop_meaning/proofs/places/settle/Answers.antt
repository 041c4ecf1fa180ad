use Rattle.std.proofs.lemmas.List.Filters.{dedup_is}
use Rattle.std.proofs.lemmas.List.Kept.{Contains-dedup, Contains-from_dedup, IsStrictlySortedBy-dedup}
use Rattle.std.proofs.lemmas.List.Sorted.{Contains-permutation, IsPermutation-sym}
use Rattle.loop_meaning.proofs.Order.{ascending, cell_total, cell_ties, cell_equiv, cell_exact}
use Rattle.loop_meaning.proofs.places.settle.Goals as goal

pub returns-clause-ascends : goal.returns-clause-ascends
returns-clause-ascends c =
    let is = dedup_is _ _ _ c.dedup.ensures.filtered in
    ascending c.dedup.new.self.items (rw is (IsStrictlySortedBy-dedup cell_total cell_ties c.sort_unstable.new.self.items c.sort_unstable.ensures.sorted))

pub returns-clause-keeps : goal.returns-clause-keeps
returns-clause-keeps c =
    let is = dedup_is _ _ _ c.dedup.ensures.filtered in
    λ x h. rw is (Contains-dedup cell_equiv cell_exact _ x (Contains-permutation _ _ x c.sort_unstable.ensures.permutation h))

pub returns-clause-adds_none : goal.returns-clause-adds_none
returns-clause-adds_none c =
    let is = dedup_is _ _ _ c.dedup.ensures.filtered in
    λ x h. Contains-permutation _ _ x (IsPermutation-sym _ _ c.sort_unstable.ensures.permutation) (Contains-from_dedup _ _ x (rw is at h))
