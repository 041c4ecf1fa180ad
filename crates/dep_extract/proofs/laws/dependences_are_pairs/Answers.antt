use Rattle.dep_extract.proofs.Dependent.{pair_depends, meeting_has_pair}
use Rattle.dep_extract.proofs.laws.dependences_are_pairs.Goals as goal

pub returns : goal.returns
returns c nest a x is_nest long inside i j = (
  λ h. meeting_has_pair nest a is_nest x inside i j ((c.dependences_are_of_touched_cells.ensures nest a x is_nest long i j).0 h),
  λ h. pair_depends nest a is_nest x inside i j h,
)
