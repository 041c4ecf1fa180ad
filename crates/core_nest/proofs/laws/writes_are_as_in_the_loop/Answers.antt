use Rattle.std.proofs.Common.{sym, ap, ◌∙◌}
use Rattle.core_law.specs.Works.{Instance as PlainInstance}
use Rattle.core_rows.specs.RowLaws.{number}
use Rattle.core_nest.specs.Nested.{deed_of, nest_work}
use Rattle.core_nest.specs.NestLaws.{plain_work}
use Rattle.core_nest.proofs.Nests.{fits, deed_there, value_there, instance_is, place_set}
use Rattle.core_nest.proofs.laws.writes_are_as_in_the_loop.Goals as goal

pub returns : goal.returns
returns c = λ nest a x workers e fit reached j i k s begins cell l at_k is.
    let there = (c.actions_are_there.ensures (plain_work nest a x workers) _ _ (fits nest a x workers fit)).at_write (number (nest_work nest a x workers) i k) begins cell is in
    record {
      sets = place_set s.effect cell (sym (ap (λ (z : PlainInstance). z.target) (instance_is nest a x workers fit i k s l at_k)) ∙ there.1);
      value = c.writes_are_in_rows.ensures (nest_work nest a x workers) e (fits nest a x workers fit) reached j i k (deed_of nest x s) begins cell (deed_there nest a x workers fit i k s l at_k) is
          ∙ value_there nest a x workers fit i k s l at_k;
    }
