use Rattle.std.proofs.Common.{rules, w64}
use Rattle.std.proofs.lemmas.Int.{to_z-of_z}
use mir.Val.{SFits}
use Rattle.bound_ways.proofs.over.is_over.Goals as goal

pub returns-clause-yes : goal.returns-clause-yes
returns-clause-yes c = λ h.
    let fc : SFits w64 c.args.diff.now.c = search rules in
    record {
      left = c.lists.ensures.yes c.if-not-lists.false;
      right = c.lists-2.ensures.yes c.if-not-lists-2.false;
      small = rw (to_z-of_z w64 c.args.diff.now.c fc) at (c.is_small.ensures.yes h);
    }

pub returns-clause-no : goal.returns-clause-no
returns-clause-no c = λ h over.
    let fc : SFits w64 c.args.diff.now.c = search rules in
    let small = over.small in
    c.is_small.ensures.no h (rw (to_z-of_z w64 c.args.diff.now.c fc) small)
