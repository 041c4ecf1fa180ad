use Rattle.std.proofs.Common.{rules, ◌≡◌, ◌≤ℤ◌, ◌++◌, sym, ap, ◌∙◌, arith}
use Rattle.std.proofs.lemmas.Int.{ints}
use Rattle.inspector_run.specs.Tries.{numbers_between}
use Rattle.inspector_run.specs.Pieces.{values_in}
use Rattle.inspector_run.proofs.Parts.{numbers_cut}
use Rattle.inspector_run.proofs.pieces.cut_at.Goals as goal

pub returns-clause-parts : goal.returns-clause-parts
returns-clause-parts c =
    let lo = c.args.whole.next in
    let middle = c.args.middle in
    let hi = c.args.whole.end in
    let first : c.up_to-first.result ≡ record { next = lo; end = middle } = search rules in
    let after : c.up_to-after.result ≡ record { next = middle; end = hi } = search rules in
    let low : lo ≤ℤ middle = omega (arith, ints, c.requires.some) in
    numbers_cut lo middle hi low c.requires.enough
    ∙ ap (λ l. l ++ numbers_between middle hi) (sym (ap values_in first))
    ∙ ap (λ l. values_in c.up_to-first.result ++ l) (sym (ap values_in after))
