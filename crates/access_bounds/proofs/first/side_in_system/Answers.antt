use Rattle.std.proofs.Common.{sym, ◌∙◌}
use Rattle.std.proofs.lemmas.Bool.{false≢true}
use Rattle.access_bounds.proofs.Sharing.{system_of, side_of}
use Rattle.access_bounds.proofs.first.side_in_system.Goals as goal

pub returns-then-have_one_system : goal.returns-then-have_one_system
returns-then-have_one_system c decls props h =
    let same = c.have_one_system.ensures.0 c.if-have_one_system.true in
    let s = system_of c.args.closure.now decls props c.args.lead.now c.args.claim.now same h in
    side_of decls props c.args.lead.now c.args.claim.now c.unbounded_side.result (c.unbounded_side.ensures decls props s.0 s.1)

pub returns-else-have_one_system : goal.returns-else-have_one_system
returns-else-have_one_system c decls props h = λ same. absurd (false≢true (sym c.if-have_one_system.false ∙ c.have_one_system.ensures.1 same))
