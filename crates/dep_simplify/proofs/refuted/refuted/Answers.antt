use Rattle.dep_simplify.proofs.Refuting.{contradicts, consists}
use Rattle.dep_simplify.proofs.refuted.refuted.Goals as goal

pub confirm-requires : goal.confirm-requires
confirm-requires c =
    let s = contradicts c.args.closure.now.atoms c.args.u.now.atoms c.args.base.now c.args.rules.now c.requires.atoms c.in_ok-long.field-0 c.in-Some.long c.in-Some.is (c.in_ok-long.ensures c.args.base.now c.args.rules.now c.requires.closure) in
    (s.1.0, c.in_ok-cert-in-Some.ensures.same c.args.u.now.atoms c.args.base.now c.args.rules.now _ s.1.1)

pub returns-in_ok-confirm-in-Some : goal.returns-in_ok-confirm-in-Some
returns-in_ok-confirm-in-Some c =
    let s = contradicts c.args.closure.now.atoms c.args.u.now.atoms c.args.base.now c.args.rules.now c.requires.atoms c.in_ok-long.field-0 c.in-Some.long c.in-Some.is (c.in_ok-long.ensures c.args.base.now c.args.rules.now c.requires.closure) in
    (s.0, (s.1.0, c.in_ok-cert-in-Some.ensures.same c.args.u.now.atoms c.args.base.now c.args.rules.now _ s.1.1))

pub returns-in-None : goal.returns-in-None
returns-in-None c =
    consists c.args.closure.now.atoms c.args.u.now.atoms c.args.base.now c.args.rules.now c.requires.atoms c.in_ok-long.field-0 c.in-None.is (c.in_ok-long.ensures c.args.base.now c.args.rules.now c.requires.closure)
