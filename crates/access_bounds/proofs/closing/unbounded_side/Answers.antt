use Rattle.std.proofs.Common.{List}
use Rattle.bracket_claims.specs.Claims.{rules_of}
use Rattle.access_bounds.proofs.Sides.{never-reached, lacks-low, lacks-high, lacks-none, not-so, is-so}
use Rattle.access_bounds.proofs.closing.unbounded_side.Goals as goal

pub returns-then-empty : goal.returns-then-empty
returns-then-empty c decls props are closed =
    let claim = c.args.claim.now in
    never-reached decls props claim c.args.closure.now.atoms are (is-so c.empty.result c.if-empty.true (c.empty.ensures.exact claim.base (rules_of decls props claim) closed))

pub returns-then-not-shows_low : goal.returns-then-not-shows_low
returns-then-not-shows_low c decls props are closed =
    let claim = c.args.claim.now in
    let not = not-so c.empty.result c.if-empty.false (c.empty.ensures.exact claim.base (rules_of decls props claim) closed) in
    lacks-low decls props claim c.args.closure.now.atoms are not (not-so c.shows_low.result c.if-not-shows_low.true (c.shows_low.ensures claim.base (rules_of decls props claim) closed not))

pub returns-then-not-shows_high : goal.returns-then-not-shows_high
returns-then-not-shows_high c decls props are closed =
    let claim = c.args.claim.now in
    let not = not-so c.empty.result c.if-empty.false (c.empty.ensures.exact claim.base (rules_of decls props claim) closed) in
    lacks-high decls props claim c.args.closure.now.atoms are not
    (is-so c.shows_low.result c.if-not-shows_low.false (c.shows_low.ensures claim.base (rules_of decls props claim) closed not))
    (not-so c.shows_high.result c.if-not-shows_high.true (c.shows_high.ensures claim.base (rules_of decls props claim) closed not))

pub returns : goal.returns
returns c decls props are closed =
    let claim = c.args.claim.now in
    let not = not-so c.empty.result c.if-empty.false (c.empty.ensures.exact claim.base (rules_of decls props claim) closed) in
    lacks-none decls props claim c.args.closure.now.atoms are
    (is-so c.shows_low.result c.if-not-shows_low.false (c.shows_low.ensures claim.base (rules_of decls props claim) closed not))
    (is-so c.shows_high.result c.if-not-shows_high.false (c.shows_high.ensures claim.base (rules_of decls props claim) closed not))
