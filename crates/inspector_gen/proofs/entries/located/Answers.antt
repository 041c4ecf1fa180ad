use Rattle.std.proofs.Common.{rules, ◌≡◌, ◌∙◌, subst, sym, get_or, length, ◌<◌, ◌≤◌}
use Rattle.inspector_gen.specs.Kinds.{first_of, located_at}
use Rattle.inspector_gen.proofs.Firsts.{first_found, none_found, first_end}
use Rattle.inspector_gen.proofs.entries.located.Goals as goal

pub returns-then-is_some : goal.returns-then-is_some
returns-then-is_some c = λ f facts.
    let g = located_at f c.args.earlier.now c.args.v in
    let atoms = c.args.closure.now.atoms in
    let k = c.loop-a.a-index in
    let listed : c.as_slice-a-items.result.now ≡ atoms = search rules in
    let inside : k < length atoms = subst (λ l. k < length l) listed c.loop-a-test.true in
    let here : c.in_ok-kind.kind ≡ first_of (g (get_or atoms k c.a-item.result)) =
    subst (λ l. c.in_ok-kind.kind ≡ first_of (g (get_or l k c.a-item.result))) listed (subst (λ a. c.in_ok-kind.kind ≡ first_of (g a)) c.a-item.is (c.in_ok-kind.ensures f facts)) in
    first_found g atoms k c.a-item.result c.in_ok-kind.kind inside (sym c.is_some.ensures ∙ c.if-is_some.true) here ∙ c.loop-a.invariant f facts

pub loop-a-preserved : goal.loop-a-preserved
loop-a-preserved c = λ f facts.
    let g = located_at f c.args.earlier.now c.args.v in
    let atoms = c.args.closure.now.atoms in
    let k = c.loop-a.a-index in
    let listed : c.as_slice-a-items.result.now ≡ atoms = search rules in
    let inside : k < length atoms = subst (λ l. k < length l) listed c.loop-a-test.true in
    let here : c.in_ok-kind.kind ≡ first_of (g (get_or atoms k c.a-item.result)) =
    subst (λ l. c.in_ok-kind.kind ≡ first_of (g (get_or l k c.a-item.result))) listed (subst (λ a. c.in_ok-kind.kind ≡ first_of (g a)) c.a-item.is (c.in_ok-kind.ensures f facts)) in
    none_found g atoms k c.a-item.result c.in_ok-kind.kind inside (sym c.is_some.ensures ∙ c.if-is_some.false) here ∙ c.loop-a.invariant f facts

pub returns : goal.returns
returns c = λ f facts.
    let listed : c.as_slice-a-items.result.now ≡ c.args.closure.now.atoms = search rules in
    let past : length c.args.closure.now.atoms ≤ c.loop-a.a-index = subst (λ l. length l ≤ c.loop-a.a-index) listed c.loop-a-test.false in
    first_end (located_at f c.args.earlier.now c.args.v) c.args.closure.now.atoms c.loop-a.a-index past ∙ c.loop-a.invariant f facts
