use Rattle.std.proofs.Common.{◌≡◌, ◌∙◌, true, false, ap, sym, subst, get_or}
use Rattle.inspector_gen.specs.Variables.{is_at}
use Rattle.inspector_gen.proofs.Rounds.{around_here, around_past, around_end}
use Rattle.inspector_gen.proofs.variables.around_in.Goals as goal

pub returns-then-is_at : goal.returns-then-is_at
returns-then-is_at c =
    let sites = c.args.sites.now in
    let k = c.loop-s.s-index in
    let s = c.s-item.result in
    let here : is_at c.args.r (get_or sites k s) ≡ true = subst (λ x. is_at c.args.r x ≡ true) c.s-item.is (sym c.is_at.ensures ∙ c.if-is_at.true) in
    c.as_slice.ensures ∙ ap (λ x. x.around) c.s-item.is ∙ around_here sites c.args.r k s c.loop-s-test.true here ∙ c.loop-s.invariant

pub loop-s-preserved : goal.loop-s-preserved
loop-s-preserved c =
    let sites = c.args.sites.now in
    let k = c.loop-s.s-index in
    let s = c.s-item.result in
    let apart : is_at c.args.r (get_or sites k s) ≡ false = subst (λ x. is_at c.args.r x ≡ false) c.s-item.is (sym c.is_at.ensures ∙ c.if-is_at.false) in
    around_past sites c.args.r k s c.loop-s-test.true apart ∙ c.loop-s.invariant

pub returns : goal.returns
returns c = around_end c.args.sites.now c.args.r c.loop-s.s-index c.loop-s-test.false ∙ c.loop-s.invariant
