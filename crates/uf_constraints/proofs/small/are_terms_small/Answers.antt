use Rattle.std.proofs.Common.{◌^◌, ◌≡◌, IsTrue, true, false, sym, refl, ◌∙◌, arith}
use Rattle.std.proofs.lemmas.Bool.{false≢true}
use Rattle.uf_constraints.specs.Constants.{term_within}
use Rattle.uf_constraints.proofs.Walked.{all_step, all_end, all_fails}
use Rattle.uf_constraints.proofs.small.are_terms_small.Goals as goal

pub returns-then-not-is_term_small : goal.returns-then-not-is_term_small
returns-then-not-is_term_small c =
    let large : term_within (2 ^ 21) c.term-item.result ≡ false = sym c.is_term_small.ensures ∙ c.if-not-is_term_small.true in
    let never = all_fails (λ t. IsTrue (term_within (2 ^ 21) t)) c.args.terms.now c.loop-term.term-index c.term-item.result c.loop-term-test.true c.term-item.is (λ h. false≢true (sym large ∙ h)) in
    (λ h. absurd (false≢true h), λ h. absurd (never h))

pub loop-term-preserved : goal.loop-term-preserved
loop-term-preserved c =
    let small : term_within (2 ^ 21) c.term-item.result ≡ true = sym c.is_term_small.ensures ∙ c.if-not-is_term_small.false in
    all_step (λ t. IsTrue (term_within (2 ^ 21) t)) c.args.terms.now c.loop-term.term-index c.term-item.result c.loop-term-test.true c.term-item.is c.loop-term.invariant small

pub returns : goal.returns
returns c =
    let all = all_end (λ t. IsTrue (term_within (2 ^ 21) t)) c.args.terms.now c.loop-term.term-index (omega arith) c.loop-term.invariant in
    (λ _. all, λ _. refl)
