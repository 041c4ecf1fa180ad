use Rattle.std.proofs.Common.{◌^◌, IsTrue, sym, refl, ◌∙◌, arith}
use Rattle.std.proofs.lemmas.Bool.{false≢true}
use Rattle.uf_constraints.specs.Constants.{atom_within}
use Rattle.uf_constraints.proofs.Walked.{all_step, all_end, all_fails}
use Rattle.uf_constraints.proofs.small.are_diffs_small.Goals as goal

pub returns-then-not-is_diff_small : goal.returns-then-not-is_diff_small
returns-then-not-is_diff_small c =
    let never = all_fails (λ d. IsTrue (atom_within (2 ^ 21) d.a) × IsTrue (atom_within (2 ^ 21) d.b)) c.args.diffs.now c.loop-diff.diff-index c.diff-item.result c.loop-diff-test.true c.diff-item.is (λ h. false≢true (sym c.if-not-is_diff_small.true ∙ c.is_diff_small.ensures.1 h)) in
    (λ h. absurd (false≢true h), λ h. absurd (never h))

pub loop-diff-preserved : goal.loop-diff-preserved
loop-diff-preserved c =
    all_step (λ d. IsTrue (atom_within (2 ^ 21) d.a) × IsTrue (atom_within (2 ^ 21) d.b)) c.args.diffs.now c.loop-diff.diff-index c.diff-item.result c.loop-diff-test.true c.diff-item.is c.loop-diff.invariant (c.is_diff_small.ensures.0 c.if-not-is_diff_small.false)

pub returns : goal.returns
returns c =
    let all = all_end (λ d. IsTrue (atom_within (2 ^ 21) d.a) × IsTrue (atom_within (2 ^ 21) d.b)) c.args.diffs.now c.loop-diff.diff-index (omega arith) c.loop-diff.invariant in
    (λ _. all, λ _. refl)
