use Rattle.std.proofs.Common.{◌≡◌, ℕ, zero, suc, ◌<◌, List, [], ◌∷◌, ◌++◌, length, get_or, set, ap, subst, ◌∙◌, arith}
use Rattle.core_run.specs.declared.action.Action.{Action}
use Rattle.core_run.specs.declared.action.Action.TheVariants.{Look}
use Rattle.core_unroll.specs.Plans.{beginning, begun}
use Rattle.core_unroll.proofs.scripts.begin_at.Goals as goal

set_past : (earlier row : List Action) (p : ℕ) (a d : Action) → p ≡ length earlier → p < length (earlier ++ row) → a ≡ beginning (get_or (earlier ++ row) p d) → set (earlier ++ row) p a ≡ earlier ++ begun row
set_past [] [] p a d e l is = absurd (omega arith)
set_past [] (r ∷ row) zero a d e l is = ap (λ (z : Action). z ∷ row) is
set_past [] (r ∷ row) (suc p) a d e l is = absurd (omega arith)
set_past (x ∷ earlier) row zero a d e l is = absurd (omega arith)
set_past (x ∷ earlier) row (suc p) a d e l is = ap (λ (z : List Action). x ∷ z) (set_past earlier row p a d (omega arith) (omega arith) is)

pub returns-then-start-actions : goal.returns-then-start-actions
returns-then-start-actions c = λ earlier row is at.
    let l : c.args.start < length (earlier ++ row) = subst (λ (z : List Action). c.args.start < length z) is c.if-start-actions.true in
    ap (λ (z : List Action). set z c.args.start c.beginning.result) is
    ∙ set_past earlier row c.args.start c.beginning.result (Look 0 0) at l (c.beginning.ensures ∙ ap (λ (z : List Action). beginning (get_or z c.args.start (Look 0 0))) is)
