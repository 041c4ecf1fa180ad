use Rattle.std.proofs.Common.{◌≡◌, true, sym, ◌∙◌, ap}
use Rattle.bound_close.specs.Closure.{Found}
use Rattle.bound_close.proofs.Closes.{refutes}
use Rattle.bound_close.proofs.closure.Closure.refutation.Goals as goal

pub returns : goal.returns
returns c = λ base rules h.
    let k : Found = record { atoms = c.self.inside.places; engine = c.self.inside.engine; given = c.self.inside.given; refuted = c.self.inside.refuted } in
    let v : c.args.self.now ≡ k = sym c.self.view_is in
    let t : c.args.self.now.refuted ≡ true = search rules in
    let s : c.in_ok-steps.steps ≡ c.args.self.now.engine.workings.steps = c.in_ok-steps.ensures ∙ c.as_slice.ensures ∙ ap (λ (k : Found). k.engine.workings.steps) (sym v) in
    rw s (refutes c.args.self.now base rules h t)
