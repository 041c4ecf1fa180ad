use Rattle.std.proofs.Common.{◌≡◌, ◌∙◌, inl, inr, ap, subst}
use Rattle.loop_core.specs.declared.nest.Nest.{Nest}
use Rattle.uf_constraints.specs.Relations.{relations}
use Rattle.dep_simplify.specs.Verdicts.{AreVerdicts}
use Rattle.wave_main.specs.Texts.{relation_lines}
use Rattle.wave_main.proofs.FileLaws.{match_err}
use Rattle.wave_main.proofs.explain.explain_text.Goals as goal

pub returns-in_err-loop_in : goal.returns-in_err-loop_in
returns-in_err-loop_in c bytes fetched =
    let loop = c.in_ok-nest.ensures.answer bytes fetched in
    match_err c.from_residual-in_err-loop_in.result c.in_err-loop_in.field-0.0 _ _ c.from_residual-in_err-loop_in.ensures.1
    (elim c.in_err-loop_in.ensures [ inl want ↦ inl want | inr stray ↦ inr (inr (c.in_ok-nest.nest, loop, stray)) ])

pub returns : goal.returns
returns c bytes fetched =
    let same : c.in_ok-loop_in.loop_in ≡ c.in_ok-nest.nest = c.in_ok-loop_in.ensures.0 in
    let told = c.in_ok-text.ensures in
    let Of : Nest → Type 0 = λ n. AreVerdicts n told.0 in
    record {
      nest = c.in_ok-nest.nest;
      is_loop = c.in_ok-nest.ensures.answer bytes fetched;
      accepted = c.in_ok-loop_in.ensures.1;
      verdicts = told.0;
      are_verdicts = subst Of same told.1;
      printed = told.2 ∙ ap (λ (n : Nest). relation_lines 1 (relations n) told.0) same;
    }
