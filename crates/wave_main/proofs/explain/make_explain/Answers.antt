use Rattle.std.proofs.Common.{◌≡◌, ◌⊎◌, inl, inr, ℕ, List, [], ◌∷◌, refl, arith}
use Rattle.std.specs.Prelude.{Result, Ok, Err, Vec, MatchResult}
use Rattle.std.specs.declared.alloc.Global.{Global}
use Rattle.wave_main.specs.declared.status.Status.{Status}
use Rattle.wave_main.specs.declared.status.Status.TheVariants.{Memory}
use Rattle.wave_main.specs.Commands.{IsText, stages, inputs_of}
use Rattle.wave_main.specs.Explaining.{IsExplained, IsUnexplained}
use Rattle.wave_main.specs.Files.{Inputs}
use Rattle.wave_main.specs.Stages.{AcceptAll, IsRefusedBy}
use Rattle.wave_main.proofs.StageLaws.{loop_accepted, bounds_accepted}
use Rattle.wave_words.specs.Words.{texts}
use Rattle.wave_words.specs.declared.form.Form.TheVariants as forms
use Rattle.wave_main.proofs.FileLaws.{if_err, loop_files}
use Rattle.wave_main.proofs.RunLaws.{made_by, missed_by, loop_missed}
use Rattle.wave_main.proofs.WordLaws.{explain_length}
use Rattle.wave_main.proofs.explain.make_explain.Goals as goal

of_explain : (ws : List (List ℕ)) (files : Inputs) (r : Result (Vec ℕ Global) Status)
    → MatchResult r (λ text. IsExplained files.loop_file text.items) (IsUnexplained files.loop_file)
    → MatchResult r (λ text. AcceptAll (stages forms.Explain ws) files × IsText forms.Explain ws files text.items) (λ status. (status ≡ Memory) ⊎ IsRefusedBy (stages forms.Explain ws) files status)
of_explain ws files (Ok text) e = (
  (loop_accepted files e.nest e.is_loop, (bounds_accepted files e.nest (record { is = e.is_loop; accepted = e.accepted }), tt)),
  record { nest = e.nest; is_loop = e.is_loop; verdicts = e.verdicts; are_verdicts = e.are_verdicts; printed = e.printed },
)
of_explain ws files (Err status) h = elim h [
  | inl want ↦ inl want
  | inr other ↦ elim other [
    | inl fault ↦ inr (inl fault)
    | inr (nest, loop, stray) ↦ inr (inr (loop_accepted files nest loop, inl (nest, loop, stray)))
  ]
]

pub returns-in_err-file-clause-missed : goal.returns-in_err-file-clause-missed
returns-in_err-file-clause-missed g c =
    let ws = texts c.args.words.now in
    let two = explain_length ws c.requires in
    if_err c.from_residual.result c.in_err-file.field-0.0 _ c.from_residual.ensures.1
    (loop_missed (g.L.Library.held c.args.lib.now) ws forms.Explain (g.L.Library.faults c.args.lib.now) (g.L.Library.faults c.fetch_loop.new.lib) _ c.requires refl (omega (arith, two)) c.in_err-file.ensures.fault)

pub returns-clause-made : goal.returns-clause-made
returns-clause-made g c =
    let ws = texts c.args.words.now in
    let got = c.in_ok-file.ensures.file in
    let files = [] ∷ got.0 ∷ [] in
    made_by (g.L.Library.held c.args.lib.now) ws forms.Explain files c.explain_text.result c.requires (loop_files (g.L.Library.held c.args.lib.now) ws forms.Explain got.0 c.requires (explain_length ws c.requires) refl got.1)
    (of_explain ws (inputs_of forms.Explain files) c.explain_text.result (c.explain_text.ensures got.0 got.2))

pub returns-clause-missed : goal.returns-clause-missed
returns-clause-missed g c =
    let ws = texts c.args.words.now in
    let got = c.in_ok-file.ensures.file in
    let files = [] ∷ got.0 ∷ [] in
    missed_by (g.L.Library.held c.args.lib.now) ws forms.Explain files (g.L.Library.faults c.args.lib.now) (g.L.Library.faults c.fetch_loop.new.lib) c.explain_text.result c.requires (loop_files (g.L.Library.held c.args.lib.now) ws forms.Explain got.0 c.requires (explain_length ws c.requires) refl got.1)
    (of_explain ws (inputs_of forms.Explain files) c.explain_text.result (c.explain_text.ensures got.0 got.2))
