use Rattle.std.proofs.Common.{◌≡◌, ◌⊎◌, inl, inr, ℕ, List, [], ◌∷◌, refl, arith}
use Rattle.std.specs.Prelude.{Result, Ok, Err, Vec, MatchResult}
use Rattle.std.specs.declared.alloc.Global.{Global}
use Rattle.loop_core.specs.declared.nest.Nest.{Nest}
use Rattle.loop_print.specs.PrintText.{nest_text}
use Rattle.wave_main.specs.declared.status.Status.{Status}
use Rattle.wave_main.specs.declared.status.Status.TheVariants.{Memory}
use Rattle.wave_main.specs.Commands.{IsText, stages, inputs_of}
use Rattle.wave_main.specs.Files.{Inputs}
use Rattle.wave_main.specs.Loops.{IsLoop, IsLoopFault}
use Rattle.wave_main.specs.Stages.{AcceptAll, IsRefusedBy}
use Rattle.wave_main.proofs.StageLaws.{loop_accepted}
use Rattle.wave_words.specs.Words.{texts}
use Rattle.wave_words.specs.declared.form.Form.TheVariants as forms
use Rattle.wave_main.proofs.FileLaws.{if_err, loop_files}
use Rattle.wave_main.proofs.RunLaws.{made_by, missed_by, loop_missed}
use Rattle.wave_main.proofs.WordLaws.{show_length}
use Rattle.wave_main.proofs.show.make_show.Goals as goal

of_show : (ws : List (List ℕ)) (files : Inputs) (r : Result (Vec ℕ Global) Status)
    → MatchResult r (λ text. (nest : Nest) × IsLoop files.loop_file nest × (text.items ≡ nest_text nest)) (λ status. (status ≡ Memory) ⊎ IsLoopFault files.loop_file status)
    → MatchResult r (λ text. AcceptAll (stages forms.Show ws) files × IsText forms.Show ws files text.items) (λ status. (status ≡ Memory) ⊎ IsRefusedBy (stages forms.Show ws) files status)
of_show ws files (Ok text) (nest, is, printed) = ((loop_accepted files nest is, tt), record { nest = nest; is_loop = is; printed = printed })
of_show ws files (Err status) h = elim h [ inl want ↦ inl want | inr e ↦ inr (inl e) ]

pub returns-in_err-file-clause-missed : goal.returns-in_err-file-clause-missed
returns-in_err-file-clause-missed g c =
    let ws = texts c.args.words.now in
    let two = show_length ws c.requires in
    if_err c.from_residual.result c.in_err-file.field-0.0 _ c.from_residual.ensures.1
    (loop_missed (g.L.Library.held c.args.lib.now) ws forms.Show (g.L.Library.faults c.args.lib.now) (g.L.Library.faults c.fetch_loop.new.lib) _ c.requires refl (omega (arith, two)) c.in_err-file.ensures.fault)

pub returns-clause-made : goal.returns-clause-made
returns-clause-made g c =
    let ws = texts c.args.words.now in
    let got = c.in_ok-file.ensures.file in
    let files = [] ∷ got.0 ∷ [] in
    made_by (g.L.Library.held c.args.lib.now) ws forms.Show files c.show_text.result c.requires (loop_files (g.L.Library.held c.args.lib.now) ws forms.Show got.0 c.requires (show_length ws c.requires) refl got.1)
    (of_show ws (inputs_of forms.Show files) c.show_text.result (c.show_text.ensures got.0 got.2))

pub returns-clause-missed : goal.returns-clause-missed
returns-clause-missed g c =
    let ws = texts c.args.words.now in
    let got = c.in_ok-file.ensures.file in
    let files = [] ∷ got.0 ∷ [] in
    missed_by (g.L.Library.held c.args.lib.now) ws forms.Show files (g.L.Library.faults c.args.lib.now) (g.L.Library.faults c.fetch_loop.new.lib) c.show_text.result c.requires (loop_files (g.L.Library.held c.args.lib.now) ws forms.Show got.0 c.requires (show_length ws c.requires) refl got.1)
    (of_show ws (inputs_of forms.Show files) c.show_text.result (c.show_text.ensures got.0 got.2))
