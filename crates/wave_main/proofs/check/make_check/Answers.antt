use Rattle.std.proofs.Common.{◌≡◌, ◌⊎◌, ℕ, List, refl, sym}
use Rattle.std.specs.Prelude.{Result, Ok, Err, Vec, MatchResult}
use Rattle.std.specs.declared.alloc.Global.{Global}
use Rattle.wave_main.specs.declared.status.Status.{Status}
use Rattle.wave_main.specs.declared.status.Status.TheVariants.{Memory}
use Rattle.wave_main.specs.Commands.{IsText, stages, inputs_of}
use Rattle.wave_main.specs.Files.{Inputs}
use Rattle.wave_main.specs.Stages.{AcceptAll, IsRefusedBy, input_stages}
use Rattle.wave_main.specs.Texts.{CheckPrints}
use Rattle.wave_words.specs.Words.{texts}
use Rattle.wave_words.specs.declared.form.Form.TheVariants as forms
use Rattle.wave_main.proofs.FileLaws.{if_err, input_files}
use Rattle.wave_main.proofs.RunLaws.{made_by, missed_by, input_missed, at_places}
use Rattle.wave_main.proofs.check.make_check.Goals as goal

of_check : (ws : List (List ℕ)) (files : Inputs) (r : Result (Vec ℕ Global) Status)
    → MatchResult r (λ text. CheckPrints files text.items × AcceptAll input_stages files) (λ status. (status ≡ Memory) ⊎ IsRefusedBy input_stages files status)
    → MatchResult r (λ text. AcceptAll (stages forms.Check ws) files × IsText forms.Check ws files text.items) (λ status. (status ≡ Memory) ⊎ IsRefusedBy (stages forms.Check ws) files status)
of_check ws files (Ok text) h = (h.1, h.0)
of_check ws files (Err status) h = h

pub returns-in_err-files-clause-missed : goal.returns-in_err-files-clause-missed
returns-in_err-files-clause-missed g c =
    if_err c.from_residual.result c.in_err-files.field-0.0 _ c.from_residual.ensures.1
    (input_missed (g.L.Library.held c.args.lib.now) (texts c.args.words.now) forms.Check c.args.first (g.L.Library.faults c.args.lib.now) (g.L.Library.faults c.fetch_inputs.new.lib) _ c.requires.asked refl c.requires.places c.in_err-files.ensures.fault)

pub returns-clause-made : goal.returns-clause-made
returns-clause-made g c =
    let ws = texts c.args.words.now in
    let got = c.in_ok-files.ensures.fetched in
    let placed = at_places (g.L.Library.held c.args.lib.now) ws forms.Check c.args.first got.0 _ c.requires.places got.1 in
    made_by (g.L.Library.held c.args.lib.now) ws forms.Check got.0 c.check_text.result c.requires.asked (input_files (g.L.Library.held c.args.lib.now) ws forms.Check got.0 _ c.requires.asked placed)
    (of_check ws (inputs_of forms.Check got.0) c.check_text.result (c.check_text.ensures (inputs_of forms.Check got.0) placed.are (sym c.requires.places) refl))

pub returns-clause-missed : goal.returns-clause-missed
returns-clause-missed g c =
    let ws = texts c.args.words.now in
    let got = c.in_ok-files.ensures.fetched in
    let placed = at_places (g.L.Library.held c.args.lib.now) ws forms.Check c.args.first got.0 _ c.requires.places got.1 in
    missed_by (g.L.Library.held c.args.lib.now) ws forms.Check got.0 (g.L.Library.faults c.args.lib.now) (g.L.Library.faults c.fetch_inputs.new.lib) c.check_text.result c.requires.asked (input_files (g.L.Library.held c.args.lib.now) ws forms.Check got.0 _ c.requires.asked placed)
    (of_check ws (inputs_of forms.Check got.0) c.check_text.result (c.check_text.ensures (inputs_of forms.Check got.0) placed.are (sym c.requires.places) refl))
