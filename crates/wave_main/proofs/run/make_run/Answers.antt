use Rattle.std.proofs.Common.{◌≡◌, ◌⊎◌, ℕ, List, refl, sym, arith}
use Rattle.std.specs.Prelude.{Result, Ok, Err, Vec, MatchResult, Some, string_bytes}
use Rattle.std.specs.declared.alloc.Global.{Global}
use Rattle.wave_main.specs.declared.status.Status.{Status}
use Rattle.wave_main.specs.declared.status.Status.TheVariants.{Memory}
use Rattle.wave_main.specs.Commands.{IsAsked, IsText, stages, inputs_of}
use Rattle.wave_main.specs.Files.{Inputs, word_of}
use Rattle.wave_main.specs.Planning.{HasText}
use Rattle.wave_main.specs.Run.{run_text}
use Rattle.wave_main.specs.Stages.{AcceptAll, IsRefusedBy, input_stages}
use Rattle.wave_words.specs.Forms.{number}
use Rattle.wave_words.specs.Words.{texts}
use Rattle.wave_words.specs.declared.form.Form.TheVariants as forms
use Rattle.std.proofs.lemmas.List.{length-map}
use Rattle.wave_main.proofs.WordLaws.{run_length, run_workers}
use Rattle.wave_main.proofs.FileLaws.{if_err, input_files}
use Rattle.wave_main.proofs.RunLaws.{made_by, missed_by, input_missed, at_places, printed_of}
use Rattle.wave_main.proofs.run.make_run.Goals as goal

of_run : (ws : List (List ℕ)) (files : Inputs) (workers : ℕ) (r : Result (Vec ℕ Global) Status) → number (word_of ws 3) ≡ Some workers
    → MatchResult r (λ text. HasText files workers run_text text.items × AcceptAll input_stages files) (λ status. (status ≡ Memory) ⊎ IsRefusedBy input_stages files status)
    → MatchResult r (λ text. AcceptAll (stages forms.Run ws) files × IsText forms.Run ws files text.items) (λ status. (status ≡ Memory) ⊎ IsRefusedBy (stages forms.Run ws) files status)
of_run ws files workers (Ok text) many (has, accept) = (accept, printed_of ws files workers run_text text.items many has)
of_run ws files workers (Err status) many h = h

pub fetch_inputs-requires-clause-within : goal.fetch_inputs-requires-clause-within
fetch_inputs-requires-clause-within g c =
    let long = run_length (texts c.args.words.now) c.requires.asked in
    let same = length-map c.args.words.now string_bytes in omega (arith, long, same, c.requires.places)

pub workers_of-requires : goal.workers_of-requires
workers_of-requires g c = run_workers (texts c.args.words.now) c.requires.asked

pub returns-in_err-files-clause-missed : goal.returns-in_err-files-clause-missed
returns-in_err-files-clause-missed g c =
    if_err c.from_residual.result c.in_err-files.field-0.0 _ c.from_residual.ensures.1
    (input_missed (g.L.Library.held c.args.lib.now) (texts c.args.words.now) forms.Run c.args.first (g.L.Library.faults c.args.lib.now) (g.L.Library.faults c.fetch_inputs.new.lib) _ c.requires.asked refl c.requires.places c.in_err-files.ensures.fault)

pub returns-clause-made : goal.returns-clause-made
returns-clause-made g c =
    let ws = texts c.args.words.now in
    let got = c.in_ok-files.ensures.fetched in
    let placed = at_places (g.L.Library.held c.args.lib.now) ws forms.Run c.args.first got.0 _ c.requires.places got.1 in
    made_by (g.L.Library.held c.args.lib.now) ws forms.Run got.0 c.run_text.result c.requires.asked (input_files (g.L.Library.held c.args.lib.now) ws forms.Run got.0 _ c.requires.asked placed)
    (of_run ws (inputs_of forms.Run got.0) _ c.run_text.result c.workers_of.ensures.number (c.run_text.ensures (inputs_of forms.Run got.0) placed.are (sym c.requires.places) refl))

pub returns-clause-missed : goal.returns-clause-missed
returns-clause-missed g c =
    let ws = texts c.args.words.now in
    let got = c.in_ok-files.ensures.fetched in
    let placed = at_places (g.L.Library.held c.args.lib.now) ws forms.Run c.args.first got.0 _ c.requires.places got.1 in
    missed_by (g.L.Library.held c.args.lib.now) ws forms.Run got.0 (g.L.Library.faults c.args.lib.now) (g.L.Library.faults c.fetch_inputs.new.lib) c.run_text.result c.requires.asked (input_files (g.L.Library.held c.args.lib.now) ws forms.Run got.0 _ c.requires.asked placed)
    (of_run ws (inputs_of forms.Run got.0) _ c.run_text.result c.workers_of.ensures.number (c.run_text.ensures (inputs_of forms.Run got.0) placed.are (sym c.requires.places) refl))
