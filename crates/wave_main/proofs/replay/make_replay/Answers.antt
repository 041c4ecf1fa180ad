use Rattle.std.proofs.Common.{◌≡◌, ◌⊎◌, inl, inr, ℕ, List, Option, ap, drop, refl, subst, sym, arith}
use Rattle.std.specs.Prelude.{Result, Ok, Err, Vec, MatchResult, Some, string_bytes}
use Rattle.std.specs.Option.{unwrap_or}
use Rattle.std.specs.declared.alloc.Global.{Global}
use Rattle.wave_main.specs.declared.status.Status.{Status}
use Rattle.wave_main.specs.declared.status.Status.TheVariants.{Memory}
use Rattle.wave_main.specs.Commands.{IsAsked, IsText, stages, inputs_of}
use Rattle.wave_main.specs.declared.fetch.InputBytes.{InputBytes}
use Rattle.wave_main.specs.Fetching.{AreInputs}
use Rattle.wave_main.specs.Files.{Inputs, word_of}
use Rattle.wave_main.specs.Orders.{workers_in}
use Rattle.wave_main.specs.Planning.{work_of}
use Rattle.wave_main.specs.Replaying.{HasReplay}
use Rattle.wave_main.specs.Stages.{AcceptAll, IsRefusedBy, replay_stages}
use Rattle.wave_words.specs.Forms.{number}
use Rattle.wave_words.specs.Words.{texts}
use Rattle.wave_words.specs.declared.form.Form.TheVariants as forms
use Rattle.std.proofs.lemmas.List.{length-map}
use Rattle.wave_main.proofs.WordLaws.{replay_length, replay_workers}
use Rattle.wave_main.proofs.FileLaws.{if_err, input_files}
use Rattle.wave_main.proofs.RunLaws.{made_by, missed_by, input_missed, at_places}
use Rattle.wave_main.proofs.replay.make_replay.Goals as goal

-- the order is among the files that were fetched
with_order : (files : List (List ℕ)) (got : InputBytes) → AreInputs (record { loop_file = word_of files 1; matrix = word_of files 2; vectors = drop 4 files; first = 4; skips = 0 }) got → AreInputs (inputs_of forms.Replay files) got
with_order files got are = record { loop_is = are.loop_is; matrix_is = are.matrix_is; vectors_are = are.vectors_are }

of_replay : (ws : List (List ℕ)) (files : Inputs) (workers : ℕ) (r : Result (Vec ℕ Global) Status) → number (word_of ws 3) ≡ Some workers
    → MatchResult r (λ text. HasReplay files workers text.items × AcceptAll (replay_stages workers) files) (λ status. (status ≡ Memory) ⊎ IsRefusedBy (replay_stages workers) files status)
    → MatchResult r (λ text. AcceptAll (stages forms.Replay ws) files × IsText forms.Replay ws files text.items) (λ status. (status ≡ Memory) ⊎ IsRefusedBy (stages forms.Replay ws) files status)
of_replay ws files workers (Ok text) many (has, accept) =
    let same : workers_in ws ≡ workers = ap (λ (o : Option ℕ). unwrap_or o 0) many in (
      subst (λ n. AcceptAll (replay_stages n) files) (sym same) accept,
      record {
        work = work_of has.planned workers;
        is_work = record { input = has.is_planned.input; workers = many; sound = has.is_planned.sound };
        verdicts = has.planned.verdicts;
        are_verdicts = has.is_planned.verdicts;
        looks = has.looks;
        passed = has.passed;
        are_looks = has.are_looks;
        printed = has.printed;
      },
    )
of_replay ws files workers (Err status) many cause =
    let same : workers_in ws ≡ workers = ap (λ (o : Option ℕ). unwrap_or o 0) many in elim cause [
      | inl want ↦ inl want
      | inr by ↦ inr (subst (λ n. IsRefusedBy (replay_stages n) files status) (sym same) by)
    ]

pub fetch_inputs-requires-clause-within : goal.fetch_inputs-requires-clause-within
fetch_inputs-requires-clause-within g c =
    let long = replay_length (texts c.args.words.now) c.requires.asked in
    let same = length-map c.args.words.now string_bytes in omega (arith, long, same, c.requires.places)

pub replay_text-requires-clause-some_file : goal.replay_text-requires-clause-some_file
replay_text-requires-clause-some_file g c =
    let long = replay_length (texts c.args.words.now) c.requires.asked in
    let same = length-map c.args.words.now string_bytes in
    omega (arith, long, same, c.requires.places, c.in_ok-files.ensures.count)

pub workers_of-requires : goal.workers_of-requires
workers_of-requires g c = replay_workers (texts c.args.words.now) c.requires.asked

pub returns-in_err-files-clause-missed : goal.returns-in_err-files-clause-missed
returns-in_err-files-clause-missed g c =
    if_err c.from_residual.result c.in_err-files.field-0.0 _ c.from_residual.ensures.1
    (input_missed (g.L.Library.held c.args.lib.now) (texts c.args.words.now) forms.Replay c.args.first (g.L.Library.faults c.args.lib.now) (g.L.Library.faults c.fetch_inputs.new.lib) _ c.requires.asked refl c.requires.places c.in_err-files.ensures.fault)

pub returns-clause-made : goal.returns-clause-made
returns-clause-made g c =
    let ws = texts c.args.words.now in
    let got = c.in_ok-files.ensures.fetched in
    let placed = at_places (g.L.Library.held c.args.lib.now) ws forms.Replay c.args.first got.0 _ c.requires.places got.1 in
    made_by (g.L.Library.held c.args.lib.now) ws forms.Replay got.0 c.replay_text.result c.requires.asked (input_files (g.L.Library.held c.args.lib.now) ws forms.Replay got.0 _ c.requires.asked placed)
    (of_replay ws (inputs_of forms.Replay got.0) _ c.replay_text.result c.workers_of.ensures.number (c.replay_text.ensures (inputs_of forms.Replay got.0) (with_order got.0 _ placed.are) (sym c.requires.places) refl))

pub returns-clause-missed : goal.returns-clause-missed
returns-clause-missed g c =
    let ws = texts c.args.words.now in
    let got = c.in_ok-files.ensures.fetched in
    let placed = at_places (g.L.Library.held c.args.lib.now) ws forms.Replay c.args.first got.0 _ c.requires.places got.1 in
    missed_by (g.L.Library.held c.args.lib.now) ws forms.Replay got.0 (g.L.Library.faults c.args.lib.now) (g.L.Library.faults c.fetch_inputs.new.lib) c.replay_text.result c.requires.asked (input_files (g.L.Library.held c.args.lib.now) ws forms.Replay got.0 _ c.requires.asked placed)
    (of_replay ws (inputs_of forms.Replay got.0) _ c.replay_text.result c.workers_of.ensures.number (c.replay_text.ensures (inputs_of forms.Replay got.0) (with_order got.0 _ placed.are) (sym c.requires.places) refl))
