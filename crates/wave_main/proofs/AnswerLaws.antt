-- At most one refusal stands, none beside a text, and a command has one text.
use Rattle.std.proofs.lemmas.List.{length-map}
use Rattle.std.specs.Prelude.{Bool, true, ◌++◌, cond, count_by, fold, length}
use Rattle.std.proofs.Common.{ℕ, ℤ, ◌+◌, ◌≡◌, inl, inr, List, [], ◌∷◌, map, Option, Some, refl, sym, ◌∙◌, ap, subst, arith, ◌%◌, ◌^◌}
use Rattle.loop_core.specs.declared.nest.Nest.{Nest}
use Rattle.loop_core.specs.Lists.{Lists, list_of}
use Rattle.loop_print.specs.PrintText.{nest_text}
use Rattle.uf_constraints.specs.declared.system.Relation.{Relation}
use Rattle.uf_constraints.specs.Relations.{relations}
use Rattle.dep_simplify.specs.declared.verdict.Verdict.{Verdict}
use Rattle.dep_simplify.specs.declared.verdict.Verdict.TheVariants as verdicts
use Rattle.dep_simplify.specs.Verdicts.{AreVerdicts, bare}
use Rattle.dep_simplify.proofs.Unique.{one_list}
use Rattle.wave_report.specs.RelationText.{relation_text}
use Rattle.wave_words.specs.Forms.{number}
use Rattle.wave_words.specs.declared.form.Form.{Form}
use Rattle.wave_words.specs.declared.form.Form.TheVariants as forms
use Rattle.wave_main.specs.declared.input.Input.{Input}
use Rattle.wave_main.specs.declared.status.Status.{Status}
use Rattle.wave_main.specs.Answers.{AreFilesOf, AreTold}
use Rattle.wave_main.specs.Binding.{index_arrays, data_arrays}
use Rattle.wave_main.specs.Commands.{IsText, Prints, Refuses, inputs_of, reads_files, stages}
use Rattle.wave_main.specs.Files.{Inputs, word_of}
use Rattle.plan_build.specs.declared.build.Built.{Built}
use Rattle.loop_plan.specs.Numbers.{is_dropped, is_covered, is_kept}
use Rattle.loop_plan.specs.Planned.{IsPlanOf}
use Rattle.loop_plan.proofs.OnePlan.{one_plan_of}
use Rattle.wave_report.specs.declared.counts.Summary.{Summary}
use Rattle.wave_report.specs.SummaryText.{summary_text}
use Rattle.wave_report.specs.PlanText.{plan_text}
use Rattle.wave_main.specs.Run.{IsInput, IsWork, WorkPrints, run_arrays, run_text, summary_of, whole_plan_text}
use Rattle.wave_main.specs.Sound.{IsSound, Work, core_work}
use Rattle.wave_main.specs.declared.demo.Kind.{Kind}
use Rattle.wave_main.specs.declared.demo.Kind.TheVariants.{Grid, Lower}
use Rattle.wave_main.specs.Demo.{DemoPrints, IsDemo, demo_text, kind_word, made_arrays, made_values, solve_loop, solved, total}
use Rattle.wave_report.specs.DemoText.{head_text, sum_text}
use Rattle.loop_core.specs.Sequence.{sequential}
use Rattle.std.proofs.lemmas.Bool.{cases_lt}
use Rattle.core_law.specs.Machine.{State, opening}
use Rattle.core_run.specs.Orders.{looks_in, passed_in}
use Rattle.core_machine.specs.declared.work.Work as core
use Rattle.core_machine.specs.FitWork.{plain}
use Rattle.core_machine.specs.Replays.{IsReplay, with_rounds}
use Rattle.wave_report.specs.LooksText.{looks_text}
use Rattle.wave_main.specs.Matrices.{vectors_of}
use Rattle.wave_main.specs.Orders.{order_of, order_numbers}
use Rattle.wave_main.specs.Replay.{AreLooks, ReplayPrints, replay_text}
use Rattle.wave_main.specs.Stages.{AcceptAll, IsRefusedBy}
use Rattle.wave_main.specs.Texts.{ExplainPrints, passed_text, relation_lines, said}
use Rattle.wave_main.proofs.FileLaws.{same_inputs}
use Rattle.wave_main.proofs.StageLaws.{one_by_stages, none_by_stages, one_loop}
use Rattle.wave_main.proofs.WordLaws.{one_form, one_word, asked_stands}

pub one_refusal : (ws files : List (List ℕ)) (a b : Status) → Refuses ws files a → Refuses ws files b → a ≡ b
one_refusal ws files a b x y = elim x [
  | inl words ↦ elim y [
    | inl other ↦ one_word ws a b words other
    | inr (form, asks, calls) ↦ absurd (asked_stands ws form a asks words)
  ]
  | inr (form, asks, calls) ↦ elim y [
    | inl other ↦ absurd (asked_stands ws form b asks other)
    | inr (again, also, other) ↦
        let same = one_form ws form again asks also in
        let P : Form → Type 0 = λ f. IsRefusedBy (stages f ws) (inputs_of f files) b in
        one_by_stages (stages form ws) (inputs_of form files) a b calls (subst P same other)
  ]
]

pub no_refusal : (ws files : List (List ℕ)) (text : List ℕ) (why : Status) → Prints ws files text → ¬ Refuses ws files why
no_refusal ws files text why (form, asks, accept, is) x = elim x [
  | inl words ↦ asked_stands ws form why asks words
  | inr (again, also, calls) ↦
      let same = one_form ws form again asks also in
      let P : Form → Type 0 = λ f. IsRefusedBy (stages f ws) (inputs_of f files) why in
      none_by_stages (stages form ws) (inputs_of form files) why accept (subst P same calls)
]

-- ---- one text

one_input : (files : Inputs) (a b : Input) → IsInput files a → IsInput files b → a ≡ b
one_input files a b x y =
    let n : a.nest ≡ b.nest = one_loop files.loop_file a.nest b.nest x.is_loop y.is_loop in
    let i : a.arrays ≡ b.arrays = x.arrays ∙ ap (λ (m : Nest). index_arrays m.decls files) n ∙ sym y.arrays in
    let v : a.values ≡ b.values = x.values ∙ ap (λ (m : Nest). data_arrays m.decls files) n ∙ sym y.values in
    let one : a ≡ record { nest = b.nest; arrays = a.arrays; values = a.values } = ap (λ (m : Nest). record { nest = m; arrays = a.arrays; values = a.values }) n in
    let two : record { nest = b.nest; arrays = a.arrays; values = a.values } ≡ record { nest = b.nest; arrays = b.arrays; values = a.values } = ap (λ (l : Lists). record { nest = b.nest; arrays = l; values = a.values }) i in
    let three : record { nest = b.nest; arrays = b.arrays; values = a.values } ≡ b = ap (λ (l : List (List ℤ)). record { nest = b.nest; arrays = b.arrays; values = l }) v in
    one ∙ two ∙ three

same_number : (o : Option ℕ) (a b : ℕ) → o ≡ Some a → o ≡ Some b → a ≡ b
same_number o a b x y = let e : Some a ≡ Some b = sym x ∙ y in cc

-- sound works of the same arrays for as many workers have one plan
same_work : (a b : Work) → a.input ≡ b.input → a.workers ≡ b.workers → IsSound a → IsSound b → a ≡ b
same_work a b i w x y =
    let Of : Input × ℕ → Type 0 = λ s. IsPlanOf s.0.nest s.0.arrays s.0.values s.1 a.plan in
    let p : a.plan ≡ b.plan = one_plan_of b.input.nest b.input.arrays b.input.values b.workers a.plan b.plan (subst Of (λ k. (i k, w k)) x.plan) y.plan in
    λ k. record { input = i k; workers = w k; plan = p k }

-- words and files determine one work
pub one_work : (ws : List (List ℕ)) (files : Inputs) (a b : Work) → IsWork ws files a → IsWork ws files b → a ≡ b
one_work ws files a b x y =
    same_work a b (one_input files a.input b.input x.input y.input) (same_number (number (word_of ws 3)) a.workers b.workers x.workers y.workers) x.sound y.sound

-- verdicts that agree, certificates aside, are printed alike
said_bare : (v : Verdict) → said (bare v) ≡ said v
said_bare (verdicts.Dropped cert) = refl
said_bare (verdicts.Covered number) = refl
said_bare verdicts.Kept = refl

bare_lines : (n : ℕ) (rs : List Relation) (vs : List Verdict) → relation_lines n rs (map bare vs) ≡ relation_lines n rs vs
bare_lines n [] vs = refl
bare_lines n (r ∷ rs) [] = refl
bare_lines n (r ∷ rs) (v ∷ vs) =
    let first : relation_text n r.first r.second (said (bare v)) ≡ relation_text n r.first r.second (said v) = ap (relation_text n r.first r.second) (said_bare v) in
    let rest : relation_lines (n + 1) rs (map bare vs) ≡ relation_lines (n + 1) rs vs = bare_lines (n + 1) rs vs in
    cc

one_explained : (files : Inputs) (t u : List ℕ) → ExplainPrints files t → ExplainPrints files u → t ≡ u
one_explained files t u x y =
    let same : y.nest ≡ x.nest = one_loop files.loop_file y.nest x.nest y.is_loop x.is_loop in
    let P : Nest → Type 0 = λ n. AreVerdicts n y.verdicts in
    let list : map bare x.verdicts ≡ map bare y.verdicts = one_list x.nest x.verdicts y.verdicts x.are_verdicts (subst P same y.are_verdicts) in
    x.printed
    ∙ sym (bare_lines 1 (relations x.nest) x.verdicts)
    ∙ ap (relation_lines 1 (relations x.nest)) list
    ∙ bare_lines 1 (relations x.nest) y.verdicts
    ∙ ap (λ (n : Nest). relation_lines 1 (relations n) y.verdicts) (sym same)
    ∙ sym y.printed

-- counts of verdicts that agree, certificates aside, are equal
summed_bare : (f : Verdict → ℕ) → ((v : Verdict) → f (bare v) ≡ f v) → (n : ℕ) (vs : List Verdict) → fold (λ a v. a + f v) n (map bare vs) ≡ fold (λ a v. a + f v) n vs
summed_bare f same n [] = refl
summed_bare f same n (v ∷ vs) = summed_bare f same (n + f (bare v)) vs ∙ ap (λ m. fold (λ a w. a + f w) (n + m) vs) (same v)

count_bare : (test : Verdict → Bool) → ((v : Verdict) → test (bare v) ≡ test v) → (vs : List Verdict) → count_by test (map bare vs) ≡ count_by test vs
count_bare test same vs = summed_bare (λ v. cond (test v) 1 0) (λ v. ap (λ (b : Bool). cond b 1 0) (same v)) 0 vs

same_count : (test : Verdict → Bool) → ((v : Verdict) → test (bare v) ≡ test v) → (vs ws : List Verdict) → map bare vs ≡ map bare ws → count_by test vs ≡ count_by test ws
same_count test same vs ws e = sym (count_bare test same vs) ∙ ap (count_by test) e ∙ count_bare test same ws

bare_dropped : (v : Verdict) → is_dropped (bare v) ≡ is_dropped v
bare_dropped (verdicts.Dropped cert) = refl
bare_dropped (verdicts.Covered number) = refl
bare_dropped verdicts.Kept = refl

bare_covered : (v : Verdict) → is_covered (bare v) ≡ is_covered v
bare_covered (verdicts.Dropped cert) = refl
bare_covered (verdicts.Covered number) = refl
bare_covered verdicts.Kept = refl

bare_kept : (v : Verdict) → is_kept (bare v) ≡ is_kept v
bare_kept (verdicts.Dropped cert) = refl
bare_kept (verdicts.Covered number) = refl
bare_kept verdicts.Kept = refl

same_long : (vs ws : List Verdict) → map bare vs ≡ map bare ws → length vs ≡ length ws
same_long vs ws e = sym (length-map vs bare) ∙ ap (λ (l : List Verdict). length l) e ∙ length-map ws bare

one_summary : (input : Input) (plan : Built) (vs ws : List Verdict) → map bare vs ≡ map bare ws → summary_of input vs plan ≡ summary_of input ws plan
one_summary input plan vs ws e =
    let long = same_long vs ws e in
    let dropped = same_count is_dropped bare_dropped vs ws e in
    let covered = same_count is_covered bare_covered vs ws e in
    let kept = same_count is_kept bare_kept vs ws e in
    let with : ℕ → ℕ → ℕ → ℕ → Summary = λ l d c k. record { relations = l; dropped = d; covered = c; kept = k; rows = (summary_of input vs plan).rows; stored = (summary_of input vs plan).stored; edges = plan.edges; levels = plan.levels; tasks = (summary_of input vs plan).tasks; cross = plan.cross; waits = (summary_of input vs plan).waits } in
    λ j. with (long j) (dropped j) (covered j) (kept j)

-- a text that depends on the verdicts but for their certificates
abbrev IsBlind : (Work → List Verdict → List ℕ) → Type 0
IsBlind text_of = (work : Work) (vs ws : List Verdict) → map bare vs ≡ map bare ws → text_of work vs ≡ text_of work ws

run_is_blind : IsBlind run_text
run_is_blind work vs ws e = ap (λ (s : Summary). summary_text s ++ run_arrays work.input) (one_summary work.input work.plan vs ws e)

plan_is_blind : IsBlind whole_plan_text
plan_is_blind work vs ws e = ap (λ (s : Summary). summary_text s ++ plan_text work.plan.chain work.plan.sched) (one_summary work.input work.plan vs ws e)

one_of_work : (text_of : Work → List Verdict → List ℕ) → IsBlind text_of → (ws : List (List ℕ)) (files : Inputs) (t u : List ℕ) → WorkPrints ws files t text_of → WorkPrints ws files u text_of → t ≡ u
one_of_work text_of blind ws files t u x y =
    let same : y.work ≡ x.work = one_work ws files y.work x.work y.is_work x.is_work in
    let Of : Work → Type 0 = λ w. AreVerdicts w.input.nest y.verdicts in
    let list : map bare x.verdicts ≡ map bare y.verdicts = one_list x.work.input.nest x.verdicts y.verdicts x.are_verdicts (subst Of same y.are_verdicts) in
    x.printed ∙ blind x.work x.verdicts y.verdicts list ∙ ap (λ (w : Work). text_of w y.verdicts) (sym same) ∙ sym y.printed

-- an order of a work has one number of looks, and one of those that passed
one_looks : (work : core.Work) (state : State) (order : List ℕ) (l p m q : ℕ) → IsReplay work state order l p → IsReplay work state order m q → (l ≡ m) × (p ≡ q)
one_looks work state order l p m q x y =
    let same : x.rounds ≡ y.rounds = elim (cases_lt x.rounds y.rounds) [
      | inl lt ↦ absurd (y.least x.rounds lt x.ended)
      | inr ge ↦ elim (cases_lt y.rounds x.rounds) [
        | inl lt ↦ absurd (x.least y.rounds lt y.ended)
        | inr le ↦ omega (arith, ge, le)
      ]
    ] in (
      x.looks_are ∙ ap (λ n. looks_in (plain work) (with_rounds work order n) state % 2 ^ 64) same ∙ sym y.looks_are,
      x.passed_are ∙ ap (λ n. passed_in (plain work) (with_rounds work order n) state % 2 ^ 64) same ∙ sym y.passed_are,
    )

one_replayed : (ws : List (List ℕ)) (files : Inputs) (t u : List ℕ) → ReplayPrints ws files t → ReplayPrints ws files u → t ≡ u
one_replayed ws files t u x y =
    let order = order_numbers (order_of (vectors_of files.vectors)) in
    let same : y.work ≡ x.work = one_work ws files y.work x.work y.is_work x.is_work in
    let Of : Work → Type 0 = λ w. AreVerdicts w.input.nest y.verdicts in
    let list : map bare x.verdicts ≡ map bare y.verdicts = one_list x.work.input.nest x.verdicts y.verdicts x.are_verdicts (subst Of same y.are_verdicts) in
    let theirs : AreLooks x.work order y.looks y.passed = subst (λ (w : Work). AreLooks w order y.looks y.passed) same y.are_looks in
    let both = one_looks (core_work x.work) (opening (plain (core_work x.work))) order x.looks x.passed y.looks y.passed x.are_looks theirs in
    let with : Summary → ℕ → ℕ → List ℕ = λ s l p. summary_text s ++ looks_text l p ++ run_arrays x.work.input in
    let summaries = one_summary x.work.input x.work.plan x.verdicts y.verdicts list in
    x.printed ∙ (λ k. with (summaries k) (both.0 k) (both.1 k)) ∙ ap (λ (w : Work). replay_text w y.verdicts y.looks y.passed) (sym same) ∙ sym y.printed

-- a demo has one number, and the loop and arrays that are made for it are the same
one_made : (kind : Kind) (made : ℕ) (a b : Input) → IsDemo kind made a → IsDemo kind made b → a ≡ b
one_made kind made a b x y =
    let n : a.nest ≡ b.nest = one_loop solve_loop a.nest b.nest x.is_loop y.is_loop in
    let i : a.arrays ≡ b.arrays = x.arrays ∙ ap (λ (m : Nest). made_arrays kind made m.decls) n ∙ sym y.arrays in
    let v : a.values ≡ b.values = x.values ∙ ap (λ (m : Nest). made_values kind made m.decls) n ∙ sym y.values in
    λ k. record { nest = n k; arrays = i k; values = v k }

demo_is_blind : (kind : Kind) (made : ℕ) → IsBlind (demo_text kind made)
demo_is_blind kind made work vs ws e =
    let last = sum_text (total (list_of (sequential work.input.nest work.input.arrays work.input.values) solved)) in
    ap (λ (s : Summary). head_text (kind_word kind) made work.workers ++ summary_text s ++ last) (one_summary work.input work.plan vs ws e)

one_demo : (kind : Kind) (ws : List (List ℕ)) (t u : List ℕ) → DemoPrints kind ws t → DemoPrints kind ws u → t ≡ u
one_demo kind ws t u x y =
    let m : y.made ≡ x.made = same_number (number (word_of ws 2)) y.made x.made y.named x.named in
    let theirs : IsDemo kind x.made y.work.input = subst (λ n. IsDemo kind n y.work.input) m y.is_demo in
    let i : y.work.input ≡ x.work.input = one_made kind x.made y.work.input x.work.input theirs x.is_demo in
    let w : y.work.workers ≡ x.work.workers = same_number (number (word_of ws 3)) y.work.workers x.work.workers y.workers x.workers in
    let same : y.work ≡ x.work = same_work y.work x.work i w y.sound x.sound in
    let Of : Work → Type 0 = λ v. AreVerdicts v.input.nest y.verdicts in
    let list : map bare x.verdicts ≡ map bare y.verdicts = one_list x.work.input.nest x.verdicts y.verdicts x.are_verdicts (subst Of same y.are_verdicts) in
    x.printed ∙ demo_is_blind kind x.made x.work x.verdicts y.verdicts list ∙ sym (y.printed ∙ (λ k. demo_text kind (m k) (same k) y.verdicts))

pub one_text_of : (form : Form) (ws : List (List ℕ)) (files : Inputs) (t u : List ℕ) → IsText form ws files t → IsText form ws files u → t ≡ u
one_text_of forms.Run ws files t u x y = one_of_work run_text run_is_blind ws files t u x y
one_text_of forms.Check ws files t u x y = x.printed ∙ ap passed_text (one_loop files.loop_file x.nest y.nest x.is_loop y.is_loop) ∙ sym y.printed
one_text_of forms.Explain ws files t u x y = one_explained files t u x y
one_text_of forms.Show ws files t u x y = x.printed ∙ ap nest_text (one_loop files.loop_file x.nest y.nest x.is_loop y.is_loop) ∙ sym y.printed
one_text_of forms.DemoGrid ws files t u x y = one_demo Grid ws t u x y
one_text_of forms.DemoLower ws files t u x y = one_demo Lower ws t u x y
one_text_of forms.Plan ws files t u x y = one_of_work whole_plan_text plan_is_blind ws files t u x y
one_text_of forms.Replay ws files t u x y = one_replayed ws files t u x y

pub one_text : (ws files : List (List ℕ)) (t u : List ℕ) → Prints ws files t → Prints ws files u → t ≡ u
one_text ws files t u (form, asks, accept, is) (again, also, accepted, other) =
    let same = one_form ws form again asks also in
    let P : Form → Type 0 = λ f. IsText f ws (inputs_of f files) u in
    one_text_of form ws (inputs_of form files) t u is (subst P same other)

-- ---- told files

-- files matter only to a command that reads some
by_files : (P : Form → Inputs → Type 0) (form : Form) (a b : Inputs) → (P forms.DemoGrid a → P forms.DemoGrid b) → (P forms.DemoLower a → P forms.DemoLower b) → (reads_files form ≡ true → a ≡ b) → P form a → P form b
by_files P forms.DemoGrid a b grid lower same is = grid is
by_files P forms.DemoLower a b grid lower same is = lower is
by_files P forms.Run a b grid lower same is = subst (P forms.Run) (same refl) is
by_files P forms.Plan a b grid lower same is = subst (P forms.Plan) (same refl) is
by_files P forms.Replay a b grid lower same is = subst (P forms.Replay) (same refl) is
by_files P forms.Check a b grid lower same is = subst (P forms.Check) (same refl) is
by_files P forms.Explain a b grid lower same is = subst (P forms.Explain) (same refl) is
by_files P forms.Show a b grid lower same is = subst (P forms.Show) (same refl) is

pub told_prints : (held : List ℕ → Option (List ℕ)) (ws files told : List (List ℕ)) (text : List ℕ) → AreFilesOf held ws files → AreTold held ws told → Prints ws told text → Prints ws files text
told_prints held ws files told text are is (form, asks, accept, prints) =
    let P : Form → Inputs → Type 0 = λ f x. AcceptAll (stages f ws) x × IsText f ws x text in
    let both = by_files P form (inputs_of form told) (inputs_of form files) (λ x. x) (λ x. x) (λ reads. sym (same_inputs held ws files told form asks reads are is)) (accept, prints) in
    (form, asks, both.0, both.1)

pub told_refuses : (held : List ℕ → Option (List ℕ)) (ws files told : List (List ℕ)) (why : Status) → AreFilesOf held ws files → AreTold held ws told → Refuses ws files why → Refuses ws told why
told_refuses held ws files told why are is x = elim x [
  | inl words ↦ inl words
  | inr (form, asks, calls) ↦
      let P : Form → Inputs → Type 0 = λ f i. IsRefusedBy (stages f ws) i why in
      inr (form, asks, by_files P form (inputs_of form files) (inputs_of form told) (λ x. x) (λ x. x) (λ reads. same_inputs held ws files told form asks reads are is) calls)
]
