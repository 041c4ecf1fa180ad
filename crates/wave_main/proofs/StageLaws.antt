-- Stages: each refuses files with one status, and so do all of them together.
use Rattle.std.proofs.Common.{ℕ, ℤ, suc, ◌≡◌, ◌⊎◌, inl, inr, ◌+◌, List, [], ◌∷◌, ◌++◌, Option, Some, None, length, refl, sym, ◌∙◌, ap, subst, arith}
use Rattle.std.specs.Prelude.{Result, Ok, Err}
use Rattle.std.specs.List.{slice_get}
use Rattle.std.proofs.lemmas.Bool.{cases_lt}
use Rattle.std.proofs.lemmas.Option.{same_Some}
use Rattle.std.specs.Option.{option_map}
use Rattle.text_base.specs.Lines.{lines}
use Rattle.mtx_read.specs.Files.{matrix, vector}
use Rattle.mtx_read.specs.declared.refusal.MtxRefusal.{MtxRefusal}
use Rattle.mtx_read.specs.declared.refusal.MtxRefusal.TheVariants as mtx_refusals
use Rattle.loop_core.specs.declared.decl.PropDecl.{PropDecl}
use Rattle.loop_core.specs.Lists.{Lists}
use Rattle.loop_syntax.specs.declared.refusal.LoopRefusal.{LoopRefusal}
use Rattle.loop_syntax.specs.declared.refusal.LoopRefusal.TheVariants as loop_refusals
use Rattle.loop_syntax.specs.declared.refusal.LimitKind.TheVariants.{Atoms}
use Rattle.loop_syntax.proofs.TextLaws.{one_nest_of, one_reason, not_both}
use Rattle.array_bind.specs.declared.shape.ShapeRefusal.{ShapeRefusal}
use Rattle.array_bind.specs.declared.shape.ShapeRefusal.TheVariants as shape_refusals
use Rattle.access_bounds.specs.declared.refusal.BoundsRefusal.{BoundsRefusal}
use Rattle.access_bounds.specs.declared.refusal.BoundsRefusal.TheVariants as bounds_refusals
use Rattle.access_bounds.specs.Accepted.{IsAccepted, IsCause}
use Rattle.access_bounds.proofs.Refusals.{one-cause, no-cause}
use Rattle.index_props.specs.Meanings.{Means, Passes}
use Rattle.index_props.specs.Places.{FailsAt}
use Rattle.prop_check.specs.Broken.{FirstBroken}
use Rattle.prop_check.proofs.Found.{fails}
use Rattle.prop_check.proofs.Unique.{once}
use Rattle.wave_main.specs.declared.status.Status.{Status}
use Rattle.wave_main.specs.declared.status.Status.TheVariants.{Done, Usage, ReadFault, LoopLimit, Unbounded, Shape, Property, WriteFault, Memory}
use Rattle.wave_main.specs.declared.status.ShapeKind.TheVariants.{Order}
use Rattle.wave_main.specs.Binding.{array_vectors, array_word, binding_fault, data_arrays, index_arrays, shape_status}
use Rattle.wave_main.specs.Bounds.{IsBoundsFault}
use Rattle.wave_main.specs.Files.{Inputs}
use Rattle.wave_main.specs.Loops.{IsLoop, IsLoopFault, loop_status}
use Rattle.wave_main.specs.Matrices.{Parts, first_status, fault_of, matrix_status, matrix_fault, matrix_of, vectors_fault, vectors_of}
use Rattle.wave_main.specs.Orders.{IsFirstOdd, order_of}
use Rattle.wave_main.specs.Reading.{HasArrays, parts_of}
use Rattle.wave_main.specs.Run.{IsInput}
use Rattle.wave_main.specs.declared.input.ReadFiles.{ReadFiles}
use Rattle.wave_main.specs.declared.input.Input.{Input}
use Rattle.array_bind.specs.declared.bind.Bound.{Bound}
use Rattle.array_bind.specs.Lists.{arrays_of, values_of, bound_of}
use Rattle.loop_core.specs.declared.nest.Nest.{Nest}
use Rattle.wave_main.specs.Stages.{Stage, OfLoop, OfBounds, OfMatrix, OfVectors, OfShapes, OfOrder, OfProperties, Strays, Misfits, Disorders, Breaks, Calls, Accepts, AcceptAll, IsRefusedBy, array_stages}

-- what files may be refused with: no other end of a call
abbrev pub IsFault : Status → Type 0
IsFault Done = ⊥
IsFault (Usage word) = ⊥
IsFault (ReadFault word) = ⊥
IsFault WriteFault = ⊥
IsFault _ = Unit {0}

abbrev Faulty : Option Status → Type 0
Faulty None = Unit {0}
Faulty (Some status) = IsFault status

loop_faulty : (why : LoopRefusal) → IsFault (loop_status why)
loop_faulty (loop_refusals.Text line) = tt
loop_faulty (loop_refusals.Name line kind) = tt
loop_faulty (loop_refusals.Limit line kind) = tt
loop_faulty loop_refusals.Memory = tt

matrix_faulty : (word : ℕ) (why : MtxRefusal) → IsFault (matrix_status word why)
matrix_faulty word mtx_refusals.Header = tt
matrix_faulty word (mtx_refusals.Field place) = tt
matrix_faulty word (mtx_refusals.Size line) = tt
matrix_faulty word (mtx_refusals.Entry line kind) = tt
matrix_faulty word (mtx_refusals.Short have want) = tt
matrix_faulty word (mtx_refusals.Extra line) = tt
matrix_faulty word (mtx_refusals.Big what value) = tt
matrix_faulty word mtx_refusals.Memory = tt

shape_faulty : (first : ℕ) (why : ShapeRefusal) → IsFault (shape_status first why)
shape_faulty first (shape_refusals.NotSquare rows columns) = tt
shape_faulty first (shape_refusals.Files have want) = tt
shape_faulty first (shape_refusals.Length file have want) = tt
shape_faulty first shape_refusals.Memory = tt

read_faulty : {A : Type 0} (word : ℕ) (read : Result A MtxRefusal) → Faulty (fault_of word read)
read_faulty word (Ok value) = tt
read_faulty word (Err why) = matrix_faulty word why

mapped_faulty : {X : Type 0} (f : X → Status) → ((x : X) → IsFault (f x)) → (o : Option X) → Faulty (option_map f o)
mapped_faulty f h None = tt
mapped_faulty f h (Some x) = h x

first_faulty : (a b : Option Status) → Faulty a → Faulty b → Faulty (first_status a b)
first_faulty None b x y = y
first_faulty (Some s) b x y = x

vectors_faulty : (word : ℕ) (files : List (List ℕ)) → Faulty (vectors_fault word files)
vectors_faulty word [] = tt
vectors_faulty word (f ∷ fs) = first_faulty (fault_of word (vector f)) (vectors_fault (word + 1) fs) (read_faulty word (vector f)) (vectors_faulty (word + 1) fs)

loop_fault_faulty : (bytes : List ℕ) (status : Status) → IsLoopFault bytes status → IsFault status
loop_fault_faulty bytes status fault =
    let P : Status → Type 0 = λ s. IsFault s in
    elim fault [ inl (long, is) ↦ subst P (sym is) tt | inr (why, short, refused, is) ↦ subst P (sym is) (loop_faulty why) ]

bounds_faulty : (nest : Nest) (status : Status) → IsBoundsFault nest status → IsFault status
bounds_faulty nest status fault =
    let P : Status → Type 0 = λ s. IsFault s in
    elim fault [ inl (line, full, is) ↦ subst P (sym is) tt | inr (line, bracket, side, unbounded, is) ↦ subst P (sym is) tt ]

is_faulty : (o : Option Status) (status : Status) → Faulty o → o ≡ Some status → IsFault status
is_faulty o status h e = let P : Option Status → Type 0 = λ x. Faulty x in let f : Faulty (Some status) = subst P e h in f

stage_faulty : (stage : Stage) (files : Inputs) (status : Status) → Calls stage files status → IsFault status
stage_faulty OfLoop files status fault = loop_fault_faulty files.loop_file status fault
stage_faulty OfBounds files status (nest, loop, fault) = bounds_faulty nest status fault
stage_faulty OfMatrix files status e = is_faulty _ status (read_faulty 2 (matrix files.matrix)) e
stage_faulty OfVectors files status e = is_faulty _ status (vectors_faulty files.first files.vectors) e
stage_faulty OfShapes files status (nest, loop, e) = is_faulty _ status (mapped_faulty (shape_status (array_word files)) (shape_faulty (array_word files)) _) e
stage_faulty (OfOrder workers) files status (place, value, first, is) =
    let P : Status → Type 0 = λ s. IsFault s in
    let fine : IsFault (Shape (Order place value)) = tt in subst P (sym is) fine
stage_faulty OfProperties files status (nest, property, first, second, loop, broken, is) =
    let P : Status → Type 0 = λ s. IsFault s in
    let fine : IsFault (Property property first second) = tt in subst P (sym is) fine

pub refused_faulty : (stages : List Stage) (files : Inputs) (status : Status) → IsRefusedBy stages files status → IsFault status
refused_faulty [] files status calls = absurd calls
refused_faulty (stage ∷ later) files status calls = elim calls [
  | inl here ↦ stage_faulty stage files status here
  | inr rest ↦ refused_faulty later files status rest.1
]

-- ---- the first broken property

pub first_passes : (a : Lists) (p : PropDecl) (ps : List PropDecl) → Passes (p ∷ ps) a → Means a p.kind
first_passes a p ps all = all 0 p (omega arith)

pub others_pass : (a : Lists) (p : PropDecl) (ps : List PropDecl) → Passes (p ∷ ps) a → Passes ps a
others_pass a p ps all = λ k d below. all (suc k) d (omega (arith, below))

pub one_split : (a : Lists) (xs ys l m : List PropDecl) (b c : PropDecl) → xs ++ b ∷ l ≡ ys ++ c ∷ m → Passes xs a → Passes ys a → ¬ Means a b.kind → ¬ Means a c.kind
    → (length xs ≡ length ys) × (b ≡ c)
one_split a [] [] l m b c e x y p q = let h : b ∷ l ≡ c ∷ m = e in let same : b ≡ c = cc in (refl, same)
one_split a [] (z ∷ ys) l m b c e x y p q =
    let h : b ∷ l ≡ z ∷ (ys ++ c ∷ m) = e in
    let same : z ≡ b = cc in
    absurd (p (subst (λ (d : PropDecl). Means a d.kind) same (first_passes a z ys y)))
one_split a (z ∷ xs) [] l m b c e x y p q =
    let h : z ∷ (xs ++ b ∷ l) ≡ c ∷ m = e in
    let same : z ≡ c = cc in
    absurd (q (subst (λ (d : PropDecl). Means a d.kind) same (first_passes a z xs x)))
one_split a (z ∷ xs) (w ∷ ys) l m b c e x y p q =
    let h : z ∷ (xs ++ b ∷ l) ≡ w ∷ (ys ++ c ∷ m) = e in
    let rest : xs ++ b ∷ l ≡ ys ++ c ∷ m = cc in
    let more = one_split a xs ys l m b c rest (others_pass a z xs x) (others_pass a w ys y) p q in
    (ap suc more.0, more.1)

pub one_broken : (props : List PropDecl) (a : Lists) (p f s q g t : ℕ) → FirstBroken props a p f s → FirstBroken props a q g t → (p ≡ q) × (f ≡ g) × (s ≡ t)
one_broken props a p f s q g t x y =
    let split : x.earlier ++ x.broken ∷ x.later ≡ y.earlier ++ y.broken ∷ y.later = sym x.stand ∙ y.stand in
    let same = one_split a x.earlier y.earlier x.later y.later x.broken y.broken split x.hold y.hold (fails a x.broken.kind f s x.fails) (fails a y.broken.kind g t y.fails) in
    let there = subst (λ (d : PropDecl). (other last : ℕ) → FailsAt a d.kind other last → (other ≡ f) × (last ≡ s)) same.1 (λ other last z. once a x.broken.kind f s other last x.fails z) in
    let places = there g t y.fails in
    (x.number ∙ ap (λ n. n + 1) same.0 ∙ sym y.number, sym places.0, sym places.1)

-- the property after some that pass
inner_passes : (a : Lists) (xs l : List PropDecl) (b : PropDecl) → Passes (xs ++ b ∷ l) a → Means a b.kind
inner_passes a [] l b all = first_passes a b l all
inner_passes a (x ∷ xs) l b all = inner_passes a xs l b (others_pass a x (xs ++ b ∷ l) all)

pub none_broken : (props : List PropDecl) (a : Lists) (p f s : ℕ) → Passes props a → ¬ FirstBroken props a p f s
none_broken props a p f s all x =
    let P : List PropDecl → Type 0 = λ l. Passes l a in
    fails a x.broken.kind f s x.fails (inner_passes a x.earlier x.later x.broken (subst P x.stand all))

-- ---- acceptance

-- the status of a refusal
abbrev bounds_status : BoundsRefusal → Status
bounds_status (bounds_refusals.TermsFull line) = LoopLimit line Atoms
bounds_status (bounds_refusals.Unbounded line bracket side) = Unbounded line bracket side
bounds_status bounds_refusals.Memory = Memory

-- why a nest isn't accepted, as the refusal of acceptance
record Refused (nest : Nest) (status : Status) : Type 0 where
  why : BoundsRefusal
  cause : IsCause nest why
  told : ¬ (why ≡ bounds_refusals.Memory)
  is : status ≡ bounds_status why

refused : (nest : Nest) (status : Status) → IsBoundsFault nest status → Refused nest status
refused nest status fault = elim fault [
  | inl (line, full, is) ↦ record { why = bounds_refusals.TermsFull line; cause = full; told = λ e. cc; is = is }
  | inr (line, bracket, side, unbounded, is) ↦ record { why = bounds_refusals.Unbounded line bracket side; cause = unbounded; told = λ e. cc; is = is }
]

one_bounds_fault : (nest : Nest) (a b : Status) → IsBoundsFault nest a → IsBoundsFault nest b → a ≡ b
one_bounds_fault nest a b x y =
    let r = refused nest a x in
    let s = refused nest b y in
    r.is ∙ ap bounds_status (one-cause nest nest.props r.why s.why r.cause s.cause r.told s.told) ∙ sym s.is

no_bounds_fault : (nest : Nest) (status : Status) → IsAccepted nest → ¬ IsBoundsFault nest status
no_bounds_fault nest status accepted fault = let r = refused nest status fault in r.told (no-cause nest nest.props r.why accepted r.cause)

-- ---- one status

one_some : (o : Option Status) (a b : Status) → o ≡ Some a → o ≡ Some b → a ≡ b
one_some o a b x y = let e : Some a ≡ Some b = sym x ∙ y in cc

-- the bytes of a loop file are one nest, or are refused for one reason, and not both
pub one_loop : (bytes : List ℕ) (a b : Nest) → IsLoop bytes a → IsLoop bytes b → a ≡ b
one_loop bytes a b x y = one_nest_of (lines bytes) a b x.has y.has

one_loop_fault : (bytes : List ℕ) (a b : Status) → IsLoopFault bytes a → IsLoopFault bytes b → a ≡ b
one_loop_fault bytes a b x y = elim x [
  | inl (long, is) ↦ elim y [
    | inl (also, other) ↦ is ∙ sym other
    | inr (why, short, refused, other) ↦ absurd (omega (arith, long, short))
  ]
  | inr (why, short, refused, is) ↦ elim y [
    | inl (long, other) ↦ absurd (omega (arith, long, short))
    | inr (reason, also, called, other) ↦ is ∙ ap loop_status (one_reason (lines bytes) why reason refused called) ∙ sym other
  ]
]

pub loop_accepted : (files : Inputs) (nest : Nest) → IsLoop files.loop_file nest → Accepts OfLoop files
loop_accepted files nest loop status fault = elim fault [
  | inl (long, is) ↦ omega (arith, long, loop.short)
  | inr (why, short, refused, is) ↦ not_both (lines files.loop_file) nest why loop.has refused
]

one_stray : (files : Inputs) (a b : Status) → Strays files a → Strays files b → a ≡ b
one_stray files a b (nest, loop, x) (other, also, y) =
    let P : Nest → Type 0 = λ n. IsBoundsFault n b in
    one_bounds_fault nest a b x (subst P (one_loop files.loop_file other nest also loop) y)

one_misfit : (files : Inputs) (a b : Status) → Misfits files a → Misfits files b → a ≡ b
one_misfit files a b (nest, loop, x) (other, also, y) =
    let P : Nest → Type 0 = λ n. binding_fault (array_word files) n.decls (matrix_of files.matrix) (array_vectors files) ≡ Some b in
    one_some _ a b x (subst P (one_loop files.loop_file other nest also loop) y)

one_break : (files : Inputs) (a b : Status) → Breaks files a → Breaks files b → a ≡ b
one_break files a b (nest, p, f, s, loop, x, is) (other, q, g, t, again, y, also) =
    let P : Nest → Type 0 = λ n. FirstBroken n.props (index_arrays n.decls files) q g t in
    let same = one_broken nest.props (index_arrays nest.decls files) p f s q g t x (subst P (one_loop files.loop_file other nest again loop) y) in
    is ∙ ap (λ n. Property n f s) same.0 ∙ ap (λ n. Property q n s) same.1 ∙ ap (λ n. Property q g n) same.2 ∙ sym also

-- the first entry of an order that is no worker's number
one_odd : (workers : ℕ) (entries : List ℤ) (p q : ℕ) (v w : ℤ) → IsFirstOdd workers entries p v → IsFirstOdd workers entries q w → (p ≡ q) × (v ≡ w)
one_odd workers entries p q v w x y =
    let same : p ≡ q = elim (cases_lt p q) [
      | inl lt ↦ absurd (x.odd (y.earlier p v lt x.there))
      | inr ge ↦ elim (cases_lt q p) [
        | inl lt ↦ absurd (y.odd (x.earlier q w lt y.there))
        | inr le ↦ omega (arith, ge, le)
      ]
    ] in
    (same, same_Some v w (sym x.there ∙ ap (λ n. slice_get entries n) same ∙ y.there))

one_disorder : (workers : ℕ) (files : Inputs) (a b : Status) → Disorders workers files a → Disorders workers files b → a ≡ b
one_disorder workers files a b (p, v, first, is) (q, w, other, also) =
    let same = one_odd workers (order_of (vectors_of files.vectors)) p q v w first other in
    is ∙ ap (λ n. Shape (Order n v)) same.0 ∙ ap (λ x. Shape (Order q x)) same.1 ∙ sym also

pub one_call : (stage : Stage) (files : Inputs) (a b : Status) → Calls stage files a → Calls stage files b → a ≡ b
one_call OfLoop files a b x y = one_loop_fault files.loop_file a b x y
one_call OfBounds files a b x y = one_stray files a b x y
one_call OfMatrix files a b x y = one_some _ a b x y
one_call OfVectors files a b x y = one_some _ a b x y
one_call OfShapes files a b x y = one_misfit files a b x y
one_call (OfOrder workers) files a b x y = one_disorder workers files a b x y
one_call OfProperties files a b x y = one_break files a b x y

pub one_by_stages : (stages : List Stage) (files : Inputs) (a b : Status) → IsRefusedBy stages files a → IsRefusedBy stages files b → a ≡ b
one_by_stages [] files a b x y = absurd x
one_by_stages (stage ∷ later) files a b x y = elim x [
  | inl here ↦ elim y [
    | inl also ↦ one_call stage files a b here also
    | inr rest ↦ absurd (rest.0 a here)
  ]
  | inr rest ↦ elim y [
    | inl also ↦ absurd (rest.0 b also)
    | inr other ↦ one_by_stages later files a b rest.1 other.1
  ]
]

pub none_by_stages : (stages : List Stage) (files : Inputs) (status : Status) → AcceptAll stages files → ¬ IsRefusedBy stages files status
none_by_stages [] files status all x = x
none_by_stages (stage ∷ later) files status (first, rest) x = elim x [
  | inl here ↦ first status here
  | inr other ↦ none_by_stages later files status rest other.1
]

-- ---- some stages before others

pub refused_early : (stages more : List Stage) (files : Inputs) (status : Status) → IsRefusedBy stages files status → IsRefusedBy (stages ++ more) files status
refused_early [] more files status x = absurd x
refused_early (stage ∷ later) more files status x = elim x [
  | inl here ↦ inl here
  | inr rest ↦ inr (rest.0, refused_early later more files status rest.1)
]

pub refused_late : (stages more : List Stage) (files : Inputs) (status : Status) → AcceptAll stages files → IsRefusedBy more files status → IsRefusedBy (stages ++ more) files status
refused_late [] more files status all x = x
refused_late (stage ∷ later) more files status (first, rest) x = inr (first, refused_late later more files status rest x)

pub accept_both : (stages more : List Stage) (files : Inputs) → AcceptAll stages files → AcceptAll more files → AcceptAll (stages ++ more) files
accept_both [] more files all others = others
accept_both (stage ∷ later) more files (first, rest) others = (first, accept_both later more files rest others)

-- out of memory, or refused at some stages
abbrev pub StoppedBy : List Stage → Inputs → Status → Type 0
StoppedBy stages files status = (status ≡ Memory) ⊎ IsRefusedBy stages files status

pub stopped_early : (stages more : List Stage) (files : Inputs) (status : Status) → StoppedBy stages files status → StoppedBy (stages ++ more) files status
stopped_early stages more files status cause = elim cause [ inl want ↦ inl want | inr by ↦ inr (refused_early stages more files status by) ]

pub stopped_late : (stages more : List Stage) (files : Inputs) (status : Status) → AcceptAll stages files → StoppedBy more files status → StoppedBy (stages ++ more) files status
stopped_late stages more files status all cause = elim cause [ inl want ↦ inl want | inr by ↦ inr (refused_late stages more files status all by) ]

-- ---- the stages of files that are read one after another

pub none_some : (o : Option Status) (a : Status) → o ≡ None → ¬ (o ≡ Some a)
none_some o a x y = let e : None ≡ Some a = sym x ∙ y in cc

-- the loop of the files, which is accepted
pub record IsAcceptedLoop (files : Inputs) (nest : Nest) : Type 0 where
  pub is : IsLoop files.loop_file nest
  pub accepted : IsAccepted nest

-- what was read and then accepted
pub accepted_loop : (files : Inputs) (read nest : Nest) → IsLoop files.loop_file read → (nest ≡ read) × IsAccepted read → IsAcceptedLoop files nest
accepted_loop files read nest loop (same, accepted) =
    let P : Nest → Type 0 = λ n. IsAcceptedLoop files n in
    let there : IsAcceptedLoop files read = record { is = loop; accepted = accepted } in
    subst P (sym same) there

abbrev Stopped : Inputs → Status → Type 0
Stopped files status = StoppedBy array_stages files status

pub bounds_stop : (files : Inputs) (nest : Nest) (status : Status) → IsLoop files.loop_file nest → (status ≡ Memory) ⊎ IsBoundsFault nest status → Stopped files status
bounds_stop files nest status loop cause = elim cause [ inl want ↦ inl want | inr fault ↦ inr (inr (loop_accepted files nest loop, inl (nest, loop, fault))) ]

pub bounds_accepted : (files : Inputs) (nest : Nest) → IsAcceptedLoop files nest → Accepts OfBounds files
bounds_accepted files nest loop status (other, also, fault) =
    let P : Nest → Type 0 = λ n. IsBoundsFault n status in
    no_bounds_fault nest status loop.accepted (subst P (one_loop files.loop_file other nest also loop.is) fault)

pub matrix_stops : (files : Inputs) (nest : Nest) (status : Status) → IsAcceptedLoop files nest → (status ≡ Memory) ⊎ (matrix_fault files.matrix ≡ Some status) → Stopped files status
matrix_stops files nest status loop cause = elim cause [ inl want ↦ inl want | inr fault ↦ inr (inr (loop_accepted files nest loop.is, inr (bounds_accepted files nest loop, inl fault))) ]

matrix_accepted : (files : Inputs) → matrix_fault files.matrix ≡ None → Accepts OfMatrix files
matrix_accepted files none status fault = none_some _ status none fault

pub vectors_stop : (files : Inputs) (nest : Nest) (first : ℕ) (status : Status) → IsAcceptedLoop files nest → matrix_fault files.matrix ≡ None → files.first ≡ first
    → (status ≡ Memory) ⊎ (vectors_fault first files.vectors ≡ Some status) → Stopped files status
vectors_stop files nest first status loop none at cause = elim cause [
  | inl want ↦ inl want
  | inr fault ↦ inr (inr (loop_accepted files nest loop.is, inr (bounds_accepted files nest loop, inr (matrix_accepted files none, inl (ap (λ n. vectors_fault n files.vectors) at ∙ fault)))))
]

vectors_accepted : (files : Inputs) → vectors_fault files.first files.vectors ≡ None → Accepts OfVectors files
vectors_accepted files none status fault = none_some _ status none fault

-- the refusal of the shapes is that of files which are read
left_shapes : (files : Inputs) (nest : Nest) (m : Parts) (vs : List (List ℤ)) (word : ℕ) → matrix_of files.matrix ≡ m → array_word files ≡ word → vs ≡ array_vectors files
    → binding_fault (array_word files) nest.decls (matrix_of files.matrix) (array_vectors files) ≡ binding_fault word nest.decls m vs
left_shapes files nest m vs word m_is at vs_is =
    ap (λ n. binding_fault n nest.decls (matrix_of files.matrix) (array_vectors files)) at
    ∙ ap (λ (x : Parts). binding_fault word nest.decls x (array_vectors files)) m_is
    ∙ ap (λ (x : List (List ℤ)). binding_fault word nest.decls m x) (sym vs_is)

module _ (files : Inputs) (read : ReadFiles) (word : ℕ) (has : HasArrays files read word) where
  loop : IsAcceptedLoop files read.nest
  loop = record { is = has.good.is_loop; accepted = has.good.accepted }

  fits : binding_fault (array_word files) read.nest.decls (matrix_of files.matrix) (array_vectors files) ≡ binding_fault word read.nest.decls (parts_of read) read.vectors.items
  fits = left_shapes files read.nest (parts_of read) read.vectors.items word has.good.matrix_is has.named has.vectors_are

  pub shapes_stop : (status : Status) → (status ≡ Memory) ⊎ (binding_fault word read.nest.decls (parts_of read) read.vectors.items ≡ Some status) → Stopped files status
  shapes_stop status cause = elim cause [
    | inl want ↦ inl want
    | inr fault ↦
        let misfit : Misfits files status = (read.nest, has.good.is_loop, fits ∙ fault) in
        inr (inr (loop_accepted files read.nest loop.is, inr (bounds_accepted files read.nest loop, inr (matrix_accepted files has.good.matrix_fine, inr (vectors_accepted files has.good.vectors_fine, inl misfit)))))
  ]

  shapes_accepted : binding_fault word read.nest.decls (parts_of read) read.vectors.items ≡ None → Accepts OfShapes files
  shapes_accepted none status (other, also, fault) =
      let P : Nest → Type 0 = λ n. binding_fault (array_word files) n.decls (matrix_of files.matrix) (array_vectors files) ≡ Some status in
      none_some _ status (fits ∙ none) (subst P (one_loop files.loop_file other read.nest also loop.is) fault)

  pub bound_files : (input : Input) (bound : Bound) → binding_fault word read.nest.decls (parts_of read) read.vectors.items ≡ None → bound ≡ bound_of read.nest.decls read.matrix.rows read.matrix.entries read.vectors.items
      → input.nest ≡ read.nest → input.arrays ≡ bound.arrays → input.values ≡ bound.values → IsInput files input × AcceptAll array_stages files
  bound_files input bound none bound_is nest arrays values =
      let d = read.nest.decls in
      let m = parts_of read in
      let same_arrays : input.arrays ≡ index_arrays d files = arrays ∙ ap (λ (b : Bound). b.arrays) bound_is ∙ ap (λ (x : List (List ℤ)). arrays_of d m.0 m.2 x) has.vectors_are ∙ ap (λ (x : Parts). arrays_of d x.0 x.2 (array_vectors files)) (sym has.good.matrix_is) in
      let same_values : input.values ≡ data_arrays d files = values ∙ ap (λ (b : Bound). b.values) bound_is ∙ ap (λ (x : List (List ℤ)). values_of d m.0 m.2 x) has.vectors_are ∙ ap (λ (x : Parts). values_of d x.0 x.2 (array_vectors files)) (sym has.good.matrix_is) in
      let Of : Nest → Type 0 = λ n. IsInput files (record { nest = n; arrays = input.arrays; values = input.values }) in
      let there : Of read.nest = record { is_loop = loop.is; accepted = loop.accepted; arrays = same_arrays; values = same_values } in (
        subst Of (sym nest) there,
        (loop_accepted files read.nest loop.is, (bounds_accepted files read.nest loop, (matrix_accepted files has.good.matrix_fine, (vectors_accepted files has.good.vectors_fine, (shapes_accepted none, tt))))),
      )
