-- From how a call ends to what its answer says.
use Rattle.std.proofs.Common.{ℕ, ◌≡◌, ◌≢◌, ◌⊎◌, inl, inr, List, refl, sym, ◌∙◌, ap, subst}
use Rattle.std.specs.Prelude.{◌↔◌}
use Rattle.wave_io.specs.Written.{grown}
use Rattle.wave_main.specs.declared.status.Status.{Status}
use Rattle.wave_main.specs.declared.status.Status.TheVariants.{Done, Usage, ReadFault, LoopText, LoopName, LoopLimit, Unbounded, MatrixText, Shape, Property, WriteFault, Memory}
use Rattle.wave_main.specs.Answers.{Call, Changes, Ends, IsRefusal, IsSettled, AreFilesOf, HasNoFault, IsAnswer}
use Rattle.wave_main.specs.Commands.{Prints, Refuses}
use Rattle.wave_main.proofs.AnswerLaws.{one_refusal, no_refusal, one_text, told_prints, told_refuses}

abbrev Exactly : List (List ℕ) → List (List ℕ) → Status → Type 0
Exactly ws files status = (why : Status) → IsRefusal why → (status ≡ why) ↔ Refuses ws files why

-- a status that words and files call for
called : (ws files : List (List ℕ)) (status : Status) → Refuses ws files status → Exactly ws files status
called ws files status calls why refusal = (
  λ same. let P : Status → Type 0 = λ s. Refuses ws files s in subst P same calls,
  λ other. one_refusal ws files status why calls other,
)

-- a status that is no refusal, beside a text
printing : (ws files : List (List ℕ)) (text : List ℕ) (status : Status) → Prints ws files text → ¬ IsRefusal status → Exactly ws files status
printing ws files text status prints fine why refusal = (
  λ same. absurd (fine (let P : Status → Type 0 = λ s. IsRefusal s in subst P (sym same) refusal)),
  λ calls. absurd (no_refusal ws files text why prints calls),
)

refused_by : (ws files : List (List ℕ)) (changes : Changes) (status : Status) → Ends ws files changes status → IsSettled status → Exactly ws files status
refused_by ws files changes Done (text, prints, put) settled = printing ws files text Done prints (λ x. x)
refused_by ws files changes WriteFault (rose, (text, prints, took)) settled = printing ws files text WriteFault prints (λ x. x)
refused_by ws files changes Memory ends settled = absurd settled
refused_by ws files changes (ReadFault word) ends settled = absurd settled
refused_by ws files changes (Usage word) (calls, same) settled = called ws files (Usage word) calls
refused_by ws files changes (LoopText line) (calls, same) settled = called ws files (LoopText line) calls
refused_by ws files changes (LoopName line kind) (calls, same) settled = called ws files (LoopName line kind) calls
refused_by ws files changes (LoopLimit line kind) (calls, same) settled = called ws files (LoopLimit line kind) calls
refused_by ws files changes (Unbounded line bracket side) (calls, same) settled = called ws files (Unbounded line bracket side) calls
refused_by ws files changes (MatrixText word cause) (calls, same) settled = called ws files (MatrixText word cause) calls
refused_by ws files changes (Shape kind) (calls, same) settled = called ws files (Shape kind) calls
refused_by ws files changes (Property property first second) (calls, same) settled = called ws files (Property property first second) calls

keeps_by : (ws files : List (List ℕ)) (changes : Changes) (status : Status) → Ends ws files changes status
    → status ≢ Done → status ≢ WriteFault → changes.after ≡ changes.before
keeps_by ws files changes Done ends not_done not_fault = absurd (not_done refl)
keeps_by ws files changes WriteFault ends not_done not_fault = absurd (not_fault refl)
keeps_by ws files changes Memory ends not_done not_fault = ends
keeps_by ws files changes (ReadFault word) ends not_done not_fault = ends.1
keeps_by ws files changes (Usage word) ends not_done not_fault = ends.1
keeps_by ws files changes (LoopText line) ends not_done not_fault = ends.1
keeps_by ws files changes (LoopName line kind) ends not_done not_fault = ends.1
keeps_by ws files changes (LoopLimit line kind) ends not_done not_fault = ends.1
keeps_by ws files changes (Unbounded line bracket side) ends not_done not_fault = ends.1
keeps_by ws files changes (MatrixText word cause) ends not_done not_fault = ends.1
keeps_by ws files changes (Shape kind) ends not_done not_fault = ends.1
keeps_by ws files changes (Property property first second) ends not_done not_fault = ends.1

complete_by : (call : Call) (files : List (List ℕ)) (status : Status) → Ends call.words files call.changes status
    → ((why : Status) → ¬ Refuses call.words files why) → HasNoFault call → (status ≡ Done) ⊎ (status ≡ Memory)
complete_by call files Done ends none fine = inl refl
complete_by call files Memory ends none fine = inr refl
complete_by call files WriteFault ends none fine = absurd (fine.writes ends.0)
complete_by call files (ReadFault word) ends none fine = absurd (fine.reads word ends.0)
complete_by call files (Usage word) ends none fine = absurd (none (Usage word) ends.0)
complete_by call files (LoopText line) ends none fine = absurd (none (LoopText line) ends.0)
complete_by call files (LoopName line kind) ends none fine = absurd (none (LoopName line kind) ends.0)
complete_by call files (LoopLimit line kind) ends none fine = absurd (none (LoopLimit line kind) ends.0)
complete_by call files (Unbounded line bracket side) ends none fine = absurd (none (Unbounded line bracket side) ends.0)
complete_by call files (MatrixText word cause) ends none fine = absurd (none (MatrixText word cause) ends.0)
complete_by call files (Shape kind) ends none fine = absurd (none (Shape kind) ends.0)
complete_by call files (Property property first second) ends none fine = absurd (none (Property property first second) ends.0)

pub answer_of : (call : Call) → (files : List (List ℕ)) × AreFilesOf call.held call.words files × Ends call.words files call.changes call.status → IsAnswer call
answer_of call (files, are, ends) =
    let P : Status → Type 0 = λ s. Ends call.words files call.changes s in
    record {
      files = files;
      of_names = are;
      refused = refused_by call.words files call.changes call.status ends;
      done = λ is. subst P is ends;
      cut = λ is. let cut = subst P is ends in cut.1;
      write_fault = λ is. let cut = subst P is ends in cut.0;
      read_fault = λ word is. let fault = subst P is ends in fault.0;
      keeps = keeps_by call.words files call.changes call.status ends;
      complete = λ form asks told are_told none fine. complete_by call files call.status ends (λ why calls. none why (told_refuses call.held call.words files told why are are_told calls)) fine;
      prints = λ is told are_told text prints.
          let done = subst P is ends in
          done.2 ∙ ap (grown call.changes.before) (one_text call.words files done.0 text done.1 (told_prints call.held call.words files told text are are_told prints));
    }
