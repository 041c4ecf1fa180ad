-- How a command ends, from what its parts say.
use Rattle.std.proofs.Common.{ℕ, ◌≡◌, inl, inr, List, Option, refl, sym, subst}
use Rattle.std.specs.Prelude.{Result, Ok, Err, IsErrAnd, IfErr, OnOk}
use Rattle.wave_io.specs.Faults.{Rose}
use Rattle.wave_io.specs.Written.{grown, TookPart}
use Rattle.wave_main.specs.declared.status.Status.{Status}
use Rattle.wave_main.specs.declared.status.Status.TheVariants.{Done, Usage, ReadFault, LoopText, LoopName, LoopLimit, Unbounded, MatrixText, Shape, Property, WriteFault, Memory}
use Rattle.wave_main.specs.Answers.{AreFilesOf, Changes, Ends, status_of}
use Rattle.wave_main.specs.Commands.{Refuses, RefusesWords, inputs_of, stages}
use Rattle.wave_main.specs.Making.{IsMade, IsMissed}
use Rattle.wave_main.proofs.FileLaws.{some_files}
use Rattle.wave_main.proofs.StageLaws.{IsFault, refused_faulty}

fault_ends : (ws files : List (List ℕ)) (changes : Changes) (status : Status) → IsFault status → Refuses ws files status → changes.after ≡ changes.before → Ends ws files changes status
fault_ends ws files changes (LoopText line) is calls same = (calls, same)
fault_ends ws files changes (LoopName line kind) is calls same = (calls, same)
fault_ends ws files changes (LoopLimit line kind) is calls same = (calls, same)
fault_ends ws files changes (Unbounded line bracket side) is calls same = (calls, same)
fault_ends ws files changes (MatrixText word cause) is calls same = (calls, same)
fault_ends ws files changes (Shape kind) is calls same = (calls, same)
fault_ends ws files changes (Property property first second) is calls same = (calls, same)
fault_ends ws files changes Memory is calls same = same
fault_ends ws files changes Done is calls same = absurd is
fault_ends ws files changes (Usage word) is calls same = absurd is
fault_ends ws files changes (ReadFault word) is calls same = absurd is
fault_ends ws files changes WriteFault is calls same = absurd is

pub words_end : (ws files : List (List ℕ)) (changes : Changes) (status : Status) → RefusesWords ws status → changes.after ≡ changes.before → Ends ws files changes status
words_end ws files changes status (place, usage, is) same =
    let P : Status → Type 0 = λ s. Ends ws files changes s in subst P (sym is) (inl (place, usage, refl), same)

refusal_ends : (ws files : List (List ℕ)) (changes : Changes) (status : Status) → Refuses ws files status → changes.after ≡ changes.before → Ends ws files changes status
refusal_ends ws files changes status calls same = elim calls [
  | inl words ↦ words_end ws files changes status words same
  | inr (form, asks, by) ↦ fault_ends ws files changes status (refused_faulty (stages form ws) (inputs_of form files) status by) (inr (form, asks, by)) same
]

abbrev Ended : (List ℕ → Option (List ℕ)) → List (List ℕ) → Changes → Status → Type 0
Ended held ws changes status = (files : List (List ℕ)) × AreFilesOf held ws files × Ends ws files changes status

-- a call that made no text
pub missed_ends : (held : List ℕ → Option (List ℕ)) (ws : List (List ℕ)) (changes : Changes) (status : Status) → IsMissed held ws changes.reads_before changes.reads_after status → changes.after ≡ changes.before
    → (files : List (List ℕ)) × AreFilesOf held ws files × Ends ws files changes status
missed_ends held ws changes status missed same =
    let P : Status → Type 0 = λ s. Ended held ws changes s in
    let some = some_files held ws in
    elim missed [
      | inl want ↦ subst P (sym want) (some.0, some.1, same)
      | inr later ↦ elim later [
        | inl (word, place, is, rose) ↦ subst P (sym is) (some.0, some.1, ((place, rose), same))
        | inr (files, are, calls) ↦ (files, are, refusal_ends ws files changes status calls same)
      ]
    ]

-- a text that was put, whole or cut
pub put_ends : (held : List ℕ → Option (List ℕ)) (ws : List (List ℕ)) (changes : Changes) (text : List ℕ) (result : Result (Unit {0}) Status) → IsMade held ws text
    → OnOk result (changes.after ≡ grown changes.before text)
    → IfErr result (λ status. (status ≡ WriteFault) × Rose changes.faults_before changes.faults_after × TookPart changes.before changes.after text)
    → (files : List (List ℕ)) × AreFilesOf held ws files × Ends ws files changes (status_of result)
put_ends held ws changes text (Ok value) (files, are, prints) whole part = (files, are, (text, prints, whole))
put_ends held ws changes text (Err status) (files, are, prints) whole (is, rose, took) =
    let P : Status → Type 0 = λ s. Ends ws files changes s in (files, are, subst P (sym is) (rose, (text, prints, took)))

-- the status that a `?` hands on is that which it was given
pub handed_on : {T : Type 0} (outcome : Result T Status) (status : Status) → IsErrAnd outcome (λ e. e ≡ status) → status_of outcome ≡ status
handed_on (Ok value) status is = absurd is
handed_on (Err e) status is = is

pub ends_with : (held : List ℕ → Option (List ℕ)) (ws : List (List ℕ)) (changes : Changes) (is status : Status)
    → is ≡ status → (x : List (List ℕ)) × AreFilesOf held ws x × Ends ws x changes status
    → (x : List (List ℕ)) × AreFilesOf held ws x × Ends ws x changes is
ends_with held ws changes is status same (files, are, ends) =
    let P : Status → Type 0 = λ s. Ends ws files changes s in (files, are, subst P (sym same) ends)
