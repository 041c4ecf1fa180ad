-- What the answers of the top calls say.
use Rattle.std.specs.Prelude.{◌≡◌, ◌≢◌, ◌⊎◌, ◌↔◌, ℕ, List, Option, Some, length, Result, Ok, Err}
use Rattle.wave_io.specs.Faults.{Rose}
use Rattle.wave_io.specs.Written.{grown, TookPart}
use Rattle.wave_main.specs.declared.status.Status.{Status}
use Rattle.wave_main.specs.declared.status.Status.TheVariants.{Done, ReadFault, WriteFault, Memory}
use Rattle.wave_words.specs.declared.form.Form.{Form}
use Rattle.wave_main.specs.Commands.{IsAsked, IsFilePlace, Prints, Refuses}
use Rattle.wave_main.specs.Files.{MayBe, word_of}
use Rattle.wave_main.specs.Status.{fault_line}

-- what a call may change: the counts of faults at each name, what the output took, and its faults
pub record Changes : Type 0 where
  pub reads_before : List ℕ → ℕ
  pub reads_after : List ℕ → ℕ
  pub before : Option (List ℕ)
  pub after : Option (List ℕ)
  pub faults_before : ℕ
  pub faults_after : ℕ

-- the answer of a call to these words: how the call changed what it was handed
pub record Call : Type 0 where
  pub words : List (List ℕ)
  -- the bytes of the files, by name, where the library tells them
  pub held : List ℕ → Option (List ℕ)
  -- faults of reading by name, what standard output took, and its faults
  pub changes : Changes
  pub status : Status

-- bytes that the files may have, one list for each word
pub record AreFilesOf (held : List ℕ → Option (List ℕ)) (words files : List (List ℕ)) : Type 0 where
  pub one_each : length files ≡ length words
  pub may_be : (place : ℕ) → IsFilePlace words place → MayBe (held (word_of words place)) (word_of files place)

-- files that are told
pub record AreTold (held : List ℕ → Option (List ℕ)) (words files : List (List ℕ)) : Type 0 where
  pub one_each : length files ≡ length words
  pub told : (place : ℕ) → IsFilePlace words place → held (word_of words place) ≡ Some (word_of files place)

-- the word names a file of the command, and the count of faults at its name rose
abbrev pub IsReadFault : List (List ℕ) → Changes → ℕ → Type 0
IsReadFault words changes word =
    IsFilePlace words word × Rose (changes.reads_before (word_of words word)) (changes.reads_after (word_of words word))

-- a status that is a refusal of words or of files
abbrev pub IsRefusal : Status → Type 0
IsRefusal Done = ⊥
IsRefusal (ReadFault word) = ⊥
IsRefusal WriteFault = ⊥
IsRefusal Memory = ⊥
IsRefusal _ = Unit {0}

-- neither out of memory nor a fault of reading, to which each refusal yields
abbrev pub IsSettled : Status → Type 0
IsSettled Memory = ⊥
IsSettled (ReadFault word) = ⊥
IsSettled _ = Unit {0}

-- the end of a call that may answer a status in place of going on
abbrev pub status_of : {T : Type 0} → Result T Status → Status
status_of (Ok value) = Done
status_of (Err status) = status

-- what each end of a call says of its words, its files and what was put
abbrev pub Ends : List (List ℕ) → List (List ℕ) → Changes → Status → Type 0
Ends words files changes Done = (text : List ℕ) × Prints words files text × (changes.after ≡ grown changes.before text)
Ends words files changes WriteFault =
    Rose changes.faults_before changes.faults_after × ((text : List ℕ) × Prints words files text × TookPart changes.before changes.after text)
Ends words files changes Memory = changes.after ≡ changes.before
Ends words files changes (ReadFault word) = IsReadFault words changes word × (changes.after ≡ changes.before)
Ends words files changes status = Refuses words files status × (changes.after ≡ changes.before)

-- no count of faults rose
pub record HasNoFault (call : Call) : Type 0 where
  pub writes : ¬ Rose call.changes.faults_before call.changes.faults_after
  pub reads : (word : ℕ) → ¬ IsReadFault call.words call.changes word

-- The answer of a call.
pub record IsAnswer (call : Call) : Type 0 where
  -- bytes that the files may have: those that are told, and some where none are told
  pub files : List (List ℕ)
  pub of_names : AreFilesOf call.held call.words files
  -- each refusal comes exactly where words and files call for it
  pub refused : IsSettled call.status → (why : Status) → IsRefusal why → (call.status ≡ why) ↔ Refuses call.words files why
  -- after Done the text of the command was put
  pub done : call.status ≡ Done → (text : List ℕ) × Prints call.words files text × (call.changes.after ≡ grown call.changes.before text)
  -- after a fault of writing, whose count rose, a first part of the text was put
  pub cut : call.status ≡ WriteFault → (text : List ℕ) × Prints call.words files text × TookPart call.changes.before call.changes.after text
  pub write_fault : call.status ≡ WriteFault → Rose call.changes.faults_before call.changes.faults_after
  -- a fault of reading names a file of the command at whose name the count rose
  pub read_fault : (word : ℕ) → call.status ≡ ReadFault word → IsReadFault call.words call.changes word
  -- nothing is put otherwise
  pub keeps : call.status ≢ Done → call.status ≢ WriteFault → call.changes.after ≡ call.changes.before
  -- words of a command, told files that call for no refusal, no fault: the answer is Done or Memory
  pub complete : (form : Form) → IsAsked call.words form → (told : List (List ℕ)) → AreTold call.held call.words told
      → ((why : Status) → ¬ Refuses call.words told why) → HasNoFault call → (call.status ≡ Done) ⊎ (call.status ≡ Memory)
  -- told files: after Done that text was put
  pub prints : call.status ≡ Done → (told : List (List ℕ)) → AreTold call.held call.words told → (text : List ℕ) → Prints call.words told text
      → call.changes.after ≡ grown call.changes.before text

-- what standard error took: the fault line, or a first part of it where its count of faults rose
abbrev pub SaysWhy : Status → Option (List ℕ) → Option (List ℕ) → ℕ → ℕ → Type 0
SaysWhy status before after faults_before faults_after =
    (after ≡ grown before (fault_line status))
    ⊎ (Rose faults_before faults_after × TookPart before after (fault_line status))
