-- What a top call changed and how it ended, of the library and the stream before and after it.
use Rattle.std.specs.Prelude.{ℕ, List, Option}
use Rattle.wave_main.specs.declared.status.Status.{Status}
use Rattle.wave_main.specs.Answers.{AreFilesOf, Changes, Ends, IsAnswer}

abbrev pub changed : (List ℕ → ℕ) → (List ℕ → ℕ) → Option (List ℕ) → Option (List ℕ) → ℕ → ℕ → Changes
changed reads_before reads_after before after faults_before faults_after = record {
  reads_before = reads_before;
  reads_after = reads_after;
  before = before;
  after = after;
  faults_before = faults_before;
  faults_after = faults_after;
}

-- the end that fits some bytes that the files may have
abbrev pub HasEnded : (List ℕ → Option (List ℕ)) → List (List ℕ) → Changes → Status → Type 0
HasEnded held words changes status = (files : List (List ℕ)) × AreFilesOf held words files × Ends words files changes status

abbrev pub HasAnswered : (List ℕ → Option (List ℕ)) → List (List ℕ) → Changes → Status → Type 0
HasAnswered held words changes status = IsAnswer (record { words = words; held = held; changes = changes; status = status })
