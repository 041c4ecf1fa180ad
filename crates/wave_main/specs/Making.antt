-- The text that a call makes before it puts anything, or why it makes none.
use Rattle.std.specs.Prelude.{◌≡◌, ◌⊎◌, ℕ, List, Option}
use Rattle.wave_io.specs.Faults.{Rose}
use Rattle.wave_main.specs.declared.status.Status.{Status}
use Rattle.wave_main.specs.declared.status.Status.TheVariants.{ReadFault, Memory}
use Rattle.wave_main.specs.Answers.{AreFilesOf}
use Rattle.wave_main.specs.Commands.{IsFilePlace, Prints, Refuses}
use Rattle.wave_main.specs.Files.{word_of}

-- the text of the command over bytes that the files may have
abbrev pub IsMade : (List ℕ → Option (List ℕ)) → List (List ℕ) → List ℕ → Type 0
IsMade held words text = (files : List (List ℕ)) × AreFilesOf held words files × Prints words files text

-- a fault of reading a file of the command
abbrev pub IsUnread : List (List ℕ) → (List ℕ → ℕ) → (List ℕ → ℕ) → Status → Type 0
IsUnread words old new status =
    (word : ℕ) × IsFilePlace words word × (status ≡ ReadFault word) × Rose (old (word_of words word)) (new (word_of words word))

-- out of memory, a fault of reading, or a refusal of words or of bytes that the files may have
abbrev pub IsMissed : (List ℕ → Option (List ℕ)) → List (List ℕ) → (List ℕ → ℕ) → (List ℕ → ℕ) → Status → Type 0
IsMissed held words old new status =
    (status ≡ Memory) ⊎ IsUnread words old new status ⊎ ((files : List (List ℕ)) × AreFilesOf held words files × Refuses words files status)
