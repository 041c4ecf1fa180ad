use Rattle.std.proofs.Common.{◌≡◌, ◌+◌, ◌++◌, ◌^◌, ℕ, List, drop, length}
use Rattle.wave_main.specs.Files.{AreFetched}
use Rattle.wave_main.specs.Matrices.{vectors_fault, vectors_of}
use Rattle.wave_main.proofs.matrices.vectors_of.Given as goal

abbrev pub invariant-loop-file : goal.invariant-loop-file
invariant-loop-file l =
    (l.word ≡ l.first + l.file-index)
    × (length l.vectors.items ≡ l.file-index)
    × ((bytes : List (List ℕ)) → AreFetched (2 ^ 28) bytes l.files → (vectors_fault l.word (drop l.file-index bytes) ≡ vectors_fault l.first bytes) × (l.vectors.items ++ vectors_of (drop l.file-index bytes) ≡ vectors_of bytes))
