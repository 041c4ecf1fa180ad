use Rattle.std.proofs.Common.{◌≡◌, ◌≤◌, ℕ, List, take}
use Rattle.wave_words.specs.Words.{texts}
use Rattle.wave_main.specs.Files.{AreOfFiles}
use Rattle.wave_main.proofs.fetch.fetch_vectors.Given as goal

abbrev pub invariant-loop-at : goal.invariant-loop-at
invariant-loop-at g l =
    AreOfFiles (g.L.Library.held l.fn.lib) (take l.at (texts l.names)) l.files.items
    × ((other : List ℕ) → g.L.Library.faults l.fn.lib other ≤ g.L.Library.faults l.lib other)
    × ((other : List ℕ) → g.L.Library.held l.lib other ≡ g.L.Library.held l.fn.lib other)
