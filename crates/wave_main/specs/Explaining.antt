-- The text of `explain` of the bytes of a loop file, or why there is none.
use Rattle.std.specs.Prelude.{◌≡◌, ◌⊎◌, ℕ, List}
use Rattle.loop_core.specs.declared.nest.Nest.{Nest}
use Rattle.uf_constraints.specs.Relations.{relations}
use Rattle.access_bounds.specs.Accepted.{IsAccepted}
use Rattle.dep_simplify.specs.declared.verdict.Verdict.{Verdict}
use Rattle.dep_simplify.specs.Verdicts.{AreVerdicts}
use Rattle.wave_main.specs.declared.status.Status.{Status}
use Rattle.wave_main.specs.declared.status.Status.TheVariants.{Memory}
use Rattle.wave_main.specs.Bounds.{IsBoundsFault}
use Rattle.wave_main.specs.Loops.{IsLoop, IsLoopFault}
use Rattle.wave_main.specs.Texts.{relation_lines}

-- the loop of the bytes is accepted, and this is the text of its relations
pub record IsExplained (bytes text : List ℕ) : Type 0 where
  pub nest : Nest
  pub is_loop : IsLoop bytes nest
  pub accepted : IsAccepted nest
  pub verdicts : List Verdict
  pub are_verdicts : AreVerdicts nest verdicts
  pub printed : text ≡ relation_lines 1 (relations nest) verdicts

-- out of memory, no loop, or one that isn't accepted
abbrev pub IsUnexplained : List ℕ → Status → Type 0
IsUnexplained bytes status =
    (status ≡ Memory) ⊎ IsLoopFault bytes status ⊎ ((nest : Nest) × IsLoop bytes nest × IsBoundsFault nest status)
