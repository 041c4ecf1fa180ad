-- The loop of a file.
use Rattle.std.specs.Prelude.{◌≡◌, ◌⊎◌, ℕ, ◌<◌, ◌≤◌, List, length}
use Rattle.text_base.specs.Lines.{lines}
use Rattle.loop_core.specs.declared.nest.Nest.{Nest}
use Rattle.loop_syntax.specs.declared.refusal.LoopRefusal.{LoopRefusal}
use Rattle.loop_syntax.specs.declared.refusal.LoopRefusal.TheVariants as refusals
use Rattle.loop_syntax.specs.declared.refusal.LimitKind.TheVariants.{Length}
use Rattle.loop_syntax.specs.Texts.{HasNest, IsRefused}
use Rattle.wave_main.specs.declared.status.Status.{Status}
use Rattle.wave_main.specs.declared.status.Status.TheVariants.{LoopText, LoopName, LoopLimit, Memory}

abbrev pub loop_status : LoopRefusal → Status
loop_status (refusals.Text line) = LoopText line
loop_status (refusals.Name line kind) = LoopName line kind
loop_status (refusals.Limit line kind) = LoopLimit line kind
loop_status refusals.Memory = Memory

-- the nest that the bytes of a loop file are: at most 65,536, whose lines are it
pub record IsLoop (bytes : List ℕ) (nest : Nest) : Type 0 where
  pub short : length bytes ≤ 65536
  pub has : HasNest (lines bytes) nest

-- why the bytes of a loop file are no nest: they are more, or their lines are refused
abbrev pub IsLoopFault : List ℕ → Status → Type 0
IsLoopFault bytes status =
    ((65536 < length bytes) × (status ≡ LoopLimit 0 Length))
    ⊎ ((why : LoopRefusal) × (length bytes ≤ 65536) × IsRefused (lines bytes) why × (status ≡ loop_status why))
