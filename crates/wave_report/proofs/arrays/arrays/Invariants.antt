use Rattle.std.proofs.Common.{◌≡◌, ◌≤◌, ◌+◌, ◌++◌, drop, length}
use Rattle.std.specs.String.{string_bytes}
use Rattle.std.specs.List.{flat_map}
use Rattle.loop_core.specs.Sizes.{sizes}
use Rattle.wave_report.specs.ArrayText.{arrays_text, data_arrays, written_text}
use Rattle.wave_report.proofs.arrays.arrays.Given as goal

-- the text so far and that of the declarations left are the whole text, and their numbers are few
abbrev pub invariant-loop-decl : goal.invariant-loop-decl
invariant-loop-decl l = record {
  text : string_bytes l.text ++ flat_map (written_text l.nest l.values) (data_arrays l.first (drop l.decl-index l.nest.decls)) ≡ arrays_text l.nest l.values;
  few : l.first + length (sizes (drop l.decl-index l.nest.decls)) ≤ 64;
}
