-- When a constraint is true.
use Rattle.std.specs.Prelude.{ℕ, ◌+◌, ◌-ℤ◌, ◌≤ℤ◌, List}
use Rattle.std.specs.List.{All}
use Rattle.loop_core.specs.Lists.{Lists}
use Rattle.loop_core.specs.Binding.{Binding}
use Rattle.loop_core.specs.Terms.{atom_value, atom_entries}
use Rattle.uf_constraints.specs.declared.system.Diff.{Diff}

-- the left atom's value is at most the right side above the right atom's
abbrev pub Holds : Lists → List Binding → Diff → Type 0
Holds a env d = (atom_value a env d.a -ℤ atom_value a env d.b) ≤ℤ d.c

abbrev pub AllHold : Lists → List Binding → List Diff → Type 0
AllHold a env ds = All (Holds a env) ds

-- how many array entries are written in a constraint
abbrev pub diff_entries : Diff → ℕ
diff_entries d = atom_entries d.a + atom_entries d.b
