use Rattle.std.proofs.Common.{◌≡◌, drop}
use Rattle.loop_core.specs.Binding.{value_in}
use Rattle.uf_constraints.specs.Bindings.{bindings_of}
use Rattle.uf_constraints.proofs.env.Env.value.Given as goal

-- no variable so far is the one that is asked for
abbrev pub invariant-loop-listed : goal.invariant-loop-listed
invariant-loop-listed l = value_in (bindings_of (drop l.listed-index l.listed-items)) l.var ≡ value_in (bindings_of l.listed-items) l.var
