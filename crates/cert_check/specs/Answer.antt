-- What a check answers.
use Rattle.std.specs.Prelude.{◌≡◌, ℕ, List, Result, Ok, Err}
use Rattle.std.specs.List.{Contains}
use Rattle.loop_core.specs.declared.decl.Decl.{Decl}
use Rattle.loop_core.specs.declared.decl.PropDecl.{PropDecl}
use Rattle.loop_core.specs.declared.nest.Atom.{Atom}
use Rattle.loop_core.specs.Binding.{Binding}
use Rattle.loop_core.specs.Lists.{Lists}
use Rattle.uf_constraints.specs.declared.system.Diff.{Diff}
use Rattle.uf_constraints.specs.Truth.{Holds, AllHold}
use Rattle.index_props.specs.declared.rule.RuleInst.{RuleInst}
use Rattle.index_props.specs.Derivable.{Derivable}
use Rattle.index_props.specs.Meanings.{Passes}
use Rattle.index_props.specs.Sound.{IndexLengths}
use Rattle.cert_check.specs.declared.refusal.CertRefusal.{CertRefusal}
use Rattle.cert_check.specs.declared.refusal.CertRefusal.TheVariants.{BadStep, Memory}

-- the constraint or the number of the bad step is the outcome; want of memory has no cause here
abbrev pub Answers : Result Diff CertRefusal → Result Diff ℕ → Type 0
Answers (Ok d) outcome = outcome ≡ Ok d
Answers (Err (BadStep at)) outcome = outcome ≡ Err at
Answers (Err Memory) outcome = Unit {0}

-- each constraint of a list follows from the base by the instances
abbrev pub AllDerivable : List Atom → List Diff → List RuleInst → List Diff → Type 0
AllDerivable u base rules ds = (d : Diff) → Contains ds d → Derivable u base rules d.a d.b d.c

-- true for all arrays of the declared lengths that have the properties, and all values of the variables that make the base true
abbrev pub IsTrueFor : List Decl → List PropDecl → List Diff → Diff → Type 0
IsTrueFor decls props base d =
    (a : Lists) (env : List Binding) → IndexLengths decls a → Passes props a → AllHold a env base → Holds a env d
