-- What a table of least bounds says of constraints.
use Rattle.std.specs.Prelude.{ℤ, pos, ◌+ℤ◌, Bool, false, int_le, if◌then◌else◌, Option, Some, None, List, [], ◌∷◌}
use Rattle.std.specs.Ordering.{int_eq}
use Rattle.loop_core.specs.declared.nest.Atom.{Atom}
use Rattle.uf_constraints.specs.declared.system.Diff.{Diff}
use Rattle.index_props.specs.declared.rule.RuleInst.{RuleInst}
use Rattle.index_props.specs.Derivable.{IsContradictory}
use Rattle.bound_ways.specs.Exact.{IsBound}
use Rattle.bound_close.specs.Closure.{Found as Closed, IsClosure}

-- the least bound of a - b, where one is known
abbrev pub Bounds : Type 0
Bounds = Atom → Atom → Option ℤ

-- the closure is that of a system that doesn't contradict itself, and these are its least bounds
pub record IsTable (k : Closed) (bounds : Bounds) : Type 0 where
  pub base : List Diff
  pub rules : List RuleInst
  pub closure : IsClosure k base rules
  pub consistent : IsContradictory k.atoms base rules → ⊥
  pub least : (a b : Atom) → IsBound k.atoms base rules a b (bounds a b)

abbrev pub is_at_most : ℤ → Option ℤ → Bool
is_at_most c (Some least) = int_le least c
is_at_most c None = false

-- the constraint is known
abbrev pub knows : Bounds → Diff → Bool
knows bounds d = is_at_most d.c (bounds d.a d.b)

-- the constant c of a = b + c, alone, where both halves are known
abbrev pub constant : Option ℤ → Option ℤ → List ℤ
constant (Some c) (Some d) = if int_eq (c +ℤ d) (pos 0) then c ∷ [] else []
constant (Some c) None = []
constant None d = []

abbrev pub constant_between : Bounds → Atom → Atom → List ℤ
constant_between bounds a b = constant (bounds a b) (bounds b a)
