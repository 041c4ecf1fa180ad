-- A plan may be run, and what it emits are rows.
use Rattle.std.proofs.Common.{rules, ◌≡◌, ℕ, ◌+◌, ◌*◌, ◌^◌, ◌<◌, ◌≤◌, ℤ, true, ◌&&◌, List, [], length, sym, ◌∙◌, arith, unsigned_abs}
use Rattle.std.specs.Prelude.{nat_le}
use Rattle.std.specs.List.{All, flat_map}
use Rattle.std.proofs.lemmas.Int.{ints}
use Rattle.std.proofs.lemmas.Bool.{and_parts, leb-true}
use Rattle.std.proofs.lemmas.List.Elements.{All-nil, All-map, All-weaker}
use Rattle.wave_base.specs.declared.types.RowId.{RowId}
use Rattle.loop_core.specs.declared.nest.Term.{Term}
use Rattle.loop_core.specs.declared.nest.Atom.TheFolds.{the_lemmas as of_atom}
use Rattle.loop_core.specs.Lists.{Lists}
use Rattle.loop_core.specs.Binding.{Binding}
use Rattle.loop_core.specs.Instances.{natural}
use Rattle.uf_constraints.specs.Constants.{atom_within, term_within}
use Rattle.inspector_run.specs.declared.plan.InspOp.{InspOp}
use Rattle.inspector_run.specs.declared.plan.InspOp.TheVariants.{Loop, Let, Find, Locate, Test, Emit}
use Rattle.inspector_run.specs.Pairs.{met, as_rows, emitted, IsEarlier}
use Rattle.inspector_run.specs.Ready.{reach, AreHeld, fixes, IsNear, SearchesAscending, IsReady}
use Rattle.inspector_run.specs.IsPlan.{IsSmall, IsPlan}
use Rattle.inspector_run.proofs.Near.{natural_is}
use Rattle.inspector_run.proofs.Emitting.{plan_earlier}

term_near : (t : Term) → term_within (2 ^ 31) t ≡ true → unsigned_abs t.plus ≤ 2 ^ 31
term_near t h =
    let is : term_within (2 ^ 31) t ≡ (atom_within (2 ^ 31) t.atom && nat_le (unsigned_abs t.plus) (2 ^ 31)) = search (rules, of_atom) in
    leb-true (unsigned_abs t.plus) (2 ^ 31) (and_parts (atom_within (2 ^ 31) t.atom) (nat_le (unsigned_abs t.plus) (2 ^ 31)) (sym is ∙ h)).1

small_near : (op : InspOp) → IsSmall op → IsNear op
small_near (Loop v lo hi) s = (term_near lo s.0, term_near hi s.1)
small_near (Let v t) s = term_near t s
small_near (Find v f plus t) s = s.0
small_near (Locate v p plus t) s = s.0
small_near (Test d) s = tt
small_near (Emit i j) s = tt

none_held : AreHeld []
none_held = record { few = omega arith; within = All-nil (λ (b : Binding). unsigned_abs b.value ≤ reach 0) }

pub plan_ready : (a : Lists) (ops : List InspOp) → IsPlan ops → All (SearchesAscending a) ops → IsReady a ops []
plan_ready a ops plan ascending =
    let few : length (flat_map fixes ops) ≤ 12 = plan.few in
    record {
      held = none_held;
      few = omega arith;
      near = All-weaker IsSmall IsNear small_near ops plan.small;
      ascending = ascending;
      earlier = plan_earlier a ops plan;
    }

pub earlier_rows : (a : Lists) (ops : List InspOp) → IsPlan ops → All (λ (p : RowId × RowId). p.0.0 < p.1.0) (emitted a ops)
earlier_rows a ops plan =
    All-map (λ (p : RowId × RowId). p.0.0 < p.1.0) as_rows (met a ops [])
    (All-weaker (IsEarlier a.n) (λ (p : ℤ × ℤ). natural p.0 < natural p.1) (λ p h. omega (arith, ints, natural_is p.0, natural_is p.1, h.low, h.apart)) (met a ops []) (plan_earlier a ops plan))

pub rows_below : (a : Lists) (ops : List InspOp) → IsPlan ops → All (λ (p : RowId × RowId). p.1.0 < a.n) (emitted a ops)
rows_below a ops plan =
    All-map (λ (p : RowId × RowId). p.1.0 < a.n) as_rows (met a ops [])
    (All-weaker (IsEarlier a.n) (λ (p : ℤ × ℤ). natural p.1 < a.n) (λ p h. omega (arith, ints, natural_is p.1, h.low, h.apart, h.high)) (met a ops []) (plan_earlier a ops plan))

-- visits times what is read at each, and the inverse lists
pub ticks_added : (s t u b d listed visits : ℕ) → t ≤ s + listed → u ≤ t + visits * (b + d) → u ≤ s + (visits * b + listed + visits * d)
ticks_added s t u b d listed visits first rest = omega arith
