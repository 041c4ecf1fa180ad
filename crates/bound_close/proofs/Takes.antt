-- A base and the results of an instance, taken in one after another.
use Rattle.std.proofs.Common.{ap, take, ℕ, ◌<◌, ◌+◌, ◌≡◌, List, ◌++◌, length, slice_index_or, slice_get, subst, ◌∙◌, Some, true}
use Rattle.std.proofs.Math.Seq.{take-length}
use Rattle.loop_core.specs.declared.nest.Atom.{Atom}
use Rattle.uf_constraints.specs.declared.system.Diff.{Diff}
use Rattle.index_props.specs.declared.rule.RuleInst.{RuleInst}
use Rattle.index_props.specs.declared.certificate.Step.TheVariants.{Rule}
use Rattle.index_props.specs.Derivable.{Derivable}
use Rattle.index_props.specs.Derivable.Derivable.{fired}
use Rattle.index_props.specs.Certificate.{conclusion, named}
use Rattle.bound_close.specs.declared.workings.Workings.{Workings}
use Rattle.bound_ways.specs.Exact.{Holds}
use Rattle.bound_ways.specs.Log.{Naming}
use Rattle.bound_ways.specs.Over.{AreOver, IsRuleOver}
use Rattle.bound_close.specs.Passes.{Ready, Applied, Forward, Stopped}
use Rattle.bound_close.specs.Workings.{bounds, IsFine, Kept, Grown, Clashes, Refuted}
use Rattle.bound_ways.proofs.Emits.{edges-left}
use Rattle.bound_ways.proofs.Bounding.{lower-refl, lower-trans, Holds-lower, got, contains-got, over-take, Holds-more, premise-derivable}
use Rattle.bound_ways.proofs.Named.{named-left}
use Rattle.bound_close.proofs.Grow.{moves-refl, moves-trans}

-- the results of an instance
module _ (u : List Atom) (rules : List RuleInst) (rule : ℕ) (r : RuleInst) (places : List ℕ) (rs : List Diff) (same : rs ≡ r.results) (over : AreOver u rs) (at : slice_get rules rule ≡ Some r) (old mid new : Workings) (i : ℕ) (d : Diff) (lt : i < length rs) (is : d ≡ slice_index_or rs i d) where
  result_at : slice_get r.results i ≡ Some d
  result_at = subst (λ (l : List Diff). slice_get l i ≡ Some d) same (got rs i d lt is)

  step_gives : (base ds : List Diff) → named ds r.premises places ≡ true → conclusion u base rules ds (Rule rule i places) ≡ Some d
  step_gives base ds h = rw (at, h) result_at

  follows : (base : List Diff) → Ready u base rules mid r places → Derivable u base rules d.a d.b d.c
  follows base q = fired r d (contains-got rules rule r at) q.premises (contains-got r.results i d result_at)

  ready-next : (base : List Diff) → Ready u base rules mid r places → Grown u mid new d (Rule rule i places) → Ready u base rules new r places
  ready-next base q g =
      let x = g.longer base rules q.ds q.log q.edges (step_gives base q.ds q.named) in
      record {
        sound = g.sound base rules q.sound (follows base q);
        premises = q.premises;
        ds = q.ds ++ x.0;
        log = x.1;
        edges = x.2;
        named = named-left q.ds x.0 r.premises places q.named;
      }

  pub applied-next : Applied u rules r places (take i rs) old mid → Grown u mid new d (Rule rule i places) → Applied u rules r places (take (i + 1) rs) old new
  applied-next a g = record {
    fine = g.fine;
    lower = lower-trans (length u) (bounds old) (bounds mid) (bounds new) a.lower g.lower;
    holds = Holds-more u (bounds new) rs i d lt (Holds-lower u (bounds mid) (bounds new) (take i rs) g.lower (over-take u rs i over) a.holds) g.holds is;
    moves = moves-trans (length u) old mid new a.moves g.moves;
    ready = λ base q. ready-next base (a.ready base q) g;
  }

  pub applied-stop : Applied u rules r places (take i rs) old mid → Clashes u mid new d (Rule rule i places) → (base : List Diff) → Ready u base rules old r places → Refuted u base rules new.steps
  applied-stop a c base q =
      let m = a.ready base q in
      c base rules m.ds m.sound (follows base m) m.log m.edges (step_gives base m.ds m.named)

pub applied-all : (u : List Atom) (rules : List RuleInst) (r : RuleInst) (places : List ℕ) (rs : List Diff) (old new : Workings) (i : ℕ) → rs ≡ r.results → i ≡ length rs → Applied u rules r places (take i rs) old new → Applied u rules r places r.results old new
applied-all u rules r places rs old new i same e a =
    subst (λ (l : List Diff). Applied u rules r places l old new) (ap (λ (n : ℕ). take n rs) e ∙ take-length rs ∙ same) a

module _ (u : List Atom) (rules : List RuleInst) (r : RuleInst) (places : List ℕ) (old mid new : Workings) (over : IsRuleOver u r) (holds : Holds u (bounds old) r.premises) (table : mid.table ≡ old.table) (n : Naming u old.table.edges.items old.steps mid.steps r.premises places) where
  ready-first : (base : List Diff) → Kept u base rules old → Ready u base rules mid r places
  ready-first base k =
      let x = n.each base rules k.logged.0 k.logged.1 k.logged.2 in
      record {
        sound = rw table k.sound;
        premises = λ p i. premise-derivable u base rules (bounds old) p (over.premises p i) (holds p i) k.sound;
        ds = k.logged.0 ++ x.0;
        log = x.1;
        edges = rw table (edges-left u k.logged.0 x.0 old.table.edges.items k.logged.2);
        named = x.2;
      }

  pub fire-forward : Applied u rules r places r.results mid new → Forward u rules old new
  fire-forward a = record {
    fine = a.fine;
    moves = record { longer = rw table at a.moves.longer; each = rw table at a.moves.each };
    onward = λ base. record {
      lower = rw table at a.lower;
      kept = λ k. let q = a.ready base (ready-first base k) in record { sound = q.sound; logged = (q.ds, q.log, q.edges) };
    };
  }

  pub fire-stop : ((base : List Diff) → Ready u base rules mid r places → Refuted u base rules new.steps) → Stopped u rules old new
  fire-stop f base k = f base (ready-first base k)

pub forward-same : (u : List Atom) (rules : List RuleInst) (w : Workings) → IsFine u w → Forward u rules w w
forward-same u rules w f = record { fine = f; moves = moves-refl (length u) w; onward = λ base. record { lower = lower-refl (length u) (bounds w); kept = λ k. k } }

pub forward-trans : (u : List Atom) (rules : List RuleInst) (old mid new : Workings) → Forward u rules old mid → Forward u rules mid new → Forward u rules old new
forward-trans u rules old mid new f g = record {
  fine = g.fine;
  moves = moves-trans (length u) old mid new f.moves g.moves;
  onward = λ base. record {
    lower = lower-trans (length u) (bounds old) (bounds mid) (bounds new) (f.onward base).lower (g.onward base).lower;
    kept = λ k. (g.onward base).kept ((f.onward base).kept k);
  };
}

pub stopped-trans : (u : List Atom) (rules : List RuleInst) (old mid new : Workings) → Forward u rules old mid → Stopped u rules mid new → Stopped u rules old new
stopped-trans u rules old mid new f s base k = s base ((f.onward base).kept k)
