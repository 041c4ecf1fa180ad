-- The constants just inside the atoms of a list.
use Rattle.std.proofs.Common.{ℕ, ◌+◌, ◌≤◌, List, [], ◌∷◌, ◌++◌, true, false, cond, subst, sym, arith, unsigned_abs}
use Rattle.std.specs.List.{flat_map}
use Rattle.std.proofs.lemmas.List.Elements.{All-head, All-tail, All-push, All-weaker}
use Rattle.wave_base.specs.declared.types.ArrayId.{ArrayId}
use Rattle.loop_core.specs.declared.nest.Term.{Term}
use Rattle.loop_core.specs.declared.nest.Atom.{Atom, out-Atom}
use Rattle.loop_core.specs.declared.nest.Atom.TheOpen.{Atom-F}
use Rattle.loop_core.specs.declared.nest.Atom.TheVariants.{At, outs-At}
use Rattle.uf_constraints.specs.declared.system.Diff.{Diff}
use Rattle.uf_constraints.specs.Constants.{IndexWithin, IndexesWithin, DiffsWithin, TermsWithin}
use Rattle.uf_constraints.specs.Universe.{listed, all_listed, diff_parts, term_parts}
use Rattle.uf_constraints.specs.Same.{is_listed}
use Rattle.uf_constraints.proofs.Parts.{base_within, terms_within}

listed_within : (k : ℕ) (atoms : List Atom) (a : Atom) → IndexesWithin k atoms → IndexWithin k (out-Atom a) → IndexesWithin k (listed atoms a)
listed_within k atoms a old new =
    elim (is_listed atoms a) as (λ b. IndexesWithin k (cond b atoms (atoms ++ a ∷ []))) [
      | true ↦ old
      | false ↦ All-push (λ b. IndexWithin k (out-Atom b)) atoms a old new
    ]

pub all_listed_within : (k : ℕ) (atoms more : List Atom) → IndexesWithin k atoms → IndexesWithin k more → IndexesWithin k (all_listed atoms more)
all_listed_within k atoms [] old new = old
all_listed_within k atoms (a ∷ more) old new =
    let P : Atom → Type 0 = λ b. IndexWithin k (out-Atom b) in
    all_listed_within k (listed atoms a) more (listed_within k atoms a old (All-head P a more new)) (All-tail P a more new)

pub written_within : (k : ℕ) (sizes : List Atom) (base : List Diff) (extra : List Term) → IndexesWithin k sizes → DiffsWithin k base → TermsWithin k extra → IndexesWithin k (all_listed (all_listed sizes (flat_map diff_parts base)) (flat_map term_parts extra))
written_within k sizes base extra old small smaller =
    all_listed_within k (all_listed sizes (flat_map diff_parts base)) (flat_map term_parts extra) (all_listed_within k sizes (flat_map diff_parts base) old (base_within k base small)) (terms_within k extra smaller)

wider_one : (k : ℕ) (a : Atom-F Atom Term) → IndexWithin k a → IndexWithin (k + 1) a
wider_one k (Atom-F.At f t) h = omega arith
wider_one k Atom-F.Zero h = tt
wider_one k Atom-F.N h = tt
wider_one k Atom-F.Nnz h = tt
wider_one k (Atom-F.Var v) h = tt

pub wider : (k : ℕ) (atoms : List Atom) → IndexesWithin k atoms → IndexesWithin (k + 1) atoms
wider k atoms h =
    All-weaker (λ b. IndexWithin k (out-Atom b)) (λ b. IndexWithin (k + 1) (out-Atom b)) (λ b. wider_one k (out-Atom b)) atoms h

entry_within : (k : ℕ) (f : ArrayId) (t : Term) → unsigned_abs t.plus ≤ k → IndexWithin k (out-Atom (At f t))
entry_within k f t h = subst (IndexWithin k) (sym (outs-At f t)) h

-- one entry more
pub pushed_within : (k : ℕ) (into : List Atom) (f : ArrayId) (t : Term) → IndexesWithin k into → unsigned_abs t.plus ≤ k → IndexesWithin k (into ++ At f t ∷ [])
pushed_within k into f t old small =
    All-push (λ b. IndexWithin k (out-Atom b)) into (At f t) old (entry_within k f t small)
