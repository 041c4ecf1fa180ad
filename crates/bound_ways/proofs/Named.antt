-- Premises that are named one after another.
use Rattle.std.proofs.Common.{ℕ, ◌≡◌, refl, List, [], ◌∷◌, ◌++◌, slice_get, Bool, true, false, Option, Some, None, append_assoc}
use Rattle.std.specs.Prelude.{◌&&◌}
use Rattle.std.specs.Option.{option_map_or}
use Rattle.std.specs.Ordering.{int_eq}
use Rattle.std.proofs.lemmas.Bool.Decides.{Decides-int_eq}
use Rattle.std.proofs.lemmas.List.{append-nil}
use Rattle.loop_core.specs.declared.nest.Atom.{Atom}
use Rattle.uf_constraints.specs.declared.system.Diff.{Diff}
use Rattle.uf_constraints.specs.Same.{same_atom}
use Rattle.index_props.specs.declared.certificate.Step.{Step}
use Rattle.index_props.specs.Certificate.{named, same_diff}
use Rattle.bound_table.specs.declared.edge.Edge.{Edge}
use Rattle.bound_ways.specs.Log.{Emitted, Naming}
use Rattle.bound_ways.proofs.Atoms.{same-itself}
use Rattle.bound_ways.proofs.Emits.{get-left, edges-left}

both-true : (b c : Bool) → b ≡ true → c ≡ true → (b && c) ≡ true
both-true b c p q = rw (p, q) refl

parts : (b c : Bool) → (b && c) ≡ true → (b ≡ true) × (c ≡ true)
parts true c h = (refl, h)
parts false c h = absurd (cc)

diff-itself : (p : Diff) → same_diff p p ≡ true
diff-itself p =
    both-true (same_atom p.a p.a) (same_atom p.b p.b && int_eq p.c p.c) (same-itself p.a)
    (both-true (same_atom p.b p.b) (int_eq p.c p.c) (same-itself p.b) ((Decides-int_eq p.c p.c).1 refl))

found-left : (earlier rest : List Diff) (k : ℕ) (p : Diff) (o : Option Diff) → slice_get earlier k ≡ o → option_map_or (same_diff p) o false ≡ true → option_map_or (same_diff p) (slice_get (earlier ++ rest) k) false ≡ true
found-left earlier rest k p None e h = absurd (cc)
found-left earlier rest k p (Some d) e h = rw (get-left earlier rest k d e) h

pub named-left : (earlier rest : List Diff) (ps : List Diff) (ks : List ℕ) → named earlier ps ks ≡ true → named (earlier ++ rest) ps ks ≡ true
named-left earlier rest [] [] h = refl
named-left earlier rest [] (k ∷ ks) h = absurd (cc)
named-left earlier rest (p ∷ ps) [] h = absurd (cc)
named-left earlier rest (p ∷ ps) (k ∷ ks) h =
    let c = parts (option_map_or (same_diff p) (slice_get earlier k) false) (named earlier ps ks) h in
    both-true (option_map_or (same_diff p) (slice_get (earlier ++ rest) k) false) (named (earlier ++ rest) ps ks) (found-left earlier rest k p (slice_get earlier k) refl c.0) (named-left earlier rest ps ks c.1)

named-last : (earlier ps : List Diff) (ks : List ℕ) (p : Diff) (l : ℕ) → named earlier ps ks ≡ true → slice_get earlier l ≡ Some p → named earlier (ps ++ p ∷ []) (ks ++ l ∷ []) ≡ true
named-last earlier [] [] p l h e = both-true (option_map_or (same_diff p) (slice_get earlier l) false) true (rw e (diff-itself p)) refl
named-last earlier [] (k ∷ ks) p l h e = absurd (cc)
named-last earlier (q ∷ ps) [] p l h e = absurd (cc)
named-last earlier (q ∷ ps) (k ∷ ks) p l h e =
    let c = parts (option_map_or (same_diff q) (slice_get earlier k) false) (named earlier ps ks) h in
    both-true (option_map_or (same_diff q) (slice_get earlier k) false) (named earlier (ps ++ p ∷ []) (ks ++ l ∷ [])) c.0 (named-last earlier ps ks p l c.1 e)

pub naming-none : (u : List Atom) (edges : List Edge) (old : List Step) → Naming u edges old old [] []
naming-none u edges old = record { each = λ base rules ds log ein. ([], rw append-nil log, refl) }

pub naming-more : (u : List Atom) (edges : List Edge) (old mid new : List Step) (ps : List Diff) (ks : List ℕ) (k : ℕ) (p : Diff) → Naming u edges old mid ps ks → Emitted u edges mid new k p → Naming u edges old new (ps ++ p ∷ []) (ks ++ k ∷ [])
naming-more u edges old mid new ps ks k p n e = record {
  each = λ base rules ds log ein.
      let r1 = n.each base rules ds log ein in
      let ds1 : List Diff = ds ++ r1.0 in
      let r2 = e.each base rules ds1 r1.1 (edges-left u ds r1.0 edges ein) in
      let kept : named (ds1 ++ r2.0) ps ks ≡ true = named-left ds1 r2.0 ps ks r1.2 in
      let same : ds ++ (r1.0 ++ r2.0) ≡ ds1 ++ r2.0 = simp append_assoc in
      (r1.0 ++ r2.0, rw same r2.1, rw same (named-last (ds1 ++ r2.0) ps ks p k kept r2.2));
}
