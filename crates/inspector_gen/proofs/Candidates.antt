-- The kinds that a variable may have, by what they come from.
use Rattle.std.proofs.Common.{◌≡◌, ℤ, pos, negsuc, ◌+ℤ◌, ◌-ℤ◌, Bool, true, false, Option, Some, None, List, [], ◌∷◌, refl, sym, ap, ◌∙◌, subst}
use Rattle.std.specs.Prelude.{if◌then◌else◌}
use Rattle.std.specs.Ordering.{int_eq}
use Rattle.std.specs.List.{Contains, list_all}
use Rattle.std.proofs.lemmas.Bool.Decides.{Decides-int_eq}
use Rattle.wave_base.specs.declared.types.ArrayId.{ArrayId}
use Rattle.loop_core.specs.declared.nest.VarId.{VarId}
use Rattle.loop_core.specs.declared.nest.Term.{Term}
use Rattle.loop_core.specs.declared.nest.Atom.{Atom, out-Atom, roll-Atom, roll-out-Atom}
use Rattle.loop_core.specs.declared.nest.Atom.TheVariants.{At, rolls-At}
use Rattle.loop_core.specs.declared.nest.Atom.TheOpen.{Atom-F}
use Rattle.loop_core.specs.Shape.{term_vars}
use Rattle.dep_extract.proofs.Members.{none, here, from_flat, kept_is}
use Rattle.inspector_run.specs.IsPlan.{is_among}
use Rattle.inspector_gen.specs.declared.kind.Kind.{Kind}
use Rattle.inspector_gen.specs.declared.kind.Kind.TheVariants.{Looped}
use Rattle.inspector_gen.specs.declared.kind.Way.{Way}
use Rattle.inspector_gen.specs.declared.kind.Way.TheVariants as ways
use Rattle.inspector_gen.specs.Known.{Bounds, knows, constant}
use Rattle.inspector_gen.specs.Kinds.{Facts, is_fixed, term_of, if_below, constants, kind_with, kinds_by, kinds_if_fixed, kinds_along, may_find, may_locate, found_in, located_in, first_of, or_looped}
use Rattle.inspector_gen.proofs.Lists.{from_map}
use Rattle.inspector_gen.proofs.Locality.{term_vars_are}

pub under : {X : Type 0} (b : Bool) (xs : List X) (x : X) → Contains (if b then xs else []) x → (b ≡ true) × Contains xs x
under true xs x h = (refl, h)
under false xs x h = absurd (none x h)

pub constant_is : (o p : Option ℤ) (c : ℤ) → Contains (constant o p) c → (o ≡ Some c) × ((d : ℤ) × (p ≡ Some d) × ((c +ℤ d) ≡ pos 0))
constant_is (Some x) (Some y) c h =
    let t = kept_is (int_eq (x +ℤ y) (pos 0)) x c h in
    (ap Some t.1, (y, refl, subst (λ z. (z +ℤ y) ≡ pos 0) t.1 ((Decides-int_eq (x +ℤ y) (pos 0)).0 t.0)))
constant_is (Some x) None c h = absurd (none c h)
constant_is None (Some y) c h = absurd (none c h)
constant_is None None c h = absurd (none c h)

pub below_is : (bounds : Bounds) (x after : Atom) (o : Option ℤ) (c : ℤ) → Contains (if_below bounds x after o) c → (o ≡ Some c) × (knows bounds (record { a = x; b = after; c = negsuc 0 -ℤ c }) ≡ true)
below_is bounds x after None c h = absurd (none c h)
below_is bounds x after (Some e) c h =
    let t = kept_is (knows bounds (record { a = x; b = after; c = negsuc 0 -ℤ e })) e c h in
    (ap Some t.1, subst (λ (z : ℤ). knows bounds (record { a = x; b = after; c = negsuc 0 -ℤ z }) ≡ true) t.1 t.0)

pub atom_is : (y : Atom) (array : ArrayId) (t : Term) → out-Atom y ≡ Atom-F.At array t → y ≡ At array t
atom_is y array t is = sym (roll-out-Atom y) ∙ ap roll-Atom is ∙ rolls-At array t

-- the first of some kinds, or looped where there are none
pub pick_or : (P : Kind → Type 0) (ks : List Kind) → ((k : Kind) → Contains ks k → P k) → (or_looped (first_of ks) ≡ Looped → P Looped) → P (or_looped (first_of ks))
pick_or P [] each looped = looped refl
pick_or P (k ∷ ks) each looped = each k (here k ks)

pub uses_fixed : (earlier : List VarId) (x : Atom) (c : ℤ) → is_fixed earlier x ≡ true → list_all (is_among earlier) (term_vars (term_of x c)) ≡ true
uses_fixed earlier x c h = ap (list_all (is_among earlier)) (term_vars_are (term_of x c)) ∙ h

module _ (f : Facts) where
  pub along_is : (earlier : List VarId) (v : VarId) (way : Way) (k : Kind) → Contains (kinds_along f earlier v way) k
      → (x : Atom) × (c : ℤ) × (is_fixed earlier x ≡ true) × Contains (constants f.bounds v way x) c × (kind_with way (term_of x c) ≡ k) × Contains f.atoms x
  along_is earlier v way k h =
      let t = from_flat (kinds_if_fixed f earlier v way) f.atoms k h in
      let u = under (is_fixed earlier t.0) (kinds_by f v way t.0) k t.2 in
      let m = from_map (λ c. kind_with way (term_of t.0 c)) (constants f.bounds v way t.0) k u.1 in
      (t.0, m.0, u.0, m.1, m.2, t.1)

  module _ (earlier : List VarId) (v : VarId) where
    pub found_from : (k : Kind) (y : Atom) (l : Atom-F Atom Term) → out-Atom y ≡ l → Contains (found_in f earlier v l) k
        → (array : ArrayId) × (t : Term) × (y ≡ At array t) × (may_find f v array t ≡ true) × Contains (kinds_along f earlier v (ways.Found array t.plus)) k
    found_from k y (Atom-F.At array t) is h =
        let m = under (may_find f v array t) (kinds_along f earlier v (ways.Found array t.plus)) k h in
        (array, t, atom_is y array t is, m.0, m.1)
    found_from k y Atom-F.Zero is h = absurd (none k h)
    found_from k y Atom-F.N is h = absurd (none k h)
    found_from k y Atom-F.Nnz is h = absurd (none k h)
    found_from k y (Atom-F.Var w) is h = absurd (none k h)

    pub located_from : (k : Kind) (y : Atom) (l : Atom-F Atom Term) → out-Atom y ≡ l → Contains (located_in f earlier v l) k
        → (array : ArrayId) × (t : Term) × (y ≡ At array t) × (may_locate f v array t ≡ true) × Contains (kinds_along f earlier v (ways.Located array t.plus)) k
    located_from k y (Atom-F.At array t) is h =
        let m = under (may_locate f v array t) (kinds_along f earlier v (ways.Located array t.plus)) k h in
        (array, t, atom_is y array t is, m.0, m.1)
    located_from k y Atom-F.Zero is h = absurd (none k h)
    located_from k y Atom-F.N is h = absurd (none k h)
    located_from k y Atom-F.Nnz is h = absurd (none k h)
    located_from k y (Atom-F.Var w) is h = absurd (none k h)
