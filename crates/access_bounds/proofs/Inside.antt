-- Each access of each row of an accepted nest is inside its list.
use Rattle.std.proofs.Common.{◌≡◌, ◌⊎◌, inl, inr, ℕ, ℤ, pos, negsuc, ◌<◌, ◌≤ℤ◌, ◌+ℤ◌, IsTrue, Bool, true, false, List, [], ◌∷◌, length, map, refl, sym, ap, ◌∙◌, subst, rules, arith, slice_get}
use Rattle.std.specs.Prelude.{Option, Some, None}
use Rattle.std.specs.Int.Signed.{◌<ℤ◌}
use Rattle.std.specs.List.{All, Contains, flat_map}
use Rattle.std.specs.Option.{option_map_or}
use Rattle.std.proofs.lemmas.Int.{ints}
use Rattle.std.proofs.lemmas.List.Elements.{All-contains, Contains-append_left}
use Rattle.wave_base.specs.declared.types.ArrayId.{ArrayId}
use Rattle.loop_core.specs.declared.decl.Decl.{Decl}
use Rattle.loop_core.specs.declared.decl.Size.{Size}
use Rattle.loop_core.specs.declared.decl.Size.TheVariants.{N as of_n, NPlusOne, Nnz as of_nnz}
use Rattle.loop_core.specs.declared.place.Place.{Place}
use Rattle.loop_core.specs.declared.nest.Nest.{Nest}
use Rattle.loop_core.specs.declared.nest.Side.TheVariants.{Own}
use Rattle.loop_core.specs.declared.nest.Term.{Term}
use Rattle.loop_core.specs.declared.nest.Atom.{Atom}
use Rattle.loop_core.specs.declared.nest.Atom as ATOM
use Rattle.loop_core.specs.declared.nest.Atom.TheVariants.{Zero}
use Rattle.loop_core.specs.Lists.{Lists, list_of}
use Rattle.loop_core.specs.Lengths.{HaveLengths}
use Rattle.loop_core.specs.Binding.{Binding}
use Rattle.loop_core.specs.Terms.{term_value, atom_value}
use Rattle.loop_core.specs.Sizes.{sizes, is_data, declared_length, size_length}
use Rattle.loop_core.specs.Touches.{IsInside}
use Rattle.uf_constraints.specs.declared.system.Diff.{Diff}
use Rattle.uf_constraints.specs.declared.reach.Bracket.{Bracket}
use Rattle.uf_constraints.specs.declared.reach.Spot.{Spot}
use Rattle.uf_constraints.specs.Bases.{at_most, less, on, bracket_base}
use Rattle.uf_constraints.specs.Brackets.{spots}
use Rattle.uf_constraints.specs.Truth.{Holds, AllHold}
use Rattle.uf_constraints.specs.Universe.{plain}
use Rattle.index_props.specs.Entries.{size_term, length_term}
use Rattle.index_props.specs.Meanings.{Passes}
use Rattle.index_props.specs.Derivable.{Derivable}
use Rattle.index_props.specs.Rules.{instances_of}
use Rattle.index_props.specs.Sound.{AllNameIndexes}
use Rattle.cert_check.specs.Answer.{IsTrueFor}
use Rattle.dep_extract.proofs.Members.{in_flat}
use Rattle.bracket_claims.specs.declared.claim.Claim.{Claim}
use Rattle.access_bounds.specs.Accepted.{IsAccepted, IsBounded, IsUnreached, IsShown}
use Rattle.bracket_claims.specs.Claims.{claim, claims_on, claims, low, high, atoms_of, rules_of}
use Rattle.bracket_claims.proofs.Systems.{in_map}

-- The values of terms.

split : (a : Lists) (env : List Binding) (t : Term) → term_value a env t ≡ atom_value a env t.atom +ℤ t.plus
split a env t = search (rules, ATOM.TheFolds.the_lemmas)

zero_value : (a : Lists) (env : List Binding) → term_value a env (plain Zero) ≡ pos 0
zero_value a env = search (rules, ATOM.TheFolds.the_lemmas)

at_most_means : (a : Lists) (env : List Binding) (s t : Term) → Holds a env (at_most s t) → term_value a env s ≤ℤ term_value a env t
at_most_means a env s t h = omega (arith, ints, split a env s, split a env t)

less_means : (a : Lists) (env : List Binding) (s t : Term) → Holds a env (less s t) → term_value a env s <ℤ term_value a env t
less_means a env s t h = omega (arith, ints, split a env s, split a env t)

size_value : (a : Lists) (env : List Binding) (size : Option Size) → term_value a env (size_term size) ≡ pos (option_map_or (size_length a.n a.nnz) size 0)
size_value a env None = search (rules, ATOM.TheFolds.the_lemmas)
size_value a env (Some of_n) = search (rules, ATOM.TheFolds.the_lemmas)
size_value a env (Some NPlusOne) = search (rules, ATOM.TheFolds.the_lemmas)
size_value a env (Some of_nnz) = search (rules, ATOM.TheFolds.the_lemmas)

length_value : (a : Lists) (env : List Binding) (decls : List Decl) (f : ArrayId) → term_value a env (length_term decls f) ≡ pos (declared_length decls a.n a.nnz f)
length_value a env decls f = size_value a env (slice_get (sizes decls) f.0)

-- a number from 0 up to a length is a place
place_of : (z : ℤ) (n : ℕ) → pos 0 ≤ℤ z → z <ℤ pos n → (k : ℕ) × (z ≡ pos k) × (k < n)
place_of (pos k) n h g = (k, refl, omega (arith, ints))
place_of (negsuc k) n h g = absurd (omega (arith, ints))

-- A bracket of an accepted nest.

module _ (nest : Nest) (a : Lists) (x : List (List ℤ)) (accepted : IsAccepted nest) (long : HaveLengths nest.decls a x) (passes : Passes nest.props a)
    (truth : (u : List Atom) (base : List Diff) (d : Diff) → Derivable u base (instances_of nest.decls nest.props u) d.a d.b d.c → IsTrueFor nest.decls nest.props base d)
    (s : Spot) (b : Bracket) (env : List Binding) (base : AllHold a env (bracket_base nest s)) where
  abbrev c : Claim
  c = claim nest s b

  shown : (d : Diff) → IsShown nest.decls nest.props c d → Holds a env d
  shown d h = truth (atoms_of nest.props c) (bracket_base nest s) d h a env long.of_index passes base

  reached : IsUnreached nest.decls nest.props c → ⊥
  reached h = let f = shown (record { a = h.0; b = h.0; c = negsuc 0 }) h.1 in omega (arith, ints)

  abbrev t : Term
  t = on Own b.at

  -- the value of its term lies in the declared length of its array
  within : IsBounded nest.decls nest.props c → (pos 0 ≤ℤ term_value a env t) × (term_value a env t <ℤ pos (declared_length nest.decls a.n a.nnz b.array))
  within (inl h) = absurd (reached h)
  within (inr h) =
      let zero = zero_value a env in
      let extent = length_value a env nest.decls b.array in
      let above = at_most_means a env (plain Zero) t (shown (low c) h.0) in
      let below = less_means a env t (length_term nest.decls b.array) (shown (high c) h.1) in
      (subst (λ z. z ≤ℤ term_value a env t) zero above, subst (λ z. term_value a env t <ℤ z) extent below)

  bounded : Contains (spots nest) s → Contains s.brackets b → IsBounded nest.decls nest.props c
  bounded in_spots in_s =
      All-contains (IsBounded nest.decls nest.props) (claims nest) c accepted.bounded
      (in_flat (claims_on nest) (spots nest) s c in_spots (in_map (claim nest s) s.brackets b in_s))

  pub place-inside : Contains (spots nest) s → Contains s.brackets b → (p : Place) → b.array ≡ p.array → term_value a env t ≡ p.at → IsTrue (is_data nest.decls p.array) → IsInside x p
  place-inside in_spots in_s p array at is_data_array =
      let w = within (bounded in_spots in_s) in
      let extent : declared_length nest.decls a.n a.nnz b.array ≡ length (list_of x p.array) = ap (declared_length nest.decls a.n a.nnz) array ∙ sym (long.of_data p.array is_data_array) in
      place_of p.at (length (list_of x p.array)) (subst (λ z. pos 0 ≤ℤ z) at w.0) (subst (λ (e : ℤ × ℕ). e.0 <ℤ pos e.1) (λ j. (at j, extent j)) w.1)
