-- The systems of a nest have small constants.
use Rattle.std.proofs.Common.{◌≡◌, ◌⊎◌, inl, inr, ℕ, ℤ, pos, zero, suc, ◌<◌, length, slice_index_or, ◌≤◌, ◌^◌, IsTrue, Bool, true, false, ◌&&◌, nat_le, unsigned_abs, List, [], ◌∷◌, ◌++◌, map, refl, sym, ap, ◌∙◌, subst, rules, tests, arith}
use Rattle.std.specs.Prelude.{◌-ℤ◌}
use Rattle.std.specs.List.{All, Contains, flat_map}
use Rattle.std.proofs.lemmas.Int.{ints}
use Rattle.std.proofs.lemmas.Bool.Decides.{nat_tests}
use Rattle.std.proofs.lemmas.List.Elements.{All-nil, All-cons, All-head, All-tail, All-append, All-map, All-weaker, All-contains, All-contains_itself, Contains-append_right}
use Rattle.wave_base.specs.declared.types.ArrayId.{ArrayId}
use Rattle.loop_core.specs.declared.nest.Nest.{Nest}
use Rattle.loop_core.specs.declared.nest.Side.{Side}
use Rattle.loop_core.specs.declared.nest.Side.TheVariants.{Own, First, Second}
use Rattle.loop_core.specs.declared.nest.Rel.{Rel}
use Rattle.loop_core.specs.declared.nest.Rel.TheVariants.{Equal as EqualRel, Less as LessRel, LessEqual as LessEqualRel}
use Rattle.loop_core.specs.declared.nest.Term.{Term, roll-Term, map-Term}
use Rattle.loop_core.specs.declared.nest.Atom.{Atom, roll-Atom, map-Atom}
use Rattle.loop_core.specs.declared.nest.Atom as ATOM
use Rattle.loop_core.specs.declared.nest.Atom.TheVariants.{Zero, N, Nnz}
use Rattle.loop_core.specs.declared.nest.Atom.TheOpen.{Atom-F, Term-F}
use Rattle.loop_core.specs.declared.nest.Atom.TheFolds.{ind-Term}
use Rattle.loop_core.specs.IsNest.{IsNest}
use Rattle.uf_constraints.specs.declared.system.Diff.{Diff}
use Rattle.uf_constraints.specs.declared.system.Relation.{Relation}
use Rattle.uf_constraints.specs.declared.reach.Around.{Around}
use Rattle.uf_constraints.specs.declared.reach.Around.TheVariants.{Loop as Repeated, Guard}
use Rattle.uf_constraints.specs.declared.reach.Bracket.{Bracket}
use Rattle.uf_constraints.specs.declared.reach.Spot.{Spot}
use Rattle.uf_constraints.specs.declared.reach.Site.{Site}
use Rattle.uf_constraints.specs.Bases.{at_most, less, equal, atom_on, on, variable, compared_by, said_by, said_by_all, of_sizes, bracket_base, relation_base}
use Rattle.uf_constraints.specs.Brackets.{spots}
use Rattle.uf_constraints.specs.Constants.{atom_within, term_within, DiffsWithin, TermsWithin}
use Rattle.uf_constraints.specs.Relations.{site, sites, are_related, relation, related, relations}
use Rattle.uf_constraints.specs.Universe.{plain}
use Rattle.rule_laws.specs.Small.{IsSmall}
use Rattle.dep_extract.proofs.Members.{both, from_flat, kept_is}
use Rattle.dep_extract.proofs.Dependent.{from_site}
use Rattle.bracket_claims.specs.declared.claim.Claim.{Claim}
use Rattle.bracket_claims.specs.Claims.{claim, claims_on, claims}
use Rattle.bracket_claims.specs.Small.{IsSmallBase, IsSmallClaim}
use Rattle.bracket_claims.proofs.Lines.{IsSmallTerm, IsFineSpot, IsFineBracket, IsFineAround, HasSmallTerms, spots-fine}

map_at : {X Y : Type 0} (f : Y → X) (ys : List Y) (k : ℕ) (y : Y) → k < length ys → slice_index_or ys k y ≡ y → Contains (map f ys) (f y)
map_at f [] k y l e = absurd (omega arith)
map_at f (z ∷ ys) zero y l e = (0, omega arith, ap f e)
map_at f (z ∷ ys) (suc k) y l e = Contains-append_right (f z ∷ []) (map f ys) (f y) (map_at f ys k y (omega arith) e)

pub in_map : {X Y : Type 0} (f : Y → X) (ys : List Y) (y : Y) → Contains ys y → Contains (map f ys) (f y)
in_map f ys y h = map_at f ys h.0 y h.1 h.2

-- Terms.

term_parts : (t : Term) → term_within (2 ^ 21) t ≡ (atom_within (2 ^ 21) t.atom && nat_le (unsigned_abs t.plus) (2 ^ 21))
term_parts t = search (rules, ATOM.TheFolds.the_lemmas)

le_from : (n k : ℕ) → nat_le n k ≡ true → n ≤ k
le_from n k e = grind (arith, nat_tests)

pub atom_small : (t : Term) → IsSmallTerm t → IsTrue (atom_within (2 ^ 21) t.atom)
atom_small t h = (both (atom_within (2 ^ 21) t.atom) (nat_le (unsigned_abs t.plus) (2 ^ 21)) (sym (term_parts t) ∙ h)).0

plus_small : (t : Term) → IsSmallTerm t → unsigned_abs t.plus ≤ 2 ^ 21
plus_small t h = le_from (unsigned_abs t.plus) (2 ^ 21) (both (atom_within (2 ^ 21) t.atom) (nat_le (unsigned_abs t.plus) (2 ^ 21)) (sym (term_parts t) ∙ h)).1

zero_small : IsSmallTerm (plain Zero)
zero_small = search (rules, ATOM.TheFolds.the_lemmas)

rows_small : IsSmallTerm (plain N)
rows_small = search (rules, ATOM.TheFolds.the_lemmas)

stored_small : IsSmallTerm (plain Nnz)
stored_small = search (rules, ATOM.TheFolds.the_lemmas)

variable_small : (side : Side) (line : ℕ) → IsSmallTerm (variable side line)
variable_small side line = search (rules, ATOM.TheFolds.the_lemmas)

-- on a side a term has the same constants

module _ (side : Side) where
  abbrev AtomSame : Atom → Type 0
  AtomSame a = atom_within (2 ^ 21) (atom_on side a) ≡ atom_within (2 ^ 21) a

  abbrev TermSame : Term → Type 0
  TermSame t = term_within (2 ^ 21) (on side t) ≡ term_within (2 ^ 21) t

  at_same : (f : ArrayId) (t : Term) → TermSame t → AtomSame (roll-Atom (Atom-F.At f t))
  at_same f t h =
      let moved : atom_within (2 ^ 21) (atom_on side (roll-Atom (Atom-F.At f t))) ≡ term_within (2 ^ 21) (on side t) = search (rules, ATOM.TheFolds.the_lemmas) in
      let old : atom_within (2 ^ 21) (roll-Atom (Atom-F.At f t)) ≡ term_within (2 ^ 21) t = search (rules, ATOM.TheFolds.the_lemmas) in
      moved ∙ h ∙ sym old

  term_same : (t : Term-F Atom Term) → AtomSame t.atom → TermSame (roll-Term t)
  term_same t h =
      let moved : term_within (2 ^ 21) (on side (roll-Term t)) ≡ (atom_within (2 ^ 21) (atom_on side t.atom) && nat_le (unsigned_abs t.plus) (2 ^ 21)) = search (rules, ATOM.TheFolds.the_lemmas) in
      let old : term_within (2 ^ 21) (roll-Term t) ≡ (atom_within (2 ^ 21) t.atom && nat_le (unsigned_abs t.plus) (2 ^ 21)) = search (rules, ATOM.TheFolds.the_lemmas) in
      moved ∙ ap (λ b. b && nat_le (unsigned_abs t.plus) (2 ^ 21)) h ∙ sym old

  atom_from : {A B : Type 0} (pa : A → Atom) (pb : B → Term) → ((b : B) → TermSame (pb b)) → (y : Atom-F A B) (x : Atom-F Atom Term) → map-Atom A B Atom Term pa pb y ≡ x → AtomSame (roll-Atom x)
  atom_from pa pb same (Atom-F.At f t) x is = subst (λ z. AtomSame (roll-Atom z)) is (at_same f (pb t) (same t))
  atom_from pa pb same Atom-F.Zero x is = subst (λ z. AtomSame (roll-Atom z)) is (search (rules, ATOM.TheFolds.the_lemmas))
  atom_from pa pb same Atom-F.N x is = subst (λ z. AtomSame (roll-Atom z)) is (search (rules, ATOM.TheFolds.the_lemmas))
  atom_from pa pb same Atom-F.Nnz x is = subst (λ z. AtomSame (roll-Atom z)) is (search (rules, ATOM.TheFolds.the_lemmas))
  atom_from pa pb same (Atom-F.Var v) x is = subst (λ z. AtomSame (roll-Atom z)) is (search (rules, ATOM.TheFolds.the_lemmas))

  term_from : {A B : Type 0} (pa : A → Atom) (pb : B → Term) → ((x : A) → AtomSame (pa x)) → (y : Term-F A B) (x : Term-F Atom Term) → map-Term A B Atom Term pa pb y ≡ x → TermSame (roll-Term x)
  term_from {A} {B} pa pb same y x is = subst (λ z. TermSame (roll-Term z)) is (term_same (map-Term A B Atom Term pa pb y) (same y.atom))

  terms_same : (t : Term) → TermSame t
  terms_same = ind-Term AtomSame TermSame (λ x y is. atom_from (λ z. z.0) (λ z. z.0) (λ z. z.1) y x is) (λ x y is. term_from (λ z. z.0) (λ z. z.0) (λ z. z.1) y x is)

  on_small : (t : Term) → IsSmallTerm t → IsSmallTerm (on side t)
  on_small t h = terms_same t ∙ h

-- Constraints.

abbrev IsSmallDiff : Diff → Type 0
IsSmallDiff d = (IsTrue (atom_within (2 ^ 21) d.a) × IsTrue (atom_within (2 ^ 21) d.b)) × IsSmall d

at_most_sides : (s t : ℤ) → unsigned_abs s ≤ 2 ^ 21 → unsigned_abs t ≤ 2 ^ 21 → unsigned_abs (t -ℤ s) ≤ 2 ^ 23
at_most_sides s t hs ht = omega (arith, ints)

less_sides : (s t : ℤ) → unsigned_abs s ≤ 2 ^ 21 → unsigned_abs t ≤ 2 ^ 21 → unsigned_abs (t -ℤ s -ℤ pos 1) ≤ 2 ^ 23
less_sides s t hs ht = omega (arith, ints)

at_most_small : (s t : Term) → IsSmallTerm s → IsSmallTerm t → IsSmallDiff (at_most s t)
at_most_small s t hs ht = ((atom_small s hs, atom_small t ht), at_most_sides s.plus t.plus (plus_small s hs) (plus_small t ht))

less_small : (s t : Term) → IsSmallTerm s → IsSmallTerm t → IsSmallDiff (less s t)
less_small s t hs ht = ((atom_small s hs, atom_small t ht), less_sides s.plus t.plus (plus_small s hs) (plus_small t ht))

one : (d : Diff) → IsSmallDiff d → All IsSmallDiff (d ∷ [])
one d h = All-cons IsSmallDiff d [] h (All-nil IsSmallDiff)

two : (d e : Diff) → IsSmallDiff d → IsSmallDiff e → All IsSmallDiff (d ∷ e ∷ [])
two d e h g = All-cons IsSmallDiff d (e ∷ []) h (one e g)

equal_small : (s t : Term) → IsSmallTerm s → IsSmallTerm t → All IsSmallDiff (equal s t)
equal_small s t hs ht = two (at_most s t) (at_most t s) (at_most_small s t hs ht) (at_most_small t s ht hs)

compared_small : (rel : Rel) (s t : Term) → IsSmallTerm s → IsSmallTerm t → All IsSmallDiff (compared_by rel s t)
compared_small EqualRel s t hs ht = equal_small s t hs ht
compared_small LessRel s t hs ht = one (less s t) (less_small s t hs ht)
compared_small LessEqualRel s t hs ht = one (at_most s t) (at_most_small s t hs ht)

said_small : (side : Side) (x : Around) → IsFineAround x → All IsSmallDiff (said_by side x)
said_small side (Repeated line lo hi) h =
    let v = variable side line in
    two (at_most (on side lo) v) (less v (on side hi)) (at_most_small (on side lo) v (on_small side lo h.0) (variable_small side line)) (less_small v (on side hi) (variable_small side line) (on_small side hi h.1))
said_small side (Guard rel left right) h = compared_small rel (on side left) (on side right) (on_small side left h.0) (on_small side right h.1)

all_said_small : (side : Side) (xs : List Around) → All IsFineAround xs → All IsSmallDiff (said_by_all side xs)
all_said_small side [] h = All-nil IsSmallDiff
all_said_small side (x ∷ xs) h =
    All-append IsSmallDiff (said_by side x) (said_by_all side xs) (said_small side x (All-head IsFineAround x xs h)) (all_said_small side xs (All-tail IsFineAround x xs h))

sizes_small : All IsSmallDiff of_sizes
sizes_small = two (at_most (plain Zero) (plain N)) (at_most (plain Zero) (plain Nnz)) (at_most_small (plain Zero) (plain N) zero_small rows_small) (at_most_small (plain Zero) (plain Nnz) zero_small stored_small)

small_base : (base : List Diff) → All IsSmallDiff base → IsSmallBase base
small_base base h = record {
  within = All-weaker IsSmallDiff (λ d. IsTrue (atom_within (2 ^ 21) d.a) × IsTrue (atom_within (2 ^ 21) d.b)) (λ d s. s.0) base h;
  sides = All-weaker IsSmallDiff IsSmall (λ d s. s.1) base h;
}

bracket_base_small : (nest : Nest) (s : Spot) → All IsFineAround s.around → IsSmallBase (bracket_base nest s)
bracket_base_small nest s h =
    let i = variable Own nest.line in
    let is = variable_small Own nest.line in
    let first = at_most (plain Zero) i in
    let second = less i (plain N) in
    let said = said_by_all Own s.around in
    small_base (bracket_base nest s)
    (All-append IsSmallDiff of_sizes (first ∷ second ∷ said) sizes_small
    (All-cons IsSmallDiff first (second ∷ said) (at_most_small (plain Zero) i zero_small is)
    (All-cons IsSmallDiff second said (less_small i (plain N) is rows_small) (all_said_small Own s.around h))))

relation_base_small : (nest : Nest) (s t : Site) → All IsFineAround s.around → All IsFineAround t.around → IsSmallTerm s.at → IsSmallTerm t.at → IsSmallBase (relation_base nest s t)
relation_base_small nest s t hs ht small_s small_t =
    let i = variable First nest.line in
    let j = variable Second nest.line in
    let is = variable_small First nest.line in
    let js = variable_small Second nest.line in
    let first = at_most (plain Zero) i in
    let second = less i j in
    let third = less j (plain N) in
    let one_said = said_by_all First s.around in
    let two_said = said_by_all Second t.around in
    let begin = of_sizes ++ first ∷ second ∷ third ∷ one_said in
    small_base (relation_base nest s t)
    (All-append IsSmallDiff (begin ++ two_said) (equal (on First s.at) (on Second t.at))
    (All-append IsSmallDiff begin two_said
    (All-append IsSmallDiff of_sizes (first ∷ second ∷ third ∷ one_said) sizes_small
    (All-cons IsSmallDiff first (second ∷ third ∷ one_said) (at_most_small (plain Zero) i zero_small is)
    (All-cons IsSmallDiff second (third ∷ one_said) (less_small i j is js)
    (All-cons IsSmallDiff third one_said (less_small j (plain N) js rows_small) (all_said_small First s.around hs)))))
    (all_said_small Second t.around ht))
    (equal_small (on First s.at) (on Second t.at) (on_small First s.at small_s) (on_small Second t.at small_t)))

-- Nests.

module _ (nest : Nest) (is_nest : IsNest nest) (terms : HasSmallTerms nest) where
  fine : All (IsFineSpot nest.decls) (spots nest)
  fine = spots-fine nest is_nest terms

  claim_small : (s : Spot) (b : Bracket) → IsFineSpot nest.decls s → IsFineBracket nest.decls b → IsSmallClaim (claim nest s b)
  claim_small s b h g = record {
    base = bracket_base_small nest s h.around;
    term = All-cons IsSmallTerm (on Own b.at) [] (on_small Own b.at g.0) (All-nil IsSmallTerm);
  }

  spot_claims_small : (s : Spot) → IsFineSpot nest.decls s → All IsSmallClaim (claims_on nest s)
  spot_claims_small s h = All-map IsSmallClaim (claim nest s) s.brackets (All-weaker (IsFineBracket nest.decls) (λ b. IsSmallClaim (claim nest s b)) (λ b g. claim_small s b h g) s.brackets h.brackets)

  all_claims_small : (ss : List Spot) → All (IsFineSpot nest.decls) ss → All IsSmallClaim (flat_map (claims_on nest) ss)
  all_claims_small [] h = All-nil IsSmallClaim
  all_claims_small (s ∷ ss) h =
      All-append IsSmallClaim (claims_on nest s) (flat_map (claims_on nest) ss) (spot_claims_small s (All-head (IsFineSpot nest.decls) s ss h)) (all_claims_small ss (All-tail (IsFineSpot nest.decls) s ss h))

  pub claims-small : All IsSmallClaim (claims nest)
  claims-small = all_claims_small (spots nest) fine

  abbrev IsFineSite : Site → Type 0
  IsFineSite t = All IsFineAround t.around × IsSmallTerm t.at

  site_fine : (t : Site) → Contains (sites nest) t → IsFineSite t
  site_fine t c =
      let f = from_site nest t c in
      let s = All-contains (IsFineSpot nest.decls) (spots nest) f.1 fine f.3.0 in
      let b = All-contains (IsFineBracket nest.decls) f.1.brackets f.2 s.brackets f.3.1 in
      subst IsFineSite f.4 (s.around, b.0)

  relation_small : (r : Relation) → Contains (relations nest) r → IsSmallBase r.base
  relation_small r c =
      let f = from_flat (λ s. flat_map (related nest s) (sites nest)) (sites nest) r c in
      let g = from_flat (related nest f.0) (sites nest) r f.2 in
      let k = kept_is (are_related f.0 g.0) (relation nest f.0 g.0) r g.2 in
      let one = site_fine f.0 f.1 in
      let two = site_fine g.0 g.1 in
      subst (λ (r : Relation). IsSmallBase r.base) k.1 (relation_base_small nest f.0 g.0 one.0 two.0 one.1 two.1)

  pub relations-small : All (λ r. IsSmallBase r.base) (relations nest)
  relations-small = All-weaker (Contains (relations nest)) (λ r. IsSmallBase r.base) relation_small (relations nest) (All-contains_itself (relations nest))
