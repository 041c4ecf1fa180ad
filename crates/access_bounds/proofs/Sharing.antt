-- Claims that share a system, and the first of some claims that isn't bounded.
use Rattle.std.proofs.Common.{◌≡◌, ◌⊎◌, inl, inr, ℕ, ◌+◌, ◌<◌, ◌≤◌, Bool, true, false, List, [], ◌∷◌, ◌++◌, length, get_or, take, refl, sym, ap, ◌∙◌, subst, rules, arith}
use Rattle.std.specs.Prelude.{nat_le, cond, slice_get, Option, Some, None, MatchOption}
use Rattle.std.specs.List.{All, Contains, flat_map}
use Rattle.std.proofs.lemmas.Bool.{cases_lt}
use Rattle.std.proofs.lemmas.Bool.Decides.{nat_tests}
use Rattle.std.proofs.lemmas.List.{take_more, take_all, get_or-take, length-take-le}
use Rattle.std.proofs.lemmas.List.Elements.{Contains-push_cases, Contains-get_or}
use Rattle.std.proofs.lemmas.Option.{slice_get_within, slice_get-get_or, slice_get_read, get_or_from_slice_get}
use Rattle.loop_core.specs.declared.decl.Decl.{Decl}
use Rattle.loop_core.specs.declared.decl.PropDecl.{PropDecl}
use Rattle.loop_core.specs.declared.nest.Atom.{Atom}
use Rattle.loop_core.specs.declared.nest.Atom as ATOM
use Rattle.loop_core.specs.declared.nest.Atom.TheVariants.{Zero, N, Nnz}
use Rattle.loop_core.specs.declared.nest.Term.{Term}
use Rattle.uf_constraints.specs.declared.system.Diff.{Diff}
use Rattle.uf_constraints.specs.Universe.{atom_parts, term_parts, diff_parts, all_listed, written_atoms, asked_beside, atoms_due}
use Rattle.index_props.specs.Rules.{instances_of}
use Rattle.bound_close.specs.Closure.{Found as Closed, IsClosure}
use Rattle.bracket_claims.specs.declared.claim.Claim.{Claim}
use Rattle.access_bounds.specs.declared.first.Found.{Found}
use Rattle.access_bounds.specs.declared.refusal.BoundsRefusal.TheVariants.{Unbounded}
use Rattle.access_bounds.specs.declared.refusal.Side2.{Side2}
use Rattle.access_bounds.specs.Accepted.{IsBounded, Lacks}
use Rattle.bracket_claims.specs.Claims.{atoms_of, rules_of}
use Rattle.access_bounds.specs.Judged.{IsFirstRefuted}
use Rattle.access_bounds.specs.Shared.{HaveOneSystem, IsSeen, IsSystemOf, AreBoundedBelow, IsLacking, IsFirstOf, sooner_of, IsSideIn}
use Rattle.access_bounds.proofs.Counted.{lacks_not}
use Rattle.access_bounds.proofs.Firsts.{first-at}

-- One system.

parts_are : (t : Term) → term_parts t ≡ atom_parts t.atom
parts_are t = search (rules, ATOM.TheFolds.the_lemmas)

same_parts : (s t : Term) → s.atom ≡ t.atom → term_parts s ≡ term_parts t
same_parts s t e = parts_are s ∙ ap atom_parts e ∙ sym (parts_are t)

abbrev due_of : List PropDecl → List Diff → List Atom → List Atom
due_of props base parts =
    let written = all_listed (all_listed (Zero ∷ N ∷ Nnz ∷ []) (flat_map diff_parts base)) (parts ++ []) in
    all_listed written (flat_map (asked_beside props) written)

same_atoms : (props : List PropDecl) (c d : Claim) → HaveOneSystem c d → atoms_of props c ≡ atoms_of props d
same_atoms props c d h = λ i. due_of props (h.0 i) (same_parts c.at d.at h.1 i)

pub system_of : (k : Closed) (decls : List Decl) (props : List PropDecl) (c d : Claim) → HaveOneSystem c d → IsSystemOf k decls props c → IsSystemOf k decls props d
system_of k decls props c d h s =
    let atoms = same_atoms props c d h in (
      s.0 ∙ atoms,
      subst (λ (z : List Diff × List Atom). IsClosure k z.0 (instances_of decls props z.1)) (λ i. (h.0 i, atoms i)) s.1,
    )

pub side_of : (decls : List Decl) (props : List PropDecl) (lead c : Claim) (side : Option Side2) → MatchOption side (IsBounded decls props c) (Lacks decls props c) → IsSideIn decls props lead c side
side_of decls props lead c None h = λ _. h
side_of decls props lead c (Some s) h = h

trans : (c d e : Claim) → HaveOneSystem c d → HaveOneSystem d e → HaveOneSystem c e
trans c d e h g = (h.0 ∙ g.0, h.1 ∙ g.1)

known : (P : Bool → Type 0) (b : Bool) → (b ≡ true → P true) → (b ≡ false → P false) → P b
known P true f g = f refl
known P false f g = g refl

le_from : (n k : ℕ) → nat_le n k ≡ true → n ≤ k
le_from n k e = grind (arith, nat_tests)

lt_from : (n k : ℕ) → nat_le n k ≡ false → k < n
lt_from n k e = grind (arith, nat_tests)

module _ (decls : List Decl) (props : List PropDecl) (cs : List Claim) where
  abbrev First : (Claim → Type 0) → Option Found → Type 0
  First Q f = IsFirstOf decls props cs Q f

  abbrev Below : (Claim → Type 0) → ℕ → Type 0
  Below Q n = AreBoundedBelow decls props cs Q n

  abbrev Either : (Claim → Type 0) → (Claim → Type 0) → Claim → Type 0
  Either Q R c = Q c ⊎ R c

  first_less : (Q R : Claim → Type 0) → ((c : Claim) → R c → Q c) → (f : Option Found) → First Q f → First R f
  first_less Q R into None h = λ k c lt is r. h k c lt is (into c r)
  first_less Q R into (Some f) h = (h.0, λ k c lt is r. h.1 k c lt is (into c r))

  below_both : (Q R : Claim → Type 0) (m n l : ℕ) → l ≤ m → l ≤ n → Below Q m → Below R n → Below (Either Q R) l
  below_both Q R m n l lm ln h g k c lt is (inl q) = h k c (omega arith) is q
  below_both Q R m n l lm ln h g k c lt is (inr r) = g k c (omega arith) is r

  place_in : (f : Found) → IsLacking decls props cs f → f.place ≤ length cs
  place_in f h = let lt = slice_get_within cs f.place h.claim h.here in omega arith

  first_sooner : (Q R : Claim → Type 0) (f g : Option Found) → First Q f → First R g → First (Either Q R) (sooner_of f g)
  first_sooner Q R None None h k = below_both Q R (length cs) (length cs) (length cs) (omega arith) (omega arith) h k
  first_sooner Q R None (Some g) h k = (k.0, below_both Q R (length cs) g.place g.place (place_in g k.0) (omega arith) h k.1)
  first_sooner Q R (Some f) None h k = (h.0, below_both Q R f.place (length cs) f.place (omega arith) (place_in f h.0) h.1 k)
  first_sooner Q R (Some f) (Some g) h k =
      known (λ b. First (Either Q R) (cond b (Some f) (Some g))) (nat_le f.place g.place)
      (λ e. let le = le_from f.place g.place e in (h.0, below_both Q R f.place g.place f.place (omega arith) le h.1 k.1))
      (λ e. let lt = lt_from f.place g.place e in (k.0, below_both Q R f.place g.place g.place (omega arith) (omega arith) h.1 k.1))

  -- Systems that were seen.

  seen_next : (k : ℕ) (c : Claim) → k < length cs → c ≡ get_or cs k c → (d : Claim) → IsSeen (take (k + 1) cs) d → Either (IsSeen (take k cs)) (HaveOneSystem c) d
  seen_next k c lt is d (e, there, same) = by (Contains-push_cases (take k cs) c e (subst (λ l. Contains l e) (take_more cs k c lt ∙ ap (λ (x : Claim). take k cs ++ x ∷ []) (sym is)) there))
    where
      by : Contains (take k cs) e ⊎ (c ≡ e) → Either (IsSeen (take k cs)) (HaveOneSystem c) d
      by (inl h) = inl (e, h, same)
      by (inr h) = inr (subst (λ (x : Claim). HaveOneSystem x d) (sym h) same)

  pub seen-before : (k : ℕ) (c : Claim) (f : Option Found) → k < length cs → c ≡ get_or cs k c → IsSeen (take k cs) c → First (IsSeen (take k cs)) f → First (IsSeen (take (k + 1) cs)) f
  seen-before k c f lt is seen h =
      first_less (IsSeen (take k cs)) (IsSeen (take (k + 1) cs)) (λ d s. by d (seen_next k c lt is d s)) f h
    where
      by : (d : Claim) → Either (IsSeen (take k cs)) (HaveOneSystem c) d → IsSeen (take k cs) d
      by d (inl s) = s
      by d (inr s) = (seen.0, seen.1, trans seen.0 c d seen.2 s)

  pub seen-now : (k : ℕ) (c : Claim) (f g : Option Found) → k < length cs → c ≡ get_or cs k c → First (IsSeen (take k cs)) f → First (HaveOneSystem c) g → First (IsSeen (take (k + 1) cs)) (sooner_of f g)
  seen-now k c f g lt is h i =
      first_less (Either (IsSeen (take k cs)) (HaveOneSystem c)) (IsSeen (take (k + 1) cs)) (seen_next k c lt is) (sooner_of f g) (first_sooner (IsSeen (take k cs)) (HaveOneSystem c) f g h i)

  pub none-seen : First (IsSeen []) None
  none-seen = λ k c lt is s. absurd (omega (arith, s.1.1))

  pub all-seen : (k : ℕ) (f : Option Found) → length cs ≤ k → First (IsSeen (take k cs)) f → First (IsSeen cs) f
  all-seen k f le h = subst (λ l. First (IsSeen l) f) (take_all k cs le) h

  -- What is answered.

  itself : (k : ℕ) (d : Claim) → k < length cs → IsSeen cs (get_or cs k d)
  itself k d lt = (get_or cs k d, Contains-get_or cs k d lt, (refl, refl))

  bounded_to : (n : ℕ) → n ≤ length cs → Below (IsSeen cs) n → All (IsBounded decls props) (take n cs)
  bounded_to n le h k d lt =
      let short : k < n = below in
      let inside : k < length cs = omega arith in
      subst (IsBounded decls props) (sym (get_or-take n cs k d short)) (h k (get_or cs k d) short (slice_get-get_or cs k d inside) (itself k d inside))
    where
      below : k < n
      below = omega (arith, length-take-le n cs le, lt)

  pub all-bounded : First (IsSeen cs) None → All (IsBounded decls props) cs
  all-bounded h k d lt = h k (get_or cs k d) lt (slice_get-get_or cs k d lt) (itself k d lt)

  pub first-refuted-is : (f : Found) → First (IsSeen cs) (Some f) → IsFirstRefuted decls props cs (Unbounded f.line f.bracket f.side)
  first-refuted-is f h =
      let c = h.0.claim in
      let lt = slice_get_within cs f.place c h.0.here in (
        c,
        first-at (IsBounded decls props) cs f.place c lt (sym (get_or_from_slice_get cs f.place c c h.0.here)) (bounded_to f.place (place_in f h.0) h.1) (lacks_not decls props c f.side h.0.lacks),
        h.0.lacks,
        h.0.line,
        h.0.bracket,
      )

  -- The claims of one system, one after another.

  one_there : (k : ℕ) (c d : Claim) → c ≡ get_or cs k c → k < length cs → slice_get cs k ≡ Some d → c ≡ d
  one_there k c d is lt e = is ∙ get_or_from_slice_get cs k d c e

  pub below-next : (Q : Claim → Type 0) (k : ℕ) (c : Claim) → k < length cs → c ≡ get_or cs k c → Below Q k → (Q c → IsBounded decls props c) → Below Q (k + 1)
  below-next Q k c lt is h here n d below at q = by (cases_lt n k)
    where
      by : (n < k) ⊎ (k ≤ n) → IsBounded decls props d
      by (inl l) = h n d l at q
      by (inr g) =
          let e : n ≡ k = omega arith in
          let same : c ≡ d = one_there k c d is lt (subst (λ m. slice_get cs m ≡ Some d) e at) in
          subst (IsBounded decls props) same (here (subst Q (sym same) q))

  pub lacking-at : (k : ℕ) (c : Claim) (side : Side2) → k < length cs → c ≡ get_or cs k c → Lacks decls props c side → IsLacking decls props cs (record { place = k; line = c.line; bracket = c.bracket; side = side })
  lacking-at k c side lt is h = record { claim = c; here = slice_get_read cs (length cs) k c refl lt is; lacks = h; line = refl; bracket = refl }
