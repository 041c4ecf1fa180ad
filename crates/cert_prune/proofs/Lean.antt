-- Each step that is kept, but the last, is named by a later one.
use Rattle.std.proofs.Common.{ℕ, zero, suc, ◌+◌, ◌<◌, ◌≤◌, ◌≡◌, ◌⊎◌, inl, inr, arith, refl, sym, ◌∙◌, subst, ap, List, [], ◌∷◌, ◌++◌, length, map, take, slice_get, slice_index_or, Bool, true, false, Some}
use Rattle.std.specs.Prelude.{if◌then◌else◌}
use Rattle.std.specs.List.{Contains}
use Rattle.std.proofs.lemmas.Bool.{cases_eq}
use Rattle.std.proofs.lemmas.Option.{slice_get_within, slice_get-get_or}
use Rattle.std.proofs.lemmas.List.{take_at, take_all}
use Rattle.index_props.specs.declared.certificate.Step.{Step}
use Rattle.index_props.specs.declared.certificate.Step.TheVariants.{Base, Same, Sum, Weaken, Rule}
use Rattle.cert_prune.specs.Needed.{names, is_marked, IsNamed, AreNeeded}
use Rattle.cert_prune.specs.Kept.{numbers, number_in, renamed, kept, IsLean}
use Rattle.cert_prune.proofs.Passes.{count, number_at}

-- what stands at a place parts the list
parted : {X : Type 0} (xs : List X) (k : ℕ) (x : X) → slice_get xs k ≡ Some x → (front : List X) × (back : List X) × (xs ≡ front ++ x ∷ back) × (length front ≡ k)
parted [] k x h = absurd (cc)
parted (y ∷ xs) zero x h = let e : y ≡ x = cc in ([], xs, ap (λ z. z ∷ xs) e, refl)
parted (y ∷ xs) (suc k) x h = let p = parted xs k x h in (y ∷ p.0, p.1, ap (λ l. y ∷ l) p.2, ap suc p.3)

marked_some : (ms : List Bool) (k : ℕ) → is_marked ms k ≡ true → slice_get ms k ≡ Some true
marked_some [] k h = absurd (cc)
marked_some (m ∷ ms) zero h = ap Some h
marked_some (m ∷ ms) (suc k) h = marked_some ms k h

-- Counts of marks before places.

count_less : (ms : List Bool) (k j : ℕ) → k < j → is_marked ms k ≡ true → count (take k ms) < count (take j ms)
count_less ms k zero l h = absurd (omega arith)
count_less [] k (suc j) l h = absurd (cc)
count_less (true ∷ ms) zero (suc j) l h = omega arith
count_less (false ∷ ms) zero (suc j) l h = absurd (cc)
count_less (true ∷ ms) (suc k) (suc j) l h = let i = count_less ms k j (omega arith) h in omega arith
count_less (false ∷ ms) (suc k) (suc j) l h = count_less ms k j (omega arith) h

count_next : (ms : List Bool) (k : ℕ) → is_marked ms k ≡ true → count (take (suc k) ms) ≡ suc (count (take k ms))
count_next [] k h = absurd (cc)
count_next (true ∷ ms) zero h = refl
count_next (false ∷ ms) zero h = absurd (cc)
count_next (true ∷ ms) (suc k) h = ap suc (count_next ms k h)
count_next (false ∷ ms) (suc k) h = count_next ms k h

number_is : (marks : List Bool) (k : ℕ) → is_marked marks k ≡ true → number_in (numbers 0 marks) k ≡ count (take k marks)
number_is marks k h =
    let p = parted marks k true (marked_some marks k h) in
    let e : number_in (numbers 0 marks) k ≡ count p.0 =
    subst (λ (l : List Bool). number_in (numbers 0 l) k ≡ count p.0) (sym p.2) (subst (λ (i : ℕ). number_in (numbers 0 (p.0 ++ true ∷ p.1)) i ≡ count p.0) p.3 (number_at p.0 true p.1)) in
    e ∙ ap count (sym (ap (take k) p.2 ∙ take_at p.0 (true ∷ p.1) k p.3))

-- What is kept.

kept_long : (ns : List ℕ) (ms : List Bool) (ss : List Step) → length ms ≡ length ss → length (kept ns ms ss) ≡ count ms
kept_long ns [] [] h = refl
kept_long ns (m ∷ ms) [] h = absurd (omega arith)
kept_long ns [] (s ∷ ss) h = absurd (omega arith)
kept_long ns (true ∷ ms) (s ∷ ss) h = ap suc (kept_long ns ms ss (omega arith))
kept_long ns (false ∷ ms) (s ∷ ss) h = kept_long ns ms ss (omega arith)

kept_at : (ns : List ℕ) (mp : List Bool) (sp : List Step) (s : Step) (ms : List Bool) (ss : List Step) → length sp ≡ length mp → slice_get (kept ns (mp ++ true ∷ ms) (sp ++ s ∷ ss)) (count mp) ≡ Some (renamed ns s)
kept_at ns [] [] s ms ss h = refl
kept_at ns (m ∷ mp) [] s ms ss h = absurd (omega arith)
kept_at ns [] (t ∷ sp) s ms ss h = absurd (omega arith)
kept_at ns (true ∷ mp) (t ∷ sp) s ms ss h = kept_at ns mp sp s ms ss (omega arith)
kept_at ns (false ∷ mp) (t ∷ sp) s ms ss h = kept_at ns mp sp s ms ss (omega arith)

-- a kept step comes from a marked one
abbrev From : List Bool → List Step → ℕ → Type 0
From ms ss a = (k : ℕ) × (is_marked ms k ≡ true) × (count (take k ms) ≡ a) × (k < length ss)

kept_from : (ns : List ℕ) (ms : List Bool) (ss : List Step) (a : ℕ) → a < length (kept ns ms ss) → From ms ss a
kept_from ns ms [] a l = absurd (omega arith)
kept_from ns [] (s ∷ ss) a l = absurd (omega arith)
kept_from ns (true ∷ ms) (s ∷ ss) zero l = (0, refl, refl, omega arith)
kept_from ns (true ∷ ms) (s ∷ ss) (suc a) l = let f = kept_from ns ms ss a (omega arith) in (suc f.0, f.1, ap suc f.2, omega (arith, f.3))
kept_from ns (false ∷ ms) (s ∷ ss) a l = let f = kept_from ns ms ss a l in (suc f.0, f.1, f.2, omega (arith, f.3))

map_contains : (f : ℕ → ℕ) (ks : List ℕ) (k : ℕ) → Contains ks k → Contains (map f ks) (f k)
map_contains f [] k (i, l, e) = absurd (omega arith)
map_contains f (j ∷ ks) k (zero, l, e) = (0, omega arith, ap f e)
map_contains f (j ∷ ks) k (suc i, l, e) = let m = map_contains f ks k (i, omega arith, e) in (suc m.0, omega (arith, m.1), m.2)

names_renamed : (ns : List ℕ) (s : Step) → names (renamed ns s) ≡ map (number_in ns) (names s)
names_renamed ns (Base k) = refl
names_renamed ns (Same a) = refl
names_renamed ns (Sum k l) = refl
names_renamed ns (Weaken k c) = refl
names_renamed ns (Rule i j ks) = refl

module _ (steps : List Step) (marks : List Bool) (needed : AreNeeded 0 steps marks) where
  abbrev left : List Step
  left = kept (numbers 0 marks) marks steps

  -- a step that names another is kept with the other's new number
  there : (k j : ℕ) (s : Step) → is_marked marks k ≡ true → IsNamed steps marks k j s → (b : ℕ) × (t : Step) × (count (take k marks) < b) × (slice_get left b ≡ Some t) × Contains (names t) (count (take k marks))
  there k j s m n =
      let p = parted marks j true (marked_some marks j n.marked) in
      let q = parted steps j s n.step in
      let at : slice_get left (count p.0) ≡ Some (renamed (numbers 0 marks) s) =
      subst (λ (l : List Bool). slice_get (kept (numbers 0 marks) l steps) (count p.0) ≡ Some (renamed (numbers 0 marks) s)) (sym p.2)
      (subst (λ (l : List Step). slice_get (kept (numbers 0 marks) (p.0 ++ true ∷ p.1) l) (count p.0) ≡ Some (renamed (numbers 0 marks) s)) (sym q.2)
      (kept_at (numbers 0 marks) p.0 q.0 s p.1 q.1 (q.3 ∙ sym p.3))) in
      let front : count (take j marks) ≡ count p.0 = ap count (ap (take j) p.2 ∙ take_at p.0 (true ∷ p.1) j p.3) in
      let less = count_less marks k j n.after m in
      let held : Contains (names (renamed (numbers 0 marks) s)) (number_in (numbers 0 marks) k) =
      subst (λ (l : List ℕ). Contains l (number_in (numbers 0 marks) k)) (sym (names_renamed (numbers 0 marks) s)) (map_contains (number_in (numbers 0 marks)) (names s) k n.named) in
      (count p.0, renamed (numbers 0 marks) s, omega arith, at, subst (Contains (names (renamed (numbers 0 marks) s))) (number_is marks k m) held)

  pub lean : IsLean left
  lean a l =
      let f = kept_from (numbers 0 marks) marks steps a (omega arith) in
      let k = f.0 in
      let whole : length left ≡ count marks = kept_long (numbers 0 marks) marks steps needed.long in
      let more : suc k < length steps =
      (elim (cases_eq (suc k) (length steps)) [
        | inl e ↦ absurd (
            let all : count (take (suc k) marks) ≡ count marks = ap count (take_all (suc k) marks (omega (arith, needed.long))) in
            let next = count_next marks k f.1 in
            omega (arith, f.2))
        | inr e ↦ omega (arith, f.3)
      ]) in
      let o = needed.only k more f.1 in
      let t = there k o.0 o.1 f.1 o.2 in
      (t.0, t.1, subst (λ (x : ℕ). x < t.0) f.2 t.2, t.3, subst (Contains (names t.1)) f.2 t.4)
