-- Rounds come to the end.
use Rattle.std.proofs.Common.{◌≡◌, ℕ, zero, suc, ◌+◌, ◌-◌, ◌%◌, ◌^◌, ◌<◌, ◌≤◌, Option, None, List, [], ◌∷◌, ◌++◌, length, get_or, refl, sym, ap, ◌∙◌, subst, ⊎_elim, append_assoc, arith}
use Rattle.std.specs.Prelude.{slice_get}
use Rattle.std.proofs.lemmas.List.{append-nil}
use Rattle.std.proofs.lemmas.Bool.{cases_eq}
use Rattle.std.proofs.lemmas.Option.{slice_get_past}
use Rattle.core_law.specs.Works.{Work}
use Rattle.core_law.specs.Fit.{IsFit}
use Rattle.core_law.specs.Scripts.{Action as LawAction, script, next}
use Rattle.core_law.specs.Machine as law
use Rattle.core_law.specs.Machine.{place, event, Reached}
use Rattle.core_law.specs.Standing.{HasEnded}
use Rattle.core_law.specs.Bounds.{HasShape}
use Rattle.core_law.specs.Rounds.{round_from, round, made_by, all_of, RoundsEnd}
use Rattle.core_law.specs.Values.{EndsRight}
use Rattle.core_run.specs.declared.action.Action.{Action}
use Rattle.core_book.specs.declared.book.Book.{Book}
use Rattle.core_book.specs.declared.book.How.{How}
use Rattle.core_run.specs.declared.machine.Core.{Core}
use Rattle.core_run.specs.Cores.{core_of, hows_of, next_of}
use Rattle.core_run.specs.Links.{Does, at_end, at_look, at_read, at_write, at_finish, IsOf, IsGood}
use Rattle.core_run.specs.Orders.{runs, range, laps, Follows, Rounded, Replayed, all_here, left}
use Rattle.core_run.proofs.Joined.{of_same}
use Rattle.core_run.proofs.Followed.{joined}

runs_range : (w : Work) (b n : ℕ) (c : law.State) → runs w (range b n) c ≡ round_from w b n c
runs_range w b zero c = refl
runs_range w b (suc n) c = runs_range w (suc b) n (event w b c)

runs_reached : (w : Work) (ks : List ℕ) (c : law.State) → Reached w c → Reached w (runs w ks c)
runs_reached w [] c r = r
runs_reached w (k ∷ ks) c r = runs_reached w ks (event w k c) (k ∷ r.0, ap (event w k) r.1)

past_get : {A : Type 0} (l : List A) (p : ℕ) → slice_get l p ≡ None → length l ≤ p
past_get [] p h = omega arith
past_get (a ∷ l) zero h = absurd (cc)
past_get (a ∷ l) (suc p) h = let r = past_get l p h in omega arith

module _ (w : Work) (book : Book) (hows : List How) where
  none_there : (a : Option LawAction) (o : Option Action) → Does w book hows a o → a ≡ None → o ≡ None
  none_there a o at_end e = refl
  none_there a o at_look e = absurd (cc)
  none_there a o at_read e = absurd (cc)
  none_there a o (at_write same) e = absurd (cc)
  none_there a o at_finish e = absurd (cc)

  none_here : (a : Option LawAction) (o : Option Action) → Does w book hows a o → o ≡ None → a ≡ None
  none_here a o at_end e = refl
  none_here a o at_look e = absurd (cc)
  none_here a o at_read e = absurd (cc)
  none_here a o (at_write same) e = absurd (cc)
  none_here a o at_finish e = absurd (cc)

module _ (w : Work) (c : Core) (of : IsOf w c) where
  script_of : ℕ → List Action
  script_of k = get_or c.scripts.items k []

  script_long : (k : ℕ) → length (script w k) ≡ length (get_or c.scripts.items k [])
  script_long k = let l : List LawAction = script w k in let m : List Action = get_or c.scripts.items k [] in
      let a = past_get m (length l) (none_there w c.book (hows_of c k) (next w k (length l)) (slice_get m (length l)) (of.does k (length l)) (slice_get_past l (length l) (omega arith))) in
      let b = past_get l (length m) (none_here w c.book (hows_of c k) (next w k (length m)) (slice_get m (length m)) (of.does k (length m)) (slice_get_past m (length m) (omega arith))) in omega arith

  all_is : (n : ℕ) → all_here n c ≡ all_of w n
  all_is zero = refl
  all_is (suc n) = let a = all_is n in let b = script_long n in omega arith

  ended_none : HasEnded w (core_of c) → length c.stands.stands ≡ length w.workers → (k : ℕ) → k < length c.stands.stands → next_of c k ≡ None
  ended_none ended n k l = let e = ended k (omega arith) in let s = script_long k in slice_get_past (get_or c.scripts.items k []) (place (core_of c) k) (omega arith)

  none_ended : length c.stands.stands ≡ length w.workers → ((k : ℕ) → k < length c.stands.stands → next_of c k ≡ None) → HasEnded w (core_of c)
  none_ended n h k l = let s = script_long k in let p = past_get (get_or c.scripts.items k []) (place (core_of c) k) (h k (omega arith)) in omega arith

abbrev pub AllNone : Core → Type 0
AllNone c = (k : ℕ) → k < length c.stands.stands → next_of c k ≡ None

-- the laws that are needed here
abbrev pub Shapes : Type 0
Shapes = (w : Work) (c : law.State) → IsFit w → Reached w c → HasShape w c

abbrev pub Rounds : Type 0
Rounds = (w : Work) (c : law.State) → IsFit w → Reached w c → RoundsEnd w c

abbrev pub Finals : Type 0
Finals = (w : Work) (c : law.State) → IsFit w → Reached w c → EndsRight w c

-- no round yet
pub none_yet : (c0 c : Core) (ks : List ℕ) (looks passed : ℕ) → Follows c0 c ks looks passed → Rounded c0 c ks looks passed
none_yet c0 c ks looks passed f = record {
  rounds = 0;
  follows = subst (λ (l : List ℕ). Follows c0 c l looks passed) (sym (append-nil ks)) f;
  least = λ w of m l. absurd (omega arith);
}

-- one round more
pub one_more : Shapes → (c0 c c' : Core) (ks : List ℕ) (looks passed more more_passed : ℕ) → Rounded c0 c ks looks passed → Follows c c' (range 0 (length c.stands.stands)) more more_passed → (AllNone c → ⊥)
    → Rounded c0 c' ks ((looks + more) % 2 ^ 64) ((passed + more_passed) % 2 ^ 64)
one_more shapes c0 c c' ks looks passed more more_passed r f not_all = let n : ℕ = length c0.stands.stands in let m : ℕ = r.rounds in
    let f' : Follows c c' (range 0 n) more more_passed = subst (λ (i : ℕ). Follows c c' (range 0 i) more more_passed) r.follows.stands f in record {
      rounds = suc m;
      follows = subst (λ (l : List ℕ). Follows c0 c' l ((looks + more) % 2 ^ 64) ((passed + more_passed) % 2 ^ 64)) (append_assoc ks (laps m n) (range 0 n))
          (joined c0 c c' (ks ++ laps m n) (range 0 n) looks passed more more_passed r.follows f');
      least = λ w of i l ended. ⊎_elim
          (λ (e : i ≡ m). let at_m : HasEnded w (runs w (ks ++ laps m n) (core_of c0)) = subst (λ (j : ℕ). HasEnded w (runs w (ks ++ laps j n) (core_of c0))) e ended in
          let here : HasEnded w (core_of c) = subst (HasEnded w) (sym (r.follows.end w of)) at_m in
          let of' : IsOf w c = of_same w c0 c r.follows.scripts r.follows.book r.follows.hows r.follows.room of in
          not_all (ended_none w c of' here (counted r.follows.good w of')))
          (λ (ne : i ≡ m → ⊥). r.least w of i (omega arith) ended)
          (cases_eq i m);
    }
  where
    -- the core has a stand for each worker of each work that it is of
    counted : IsGood c → (w : Work) → IsOf w c → length c.stands.stands ≡ length w.workers
    counted g w of = let s = (shapes g.work (core_of c) g.fit g.reached).stands in let a = g.of.scripts in let b = of.scripts in omega arith

-- a round makes what is left less
pub falls : Shapes → Rounds → (c c' : Core) (looks passed : ℕ) → IsGood c → Follows c c' (range 0 (length c.stands.stands)) looks passed → (AllNone c → ⊥) → left c' < left c
falls shapes rounds c c' looks passed g f not_all = let w : Work = g.work in let n : ℕ = length c.stands.stands in let m = (shapes w (core_of c) g.fit g.reached).stands in
    let r = rounds w (core_of c) g.fit g.reached in
    let e : core_of c' ≡ round w (core_of c) = f.end w g.of ∙ (runs_range w 0 n (core_of c) ∙ ap (λ (q : ℕ). round_from w 0 q (core_of c)) m) in
    let of' : IsOf w c' = of_same w c c' f.scripts f.book f.hows f.room g.of in
    let reached' : Reached w (core_of c') = subst (Reached w) (sym e) r.reached in let r' = rounds w (core_of c') g.fit reached' in
    let more : made_by (length w.workers) (core_of c) < made_by (length w.workers) (core_of c') = ⊎_elim
    (λ (ended : HasEnded w (core_of c)). absurd (not_all (ended_none w c g.of ended m)))
    (λ (lt : made_by (length w.workers) (core_of c) < made_by (length w.workers) (round w (core_of c))). subst (λ (d : law.State). made_by (length w.workers) (core_of c) < made_by (length w.workers) d) (sym e) lt)
    r.more in
    let size : length c'.stands.stands ≡ length w.workers = f.stands ∙ m in
    let here = ap (λ (q : ℕ). all_here q c - made_by q (core_of c)) m in let there = ap (λ (q : ℕ). all_here q c' - made_by q (core_of c')) size in
    let a = all_is w c g.of (length w.workers) in let a' = all_is w c' of' (length w.workers) in let b = r.at_most in let b' = r'.at_most in omega arith

pub ends_there : Shapes → Finals → (c0 c : Core) (ks : List ℕ) (looks passed : ℕ) → Rounded c0 c ks looks passed → AllNone c → Replayed c0 c ks looks passed
ends_there shapes finals c0 c ks looks passed r all = let f = r.follows in record {
  rounded = r;
  ended = ended;
  values = λ w fit of start. let at_end : Reached w (core_of c) = subst (Reached w) (sym (f.end w of)) (runs_reached w (ks ++ laps r.rounds (length c0.stands.stands)) (core_of c0) start) in
      finals w (core_of c) fit at_end (ended w of);
}
  where
    ended : (w : Work) → IsOf w c0 → HasEnded w (core_of c)
    ended w of = let f = r.follows in let g = f.good in let of' : IsOf w c = of_same w c0 c f.scripts f.book f.hows f.room of in
        let s = (shapes g.work (core_of c) g.fit g.reached).stands in let a = g.of.scripts in let b = of'.scripts in none_ended w c of' (omega arith) all
