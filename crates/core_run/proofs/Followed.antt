-- Events one after another.
use Rattle.std.proofs.Common.{◌≡◌, ℕ, zero, suc, ◌+◌, ◌%◌, ◌<◌, ◌^◌, List, [], ◌∷◌, ◌++◌, length, get_or, take, true, false, refl, sym, ap, ◌∙◌, arith}
use Rattle.std.proofs.Math.Nat.{mod-add-mod}
use Rattle.std.proofs.lemmas.Option.{slice_get-get_or}
use Rattle.core_cells.proofs.Places.{take_next}
use Rattle.core_law.specs.Works.{Work}
use Rattle.core_law.specs.Scripts.{next}
use Rattle.core_law.specs.Machine as law
use Rattle.core_law.specs.Machine.{stand_of, place, event, Reached}
use Rattle.core_run.specs.declared.machine.Core.{Core}
use Rattle.core_run.specs.declared.machine.Event.{Event}
use Rattle.core_run.specs.declared.machine.Event.TheVariants.{Looked, Read as Found, Wrote, FinishedTask, Ended}
use Rattle.core_run.specs.Plain.{did, told}
use Rattle.core_run.specs.Seats.{AreCaught}
use Rattle.core_run.specs.Cores.{core_of, hows_of, next_of}
use Rattle.core_run.specs.Links.{IsOf, IsGood}
use Rattle.core_run.specs.Orders.{runs, looks_at, passed_at, looks_in, passed_in, looked_by, passed_by, range, Follows}
use Rattle.core_run.proofs.Joined.{step_is, looks_is, passed_is, of_same}

pub runs_append : (w : Work) (xs ys : List ℕ) (c : law.State) → runs w (xs ++ ys) c ≡ runs w ys (runs w xs c)
runs_append w [] ys c = refl
runs_append w (k ∷ xs) ys c = runs_append w xs ys (event w k c)

looks_append : (w : Work) (xs ys : List ℕ) (c : law.State) → looks_in w (xs ++ ys) c ≡ looks_in w xs c + looks_in w ys (runs w xs c)
looks_append w [] ys c = omega arith
looks_append w (k ∷ xs) ys c = let h = looks_append w xs ys (event w k c) in omega arith

passed_append : (w : Work) (xs ys : List ℕ) (c : law.State) → passed_in w (xs ++ ys) c ≡ passed_in w xs c + passed_in w ys (runs w xs c)
passed_append w [] ys c = omega arith
passed_append w (k ∷ xs) ys c = let h = passed_append w xs ys (event w k c) in omega arith

-- counts that wrap
added : (a b x y z m : ℕ) → a ≡ x % m → b % m ≡ y % m → z ≡ x + y → (a + b) % m ≡ z % m
added a b x y z m ea eb ez =
    ap (λ (n : ℕ). (n + b) % m) ea
    ∙ (mod-add-mod x m b
    ∙ (ap (λ (n : ℕ). n % m) (let e : x + b ≡ b + x = omega arith in e)
    ∙ (sym (mod-add-mod b m x)
    ∙ (ap (λ (n : ℕ). (n + x) % m) eb
    ∙ (mod-add-mod y m x
    ∙ ap (λ (n : ℕ). n % m) (let e : y + x ≡ z = omega arith in e))))))

pub begins : (c : Core) → IsGood c → Follows c c [] 0 0
begins c good = record {
  good = good;
  scripts = refl;
  book = refl;
  hows = refl;
  stands = refl;
  room = refl;
  end = λ w of. refl;
  looks_are = λ w of. refl;
  passed_are = λ w of. refl;
}

-- an event counts at most one
few_looks : (ev : Event) → looked_by ev ≡ looked_by ev % 2 ^ 64
few_looks (Looked seen need passed) = refl
few_looks (Found cell value) = refl
few_looks (Wrote cell value) = refl
few_looks (FinishedTask count) = refl
few_looks Ended = refl

few_passes : (ev : Event) → passed_by ev ≡ passed_by ev % 2 ^ 64
few_passes (Looked seen need true) = refl
few_passes (Looked seen need false) = refl
few_passes (Found cell value) = refl
few_passes (Wrote cell value) = refl
few_passes (FinishedTask count) = refl
few_passes Ended = refl

-- one event
pub one : (c c' : Core) (k : ℕ) (ev : Event) → IsGood c → core_of c' ≡ did c.book (hows_of c k) k (core_of c) (stand_of (core_of c) k) (next_of c k) → ev ≡ told c.book (hows_of c k) k (core_of c) (stand_of (core_of c) k) (next_of c k)
    → c'.scripts ≡ c.scripts → c'.book ≡ c.book → c'.hows ≡ c.hows → length c'.stands.stands ≡ length c.stands.stands → c'.stands.room ≡ c.stands.room → AreCaught c'.book c'.hows.items c'.stands →
    Follows c c' (k ∷ []) (looked_by ev) (passed_by ev)
one c c' k ev good steps tells scripts book hows stands room caught =
    let moved : (w : Work) → IsOf w c → core_of c' ≡ event w k (core_of c) = (λ w of. steps ∙ step_is w c of k) in record {
      good = record {
        work = good.work;
        fit = good.fit;
        of = of_same good.work c c' scripts book hows room good.of;
        reached = (k ∷ good.reached.0, ap (event good.work k) good.reached.1 ∙ sym (moved good.work good.of));
        caught = caught;
      };
      scripts = scripts;
      book = book;
      hows = hows;
      stands = stands;
      room = room;
      end = moved;
      looks_are = λ w of. few_looks ev ∙ ap (λ (n : ℕ). n % 2 ^ 64) (ap looked_by tells ∙ (looks_is w c of k ∙ (let e : looks_at (core_of c) (next w k (place (core_of c) k)) ≡ looks_at (core_of c) (next w k (place (core_of c) k)) + 0 = omega arith in e)));
      passed_are = λ w of. few_passes ev ∙ ap (λ (n : ℕ). n % 2 ^ 64) (ap passed_by tells ∙ (passed_is w c of k ∙ (let e : passed_at (core_of c) (next w k (place (core_of c) k)) ≡ passed_at (core_of c) (next w k (place (core_of c) k)) + 0 = omega arith in e)));
    }

-- one run after another
pub joined : (c0 c c' : Core) (ks js : List ℕ) (looks passed more more_passed : ℕ) → Follows c0 c ks looks passed → Follows c c' js more more_passed
    → Follows c0 c' (ks ++ js) ((looks + more) % 2 ^ 64) ((passed + more_passed) % 2 ^ 64)
joined c0 c c' ks js looks passed more more_passed f g =
    let at_c : (w : Work) → IsOf w c0 → IsOf w c = (λ w of. of_same w c0 c f.scripts f.book f.hows f.room of) in record {
      good = g.good;
      scripts = g.scripts ∙ f.scripts;
      book = g.book ∙ f.book;
      hows = g.hows ∙ f.hows;
      stands = g.stands ∙ f.stands;
      room = g.room ∙ f.room;
      end = λ w of. g.end w (at_c w of) ∙ (ap (runs w js) (f.end w of) ∙ sym (runs_append w ks js (core_of c0)));
      looks_are = λ w of. added looks more (looks_in w ks (core_of c0)) (looks_in w js (runs w ks (core_of c0))) (looks_in w (ks ++ js) (core_of c0)) (2 ^ 64)
          (f.looks_are w of) (reduced more (looks_in w js (core_of c)) (g.looks_are w (at_c w of)) ∙ ap (λ (d : law.State). looks_in w js d % 2 ^ 64) (f.end w of)) (looks_append w ks js (core_of c0));
      passed_are = λ w of. added passed more_passed (passed_in w ks (core_of c0)) (passed_in w js (runs w ks (core_of c0))) (passed_in w (ks ++ js) (core_of c0)) (2 ^ 64)
          (f.passed_are w of) (reduced more_passed (passed_in w js (core_of c)) (g.passed_are w (at_c w of)) ∙ ap (λ (d : law.State). passed_in w js d % 2 ^ 64) (f.end w of)) (passed_append w ks js (core_of c0));
    }
  where
    reduced : (a x : ℕ) → a ≡ x % 2 ^ 64 → a % 2 ^ 64 ≡ x % 2 ^ 64
    reduced a x e = let z : x % 2 ^ 64 + 0 ≡ x % 2 ^ 64 = omega arith in let y : x + 0 ≡ x = omega arith in
        ap (λ (n : ℕ). n % 2 ^ 64) (e ∙ sym z) ∙ (mod-add-mod x (2 ^ 64) 0 ∙ ap (λ (n : ℕ). n % 2 ^ 64) y)

-- one place more of an order
pub order_more : (order : List ℕ) (i : ℕ) → i < length order → take (i + 1) order ≡ take i order ++ get_or order i 0 ∷ []
order_more order i l = let e : i + 1 ≡ suc i = omega arith in ap (λ (n : ℕ). take n order) e ∙ take_next order i (get_or order i 0) (slice_get-get_or order i 0 l)

pub range_push : (b n : ℕ) → range b (n + 1) ≡ range b n ++ (b + n) ∷ []
range_push b n = let e : n + 1 ≡ suc n = omega arith in ap (range b) e ∙ by b n
  where
    by : (b n : ℕ) → range b (suc n) ≡ range b n ++ (b + n) ∷ []
    by b zero = let e : b ≡ b + 0 = omega arith in ap (λ (k : ℕ). k ∷ []) e
    by b (suc n) = let e : suc b + n ≡ b + suc n = omega arith in ap (λ (l : List ℕ). b ∷ l) (by (suc b) n ∙ ap (λ (k : ℕ). range (suc b) n ++ k ∷ []) e)
