-- Looks one after another.
use Rattle.std.proofs.Common.{◌≡◌, ℕ, suc, ◌+◌, ◌<◌, ◌≤◌, Bool, cond, leb, List, [], ◌∷◌, ◌++◌, length, get_or, drop, refl, sym, ap, subst, ◌∙◌, arith}
use Rattle.std.proofs.lemmas.Bool.{le-leb, lt-leb}
use Rattle.std.proofs.lemmas.List.{drop_more, drop_all}
use Rattle.sched_types.specs.declared.lists.Wait.{Wait}
use Rattle.core_law.specs.Scripts.{Action, look}
use Rattle.core_machine.specs.declared.work.Work.{Work}
use Rattle.done_words.specs.declared.view.Doing.{Doing}
use Rattle.done_words.specs.declared.view.View.{View}
use Rattle.done_words.specs.declared.view.View.TheVariants.{Spent, Main, Worker}
use Rattle.done_words.specs.Views.{Looks, misses_of, passed, missed, look_by, after_look}
use Rattle.p2p_exec.specs.Left.{IsLeft}
use Rattle.p2p_exec.specs.Looking.{looks_at, HasMissed, MayLook, Passes, StopsAt}
use Rattle.p2p_exec.proofs.Lefts.{next_left, rest_left, more_left}

pub may_look : (v : View) (wait : Wait) → MayLook v (wait ∷ []) → Looks v wait.worker
may_look Spent wait (w, k, more, left) = absurd left.about
may_look (Main m) wait (w, k, more, left) = absurd (let n = left.number in omega arith)
may_look (Worker d) wait (w, k, more, left) = (wait.count, next_left w k d (look wait.worker wait.count) more left)

-- A look that finds enough passes, and one that doesn't is a miss.

look_is : (w : Work) (k : ℕ) (d : Doing) (v : View) (wait : Wait) (n : ℕ) (more : List Action) → v ≡ after_look (Worker d) wait.worker n → IsLeft w k (Worker d) (look wait.worker wait.count ∷ more)
    → v ≡ cond (leb wait.count n) (passed d) (missed d wait.worker n wait.count)
look_is w k d v wait n more e left = e ∙ ap (look_by d wait.worker n) (next_left w k d (look wait.worker wait.count) more left)

is_passed : (w : Work) (k : ℕ) (d : Doing) (v : View) (wait : Wait) (n : ℕ) (more : List Action) → wait.count ≤ n → v ≡ after_look (Worker d) wait.worker n → IsLeft w k (Worker d) (look wait.worker wait.count ∷ more) → v ≡ passed d
is_passed w k d v wait n more l e left =
    look_is w k d v wait n more e left ∙ ap (λ (b : Bool). cond b (passed d) (missed d wait.worker n wait.count)) (le-leb wait.count n l)

is_missed : (w : Work) (k : ℕ) (d : Doing) (v : View) (wait : Wait) (n : ℕ) (more : List Action) → n < wait.count → v ≡ after_look (Worker d) wait.worker n → IsLeft w k (Worker d) (look wait.worker wait.count ∷ more) → v ≡ missed d wait.worker n wait.count
is_missed w k d v wait n more l e left =
    look_is w k d v wait n more e left ∙ ap (λ (b : Bool). cond b (passed d) (missed d wait.worker n wait.count)) (lt-leb wait.count n l)

went : (w : Work) (k : ℕ) (d : Doing) (a : Action) (more : List Action) → IsLeft w k (Worker d) (a ∷ more) → IsLeft w k (passed d) more
went w k d a more h = record {
  about = h.about;
  number = h.number;
  left = rest_left _ d.place a more h.left;
  within = more_left _ d.place a more h.left;
}

stayed : (w : Work) (k : ℕ) (d : Doing) (f n need : ℕ) (actions : List Action) → IsLeft w k (Worker d) actions → IsLeft w k (missed d f n need) actions
stayed w k d f n need actions h = record { about = h.about; number = h.number; left = h.left; within = h.within }

-- a look that found enough

pub went_on : (u v : View) (wait : Wait) (n : ℕ) → wait.count ≤ n → v ≡ after_look u wait.worker n → Passes u (wait ∷ []) [] v
went_on Spent v wait n l e w k more left = absurd left.about
went_on (Main m) v wait n l e w k more left = absurd (let n = left.number in omega arith)
went_on (Worker d) v wait n l e w k more left =
    subst (λ (z : View). IsLeft w k z more) (sym (is_passed w k d v wait n more l e left)) (went w k d (look wait.worker wait.count) more left)

pub same_misses : (u v : View) (wait : Wait) (n : ℕ) → wait.count ≤ n → v ≡ after_look u wait.worker n → MayLook u (wait ∷ []) → misses_of v ≡ misses_of u
same_misses Spent v wait n l e (w, k, more, left) = absurd left.about
same_misses (Main m) v wait n l e (w, k, more, left) = absurd (let n = left.number in omega arith)
same_misses (Worker d) v wait n l e (w, k, more, left) = ap misses_of (is_passed w k d v wait n more l e left)

-- and one that didn't

pub stayed_there : (u v : View) (wait : Wait) (n : ℕ) → n < wait.count → v ≡ after_look u wait.worker n → Passes u (wait ∷ []) (wait ∷ []) v
stayed_there Spent v wait n l e w k more left = absurd left.about
stayed_there (Main m) v wait n l e w k more left = absurd (let n = left.number in omega arith)
stayed_there (Worker d) v wait n l e w k more left =
    subst (λ (z : View). IsLeft w k z (look wait.worker wait.count ∷ more)) (sym (is_missed w k d v wait n more l e left))
    (stayed w k d wait.worker n wait.count (look wait.worker wait.count ∷ more) left)

pub has_missed : (u v : View) (wait : Wait) (n : ℕ) → n < wait.count → v ≡ after_look u wait.worker n → MayLook u (wait ∷ []) → HasMissed u wait.worker n wait.count v
has_missed Spent v wait n l e (w, k, more, left) = absurd left.about
has_missed (Main m) v wait n l e (w, k, more, left) = absurd (let n = left.number in omega arith)
has_missed (Worker d) v wait n l e (w, k, more, left) =
    subst (λ (z : View). HasMissed (Worker d) wait.worker n wait.count z) (sym (is_missed w k d v wait n more l e left))
    (record { misses = refl; last = refl; too_few = l; next = next_left w k d (look wait.worker wait.count) more left })

-- the looks of a task from one on

abbrev pub wait_at : List Wait → ℕ → Wait
wait_at waits i = get_or waits i (record { worker = 0; count = 0 })

pub record LooksFrom (u : View) (waits : List Wait) (from i : ℕ) (v : View) : Type 0 where
  pub passes : Passes u (drop from waits) (drop i waits) v
  pub misses : misses_of v ≡ misses_of u
  pub after : from ≤ i

first_look : (waits : List Wait) (i : ℕ) → i < length waits → drop i waits ≡ wait_at waits i ∷ drop (i + 1) waits
first_look waits i l = drop_more waits i (record { worker = 0; count = 0 }) l

pub looks_none : (u : View) (waits : List Wait) (from : ℕ) → LooksFrom u waits from from u
looks_none u waits from = record { passes = λ w k more left. left; misses = refl; after = omega arith }

-- the next of them may be made
pub may_next : (u v : View) (waits : List Wait) (from i : ℕ) → i < length waits → MayLook u (drop from waits) → LooksFrom u waits from i v → MayLook v (wait_at waits i ∷ [])
may_next u v waits from i l (w, k, more, left) h =
    (w, k, looks_at (drop (i + 1) waits) ++ more, subst (λ (ws : List Wait). IsLeft w k v (looks_at ws ++ more)) (first_look waits i l) (h.passes w k more left))

-- where it passes, those after it are next
pub looks_more : (u v z : View) (waits : List Wait) (from i : ℕ) → i < length waits → LooksFrom u waits from i v
    → Passes v (wait_at waits i ∷ []) [] z × (misses_of z ≡ misses_of v) → LooksFrom u waits from (i + 1) z
looks_more u v z waits from i l h (passes, misses) = record {
  passes = λ w k more left. passes w k (looks_at (drop (i + 1) waits) ++ more) (subst (λ (ws : List Wait). IsLeft w k v (looks_at ws ++ more)) (first_look waits i l) (h.passes w k more left));
  misses = misses ∙ h.misses;
  after = (let a = h.after in omega arith);
}

pub looks_all : (u v : View) (waits : List Wait) (from i : ℕ) → length waits ≤ i → LooksFrom u waits from i v → Passes u (drop from waits) [] v
looks_all u v waits from i l h w k more left = subst (λ (ws : List Wait). IsLeft w k v (looks_at ws ++ more)) (drop_all i waits l) (h.passes w k more left)

-- where it doesn't, the worker stops at it
pub stops : (u v z : View) (waits : List Wait) (from i seen : ℕ) → i < length waits → LooksFrom u waits from i v
    → Passes v (wait_at waits i ∷ []) (wait_at waits i ∷ []) z × HasMissed v (wait_at waits i).worker seen (wait_at waits i).count z
    → StopsAt u waits from z (record { looked = i; worker = (wait_at waits i).worker; seen = seen; need = (wait_at waits i).count })
stops u v z waits from i seen l h (passes, miss) = record {
  passed = λ w k more left. let e = first_look waits i l in
      subst (λ (ws : List Wait). IsLeft w k z (looks_at ws ++ more)) (sym e)
      (passes w k (looks_at (drop (i + 1) waits) ++ more) (subst (λ (ws : List Wait). IsLeft w k v (looks_at ws ++ more)) e (h.passes w k more left)));
  after = h.after;
  before = l;
  missed = record { misses = miss.misses ∙ ap suc h.misses; last = miss.last; too_few = miss.too_few; next = miss.next };
}
