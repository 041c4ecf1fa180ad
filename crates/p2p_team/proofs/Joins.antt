-- Main's view as seats are split and joined.
use Rattle.std.proofs.Common.{◌≡◌, ℕ, suc, ◌+◌, ◌<◌, ◌≤◌, [], length, refl, sym, ap, subst, ◌∙◌, inl, inr, ⊎_elim, arith}
use Rattle.std.proofs.lemmas.Bool.{cases_lt}
use Rattle.core_machine.specs.declared.work.Work.{Work}
use Rattle.done_words.specs.declared.view.View.{View}
use Rattle.done_words.specs.declared.view.View.TheVariants.{Spent, Main, Worker}
use Rattle.done_words.specs.Rule.{IsIn}
use Rattle.done_words.specs.Seats.{HasAll}
use Rattle.done_words.specs.Views.{number_of, made_of, joined_of, one_more, taken_back}
use Rattle.p2p_team.specs.Hands.{HasMade}

-- so many workers made, and none joined
abbrev pub lead : Work → ℕ → View
lead w n = Main (record { work = w; made = n; joined = [] })

pub split_more : (w : Work) (n : ℕ) (u v : View) → u ≡ lead w n → v ≡ one_more u → v ≡ lead w (n + 1)
split_more w n u v e f = f ∙ (ap one_more e ∙ ap (lead w) (let h : suc n ≡ n + 1 = omega arith in h))

pub made_is : (w : Work) (n : ℕ) (u : View) → u ≡ lead w n → n ≡ made_of u
made_is w n u e = sym (ap made_of e)

pub has_made : (w : Work) (n : ℕ) (u : View) → u ≡ lead w n → HasMade w n u
has_made w n u e = subst (HasMade w n) (sym e) (refl, refl)

-- those below k are joined
abbrev pub JoinedBelow : ℕ → View → Type 0
JoinedBelow k v = (j : ℕ) → j < k → IsIn j (joined_of v)

pub join_made : (w : Work) (n k : ℕ) (u v z : View) → HasMade w n u → number_of v ≡ suc k → z ≡ taken_back u v → HasMade w n z
join_made w n k Spent v z h e f = absurd h
join_made w n k (Worker d) v z h e f = absurd h
join_made w n k (Main m) Spent z h e f = absurd (omega arith)
join_made w n k (Main m) (Main o) z h e f = absurd (omega arith)
join_made w n k (Main m) (Worker d) z h e f = subst (HasMade w n) (sym f) h

pub join_more : (w : Work) (n k : ℕ) (u v z : View) → HasMade w n u → number_of v ≡ suc k → z ≡ taken_back u v → JoinedBelow k u → JoinedBelow (k + 1) z
join_more w n k Spent v z h e f below = absurd h
join_more w n k (Worker d) v z h e f below = absurd h
join_more w n k (Main m) Spent z h e f below = absurd (omega arith)
join_more w n k (Main m) (Main o) z h e f below = absurd (omega arith)
join_more w n k (Main m) (Worker d) z h e f below = subst (JoinedBelow (k + 1)) (sym f) (λ j l. ⊎_elim
    (λ (before : j < k). inr (below j before))
    (λ (last : k ≤ j). let same : j ≡ d.worker = omega arith in inl same)
    (cases_lt j k))

pub has_all : (w : Work) (v : View) → HasMade w (length w.sched.workers) v → JoinedBelow (length w.sched.workers) v → HasAll w v
has_all w Spent h below = absurd h
has_all w (Worker d) h below = absurd h
has_all w (Main m) h below = (h.1, below)
