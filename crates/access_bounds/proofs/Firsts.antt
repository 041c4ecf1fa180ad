-- The first of a list that isn't so.
use Rattle.std.proofs.Common.{◌≡◌, ℕ, zero, suc, ◌+◌, ◌<◌, List, [], ◌∷◌, ◌++◌, map, length, get_or, take, drop, append_assoc, refl, sym, ap, ◌∙◌, subst, arith}
use Rattle.std.specs.List.{All}
use Rattle.std.proofs.lemmas.List.{map-append}
use Rattle.std.proofs.lemmas.List.Elements.{All-nil, All-cons, All-head, All-tail, All-append, All-map, All-weaker}
use Rattle.access_bounds.specs.First.{IsFirstNot}

split_at : {X : Type 0} (xs : List X) (k : ℕ) (x : X) → k < length xs → x ≡ get_or xs k x → xs ≡ take k xs ++ x ∷ drop (suc k) xs
split_at [] k x lt is = absurd (omega arith)
split_at (y ∷ xs) zero x lt is = ap (λ z. z ∷ xs) (sym is)
split_at (y ∷ xs) (suc k) x lt is = ap (λ l. y ∷ l) (split_at xs k x (omega arith) is)

pub first-at : {X : Type 0} (P : X → Type 0) (xs : List X) (k : ℕ) (x : X) → k < length xs → x ≡ get_or xs k x → All P (take k xs) → (P x → ⊥) → IsFirstNot P xs x
first-at P xs k x lt is so never = record { before = take k xs; after = drop (suc k) xs; split = split_at xs k x lt is; all = so; never = never }

pub first-map : {X Y : Type 0} (P : Y → Type 0) (f : X → Y) (xs : List X) (x : X) → IsFirstNot (λ x. P (f x)) xs x → IsFirstNot P (map f xs) (f x)
first-map P f xs x h = record {
  before = map f h.before;
  after = map f h.after;
  split = ap (map f) h.split ∙ map-append f h.before (x ∷ h.after);
  all = All-map P f h.before h.all;
  never = h.never;
}

pub first-left : {X : Type 0} (P : X → Type 0) (xs ys : List X) (x : X) → IsFirstNot P xs x → IsFirstNot P (xs ++ ys) x
first-left P xs ys x h = record {
  before = h.before;
  after = h.after ++ ys;
  split = ap (λ l. l ++ ys) h.split ∙ append_assoc h.before (x ∷ h.after) ys;
  all = h.all;
  never = h.never;
}

pub first-right : {X : Type 0} (P : X → Type 0) (xs ys : List X) (x : X) → All P xs → IsFirstNot P ys x → IsFirstNot P (xs ++ ys) x
first-right P xs ys x so h = record {
  before = xs ++ h.before;
  after = h.after;
  split = ap (λ l. xs ++ l) h.split ∙ sym (append_assoc xs h.before (x ∷ h.after));
  all = All-append P xs h.before so h.all;
  never = h.never;
}

pub first-weaker : {X : Type 0} (P Q : X → Type 0) → ((x : X) → P x → Q x) → ((x : X) → Q x → P x) → (xs : List X) (x : X) → IsFirstNot P xs x → IsFirstNot Q xs x
first-weaker P Q forth back xs x h = record { before = h.before; after = h.after; split = h.split; all = All-weaker P Q forth h.before h.all; never = λ q. h.never (back x q) }

-- There is one first.

same_heads : {X : Type 0} (x y : X) (xs ys : List X) → x ∷ xs ≡ y ∷ ys → x ≡ y
same_heads x y xs ys e = cc

same_tails : {X : Type 0} (x y : X) (xs ys : List X) → x ∷ xs ≡ y ∷ ys → xs ≡ ys
same_tails x y xs ys e = cc

same_first : {X : Type 0} (P : X → Type 0) (bs cs ds es : List X) (x y : X) → bs ++ x ∷ cs ≡ ds ++ y ∷ es → All P bs → All P ds → (P x → ⊥) → (P y → ⊥) → x ≡ y
same_first P [] cs [] es x y e hb hd nx ny = same_heads x y cs es e
same_first P [] cs (d ∷ ds) es x y e hb hd nx ny = absurd (nx (subst P (sym (same_heads x d cs (ds ++ y ∷ es) e)) (All-head P d ds hd)))
same_first P (b ∷ bs) cs [] es x y e hb hd nx ny = absurd (ny (subst P (same_heads b y (bs ++ x ∷ cs) es e) (All-head P b bs hb)))
same_first P (b ∷ bs) cs (d ∷ ds) es x y e hb hd nx ny =
    same_first P bs cs ds es x y (same_tails b d (bs ++ x ∷ cs) (ds ++ y ∷ es) e) (All-tail P b bs hb) (All-tail P d ds hd) nx ny

pub first-one : {X : Type 0} (P : X → Type 0) (xs : List X) (x y : X) → IsFirstNot P xs x → IsFirstNot P xs y → x ≡ y
first-one P xs x y h g = same_first P h.before h.after g.before g.after x y (sym h.split ∙ g.split) h.all g.all h.never g.never

-- and none where all are so
all_not : {X : Type 0} (P : X → Type 0) (bs cs : List X) (x : X) → All P (bs ++ x ∷ cs) → (P x → ⊥) → ⊥
all_not P [] cs x h n = n (All-head P x cs h)
all_not P (b ∷ bs) cs x h n = all_not P bs cs x (All-tail P b (bs ++ x ∷ cs) h) n

pub first-none : {X : Type 0} (P : X → Type 0) (xs : List X) (x : X) → All P xs → IsFirstNot P xs x → ⊥
first-none P xs x h g = all_not P g.before g.after x (subst (All P) g.split h) g.never
