-- Numbers of two workers.
use Rattle.std.proofs.Common.{◌≡◌, ℕ, zero, suc, ◌<◌, Bool, true, false, ◌&&◌, List, [], ◌∷◌, length, get_or, arith}
use Rattle.std.specs.Prelude.{nat_lt}
use Rattle.std.specs.List.{list_all}
use borrow.Author.Tests.{ltb-true}

both : (s t : Bool) → (s && t) ≡ true → (s ≡ true) × (t ≡ true)
both true t e = (cc, e)
both false t e = absurd (cc)

pub each_below : (ks : List ℕ) → list_all (λ k. nat_lt k 2) ks ≡ true → (i d : ℕ) → i < length ks → get_or ks i d < 2
each_below [] e i d l = absurd (omega arith)
each_below (k ∷ ks) e zero d l = ltb-true k 2 (both (nat_lt k 2) (list_all (λ k. nat_lt k 2) ks) e).0
each_below (k ∷ ks) e (suc i) d l = each_below ks (both (nat_lt k 2) (list_all (λ k. nat_lt k 2) ks) e).1 i d (omega arith)
