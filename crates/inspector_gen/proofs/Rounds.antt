-- Lemmas on what stands round a reference.
use Rattle.std.proofs.Common.{◌≡◌, ℕ, zero, suc, ◌+◌, ◌<◌, ◌≤◌, Bool, true, false, if◌then◌else◌, List, [], ◌∷◌, length, get_or, drop, refl, sym, ap, ◌∙◌, add-one, arith}
use Rattle.uf_constraints.specs.declared.reach.Site.{Site}
use Rattle.uf_constraints.specs.declared.system.Reference.{Reference}
use Rattle.inspector_gen.specs.Variables.{around_in, is_at}

pub around_here : (sites : List Site) (r : Reference) (k : ℕ) (d : Site) → k < length sites → is_at r (get_or sites k d) ≡ true → (get_or sites k d).around ≡ around_in (drop k sites) r
around_here [] r k d lt here = absurd (omega arith)
around_here (s ∷ more) r zero d lt here = ap (λ (b : Bool). if b then s.around else around_in more r) (sym here)
around_here (s ∷ more) r (suc k) d lt here = around_here more r k d (omega arith) here

past : (sites : List Site) (r : Reference) (k : ℕ) (d : Site) → k < length sites → is_at r (get_or sites k d) ≡ false → around_in (drop (suc k) sites) r ≡ around_in (drop k sites) r
past [] r k d lt apart = absurd (omega arith)
past (s ∷ more) r zero d lt apart = ap (λ (b : Bool). if b then s.around else around_in more r) (sym apart)
past (s ∷ more) r (suc k) d lt apart = past more r k d (omega arith) apart

pub around_past : (sites : List Site) (r : Reference) (k : ℕ) (d : Site) → k < length sites → is_at r (get_or sites k d) ≡ false → around_in (drop (k + 1) sites) r ≡ around_in (drop k sites) r
around_past sites r k d lt apart = ap (λ j. around_in (drop j sites) r) (add-one k) ∙ past sites r k d lt apart

pub around_end : (sites : List Site) (r : Reference) (k : ℕ) → length sites ≤ k → [] ≡ around_in (drop k sites) r
around_end [] r zero le = refl
around_end [] r (suc k) le = refl
around_end (s ∷ more) r zero le = absurd (omega arith)
around_end (s ∷ more) r (suc k) le = around_end more r k (omega arith)
