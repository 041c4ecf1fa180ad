-- Premises that are named one after another.
use Rattle.std.proofs.Common.{ap, ℕ, suc, ◌<◌, ◌+◌, ◌≡◌, ◌≢◌, refl, List, [], ◌∷◌, length, slice_index_or, slice_get, sym, ◌∙◌, Bool, true, false, drop, drop-cons, add-one}
use Rattle.std.specs.Prelude.{◌&&◌}
use Rattle.std.specs.Option.{option_map_or}
use Rattle.uf_constraints.specs.declared.system.Diff.{Diff}
use Rattle.index_props.specs.Certificate.{named, same_diff}

and_false : (b c : Bool) → c ≡ false → (b && c) ≡ false
and_false true c h = h
and_false false c h = refl

pub named_long : (earlier ps : List Diff) (ks : List ℕ) → length ps ≢ length ks → named earlier ps ks ≡ false
named_long earlier [] [] h = absurd (h refl)
named_long earlier [] (k ∷ ks) h = refl
named_long earlier (p ∷ ps) [] h = refl
named_long earlier (p ∷ ps) (k ∷ ks) h =
    and_false (option_map_or (same_diff p) (slice_get earlier k) false) (named earlier ps ks) (named_long earlier ps ks (λ e. h (ap suc e)))

pub named_at : (earlier ps : List Diff) (ks : List ℕ) (i : ℕ) (p : Diff) → i < length ps → i < length ks → p ≡ slice_index_or ps i p → named earlier (drop i ps) (drop i ks) ≡ (option_map_or (same_diff p) (slice_get earlier (slice_index_or ks i 0)) false && named earlier (drop (i + 1) ps) (drop (i + 1) ks))
named_at earlier ps ks i p lp lk is = rw (add-one i, drop-cons ps i p lp, drop-cons ks i 0 lk, ← is) refl

pub rest_false : (n r b c x : Bool) → n ≡ r → r ≡ (b && c) → x ≡ b → x ≡ false → false ≡ n
rest_false n r b c x f e g h = sym (f ∙ e ∙ rw (← g) (rw h refl))

pub rest_true : (n r b c x : Bool) → n ≡ r → r ≡ (b && c) → x ≡ b → x ≡ true → n ≡ c
rest_true n r b c x f e g h = f ∙ e ∙ rw (← g) (rw h refl)
