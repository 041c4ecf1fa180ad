-- The values of the sequential run.
use Rattle.std.proofs.Common.{◌≡◌, ℕ, zero, suc, ◌<◌, ◌≤◌, List, Option, Some, None, sym, refl, ap, ◌∙◌, arith, ⊎_elim}
use Rattle.std.specs.Prelude.{ℤ}
use Rattle.std.proofs.lemmas.Bool.{cases_eq}
use Rattle.wave_base.specs.declared.types.Cell.{Cell}
use Rattle.core_cells.specs.Cells.{at_cell, lengths}
use Rattle.core_law.specs.Works.{Work}
use Rattle.core_law.specs.Numbers.{instance_at, total}
use Rattle.core_law.specs.Sequential.{put_at, after, word_before, read_with}
use Rattle.core_law.specs.Dependence.{Writes}
use Rattle.core_law.specs.Fit.{IsFit}
use Rattle.core_cells.proofs.Stores.{put_same, put_other, put_shape, inside_same}

target_shape : (x : List (List ℤ)) (t : Option Cell) (v : ℤ) → lengths (put_at x t v) ≡ lengths x
target_shape x None v = refl
target_shape x (Some cell) v = put_shape x cell v

pub after_shape : (w : Work) (m : ℕ) → lengths (after w m).cells ≡ lengths w.start
after_shape w zero = refl
after_shape w (suc m) = target_shape (after w m).cells (instance_at w m).target ((instance_at w m).value (read_with w m)) ∙ after_shape w m

target_other : (x : List (List ℤ)) (t : Option Cell) (v : ℤ) (cell : Cell) → (t ≡ Some cell → ⊥) → at_cell (put_at x t v) cell ≡ at_cell x cell
target_other x None v cell ne = refl
target_other x (Some p) v cell ne = put_other x p cell v (λ e. ne (ap Some e))

pub val_other : (w : Work) (g : ℕ) (x : Cell) → (Writes w g x → ⊥) → word_before w (suc g) x ≡ word_before w g x
val_other w g x ne = target_other (after w g).cells (instance_at w g).target ((instance_at w g).value (read_with w g)) x ne

pub val_same : (w : Work) → IsFit w → (g : ℕ) (x : Cell) → g < total w → Writes w g x → word_before w (suc g) x ≡ (instance_at w g).value (read_with w g)
val_same w fit g x l wr = let v : ℤ = (instance_at w g).value (read_with w g) in
    ap (λ (t : Option Cell). at_cell (put_at (after w g).cells t v) x) wr
    ∙ put_same (after w g).cells x v (inside_same w.start (after w g).cells x (sym (after_shape w g)) (fit.inside g x l wr))

-- nothing in between writes the cell
pub val_kept : (w : Work) (m n : ℕ) (x : Cell) → m ≤ n → ((h : ℕ) → m ≤ h → h < n → Writes w h x → ⊥) → word_before w n x ≡ word_before w m x
val_kept w m zero x l none = let e : m ≡ 0 = omega arith in ap (λ (i : ℕ). word_before w i x) (sym e)
val_kept w m (suc n) x l none = ⊎_elim
    (λ (e : m ≡ suc n). ap (λ (i : ℕ). word_before w i x) (sym e))
    (λ (ne : m ≡ suc n → ⊥). val_other w n x (none n (omega arith) (omega arith)) ∙ val_kept w m n x (omega arith) (λ h a b. none h a (omega arith)))
    (cases_eq m (suc n))
