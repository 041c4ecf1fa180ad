-- Flags say of each array whether the nest writes it.
use Rattle.std.proofs.Common.{◌≡◌, ℕ, zero, suc, ◌+◌, ◌<◌, ◌≤◌, Bool, true, false, Option, List, [], ◌∷◌, ◌++◌, length, get_or, refl, sym, ap, subst, ◌∙◌, ⊎_elim, arith}
use Rattle.std.specs.Option.{option_map_or}
use Rattle.std.proofs.lemmas.List.{length-append}
use Rattle.std.proofs.lemmas.Bool.{cases_lt}
use Rattle.std.proofs.lemmas.Option.{slice_get_past}
use Rattle.wave_base.specs.declared.types.ArrayId.{ArrayId}
use Rattle.loop_core.specs.declared.decl.Decl.{Decl}
use Rattle.loop_core.specs.declared.decl.DeclKind.{DeclKind}
use Rattle.loop_core.specs.declared.decl.DeclKind.TheVariants.{Matrix, Index, Vector}
use Rattle.loop_core.specs.declared.nest.Nest.{Nest}
use Rattle.loop_core.specs.Shape.{is_target}
use Rattle.loop_core.specs.Sizes.{Kind, holds_data, is_data, kinds, kinds_of, sizes, sizes_of}
use Rattle.loop_core.specs.IsNest.{IsNest}
use Rattle.loop_core.proofs.TargetKinds.{target_is_data}
use Rattle.core_value.specs.Taken.{flagged}

-- the flags of the arrays below n
pub record FlagsTo (nest : Nest) (flags : List Bool) (n : ℕ) : Type 0 where
  pub long : length flags ≡ n
  pub each : (k : ℕ) → k < n → get_or flags k false ≡ is_target nest (record { 0 = k })

pub flags_none : (nest : Nest) → FlagsTo nest [] 0
flags_none nest = record { long = refl; each = λ k l. absurd (omega arith) }

at_before : (flags : List Bool) (b : Bool) (k : ℕ) → k < length flags → get_or (flags ++ b ∷ []) k false ≡ get_or flags k false
at_before [] b k l = absurd (omega arith)
at_before (f ∷ flags) b zero l = refl
at_before (f ∷ flags) b (suc k) l = at_before flags b k (omega arith)

at_last : (flags : List Bool) (b : Bool) (k : ℕ) → k ≡ length flags → get_or (flags ++ b ∷ []) k false ≡ b
at_last [] b zero e = refl
at_last [] b (suc k) e = absurd (omega arith)
at_last (f ∷ flags) b zero e = absurd (omega arith)
at_last (f ∷ flags) b (suc k) e = at_last flags b k (omega arith)

pub flags_more : (nest : Nest) (flags more : List Bool) (n : ℕ) (b : Bool) → FlagsTo nest flags n → b ≡ is_target nest (record { 0 = n }) → more ≡ flags ++ b ∷ [] → FlagsTo nest more (n + 1)
flags_more nest flags more n b f is e =
    let long = f.long in
    let pushed = length-append flags (b ∷ []) in
    subst (λ (l : List Bool). FlagsTo nest l (n + 1)) (sym e) (record {
      long = omega arith;
      each = λ k l. ⊎_elim
          (λ (before : k < n). at_before flags b k (omega arith) ∙ f.each k before)
          (λ (last : n ≤ k). let here : n ≡ k = omega arith in at_last flags b k (omega arith) ∙ (is ∙ ap (λ (m : ℕ). is_target nest (record { 0 = m })) here))
          (cases_lt k n);
    })

kind_long : (k : DeclKind) → length (kinds_of k) ≡ length (sizes_of k)
kind_long (Matrix form) = refl
kind_long (Index size) = refl
kind_long (Vector size source) = refl

kinds_long : (decls : List Decl) → length (kinds decls) ≡ length (sizes decls)
kinds_long [] = refl
kinds_long (d ∷ more) =
    let a = length-append (kinds_of d.kind) (kinds more) in
    let b = length-append (sizes_of d.kind) (sizes more) in
    let c = kind_long d.kind in
    let h = kinds_long more in
    omega arith

past : (flags : List Bool) (k : ℕ) → length flags ≤ k → get_or flags k false ≡ false
past [] k l = refl
past (f ∷ flags) zero l = absurd (omega arith)
past (f ∷ flags) (suc k) l = past flags k (omega arith)

-- no array of a number past 64 is written
not_written : (nest : Nest) (array : ArrayId) → IsNest nest → 64 ≤ array.0 → is_target nest array ≡ false
not_written nest array n l = by (is_target nest array) refl
  where
    by : (b : Bool) → is_target nest array ≡ b → is_target nest array ≡ false
    by false e = e
    by true e =
        let is : is_data nest.decls array ≡ true = target_is_data nest array n e in
        let few = n.few_arrays in
        let long = kinds_long nest.decls in
        let none : is_data nest.decls array ≡ false = ap (λ (k : Option Kind). option_map_or holds_data k false) (slice_get_past (kinds nest.decls) array.0 (omega arith)) in
        absurd (let both : true ≡ false = sym is ∙ none in cc)

pub flags_all : (nest : Nest) (flags : List Bool) (n : ℕ) → FlagsTo nest flags n → 64 ≤ n → IsNest nest → flagged flags ≡ is_target nest
flags_all nest flags n f l is = λ i array. each array i
  where
    each : (array : ArrayId) → flagged flags array ≡ is_target nest array
    each array = let long = f.long in ⊎_elim
        (λ (inside : array.0 < n). f.each array.0 inside)
        (λ (outside : n ≤ array.0). past flags array.0 (omega arith) ∙ sym (not_written nest array is (omega arith)))
        (cases_lt array.0 n)
