-- Instances of a row change the words and the locals as those of the loop do.
use Rattle.std.proofs.Common.{◌≡◌, ℤ, pos, negsuc, true, false, List, [], ◌∷◌, map, refl, sym, ap, ◌∙◌}
use Rattle.std.proofs.lemmas.List.{append-nil}
use Rattle.wave_base.specs.declared.types.ArrayId.{ArrayId}
use Rattle.wave_base.specs.declared.types.Cell.{Cell}
use Rattle.loop_core.specs.declared.nest.Nest.{Nest}
use Rattle.loop_core.specs.declared.place.Place.{Place}
use Rattle.loop_core.specs.Lists.{entry, written}
use Rattle.loop_core.specs.Shape.{is_target}
use Rattle.loop_core.specs.declared.effect.Effect.{Effect}
use Rattle.loop_core.specs.declared.effect.Effect.TheVariants.{Sets, Keeps}
use Rattle.loop_core.specs.Instances.{Instance}
use Rattle.loop_core.specs.Values.{reads}
use Rattle.loop_core.specs.Sequence.{State, formula_value, done, after_one, after_all}
use Rattle.loop_core.specs.Registers.{shared_reads, register_value}
use Rattle.loop_core.proofs.Found.{registers_give}
use Rattle.core_cells.proofs.Stores.{put_other}
use Rattle.core_rows.specs.Deeds.{Deed}
use Rattle.core_rows.specs.Locals.{RowState, set_by, kept_by, value_in, after_deed, after_deeds}
use Rattle.core_nest.specs.Nested.{cell_of, effect_of, deed_of}
use Rattle.core_nest.proofs.Each.{Each, each_filter}
use Rattle.core_nest.proofs.Natural.{IsNatural, put_is, entries_are}

-- y has in the arrays that the nest doesn't write what x has
abbrev pub Agree : Nest → List (List ℤ) → List (List ℤ) → Type 0
Agree nest x y = (array : ArrayId) (at : ℤ) → is_target nest array ≡ false → entry y array at ≡ entry x array at

-- a place that is set isn't before its list, and is of an array that the nest writes
abbrev pub GoodEffect : Nest → Effect → Type 0
GoodEffect nest (Sets p) = (is_target nest p.array ≡ true) × IsNatural p
GoodEffect nest (Keeps local) = Unit {0}

pub record IsGood (nest : Nest) (s : Instance) : Type 0 where
  pub effect : GoodEffect nest s.effect
  pub reads : Each IsNatural (reads s.value)

abbrev pub row_state : State → RowState
row_state y = record { cells = y.lists; locals = y.locals }

module _ (nest : Nest) (x : List (List ℤ)) where
  abbrev deed : Instance → Deed
  deed = deed_of nest x

  entry_other : (y : List (List ℤ)) (p : Place) (v : ℤ) (array : ArrayId) (at : ℤ) → IsNatural p → (array ≡ p.array → ⊥) → entry (written y p.array p.at v) array at ≡ entry y array at
  entry_other y p v array (negsuc k) nat ne = refl
  entry_other y p v array (pos k) nat ne =
      ap (λ (l : List (List ℤ)). entry l array (pos k)) (sym (put_is y p v nat))
      ∙ put_other y (cell_of p) (record { array = array; at = k }) v (λ e. ne (sym (ap (λ (c : Cell). c.array) e)))

  agree_set : (p : Place) (v : ℤ) (y : List (List ℤ)) → is_target nest p.array ≡ true → IsNatural p → Agree nest x y → Agree nest x (written y p.array p.at v)
  agree_set p v y target nat agree array at other =
      entry_other y p v array at nat (λ (e : array ≡ p.array). no (sym target ∙ (ap (is_target nest) (sym e) ∙ other)))
      ∙ agree array at other
    where
      no : true ≡ false → ⊥
      no e = cc

  agree_done : (e : Effect) (v : ℤ) (y : State) → GoodEffect nest e → Agree nest x y.lists → Agree nest x (done e v y).lists
  agree_done (Sets p) v y good agree = agree_set p v y.lists good.0 good.1 agree
  agree_done (Keeps local) v y good agree = agree

  agree_one : (s : Instance) (y : State) → IsGood nest s → Agree nest x y.lists → Agree nest x (after_one s y).lists
  agree_one s y good agree = agree_done s.effect (formula_value y.lists y.locals s.value) y good.effect agree

  pub agree_all : (ss : List Instance) (y : State) → Each (IsGood nest) ss → Agree nest x y.lists → Agree nest x (after_all ss y).lists
  agree_all [] y good agree = agree
  agree_all (s ∷ ss) y good agree = agree_all ss (after_one s y) good.1 (agree_one s y good.0 agree)

  -- the value of an instance
  pub value_is : (s : Instance) (y : State) → IsGood nest s → Agree nest x y.lists → value_in (deed s) (row_state y) ≡ formula_value y.lists y.locals s.value
  value_is s y good agree =
      let shared : List Place = shared_reads nest s.value in
      let natural : Each IsNatural shared = each_filter IsNatural (λ (p : Place). is_target nest p.array) (reads s.value) good.reads in
      ap (register_value nest x y.locals s.value) (entries_are y.lists shared natural ∙ sym (append-nil _))
      ∙ registers_give nest x y.lists agree y.locals s.value []

  done_is : (e : Effect) (v : ℤ) (y : State) → GoodEffect nest e → record { cells = set_by (effect_of e) y.lists v; locals = kept_by (effect_of e) y.locals v } ≡ row_state (done e v y)
  done_is (Sets p) v y good = let e = put_is y.lists p v good.1 in λ i. record { cells = e i; locals = y.locals }
  done_is (Keeps local) v y good = refl

  deed_is : (s : Instance) (y : State) → IsGood nest s → Agree nest x y.lists → after_deed (deed s) (row_state y) ≡ row_state (after_one s y)
  deed_is s y good agree =
      ap (λ (v : ℤ). record { cells = set_by (effect_of s.effect) y.lists v; locals = kept_by (effect_of s.effect) y.locals v }) (value_is s y good agree)
      ∙ done_is s.effect (formula_value y.lists y.locals s.value) y good.effect

  pub deeds_are : (ss : List Instance) (y : State) → Each (IsGood nest) ss → Agree nest x y.lists → after_deeds (map deed ss) (row_state y) ≡ row_state (after_all ss y)
  deeds_are [] y good agree = refl
  deeds_are (s ∷ ss) y good agree = ap (after_deeds (map deed ss)) (deed_is s y good.0 agree) ∙ deeds_are ss (after_one s y) good.1 (agree_one s y good.0 agree)
