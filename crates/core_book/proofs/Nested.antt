-- The book's instances are those of a nest.
use Rattle.std.proofs.Common.{◌≡◌, ℕ, ℤ, Some, Option, List, ◌++◌, length, map, take, drop, refl, sym, ap, ◌∙◌}
use Rattle.std.specs.Prelude.{slice_get}
use Rattle.std.proofs.lemmas.List.{length-map}
use Rattle.wave_base.specs.declared.types.ArrayId.{ArrayId}
use Rattle.loop_core.specs.declared.nest.Nest.{Nest}
use Rattle.loop_core.specs.declared.nest.Expr.{Expr}
use Rattle.loop_core.specs.declared.effect.Effect.{Effect}
use Rattle.loop_core.specs.declared.effect.Effect.TheVariants.{Sets, Keeps}
use Rattle.loop_core.specs.Lists.{Lists}
use Rattle.loop_core.specs.Binding.{Binding}
use Rattle.loop_core.specs.Shape.{is_target}
use Rattle.loop_core.specs.Instances.{Formula, formula, Instance}
use Rattle.loop_core.specs.Registers.{shared_reads, register_value}
use Rattle.core_rows.specs.Locals.{kept_by}
use Rattle.core_nest.specs.Nested.{cell_of, effect_of, deed_of}
use Rattle.core_value.specs.Taken.{Taken, taken, flagged, other_words}
use Rattle.core_value.proofs.Takings.{takes}
use Rattle.core_book.specs.declared.book.Book.{Book}
use Rattle.core_book.specs.declared.book.How.{How}
use Rattle.core_book.specs.declared.book.Statement.{Statement}
use Rattle.core_book.specs.Hows.{value_by, reads_by, kept_in}
use Rattle.core_book.specs.Follows.{Does, kept_local, IsInstance}

keeps_is : (e : Effect) (locals : List ℤ) (word : ℤ) → kept_in (kept_local e) locals word ≡ kept_by (effect_of e) locals word
keeps_is (Sets p) locals word = refl
keeps_is (Keeps local) locals word = refl

pub does : (book : Book) (nest : Nest) (a : Lists) (x : List (List ℤ)) (env : List Binding) (how : How) (s : Instance) → IsInstance book nest a x env how s → Does book how (deed_of nest x s)
does book nest a x env how s is =
    let st : Statement = is.statement in
    let long = length-map (shared_reads nest s.value) cell_of in
    record {
      reads = ap reads_by is.stands ∙ (is.reads ∙ sym long);
      value = λ locals registers used.
          let own : List ℤ = take (length (shared_reads nest s.value)) (drop used registers) in
          ap (λ (o : Option Statement). value_by book how.from o locals registers used) is.stands
          ∙ ((λ i. (taken (is.written i) locals st.value (take (is.reads i) (drop used registers)) (is.others i)).value)
          ∙ (ap (λ (f : Formula). (taken (is_target nest) locals st.value own (other_words nest x f ++ is.more)).value) is.formula_is
          ∙ (ap (λ (t : Taken). t.value) (takes nest a x env locals st.value own is.more)
          ∙ ((λ i. register_value nest x locals (sym is.formula_is i) own)
          ∙ ap (λ (n : ℕ). register_value nest x locals s.value (take n (drop used registers))) (sym long)))));
      keeps = λ locals word. ap (λ (k : Option ℕ). kept_in k locals word) is.keeps ∙ keeps_is s.effect locals word;
    }
