-- Actions one after another.
use Rattle.std.proofs.Common.{◌≡◌, ℕ, ◌≤◌, ℤ, List, [], ◌++◌, length, refl, sym, ap, subst, ◌∙◌, ⊎_elim, append_assoc, arith}
use Rattle.std.specs.Prelude.{Contains}
use Rattle.std.proofs.lemmas.List.{append-nil}
use Rattle.std.proofs.lemmas.List.Elements.{Contains-append_cases}
use Rattle.wave_base.specs.declared.types.RowId.{RowId}
use Rattle.sched_types.specs.declared.sched.Task.{Task}
use Rattle.loop_core.specs.declared.nest.Nest.{Nest}
use Rattle.loop_core.specs.Lists.{Lists}
use Rattle.core_law.specs.Works.{Work}
use Rattle.core_law.specs.Scripts.{Action as LawAction, row_actions}
use Rattle.core_value.specs.Taken.{flagged}
use Rattle.core_book.specs.declared.book.Book.{Book}
use Rattle.core_book.specs.declared.book.How.{How}
use Rattle.core_run.specs.declared.action.Action.{Action}
use Rattle.core_unroll.specs.declared.unrolling.Unrolling.{Unrolling}
use Rattle.core_unroll.specs.Advances.{Match, Extends, Advances, IsReady}
use Rattle.core_unroll.proofs.Extended.{grows_same, extends_same, extends_more}
use Rattle.core_unroll.proofs.Matched.{match_append}

le_more : (a b c : ℕ) → a ≤ b → b ≤ c → a ≤ c
le_more a b c l m = omega arith

le_same : (a b : ℕ) → b ≡ a → a ≤ b
le_same a b e = omega arith

no_rows : (r : RowId) → Contains [] r → ⊥
no_rows r i = let l = i.1 in omega arith

pub advances_none : (w : Work) (u : Unrolling) → Advances w u [] [] u
advances_none w u = record {
  made = [];
  actions = sym (append-nil u.actions.items);
  does = λ book hows e. tt;
  extends = extends_same u;
  values = refl;
  room = le_same u.room u.room refl;
  roomy = λ r i. absurd (no_rows r i);
}

-- actions alone are put down
pub put : (w : Work) (u v : Unrolling) (script : List LawAction) (made : List Action) → v.actions.items ≡ u.actions.items ++ made → v.hows ≡ u.hows → v.book ≡ u.book → v.values ≡ u.values → v.room ≡ u.room
    → ((book : Book) (hows : List How) → Match w book hows script made) → Advances w u script [] v
put w u v script made actions hows book values room does = record {
  made = made;
  actions = actions;
  does = λ b h e. does b h;
  extends = subst (λ (b : Book). Extends u b v.hows.items) (sym book) (record { grows = grows_same u.book; instances = ([], (λ i. (hows i).items) ∙ sym (append-nil u.hows.items)) });
  values = values;
  room = le_same u.room v.room room;
  roomy = λ r i. absurd (no_rows r i);
}

pub advances_more : (w : Work) (u v z : Unrolling) (xs ys : List LawAction) (rows more : List RowId) → Advances w u xs rows v → Advances w v ys more z → Advances w u (xs ++ ys) (rows ++ more) z
advances_more w u v z xs ys rows more f g = record {
  made = f.made ++ g.made;
  actions = g.actions ∙ (ap (λ (l : List Action). l ++ g.made) f.actions ∙ append_assoc u.actions.items f.made g.made);
  does = λ book hows e. match_append w book hows xs ys f.made g.made (f.does book hows (extends_more v z book hows g.extends e)) (g.does book hows e);
  extends = extends_more u v z.book z.hows.items f.extends g.extends;
  values = g.values ∙ f.values;
  room = le_more u.room v.room z.room f.room g.room;
  roomy = λ r i. ⊎_elim (λ (k : Contains rows r). le_more (length (row_actions w r)) v.room z.room (f.roomy r k) g.room) (λ (k : Contains more r). g.roomy r k) (Contains-append_cases rows more r i);
}

-- what was ready stays so
pub stays_ready : (w : Work) (nest : Nest) (a : Lists) (x : List (List ℤ)) (workers : List (List Task)) (u v : Unrolling) (xs : List LawAction) (rows : List RowId)
    → IsReady nest a x workers u → Advances w u xs rows v → IsReady nest a x workers v
stays_ready w nest a x workers u v xs rows ready f = record {
  fit = ready.fit;
  values = f.values ∙ ready.values;
  written = ap flagged f.extends.grows.written ∙ ready.written;
}
