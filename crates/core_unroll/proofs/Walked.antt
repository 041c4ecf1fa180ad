-- A row that was walked.
use Rattle.std.proofs.Common.{◌≡◌, ℕ, zero, suc, ◌+◌, ◌-◌, ◌≤◌, pos, List, [], ◌∷◌, ◌++◌, length, refl, sym, ap, subst, ◌∙◌, zero-add, arith}
use Rattle.std.specs.Prelude.{Contains, max}
use Rattle.std.proofs.lemmas.List.{length-append}
use Rattle.wave_base.specs.declared.types.RowId.{RowId}
use Rattle.loop_core.specs.declared.nest.Nest.{Nest}
use Rattle.loop_core.specs.Lists.{Lists}
use Rattle.loop_core.specs.Shape.{is_target}
use Rattle.loop_core.specs.Instances.{Instance, instances}
use Rattle.loop_meaning.specs.Leads.{Leads}
use Rattle.core_law.specs.Works.{Work}
use Rattle.core_law.specs.Scripts.{Action as LawAction, row_actions}
use Rattle.core_nest.specs.NestLaws.{plain_work}
use Rattle.core_book.specs.declared.book.Book.{Book}
use Rattle.core_book.specs.declared.book.How.{How}
use Rattle.core_run.specs.declared.action.Action.{Action}
use Rattle.core_unroll.specs.declared.unrolling.Unrolling.{Unrolling}
use Rattle.core_unroll.specs.Plans.{planned, begun}
use Rattle.core_unroll.specs.Moves.{IsMove}
use Rattle.core_unroll.specs.Advances.{Match, Grows, Extends, RowAdvances}
use Rattle.core_unroll.proofs.Extended.{extends_same}
use Rattle.core_unroll.proofs.Moved.{Moved, Stood, moved}
use Rattle.core_unroll.proofs.Rowed.{row_matches}

only : (r s : RowId) → Contains (r ∷ []) s → r ≡ s
only r s (zero, l, e) = e
only r s (suc k, l, e) = absurd (omega arith)

long_match : (w : Work) (book : Book) (hows : List How) (xs : List LawAction) (bs : List Action) → Match w book hows xs bs → length xs ≡ length bs
long_match w book hows [] [] m = refl
long_match w book hows [] (b ∷ bs) m = absurd m
long_match w book hows (x ∷ xs) [] m = absurd m
long_match w book hows (x ∷ xs) (b ∷ bs) m = ap suc (long_match w book hows xs bs m.1)

room_grows : (u z v count : ℕ) → z ≡ u → v ≡ max z count → u ≤ v
room_grows u z v count e f = omega arith

room_fits : (old plan start mid count z v row : ℕ) → start ≡ old → mid ≡ old + plan → count ≡ mid - start → v ≡ max z count → row ≡ plan → row ≤ v
room_fits old plan start mid count z v row a b c d e = omega arith

-- a row that was walked from z on, of which the first action was marked, and for which room was made
pub row_advances : (nest : Nest) (a : Lists) (r : RowId) (u z v : Unrolling) (start count : ℕ) (mid : List Action)
    → Leads IsMove (record u { before = 0 }) (instances a nest (pos r.0)) z
    → start ≡ length u.actions.items → ((earlier row : List Action) → z.actions.items ≡ earlier ++ row → start ≡ length earlier → mid ≡ earlier ++ begun row)
    → v.actions.items ≡ mid → v.hows.items ≡ z.hows.items → v.book ≡ z.book → v.values ≡ z.values → count ≡ length mid - start → v.room ≡ max z.room count
    → RowAdvances nest a r u v
row_advances nest a r u z v start count mid leads start_is begin actions hows book values counted room x workers ready l =
    let first : Unrolling = record u { before = 0 } in
    let ss : List Instance = instances a nest (pos r.0) in
    let w : Work = plain_work nest a x workers in
    let m : Moved nest x first ss z = moved nest x first ss z ready.written ready.values leads in
    let plan : List Action = planned (is_target nest) (length u.hows.items) ss in
    let mid_is : mid ≡ u.actions.items ++ begun plan = begin u.actions.items plan m.actions start_is in
    let old : (b : Book) (h : List How) → Extends v b h → Extends z b h =
    (λ b h e. record {
      grows = subst (λ (k : Book). Grows k b) book e.grows;
      instances = (e.instances.0, e.instances.1 ∙ ap (λ (k : List How). k ++ e.instances.0) hows);
    }) in
    let does : (b : Book) (h : List How) → Extends v b h → Match w b h (row_actions w r) (begun plan) =
    (λ b h e. row_matches nest a x workers ready.fit r (length u.hows.items) b h l
    (λ n s at. subst (λ (k : ℕ). Stood nest x s (length u.hows.items + n) k b h) (zero-add n) (m.each n s at b h (old b h e)))) in
    let long = long_match w v.book v.hows.items (row_actions w r) (begun plan) (does v.book v.hows.items (extends_same v)) in
    let mid_long : length mid ≡ length u.actions.items + length (begun plan) = ap (λ (q : List Action). length q) mid_is ∙ length-append u.actions.items (begun plan) in
    record {
      made = begun plan;
      actions = actions ∙ mid_is;
      does = does;
      extends = record {
        grows = subst (λ (k : Book). Grows u.book k) (sym book) m.extends.grows;
        instances = (m.extends.instances.0, hows ∙ m.extends.instances.1);
      };
      values = values ∙ m.values;
      room = room_grows u.room z.room v.room count m.room room;
      roomy = λ s i. let fits : length (row_actions w r) ≤ v.room = room_fits (length u.actions.items) (length (begun plan)) start (length mid) count z.room v.room (length (row_actions w r)) start_is mid_long counted room long in subst (λ (q : RowId). length (row_actions w q) ≤ v.room) (only r s i) fits;
    }
