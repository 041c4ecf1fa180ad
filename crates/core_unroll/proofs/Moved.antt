-- What the instances of a row leave of an unrolling.
use Rattle.std.proofs.Common.{◌≡◌, ℕ, zero, suc, ◌+◌, ◌<◌, ℤ, Bool, Some, List, [], ◌∷◌, ◌++◌, length, get_or, drop, refl, sym, ap, subst, ◌∙◌, append_assoc, arith}
use Rattle.std.specs.Prelude.{slice_get}
use Rattle.std.proofs.lemmas.List.{append-nil, length-append, drop_at}
use Rattle.wave_base.specs.declared.types.ArrayId.{ArrayId}
use Rattle.loop_core.specs.declared.nest.Nest.{Nest}
use Rattle.loop_core.specs.Lists.{Lists}
use Rattle.loop_core.specs.Binding.{Binding}
use Rattle.loop_core.specs.Shape.{is_target}
use Rattle.loop_core.specs.Instances.{Instance}
use Rattle.loop_meaning.specs.Leads.{Leads}
use Rattle.core_cells.proofs.Places.{none_is_some, some_same, at_left}
use Rattle.core_value.specs.Taken.{flagged}
use Rattle.core_book.specs.declared.book.Book.{Book}
use Rattle.core_book.specs.declared.book.How.{How}
use Rattle.core_book.specs.declared.book.Statement.{Statement}
use Rattle.core_book.specs.Hows.{how_at, nowhere}
use Rattle.core_book.specs.Follows.{IsInstance}
use Rattle.core_unroll.specs.declared.unrolling.Unrolling.{Unrolling}
use Rattle.core_unroll.specs.Plans.{shared_by, others_by, actions_of, planned}
use Rattle.core_unroll.specs.Moves.{IsMove, written_by}
use Rattle.core_unroll.specs.Advances.{Extends}
use Rattle.core_unroll.proofs.Extended.{extends_same, extends_more, after_these, long_push}

module _ (nest : Nest) (x : List (List ℤ)) where
  -- instance number `at` of the worker is s, after so many of its row
  pub record Stood (s : Instance) (at before : ℕ) (book : Book) (hows : List How) : Type 0 where
    pub index : Lists
    pub env : List Binding
    pub is : IsInstance book nest index x env (how_at hows at) s
    pub before_is : (how_at hows at).before ≡ before
    pub inside : at < length hows

  pub record Moved (u : Unrolling) (ss : List Instance) (v : Unrolling) : Type 0 where
    pub actions : v.actions.items ≡ u.actions.items ++ planned (is_target nest) (length u.hows.items) ss
    pub extends : Extends u v.book v.hows.items
    pub values : v.values ≡ u.values
    pub room : v.room ≡ u.room
    pub each : (n : ℕ) (s : Instance) → slice_get ss n ≡ Some s → (book : Book) (hows : List How) → Extends v book hows → Stood s (length u.hows.items + n) (u.before + n) book hows

  move_extends : (u : Unrolling) (s : Instance) (v : Unrolling) → IsMove u s v → Extends u v.book v.hows.items
  move_extends u s v m = record {
    grows = record { statements = m.statements; others = (others_by (written_by u) u.values s.value, m.others); written = m.written };
    instances = (m.how ∷ [], m.hows);
  }

  -- the instance that was put down stands there whatever comes after
  stands : (u : Unrolling) (s : Instance) (v : Unrolling) → written_by u ≡ is_target nest → u.values ≡ x → IsMove u s v
      → (book : Book) (hows : List How) → Extends v book hows → Stood s (length u.hows.items + 0) (u.before + 0) book hows
  stands u s v target same m book hows e =
      let hows_are : hows ≡ (u.hows.items ++ m.how ∷ []) ++ e.instances.0 = e.instances.1 ∙ ap (λ (l : List How). l ++ e.instances.0) m.hows in
      let here : how_at hows (length u.hows.items + 0) ≡ m.how =
      ap (λ (l : List How). get_or l (length u.hows.items + 0) nowhere) hows_are ∙ after_these u.hows.items m.how e.instances.0 nowhere (length u.hows.items + 0) (omega arith) in
      let others : List ℤ = others_by (written_by u) u.values s.value in
      let reads : length (shared_by (written_by u) s.value) ≡ length (shared_by (is_target nest) s.value) = ap (λ (q : ArrayId → Bool). length (shared_by q s.value)) target in
      let statement : Statement = record { value = m.expr; reads = length (shared_by (written_by u) s.value) } in
      let book_others : book.others.items ≡ u.book.others.items ++ (others ++ e.grows.others.0) =
      e.grows.others.1 ∙ (ap (λ (l : List ℤ). l ++ e.grows.others.0) m.others ∙ append_assoc u.book.others.items others e.grows.others.0) in
      let is : IsInstance book nest m.index x m.env m.how s = record {
        statement = statement;
        stands = ap (λ (l : List Statement). slice_get l m.how.statement) e.grows.statements.1 ∙ at_left v.book.statements.items e.grows.statements.0 m.how.statement statement m.stands;
        formula_is = m.value;
        reads = reads;
        written = ap flagged (e.grows.written ∙ m.written) ∙ target;
        more = e.grows.others.0;
        others = (λ i. drop (m.from i) (book_others i)) ∙ (drop_at u.book.others.items (others ++ e.grows.others.0) (length u.book.others.items) refl
            ∙ (λ i. others_by (target i) (same i) s.value ++ e.grows.others.0));
        keeps = m.keeps;
      } in
      record {
        index = m.index;
        env = m.env;
        is = subst (λ (h : How). IsInstance book nest m.index x m.env h s) (sym here) is;
        before_is = ap (λ (h : How). h.before) here ∙ (m.before ∙ (let z : u.before ≡ u.before + 0 = omega arith in z));
        inside = let n = ap (λ (l : List How). length l) hows_are in
            let k = length-append (u.hows.items ++ m.how ∷ []) e.instances.0 in
            let p = long_push u.hows.items m.how in
            omega arith;
      }

  each_next : (u : Unrolling) (s : Instance) (ss : List Instance) (z v : Unrolling) → written_by u ≡ is_target nest → u.values ≡ x → IsMove u s z → Moved z ss v
      → (n : ℕ) (t : Instance) → slice_get (s ∷ ss) n ≡ Some t → (book : Book) (hows : List How) → Extends v book hows → Stood t (length u.hows.items + n) (u.before + n) book hows
  each_next u s ss z v target same m rest zero t e book hows after =
      subst (λ (i : Instance). Stood i (length u.hows.items + 0) (u.before + 0) book hows) (some_same s t e)
      (stands u s z target same m book hows (extends_more z v book hows rest.extends after))
  each_next u s ss z v target same m rest (suc n) t e book hows after =
      let long : length z.hows.items ≡ suc (length u.hows.items) = ap (λ (l : List How). length l) m.hows ∙ long_push u.hows.items m.how in
      let next = m.next in
      let at : length z.hows.items + n ≡ length u.hows.items + suc n = omega arith in
      let before : z.before + n ≡ u.before + suc n = omega arith in
      let P : ℕ × ℕ → Type 0 = λ q. Stood t q.0 q.1 book hows in
      subst P (λ i. (at i, before i)) (rest.each n t e book hows after)

  pub moved : (u : Unrolling) (ss : List Instance) (v : Unrolling) → written_by u ≡ is_target nest → u.values ≡ x → Leads IsMove u ss v → Moved u ss v
  moved u [] v target same leads = subst (λ (z : Unrolling). Moved u [] z) leads (record {
    actions = sym (append-nil u.actions.items);
    extends = extends_same u;
    values = refl;
    room = refl;
    each = λ n s e. absurd (none_is_some s e);
  })
  moved u (s ∷ ss) v target same leads =
      let z : Unrolling = leads.0 in
      let m : IsMove u s z = leads.1 in
      let written : written_by z ≡ written_by u = ap flagged m.written in
      let rest : Moved z ss v = moved z ss v (written ∙ target) (m.values ∙ same) leads.2 in
      let long : length z.hows.items ≡ suc (length u.hows.items) = ap (λ (l : List How). length l) m.hows ∙ long_push u.hows.items m.how in
      record {
        actions = rest.actions
            ∙ ((λ i. m.actions i ++ planned (is_target nest) (long i) ss)
            ∙ ((λ i. (u.actions.items ++ actions_of (target i) (length u.hows.items) s) ++ planned (is_target nest) (suc (length u.hows.items)) ss)
            ∙ append_assoc u.actions.items (actions_of (is_target nest) (length u.hows.items) s) (planned (is_target nest) (suc (length u.hows.items)) ss)));
        extends = extends_more u z v.book v.hows.items (move_extends u s z m) rest.extends;
        values = rest.values ∙ m.values;
        room = rest.room ∙ m.room;
        each = each_next u s ss z v target same m rest;
      }
