-- Actions that match, joined and by their places.
use Rattle.std.proofs.Common.{◌≡◌, ℕ, zero, suc, ◌+◌, false, Some, None, Option, List, [], ◌∷◌, ◌++◌, map, refl, subst, arith}
use Rattle.std.specs.Prelude.{ℤ, slice_get}
use Rattle.loop_core.specs.declared.nest.Nest.{Nest}
use Rattle.loop_core.specs.declared.place.Place.{Place}
use Rattle.loop_core.specs.declared.effect.Effect.{Effect}
use Rattle.loop_core.specs.declared.effect.Effect.TheVariants.{Sets, Keeps}
use Rattle.loop_core.specs.Shape.{is_target}
use Rattle.loop_core.specs.Instances.{Instance}
use Rattle.loop_core.specs.Registers.{shared_reads}
use Rattle.sched_types.specs.declared.lists.Wait.{Wait}
use Rattle.core_law.specs.Works.{Work}
use Rattle.core_law.specs.Scripts as law
use Rattle.core_law.specs.Scripts.{Action as LawAction, look, read}
use Rattle.core_rows.specs.Deeds.{Deed}
use Rattle.core_rows.specs.Replay.{target_of, instances_after, instance_of}
use Rattle.core_nest.specs.Nested.{cell_of, effect_of, deed_of}
use Rattle.core_book.specs.declared.book.Book.{Book}
use Rattle.core_book.specs.declared.book.How.{How}
use Rattle.core_run.specs.declared.action.Action.{Action}
use Rattle.core_run.specs.Links.{Does, at_end, at_look, at_read, at_write, at_finish, IsWorked}
use Rattle.core_unroll.specs.Plans.{look_of, read_of, write_of, actions_of, planned, beginning, begun}
use Rattle.core_unroll.specs.Advances.{Match}

abbrev law_beginning : Option LawAction → Option LawAction
law_beginning None = None
law_beginning (Some a) = Some (law.beginning a)

abbrev code_beginning : Option Action → Option Action
code_beginning None = None
code_beginning (Some a) = Some (beginning a)

module _ (w : Work) (book : Book) (hows : List How) where
  pub match_append : (xs ys : List LawAction) (bs cs : List Action) → Match w book hows xs bs → Match w book hows ys cs → Match w book hows (xs ++ ys) (bs ++ cs)
  match_append [] ys [] cs m n = n
  match_append [] ys (b ∷ bs) cs m n = absurd m
  match_append (x ∷ xs) ys [] cs m n = absurd m
  match_append (x ∷ xs) ys (b ∷ bs) cs m n = (m.0, match_append xs ys bs cs m.1 n)

  pub match_at : (xs : List LawAction) (bs : List Action) → Match w book hows xs bs → (p : ℕ) → Does w book hows (slice_get xs p) (slice_get bs p)
  match_at [] [] m p = at_end
  match_at [] (b ∷ bs) m p = absurd m
  match_at (x ∷ xs) [] m p = absurd m
  match_at (x ∷ xs) (b ∷ bs) m zero = m.0
  match_at (x ∷ xs) (b ∷ bs) m (suc p) = match_at xs bs m.1 p

  begins : (a : Option LawAction) (o : Option Action) → Does w book hows a o → Does w book hows (law_beginning a) (code_beginning o)
  begins a o at_end = at_end
  begins a o at_look = at_look
  begins a o at_read = at_read
  begins a o (at_write same) = at_write same
  begins a o at_finish = at_finish

  pub match_begun : (xs : List LawAction) (bs : List Action) → Match w book hows xs bs → Match w book hows (law.begun xs) (begun bs)
  match_begun [] [] m = tt
  match_begun [] (b ∷ bs) m = absurd m
  match_begun (x ∷ xs) [] m = absurd m
  match_begun (x ∷ xs) (b ∷ bs) m = (begins (Some x) (Some b) m.0, m.1)

  pub match_looks : (waits : List Wait) → Match w book hows (map (λ (wait : Wait). look wait.worker wait.count) waits) (map look_of waits)
  match_looks [] = tt
  match_looks (wait ∷ waits) = (at_look, match_looks waits)

  -- the actions of a row's instances
  module _ (nest : Nest) (x : List (List ℤ)) where
    match_reads : (g : ℕ) (ps : List Place) → Match w book hows (map (read false g) (map cell_of ps)) (map read_of ps)
    match_reads g [] = tt
    match_reads g (p ∷ ps) = (at_read, match_reads g ps)

    match_write : (g at : ℕ) (e : Effect) → IsWorked w book hows g at → Match w book hows (law.write_of g (target_of (effect_of e))) (write_of at e)
    match_write g at (Sets p) is = (at_write is, tt)
    match_write g at (Keeps local) is = tt

    pub match_planned : (ss : List Instance) (earlier : List Deed) (g at : ℕ) → ((n : ℕ) (s : Instance) → slice_get ss n ≡ Some s → IsWorked w book hows (g + n) (at + n))
        → Match w book hows (law.numbered g (instances_after 16 earlier (map (deed_of nest x) ss))) (planned (is_target nest) at ss)
    match_planned [] earlier g at h = tt
    match_planned (s ∷ ss) earlier g at h =
        let g0 : g + 0 ≡ g = omega arith in
        let at0 : at + 0 ≡ at = omega arith in
        let here : IsWorked w book hows g at = (let P : ℕ × ℕ → Type 0 = λ q. IsWorked w book hows q.0 q.1 in subst P (λ i. (g0 i, at0 i)) (h 0 s refl)) in
        let reads : List Place = shared_reads nest s.value in
        match_append (law.actions g (instance_of 16 earlier (deed_of nest x s))) (law.numbered (suc g) (instances_after 16 (earlier ++ deed_of nest x s ∷ []) (map (deed_of nest x) ss)))
        (actions_of (is_target nest) at s) (planned (is_target nest) (suc at) ss)
        (match_append (map (read false g) (map cell_of reads)) (law.write_of g (target_of (effect_of s.effect))) (map read_of reads) (write_of at s.effect) (match_reads g reads) (match_write g at s.effect here))
        (match_planned ss (earlier ++ deed_of nest x s ∷ []) (suc g) (suc at)
        (λ n t e. let gn : g + suc n ≡ suc g + n = omega arith in let an : at + suc n ≡ suc at + n = omega arith in
        (let P : ℕ × ℕ → Type 0 = λ q. IsWorked w book hows q.0 q.1 in subst P (λ i. (gn i, an i)) (h (suc n) t e))))
