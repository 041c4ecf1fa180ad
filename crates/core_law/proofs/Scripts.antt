-- Where the actions of the scripts stand.
use Rattle.std.proofs.Common.{◌≡◌, ◌⊎◌, ℕ, zero, suc, ◌+◌, ◌<◌, ◌≤◌, Bool, true, false, List, [], ◌∷◌, ◌++◌, length, get_or, map, take, Option, Some, None, sym, refl, ap, ◌∙◌, subst, inl, inr, ⊎_elim, arith, append_assoc}
use Rattle.std.proofs.lemmas.List.{length-append, length-map, length-take, append-nil}
use Rattle.std.proofs.lemmas.Option.{slice_get-get_or}
use Rattle.std.specs.List.{flat_map}
use Rattle.std.specs.Prelude.{ℤ, slice_get}
use Rattle.wave_base.specs.declared.types.RowId.{RowId}
use Rattle.wave_base.specs.declared.types.Cell.{Cell}
use Rattle.sched_types.specs.declared.lists.Wait.{Wait}
use Rattle.sched_types.specs.declared.sched.Task.{Task}
use Rattle.core_law.specs.Works.{Instance, Work}
use Rattle.core_law.specs.Numbers.{first, nothing}
use Rattle.core_law.specs.Sequential.{kept, word_before, after, read_before}
use Rattle.core_law.specs.Scripts.{Action, look, read, write, finish, write_of, actions, numbered, beginning, begun, row_actions, looks, task_actions}
use Rattle.core_law.specs.Standing.{finishes}
use Rattle.core_law.proofs.Laid.{recalled, IsOf}
use Rattle.core_law.proofs.Kept.{finishes_append, recalled_append}
use Rattle.core_cells.proofs.Places.{none_is_some, some_same, at_left, at_right, at_append, take_next, take_left, take_right, of_map}
use Rattle.core_law.proofs.Numbers.{instance_is, first_opens, later_opens_not}

-- no finish inside a row

reads_no_finish : (g : ℕ) (xs : List Cell) → finishes (map (read false g) xs) ≡ 0
reads_no_finish g [] = refl
reads_no_finish g (x ∷ xs) = reads_no_finish g xs

write_no_finish : (g : ℕ) (t : Option Cell) → finishes (write_of g t) ≡ 0
write_no_finish g None = refl
write_no_finish g (Some x) = refl

acts_no_finish : (g : ℕ) (s : Instance) → finishes (actions g s) ≡ 0
acts_no_finish g s = let a = finishes_append (map (read false g) s.reads) (write_of g s.target) in let b = reads_no_finish g s.reads in let c = write_no_finish g s.target in omega arith

numbered_no_finish : (g : ℕ) (ss : List Instance) → finishes (numbered g ss) ≡ 0
numbered_no_finish g [] = refl
numbered_no_finish g (s ∷ ss) = let a = finishes_append (actions g s) (numbered (suc g) ss) in let b = acts_no_finish g s in let c = numbered_no_finish (suc g) ss in omega arith

begun_finishes : (xs : List Action) → finishes (begun xs) ≡ finishes xs
begun_finishes [] = refl
begun_finishes (look f n ∷ xs) = refl
begun_finishes (read b g x ∷ xs) = refl
begun_finishes (write b g x ∷ xs) = refl
begun_finishes (finish ∷ xs) = refl

rows_no_finish : (w : Work) (rs : List RowId) → finishes (flat_map (row_actions w) rs) ≡ 0
rows_no_finish w [] = refl
rows_no_finish w (r ∷ rs) = let a = finishes_append (row_actions w r) (flat_map (row_actions w) rs) in let b = numbered_no_finish (first w r.0) (get_or w.rows r.0 []) in
    let d = begun_finishes (numbered (first w r.0) (get_or w.rows r.0 [])) in let c = rows_no_finish w rs in omega arith

looks_no_finish : (ws : List Wait) → finishes (map (λ (wait : Wait). look wait.worker wait.count) ws) ≡ 0
looks_no_finish [] = refl
looks_no_finish (x ∷ ws) = looks_no_finish ws

pub task_finish : (w : Work) (t : Task) → finishes (task_actions w t) ≡ 1
task_finish w t = let a = finishes_append (looks t) (flat_map (row_actions w) t.rows ++ finish ∷ []) in let b = finishes_append (flat_map (row_actions w) t.rows) (finish ∷ []) in
    let c = looks_no_finish t.waits in let d = rows_no_finish w t.rows in omega arith

pub tasks_finish : (w : Work) (ts : List Task) → finishes (flat_map (task_actions w) ts) ≡ length ts
tasks_finish w [] = refl
tasks_finish w (t ∷ ts) = let a = finishes_append (task_actions w t) (flat_map (task_actions w) ts) in let b = task_finish w t in let c = tasks_finish w ts in omega arith

take_finish : (xs : List Action) (o : ℕ) → finishes (take o xs) ≤ finishes xs
take_finish xs zero = omega arith
take_finish [] (suc o) = omega arith
take_finish (finish ∷ xs) (suc o) = let h = take_finish xs o in omega arith
take_finish (look f n ∷ xs) (suc o) = take_finish xs o
take_finish (read b g x ∷ xs) (suc o) = take_finish xs o
take_finish (write b g x ∷ xs) (suc o) = take_finish xs o

-- before its last action a task isn't finished
pub inside_no_finish : (w : Work) (t : Task) (o : ℕ) → o < length (task_actions w t) → finishes (take o (task_actions w t)) ≡ 0
inside_no_finish w t o l =
    let body : List Action = flat_map (row_actions w) t.rows in let n = length-append (looks t) (body ++ finish ∷ []) in let m = length-append body (finish ∷ []) in let k = length-append (looks t) body in
    let e : take o (task_actions w t) ≡ take o (looks t ++ body) = ap (take o) (sym (append_assoc (looks t) body (finish ∷ []))) ∙ take_left (looks t ++ body) (finish ∷ []) o (omega arith) in
    let f = ap finishes e in let a = take_finish (looks t ++ body) o in let b = finishes_append (looks t) body in let c = looks_no_finish t.waits in let d = rows_no_finish w t.rows in omega arith

-- no registers outside of tasks

pub looks_recalled : (w : Work) (ws : List Wait) (o : ℕ) (rs : List ℤ) → recalled w (take o (map (λ (wait : Wait). look wait.worker wait.count) ws)) rs ≡ rs
looks_recalled w [] zero rs = refl
looks_recalled w [] (suc o) rs = refl
looks_recalled w (x ∷ ws) zero rs = refl
looks_recalled w (x ∷ ws) (suc o) rs = looks_recalled w ws o rs

task_recalled : (w : Work) (t : Task) (rs : List ℤ) → recalled w (task_actions w t) rs ≡ []
task_recalled w t rs = recalled_append w (looks t) (flat_map (row_actions w) t.rows ++ finish ∷ []) rs ∙ recalled_append w (flat_map (row_actions w) t.rows) (finish ∷ []) (recalled w (looks t) rs)

pub tasks_recalled : (w : Work) (ts : List Task) → recalled w (flat_map (task_actions w) ts) [] ≡ []
tasks_recalled w [] = refl
tasks_recalled w (t ∷ ts) = recalled_append w (task_actions w t) (flat_map (task_actions w) ts) [] ∙ (ap (recalled w (flat_map (task_actions w) ts)) (task_recalled w t []) ∙ tasks_recalled w ts)

-- one instance

abbrev pub offset : ℕ → List Instance → ℕ → ℕ
offset g ss j = length (numbered g (take j ss))

-- at a read or at the write
abbrev pub Part : ℕ → Instance → ℕ → Action → Type 0
Part g s e a = ((x : Cell) × (slice_get s.reads e ≡ Some x) × (a ≡ read false g x)) ⊎ ((x : Cell) × (s.target ≡ Some x) × (a ≡ write false g x) × (e ≡ length s.reads))

pub part : (g : ℕ) (s : Instance) (e : ℕ) (a : Action) → slice_get (actions g s) e ≡ Some a → Part g s e a
part g s e a is = ⊎_elim
    (λ (l : slice_get (map (read false g) s.reads) e ≡ Some a). let t = of_map (read false g) s.reads e a l in inl (t.0, t.1, sym t.2))
    (λ t. let r = last s.target t.0 t.2 in inr (r.0, r.1, r.2, (let h = t.1 in let n = length-map s.reads (read false g) in let z = r.3 in omega arith)))
    (at_append (map (read false g) s.reads) (write_of g s.target) e a is)
  where
    last : (t : Option Cell) (o : ℕ) → slice_get (write_of g t) o ≡ Some a → (x : Cell) × (t ≡ Some x) × (a ≡ write false g x) × (o ≡ 0)
    last None o h = absurd (none_is_some a h)
    last (Some x) zero h = (x, refl, sym (some_same (write false g x) a h), refl)
    last (Some x) (suc o) h = absurd (none_is_some a h)

pub write_at : (g : ℕ) (s : Instance) (x : Cell) → s.target ≡ Some x → slice_get (actions g s) (length s.reads) ≡ Some (write false g x)
write_at g s x t = let n = length-map s.reads (read false g) in
    at_right (map (read false g) s.reads) (write_of g s.target) (length s.reads) 0 (write false g x) (omega arith) (ap (λ (o : Option Cell). slice_get (write_of g o) 0) t)

pub acts_long : (g : ℕ) (s : Instance) → length s.reads ≤ length (actions g s)
acts_long g s = let a = length-append (map (read false g) s.reads) (write_of g s.target) in let n = length-map s.reads (read false g) in omega arith

-- the first action of a row, and the others

abbrev pub unmarked : Action → Action
unmarked (look f n) = look f n
unmarked (read b g x) = read false g x
unmarked (write b g x) = write false g x
unmarked finish = finish

abbrev pub mark : Action → Bool
mark (look f n) = false
mark (read b g x) = b
mark (write b g x) = b
mark finish = false

abbrev pub IsPlain : Action → Type 0
IsPlain (look f n) = ⊥
IsPlain (read b g x) = b ≡ false
IsPlain (write b g x) = b ≡ false
IsPlain finish = ⊥

pub of_unmarked : (g : ℕ) (a : Action) → IsOf g a → IsOf g (unmarked a)
of_unmarked g (look f n) h = h
of_unmarked g (read b i x) h = h
of_unmarked g (write b i x) h = h
of_unmarked g finish h = h

pub unmarked_plain : (a : Action) → IsPlain a → unmarked a ≡ a
unmarked_plain (look f n) h = absurd h
unmarked_plain (read b g x) h = ap (λ (c : Bool). read c g x) (sym h)
unmarked_plain (write b g x) h = ap (λ (c : Bool). write c g x) (sym h)
unmarked_plain finish h = absurd h

unmarked_beginning : (a : Action) → unmarked (beginning a) ≡ unmarked a
unmarked_beginning (look f n) = refl
unmarked_beginning (read b g x) = refl
unmarked_beginning (write b g x) = refl
unmarked_beginning finish = refl

mark_plain : (a : Action) → IsPlain a → mark a ≡ false
mark_plain (look f n) h = absurd h
mark_plain (read b g x) h = h
mark_plain (write b g x) h = h
mark_plain finish h = absurd h

begun_here : (a : Action) → IsPlain a → mark (beginning a) ≡ true
begun_here (look f n) h = absurd h
begun_here (read b g x) h = refl
begun_here (write b g x) h = refl
begun_here finish h = absurd h

begun_clears : (w : Work) (a : Action) (more : List Action) (rs : List ℤ) → IsPlain a → recalled w (beginning a ∷ more) rs ≡ recalled w (a ∷ more) []
begun_clears w (look f n) more rs h = absurd h
begun_clears w (read b g x) more rs h = ap (λ (c : Bool). recalled w more (kept c [] ++ word_before w g x ∷ [])) (sym h)
begun_clears w (write b g x) more rs h = ap (λ (c : Bool). recalled w more (kept c [])) (sym h)
begun_clears w finish more rs h = absurd h

abbrev pub AllPlain : List Action → Type 0
AllPlain xs = (o : ℕ) (a : Action) → slice_get xs o ≡ Some a → IsPlain a

-- what stands in a row that is begun stands there unmarked before
pub of_begun : (xs : List Action) (o : ℕ) (a : Action) → AllPlain xs → slice_get (begun xs) o ≡ Some a → slice_get xs o ≡ Some (unmarked a)
of_begun [] o a plain is = absurd (none_is_some a is)
of_begun (y ∷ ys) zero a plain is = ap Some (sym (ap unmarked (sym (some_same (beginning y) a is)) ∙ (unmarked_beginning y ∙ unmarked_plain y (plain 0 y refl))))
of_begun (y ∷ ys) (suc o) a plain is = is ∙ ap Some (sym (unmarked_plain a (plain (suc o) a is)))

pub begun_write : (xs : List Action) (o g : ℕ) (c : Bool) (x : Cell) → slice_get xs o ≡ Some (write c g x) → (b : Bool) × (slice_get (begun xs) o ≡ Some (write b g x))
begun_write [] o g c x is = absurd (none_is_some (write c g x) is)
begun_write (y ∷ ys) zero g c x is = (true, ap Some (ap beginning (some_same y (write c g x) is)))
begun_write (y ∷ ys) (suc o) g c x is = (c, is)

-- the registers inside a row don't depend on those before it
pub begun_recalled : (w : Work) (xs : List Action) (o : ℕ) (a : Action) (rs : List ℤ) → AllPlain xs → slice_get (begun xs) o ≡ Some a → kept (mark a) (recalled w (take o (begun xs)) rs) ≡ recalled w (take o xs) []
begun_recalled w [] o a rs plain is = absurd (none_is_some a is)
begun_recalled w (y ∷ ys) zero a rs plain is = ap (λ (b : Bool). kept b rs) (ap mark (sym (some_same (beginning y) a is)) ∙ begun_here y (plain 0 y refl))
begun_recalled w (y ∷ ys) (suc o) a rs plain is = ap (λ (b : Bool). kept b (recalled w (beginning y ∷ take o ys) rs)) (mark_plain a (plain (suc o) a is)) ∙ begun_clears w y (take o ys) rs (plain 0 y refl)

-- the instances of a row

pub in_numbered : (g : ℕ) (ss : List Instance) (o : ℕ) (a : Action) → slice_get (numbered g ss) o ≡ Some a
    → (j : ℕ) × (e : ℕ) × (s : Instance) × (slice_get ss j ≡ Some s) × (slice_get (actions (g + j) s) e ≡ Some a) × (o ≡ offset g ss j + e)
in_numbered g [] o a is = absurd (none_is_some a is)
in_numbered g (s ∷ ss) o a is = ⊎_elim
    (λ (l : slice_get (actions g s) o ≡ Some a). let z : g ≡ g + 0 = omega arith in (0, o, s, refl, subst (λ (i : ℕ). slice_get (actions i s) o ≡ Some a) z l, omega arith))
    (λ t. let r = in_numbered (suc g) ss t.0 a t.2 in let n = length-append (actions g s) (numbered (suc g) (take r.0 ss)) in let u = t.1 in let v = r.5 in
    let z : suc g + r.0 ≡ g + suc r.0 = omega arith in
    (suc r.0, r.1, r.2, r.3, subst (λ (i : ℕ). slice_get (actions i r.2) r.1 ≡ Some a) z r.4, omega arith))
    (at_append (actions g s) (numbered (suc g) ss) o a is)

pub of_numbered : (g : ℕ) (ss : List Instance) (o j e : ℕ) (s : Instance) (a : Action) → slice_get ss j ≡ Some s → slice_get (actions (g + j) s) e ≡ Some a → o ≡ offset g ss j + e → slice_get (numbered g ss) o ≡ Some a
of_numbered g [] o j e s a is i at_o = absurd (none_is_some s is)
of_numbered g (q ∷ ss) o zero e s a is i at_o = let h : o ≡ e = omega arith in let z : g + 0 ≡ g = omega arith in
    at_left (actions g q) (numbered (suc g) ss) o a (subst (λ (p : ℕ × ℕ × Instance). slice_get (actions p.0 p.2) p.1 ≡ Some a) (λ d. (z d, sym h d, sym (some_same q s is) d)) i)
of_numbered g (q ∷ ss) o (suc j) e s a is i at_o = let n = length-append (actions g q) (numbered (suc g) (take j ss)) in let z : g + suc j ≡ suc g + j = omega arith in
    at_right (actions g q) (numbered (suc g) ss) o (offset (suc g) ss j + e) a (omega arith)
    (of_numbered (suc g) ss (offset (suc g) ss j + e) j e s a is (subst (λ (d : ℕ). slice_get (actions d s) e ≡ Some a) z i) refl)

pub take_numbered : (g : ℕ) (ss : List Instance) (o j e : ℕ) (s : Instance) → slice_get ss j ≡ Some s → e ≤ length s.reads → o ≡ offset g ss j + e → take o (numbered g ss) ≡ numbered g (take j ss) ++ take e (actions (g + j) s)
take_numbered g [] o j e s is l at_o = absurd (none_is_some s is)
take_numbered g (q ∷ ss) o zero e s is l at_o = let h : o ≡ e = omega arith in let z : g ≡ g + 0 = omega arith in let n = acts_long g q in let m = ap (λ (v : Instance). length v.reads) (some_same q s is) in
    ap (λ (i : ℕ). take i (actions g q ++ numbered (suc g) ss)) h ∙ (take_left (actions g q) (numbered (suc g) ss) e (omega arith) ∙ (λ d. take e (actions (z d) (some_same q s is d))))
take_numbered g (q ∷ ss) o (suc j) e s is l at_o = let n = length-append (actions g q) (numbered (suc g) (take j ss)) in let z : suc g + j ≡ g + suc j = omega arith in
    take_right (actions g q) (numbered (suc g) ss) o (offset (suc g) ss j + e) (omega arith)
    ∙ (ap (λ (l : List Action). actions g q ++ l) (take_numbered (suc g) ss (offset (suc g) ss j + e) j e s is l refl ∙ ap (λ (i : ℕ). numbered (suc g) (take j ss) ++ take e (actions i s)) z)
    ∙ sym (append_assoc (actions g q) (numbered (suc g) (take j ss)) (take e (actions (g + suc j) s))))

-- a later instance begins after all actions of an earlier one
pub offset_far : (g : ℕ) (ss : List Instance) (j l : ℕ) (s : Instance) → slice_get ss j ≡ Some s → j < l → offset g ss j + length (actions (g + j) s) ≤ offset g ss l
offset_far g [] j l s is lt = absurd (none_is_some s is)
offset_far g (q ∷ ss) j zero s is lt = absurd (omega arith)
offset_far g (q ∷ ss) zero (suc l) s is lt = let n = length-append (actions g q) (numbered (suc g) (take l ss)) in let z : g + 0 ≡ g = omega arith in
    let e : length (actions (g + 0) s) ≡ length (actions g q) = (λ d. length (actions (z d) (sym (some_same q s is) d))) in omega arith
offset_far g (q ∷ ss) (suc j) (suc l) s is lt = let n = length-append (actions g q) (numbered (suc g) (take l ss)) in let n' = length-append (actions g q) (numbered (suc g) (take j ss)) in
    let h = offset_far (suc g) ss j l s is (omega arith) in let z : g + suc j ≡ suc g + j = omega arith in let e = ap (λ (i : ℕ). length (actions i s)) z in omega arith

pub numbered_plain : (g : ℕ) (ss : List Instance) → AllPlain (numbered g ss)
numbered_plain g ss o a is = let t = in_numbered g ss o a is in ⊎_elim
    (λ r. subst IsPlain (sym r.2) refl)
    (λ r. subst IsPlain (sym r.2) refl)
    (part (g + t.0) t.2 t.1 a t.4)

-- what a row has read

pub reads_recalled : (w : Work) (g : ℕ) (xs : List Cell) (rs : List ℤ) → recalled w (map (read false g) xs) rs ≡ rs ++ map (word_before w g) xs
reads_recalled w g [] rs = sym (append-nil rs)
reads_recalled w g (x ∷ xs) rs = reads_recalled w g xs (rs ++ word_before w g x ∷ []) ∙ append_assoc rs (word_before w g x ∷ []) (map (word_before w g) xs)

write_recalled : (w : Work) (g : ℕ) (t : Option Cell) (rs : List ℤ) → recalled w (write_of g t) rs ≡ rs
write_recalled w g None rs = refl
write_recalled w g (Some x) rs = refl

acts_recalled : (w : Work) (g : ℕ) (s : Instance) (rs : List ℤ) → recalled w (actions g s) rs ≡ rs ++ map (word_before w g) s.reads
acts_recalled w g s rs = recalled_append w (map (read false g) s.reads) (write_of g s.target) rs
    ∙ (write_recalled w g s.target (recalled w (map (read false g) s.reads) rs) ∙ reads_recalled w g s.reads rs)

numbered_push : (g : ℕ) (xs : List Instance) (s : Instance) → numbered g (xs ++ s ∷ []) ≡ numbered g xs ++ actions (g + length xs) s
numbered_push g [] s = let z : g ≡ g + 0 = omega arith in append-nil (actions g s) ∙ ap (λ (i : ℕ). actions i s) z
numbered_push g (x ∷ xs) s = let z : suc g + length xs ≡ g + suc (length xs) = omega arith in
    ap (λ (l : List Action). actions g x ++ l) (numbered_push (suc g) xs s ∙ ap (λ (i : ℕ). numbered (suc g) xs ++ actions i s) z)
    ∙ sym (append_assoc (actions g x) (numbered (suc g) xs) (actions (g + suc (length xs)) s))

-- before the j-th instance of its row the registers are those of the sequential run
pub row_recalled : (w : Work) (i j : ℕ) → i < length w.rows → j < length (get_or w.rows i []) → recalled w (numbered (first w i) (take j (get_or w.rows i []))) [] ≡ read_before w (first w i + j)
row_recalled w i zero a b = sym (ap (λ (o : Bool). kept o (after w (first w i + 0)).registers) (first_opens w i a b))
row_recalled w i (suc j) a b =
    let ss : List Instance = get_or w.rows i [] in let g : ℕ = first w i in let s : Instance = get_or ss j nothing in let b' : j < length ss = omega arith in
    let e : take (suc j) ss ≡ take j ss ++ s ∷ [] = take_next ss j s (slice_get-get_or ss j nothing b') in
    let n : g + length (take j ss) ≡ g + j = (let t = length-take j ss in omega arith) in
    let m : suc (g + j) ≡ g + suc j = omega arith in
    ap (λ (l : List Instance). recalled w (numbered g l) []) e
    ∙ (ap (λ (l : List Action). recalled w l []) (numbered_push g (take j ss) s ∙ ap (λ (h : ℕ). numbered g (take j ss) ++ actions h s) n)
    ∙ (recalled_append w (numbered g (take j ss)) (actions (g + j) s) []
    ∙ (ap (recalled w (actions (g + j) s)) (row_recalled w i j a b')
    ∙ (acts_recalled w (g + j) s (read_before w (g + j))
    ∙ (ap (λ (v : Instance). read_before w (g + j) ++ map (word_before w (g + j)) v.reads) (sym (instance_is w i j a b'))
    ∙ (ap (λ (h : ℕ). (after w h).registers) m
    ∙ sym (ap (λ (o : Bool). kept o (after w (g + suc j)).registers) (later_opens_not w i j a b))))))))
