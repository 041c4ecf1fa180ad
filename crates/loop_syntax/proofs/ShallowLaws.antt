-- Loops of a text that passes no limit stand at most five deep inside the outer one.
use Rattle.std.proofs.Common.{◌≡◌, ℕ, ◌+◌, ◌≤◌, Bool, true, false, List, [], ◌∷◌, ◌++◌, length, map, refl, sym, ap, subst, ◌∙◌, append_assoc, arith}
use Rattle.loop_core.specs.declared.nest.Item.{Item}
use Rattle.loop_core.specs.declared.nest.Item.TheOpen.{Item-F}
use Rattle.loop_core.specs.declared.nest.Item.TheViews.{roll-Item}
use Rattle.loop_core.specs.declared.nest.Item.TheFolds.{ind-Item, fold-roll-Item, map-Item}
use Rattle.loop_core.specs.declared.nest.Nest.{Nest}
use Rattle.loop_core.specs.Depth.{greatest, depth_step, depth, body_depth}
use Rattle.loop_lines.specs.declared.line.Line.{Line}
use Rattle.loop_lines.specs.declared.line.Line.TheVariants as lines
use Rattle.loop_syntax.specs.declared.numbered.Numbered.{Numbered}
use Rattle.loop_syntax.specs.declared.items.Head.TheVariants as heads
use Rattle.loop_lines.specs.declared.block.Block.{Block}
use Rattle.loop_lines.specs.declared.block.Block.TheVariants.{Repeated, Guarded}
use Rattle.loop_syntax.specs.Scope.{Scope, empty, variables, outer_blocks, scope_behind}
use Rattle.loop_syntax.specs.Resolved.{mark}
use Rattle.loop_syntax.specs.Nesting.{Mark, Opens, Sets, Keeps, Ends, joined, marks_step, item_marks, marks}
use Rattle.loop_syntax.specs.Stages.{Above, Within, AreNested, AreFew}
use Rattle.loop_syntax.specs.TextNest.{gathered, IsNestOf}

-- whether each of the open blocks is a loop, the innermost first
abbrev loops : List Bool → ℕ
loops [] = 0
loops (true ∷ bs) = loops bs + 1
loops (false ∷ bs) = loops bs

-- lines never open a sixth loop
abbrev Shallow : List Bool → List Mark → Type 0
Shallow bs [] = Unit {0}
Shallow bs (Opens line (heads.For name lo hi) ∷ ms) = (loops bs + 1 ≤ 5) × Shallow (true ∷ bs) ms
Shallow bs (Opens line (heads.When rel left right) ∷ ms) = Shallow (false ∷ bs) ms
Shallow bs (Sets line array at value ∷ ms) = Shallow bs ms
Shallow bs (Keeps line local value ∷ ms) = Shallow bs ms
Shallow [] (Ends ∷ ms) = Unit {0}
Shallow (b ∷ bs) (Ends ∷ ms) = Shallow bs ms

-- ---- items whose lines are so

abbrev IsShallow : Item → Type 0
IsShallow item = (bs : List Bool) (rest : List Mark) → loops bs ≤ 5 → Shallow bs (item_marks item ++ rest) → (depth item + loops bs ≤ 5) × Shallow bs rest

abbrev ShallowItem : Type 0
ShallowItem = (item : Item) × IsShallow item

items_shallow : (es : List ShallowItem) (bs : List Bool) (rest : List Mark) → loops bs ≤ 5 → Shallow bs (joined (map item_marks (map (λ e. e.0) es)) ++ rest)
    → (greatest (map depth (map (λ e. e.0) es)) + loops bs ≤ 5) × Shallow bs rest
items_shallow [] bs rest few h = (omega (arith, few), h)
items_shallow (e ∷ es) bs rest few h =
    let more = joined (map item_marks (map (λ x. x.0) es)) in
    let first = e.1 bs (more ++ rest) few (subst (Shallow bs) (append_assoc (item_marks e.0) more rest) h) in
    let others = items_shallow es bs rest few first.1 in
    (omega (arith, first.0, others.0), others.1)

for_shallow : (line : ℕ) (name : List ℕ) (es : List ShallowItem) (bs : List Bool) (rest : List Mark) → loops bs + 1 ≤ 5
    → Shallow (true ∷ bs) ((joined (map item_marks (map (λ e. e.0) es)) ++ Ends ∷ []) ++ rest) → (greatest (map depth (map (λ e. e.0) es)) + 1 + loops bs ≤ 5) × Shallow bs rest
for_shallow line name es bs rest few h =
    let inner = joined (map item_marks (map (λ e. e.0) es)) in
    let b = items_shallow es (true ∷ bs) (Ends ∷ rest) few (subst (Shallow (true ∷ bs)) (append_assoc inner (Ends ∷ []) rest) h) in
    (omega (arith, b.0), b.1)

when_shallow : (es : List ShallowItem) (bs : List Bool) (rest : List Mark) → loops bs ≤ 5
    → Shallow (false ∷ bs) ((joined (map item_marks (map (λ e. e.0) es)) ++ Ends ∷ []) ++ rest) → (greatest (map depth (map (λ e. e.0) es)) + loops bs ≤ 5) × Shallow bs rest
when_shallow es bs rest few h =
    let inner = joined (map item_marks (map (λ e. e.0) es)) in
    items_shallow es (false ∷ bs) (Ends ∷ rest) few (subst (Shallow (false ∷ bs)) (append_assoc inner (Ends ∷ []) rest) h)

item_case : (y : Item-F ShallowItem) → IsShallow (roll-Item (map-Item ShallowItem Item (λ e. e.0) y))
item_case (Item-F.For line name lo hi body) bs rest few h =
    let x = Item-F.For line name lo hi (map (λ e. e.0) body) in
    let g = subst (λ (l : List Mark). Shallow bs (l ++ rest)) (fold-roll-Item (List Mark) marks_step x) h in
    let r = for_shallow line name body bs rest g.0 g.1 in
    (subst (λ (d : ℕ). d + loops bs ≤ 5) (sym (fold-roll-Item ℕ depth_step x)) r.0, r.1)
item_case (Item-F.When line rel left right body) bs rest few h =
    let x = Item-F.When line rel left right (map (λ e. e.0) body) in
    let g = subst (λ (l : List Mark). Shallow bs (l ++ rest)) (fold-roll-Item (List Mark) marks_step x) h in
    let r = when_shallow body bs rest few g in
    (subst (λ (d : ℕ). d + loops bs ≤ 5) (sym (fold-roll-Item ℕ depth_step x)) r.0, r.1)
item_case (Item-F.Set line array at value) bs rest few h =
    let x : Item-F Item = Item-F.Set line array at value in
    let g = subst (λ (l : List Mark). Shallow bs (l ++ rest)) (fold-roll-Item (List Mark) marks_step x) h in
    (subst (λ (d : ℕ). d + loops bs ≤ 5) (sym (fold-roll-Item ℕ depth_step x)) (omega (arith, few)), g)
item_case (Item-F.Keep line local value) bs rest few h =
    let x : Item-F Item = Item-F.Keep line local value in
    let g = subst (λ (l : List Mark). Shallow bs (l ++ rest)) (fold-roll-Item (List Mark) marks_step x) h in
    (subst (λ (d : ℕ). d + loops bs ≤ 5) (sym (fold-roll-Item ℕ depth_step x)) (omega (arith, few)), g)

item_shallow : (item : Item) → IsShallow item
item_shallow = ind-Item IsShallow (λ x y is. subst (λ z. IsShallow (roll-Item z)) is (item_case y))

body_shallow : (items : List Item) (bs : List Bool) (rest : List Mark) → loops bs ≤ 5 → Shallow bs (marks items ++ rest) → body_depth items + loops bs ≤ 5
body_shallow [] bs rest few h = omega (arith, few)
body_shallow (i ∷ is) bs rest few h =
    let first = item_shallow i bs (marks is ++ rest) few (subst (Shallow bs) (append_assoc (item_marks i) (marks is) rest) h) in
    let others = body_shallow is bs rest few first.1 in
    omega (arith, first.0, others)

-- ---- the lines of a text

abbrev kinds : List Block → List Bool
kinds [] = []
kinds (Repeated line name ∷ bs) = true ∷ kinds bs
kinds (Guarded ∷ bs) = false ∷ kinds bs

loops_of : (bs : List Block) → length (variables bs) ≡ loops (kinds bs)
loops_of [] = refl
loops_of (Repeated line name ∷ bs) = omega (arith, loops_of bs)
loops_of (Guarded ∷ bs) = loops_of bs

loops_last : (bs : List Bool) → loops (bs ++ true ∷ []) ≡ loops bs + 1
loops_last [] = omega arith
loops_last (true ∷ bs) = omega (arith, loops_last bs)
loops_last (false ∷ bs) = loops_last bs

abbrev tail : List Bool → List Bool
tail [] = []
tail (b ∷ bs) = bs

kinds_outer : (bs : List Block) → kinds (outer_blocks bs) ≡ tail (kinds bs)
kinds_outer [] = refl
kinds_outer (Repeated line name ∷ bs) = refl
kinds_outer (Guarded ∷ bs) = refl

abbrev gives_mark : Scope → Numbered → List Mark
gives_mark s l = mark s l.number l.line

abbrev given : Scope → List Numbered → List Mark
given s ls = gathered gives_mark s ls

-- inside the loop, with these blocks open in it
abbrev IsInside : Scope → List Bool → Type 0
IsInside s bs = kinds s.blocks ≡ bs ++ true ∷ []

deeper : (s : Scope) (bs : List Bool) → IsInside s bs → length (variables s.blocks) + 1 ≤ 6 → loops bs + 1 ≤ 5
deeper s bs is few = omega (arith, few, loops_of s.blocks ∙ ap loops is ∙ loops_last bs)

abbrev Goal : List Bool → Scope → List Numbered → Type 0
Goal bs s ls = AreNested (Within (length bs)) ls → AreFew s ls → IsInside s bs → Shallow bs (given s ls)

moved_to : (n m : ℕ) (ls : List Numbered) → n ≡ m → AreNested (Within n) ls → AreNested (Within m) ls
moved_to n m ls is h = subst (λ (k : ℕ). AreNested (Within k) ls) is h

inside : (bs : List Bool) (s : Scope) (n : ℕ) (l : Line) (ls : List Numbered) → ((cs : List Bool) (t : Scope) → Goal cs t ls)
    → AreNested (Within (length bs)) (record { number = n; line = l } ∷ ls) → AreFew s (record { number = n; line = l } ∷ ls) → IsInside s bs → Shallow bs (given s (record { number = n; line = l } ∷ ls))
inside bs s n (lines.Matrix name form) ls more nested few is = absurd cc
inside bs s n (lines.Index name size) ls more nested few is = absurd cc
inside bs s n (lines.Vector name size source) ls more nested few is = absurd cc
inside bs s n (lines.Local name) ls more nested few is = absurd cc
inside bs s n (lines.Prop prop) ls more nested few is = absurd cc
inside bs s n (lines.Loop name) ls more nested few is = absurd cc
inside bs s n (lines.For name lo hi) ls more nested few is =
    (deeper s bs is (omega (arith, few.3)), more (true ∷ bs) (scope_behind s n (lines.For name lo hi)) (moved_to (length bs + 1) (length (true ∷ bs)) ls (omega arith) nested) few.4 (ap (λ (l : List Bool). true ∷ l) is))
inside bs s n (lines.When rel left right) ls more nested few is =
    more (false ∷ bs) (scope_behind s n (lines.When rel left right)) (moved_to (length bs + 1) (length (false ∷ bs)) ls (omega arith) nested) few.4 (ap (λ (l : List Bool). false ∷ l) is)
inside bs s n (lines.Set array at value) ls more nested few is = more bs s nested few.4 is
inside bs s n (lines.Keep name value) ls more nested few is = more bs s nested few.4 is
inside [] s n lines.End ls more nested few is = tt
inside (b ∷ bs) s n lines.End ls more nested few is = more bs (scope_behind s n lines.End) nested few.4 (kinds_outer s.blocks ∙ ap tail is)

all_inside : (ls : List Numbered) (bs : List Bool) (s : Scope) → Goal bs s ls
all_inside [] bs s nested few is = tt
all_inside (l ∷ ls) bs s nested few is = inside bs s l.number l.line ls (all_inside ls) nested few is

above : (s : Scope) (n : ℕ) (l : Line) (ls : List Numbered) → ((t : Scope) → AreNested Above ls → AreFew t ls → t.blocks ≡ [] → Shallow [] (given t ls))
    → AreNested Above (record { number = n; line = l } ∷ ls) → AreFew s (record { number = n; line = l } ∷ ls) → s.blocks ≡ [] → Shallow [] (given s (record { number = n; line = l } ∷ ls))
above s n (lines.Matrix name form) ls more nested few is = more (scope_behind s n (lines.Matrix name form)) nested few.4 is
above s n (lines.Index name size) ls more nested few is = more (scope_behind s n (lines.Index name size)) nested few.4 is
above s n (lines.Vector name size source) ls more nested few is = more (scope_behind s n (lines.Vector name size source)) nested few.4 is
above s n (lines.Local name) ls more nested few is = more (scope_behind s n (lines.Local name)) nested few.4 is
above s n (lines.Prop prop) ls more nested few is = more s nested few.4 is
above s n (lines.Loop name) ls more nested few is = all_inside ls [] (scope_behind s n (lines.Loop name)) nested few.4 (ap (λ (bs : List Block). true ∷ kinds bs) is)
above s n (lines.For name lo hi) ls more nested few is = absurd cc
above s n (lines.When rel left right) ls more nested few is = absurd cc
above s n (lines.Set array at value) ls more nested few is = absurd cc
above s n (lines.Keep name value) ls more nested few is = absurd cc
above s n lines.End ls more nested few is = absurd cc

all_above : (ls : List Numbered) (s : Scope) → AreNested Above ls → AreFew s ls → s.blocks ≡ [] → Shallow [] (given s ls)
all_above [] s nested few is = tt
all_above (l ∷ ls) s nested few is = above s l.number l.line ls (all_above ls) nested few is

pub shallow : (ls : List Numbered) (nest : Nest) → AreNested Above ls → AreFew empty ls → IsNestOf ls nest → body_depth nest.body ≤ 5
shallow ls nest nested few of_text =
    let h : Shallow [] (marks nest.body ++ Ends ∷ []) = subst (Shallow []) (sym of_text.body) (all_above ls empty nested few refl) in
    omega (arith, body_shallow nest.body [] (Ends ∷ []) (omega arith) h)
