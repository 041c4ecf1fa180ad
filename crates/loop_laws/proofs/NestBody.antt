-- The lines of a nest's body are those that its text has in the loop, with the same loops round them.
use Rattle.std.proofs.Common.{◌≡◌, ℕ, ◌+◌, ◌≤◌, ◌<◌, nat_lt, IsTrue, List, [], ◌∷◌, ◌++◌, map, refl, sym, ap, subst, ◌∙◌, append_assoc, arith}
use Rattle.std.proofs.lemmas.List.{append-nil}
use Rattle.std.proofs.lemmas.Bool.Decides.{nat_tests}
use Rattle.loop_core.specs.declared.nest.Item.{Item}
use Rattle.loop_core.specs.declared.nest.Item.TheOpen.{Item-F}
use Rattle.loop_core.specs.declared.nest.Item.TheViews.{roll-Item}
use Rattle.loop_core.specs.declared.nest.Item.TheFolds.{ind-Item, fold-roll-Item, map-Item}
use Rattle.loop_core.specs.declared.nest.Nest.{Nest}
use Rattle.loop_core.specs.IsNest.{rises_from}
use Rattle.loop_core.specs.Shape as shape
use Rattle.loop_core.specs.Shape.{Loop, Line as BodyLine, lines_of_all, lines_step, item_lines, body_lines}
use Rattle.loop_lines.specs.declared.line.Line.{Line}
use Rattle.loop_lines.specs.declared.line.Line.TheVariants as lines
use Rattle.loop_syntax.specs.declared.items.Head.TheVariants as heads
use Rattle.loop_syntax.specs.declared.numbered.Numbered.{Numbered}
use Rattle.loop_lines.specs.declared.block.Block.{Block}
use Rattle.loop_lines.specs.declared.block.Block.TheVariants.{Repeated, Guarded}
use Rattle.loop_syntax.specs.Numbered.{numbered}
use Rattle.loop_syntax.specs.Scope.{Scope, empty, outer_blocks, scope_behind, scope_after}
use Rattle.loop_syntax.specs.Resolved.{mark, outer}
use Rattle.loop_syntax.specs.Nesting.{Mark, Opens, Sets, Keeps, Ends, joined, marks_step, item_marks, marks}
use Rattle.loop_syntax.specs.Stages.{Above, AreNested}
use Rattle.loop_syntax.specs.TextNest.{gathered, IsNestOf, IsRead}
use Rattle.loop_lines.proofs.Bools.{and_both}
use Rattle.loop_syntax.proofs.FewLaws.{Rise, rises}
use Rattle.loop_syntax.proofs.ReadLaws.{fits}
use Rattle.loop_laws.proofs.NestForms.{loops_of, body_line, text_body}

-- the body's lines that marks are, with blocks open round them
abbrev lines_in : List Block → List Mark → List BodyLine
lines_in bs [] = []
lines_in bs (Opens line (heads.For name lo hi) ∷ ms) =
    record { number = line; around = loops_of bs; form = shape.Repeats name lo hi } ∷ lines_in (Repeated line name ∷ bs) ms
lines_in bs (Opens line (heads.When rel left right) ∷ ms) =
    record { number = line; around = loops_of bs; form = shape.Guards left right } ∷ lines_in (Guarded ∷ bs) ms
lines_in bs (Sets line array at value ∷ ms) =
    record { number = line; around = loops_of bs; form = shape.Sets array at value } ∷ lines_in bs ms
lines_in bs (Keeps line local value ∷ ms) =
    record { number = line; around = loops_of bs; form = shape.Keeps local value } ∷ lines_in bs ms
lines_in bs (Ends ∷ ms) = lines_in (outer_blocks bs) ms

-- ---- items have the lines of their marks

abbrev HasLines : Item → Type 0
HasLines item = (bs : List Block) (rest : List Mark) → lines_in bs (item_marks item ++ rest) ≡ item_lines item (loops_of bs) ++ lines_in bs rest

abbrev LinedItem : Type 0
LinedItem = (item : Item) × HasLines item

abbrev marks_of : List LinedItem → List Mark
marks_of es = joined (map item_marks (map (λ e. e.0) es))

abbrev lines_of : List LinedItem → List Loop → List BodyLine
lines_of es around = lines_of_all (map item_lines (map (λ e. e.0) es)) around

items_lined : (es : List LinedItem) (bs : List Block) (rest : List Mark) → lines_in bs (marks_of es ++ rest) ≡ lines_of es (loops_of bs) ++ lines_in bs rest
items_lined [] bs rest = refl
items_lined (e ∷ es) bs rest =
    ap (lines_in bs) (append_assoc (item_marks e.0) (marks_of es) rest)
    ∙ e.1 bs (marks_of es ++ rest)
    ∙ ap (λ (l : List BodyLine). item_lines e.0 (loops_of bs) ++ l) (items_lined es bs rest)
    ∙ sym (append_assoc (item_lines e.0 (loops_of bs)) (lines_of es (loops_of bs)) (lines_in bs rest))

-- the items of a block, up to its end
block_lined : (b : Block) (es : List LinedItem) (bs : List Block) (rest : List Mark)
    → lines_in (b ∷ bs) ((marks_of es ++ Ends ∷ []) ++ rest) ≡ lines_of es (loops_of (b ∷ bs)) ++ lines_in bs rest
block_lined b es bs rest = ap (lines_in (b ∷ bs)) (append_assoc (marks_of es) (Ends ∷ []) rest) ∙ items_lined es (b ∷ bs) (Ends ∷ rest)

item_case : (y : Item-F LinedItem) → HasLines (roll-Item (map-Item LinedItem Item (λ e. e.0) y))
item_case (Item-F.For line name lo hi body) bs rest =
    let x = Item-F.For line name lo hi (map (λ e. e.0) body) in
    let first : BodyLine = record { number = line; around = loops_of bs; form = shape.Repeats name lo hi } in
    ap (λ (l : List Mark). lines_in bs (l ++ rest)) (fold-roll-Item (List Mark) marks_step x)
    ∙ ap (λ (l : List BodyLine). first ∷ l) (block_lined (Repeated line name) body bs rest)
    ∙ sym (ap (λ (f : List Loop → List BodyLine). f (loops_of bs) ++ lines_in bs rest) (fold-roll-Item (List Loop → List BodyLine) lines_step x))
item_case (Item-F.When line rel left right body) bs rest =
    let x = Item-F.When line rel left right (map (λ e. e.0) body) in
    let first : BodyLine = record { number = line; around = loops_of bs; form = shape.Guards left right } in
    ap (λ (l : List Mark). lines_in bs (l ++ rest)) (fold-roll-Item (List Mark) marks_step x)
    ∙ ap (λ (l : List BodyLine). first ∷ l) (block_lined Guarded body bs rest)
    ∙ sym (ap (λ (f : List Loop → List BodyLine). f (loops_of bs) ++ lines_in bs rest) (fold-roll-Item (List Loop → List BodyLine) lines_step x))
item_case (Item-F.Set line array at value) bs rest =
    let x : Item-F Item = Item-F.Set line array at value in
    ap (λ (l : List Mark). lines_in bs (l ++ rest)) (fold-roll-Item (List Mark) marks_step x)
    ∙ sym (ap (λ (f : List Loop → List BodyLine). f (loops_of bs) ++ lines_in bs rest) (fold-roll-Item (List Loop → List BodyLine) lines_step x))
item_case (Item-F.Keep line local value) bs rest =
    let x : Item-F Item = Item-F.Keep line local value in
    ap (λ (l : List Mark). lines_in bs (l ++ rest)) (fold-roll-Item (List Mark) marks_step x)
    ∙ sym (ap (λ (f : List Loop → List BodyLine). f (loops_of bs) ++ lines_in bs rest) (fold-roll-Item (List Loop → List BodyLine) lines_step x))

item_lined : (item : Item) → HasLines item
item_lined = ind-Item HasLines (λ x y is. subst (λ z. HasLines (roll-Item z)) is (item_case y))

body_lined : (items : List Item) (bs : List Block) (rest : List Mark) → lines_in bs (marks items ++ rest) ≡ lines_of_all (map item_lines items) (loops_of bs) ++ lines_in bs rest
body_lined [] bs rest = refl
body_lined (i ∷ is) bs rest =
    ap (lines_in bs) (append_assoc (item_marks i) (marks is) rest)
    ∙ item_lined i bs (marks is ++ rest)
    ∙ ap (λ (l : List BodyLine). item_lines i (loops_of bs) ++ l) (body_lined is bs rest)
    ∙ sym (append_assoc (item_lines i (loops_of bs)) (lines_of_all (map item_lines is) (loops_of bs)) (lines_in bs rest))

-- ---- the lines of a text

abbrev given : Scope → List Numbered → List Mark
given s ls = gathered (λ s l. mark s l.number l.line) s ls

abbrev said : Scope → List Numbered → List BodyLine
said s ls = gathered body_line s ls

abbrev loops_in : Scope → List Numbered → List (ℕ × List ℕ)
loops_in s ls = gathered (λ s l. outer l.number l.line) s ls

abbrev numbered_line : ℕ → Line → Numbered
numbered_line n l = record { number = n; line = l }

-- after the line of the outer loop, no other line is one
inside : (s : Scope) (n : ℕ) (l : Line) (ls : List Numbered) → ((t : Scope) → loops_in t ls ≡ [] → lines_in t.blocks (given t ls) ≡ said t ls)
    → loops_in s (numbered_line n l ∷ ls) ≡ [] → lines_in s.blocks (given s (numbered_line n l ∷ ls)) ≡ said s (numbered_line n l ∷ ls)
inside s n (lines.Matrix name form) ls more one = more (scope_behind s n (lines.Matrix name form)) one
inside s n (lines.Index name size) ls more one = more (scope_behind s n (lines.Index name size)) one
inside s n (lines.Vector name size source) ls more one = more (scope_behind s n (lines.Vector name size source)) one
inside s n (lines.Local name) ls more one = more (scope_behind s n (lines.Local name)) one
inside s n (lines.Prop prop) ls more one = more s one
inside s n (lines.Loop name) ls more one = absurd cc
inside s n (lines.For name lo hi) ls more one =
    ap (λ (l : List BodyLine). body_line s (numbered_line n (lines.For name lo hi)) ++ l) (more (scope_behind s n (lines.For name lo hi)) one)
inside s n (lines.When rel left right) ls more one =
    ap (λ (l : List BodyLine). body_line s (numbered_line n (lines.When rel left right)) ++ l) (more (scope_behind s n (lines.When rel left right)) one)
inside s n (lines.Set array at value) ls more one =
    ap (λ (l : List BodyLine). body_line s (numbered_line n (lines.Set array at value)) ++ l) (more s one)
inside s n (lines.Keep name value) ls more one =
    ap (λ (l : List BodyLine). body_line s (numbered_line n (lines.Keep name value)) ++ l) (more s one)
inside s n lines.End ls more one = more (scope_behind s n lines.End) one

all_inside : (ls : List Numbered) (s : Scope) → loops_in s ls ≡ [] → lines_in s.blocks (given s ls) ≡ said s ls
all_inside [] s one = refl
all_inside (l ∷ ls) s one = inside s l.number l.line ls (all_inside ls) one

-- the blocks open after the line of the outer loop
abbrev whole : ℕ × List ℕ → List Block
whole loop = Repeated loop.0 loop.1 ∷ []

abbrev first_loop : ℕ × List ℕ → List (ℕ × List ℕ) → ℕ × List ℕ
first_loop loop [] = loop
first_loop loop (x ∷ xs) = x

abbrev other_loops : List (ℕ × List ℕ) → List (ℕ × List ℕ)
other_loops [] = []
other_loops (x ∷ xs) = xs

-- what the lines say, from the outer loop's line on
abbrev Goal : ℕ × List ℕ → Scope → List Numbered → Type 0
Goal loop s ls = AreNested Above ls → loops_in s ls ≡ loop ∷ [] → s.blocks ≡ [] → lines_in (whole loop) (given s ls) ≡ said s ls

above : (loop : ℕ × List ℕ) (s : Scope) (n : ℕ) (l : Line) (ls : List Numbered) → ((t : Scope) → Goal loop t ls) → Goal loop s (numbered_line n l ∷ ls)
above loop s n (lines.Matrix name form) ls more nested one is = more (scope_behind s n (lines.Matrix name form)) nested one is
above loop s n (lines.Index name size) ls more nested one is = more (scope_behind s n (lines.Index name size)) nested one is
above loop s n (lines.Vector name size source) ls more nested one is = more (scope_behind s n (lines.Vector name size source)) nested one is
above loop s n (lines.Local name) ls more nested one is = more (scope_behind s n (lines.Local name)) nested one is
above loop s n (lines.Prop prop) ls more nested one is = more s nested one is
above loop s n (lines.Loop name) ls more nested one is =
    let t = scope_behind s n (lines.Loop name) in
    ap (λ (o : ℕ × List ℕ). lines_in (whole o) (given t ls)) (sym (ap (first_loop loop) one))
    ∙ ap (λ (bs : List Block). lines_in (Repeated n name ∷ bs) (given t ls)) (sym is)
    ∙ all_inside ls t (ap other_loops one)
above loop s n (lines.For name lo hi) ls more nested one is = absurd cc
above loop s n (lines.When rel left right) ls more nested one is = absurd cc
above loop s n (lines.Set array at value) ls more nested one is = absurd cc
above loop s n (lines.Keep name value) ls more nested one is = absurd cc
above loop s n lines.End ls more nested one is = absurd cc

all_above : (loop : ℕ × List ℕ) (ls : List Numbered) (s : Scope) → Goal loop s ls
all_above loop [] s nested one is = absurd cc
all_above loop (l ∷ ls) s nested one is = above loop s l.number l.line ls (all_above loop ls) nested one is

pub body_is : (ls : List Numbered) (nest : Nest) → AreNested Above ls → IsNestOf ls nest → body_lines nest ≡ text_body ls
body_is ls nest nested of_text =
    let bs = whole (nest.line, nest.name) in
    sym (append-nil (body_lines nest))
    ∙ sym (body_lined nest.body bs (Ends ∷ []))
    ∙ ap (lines_in bs) of_text.body
    ∙ all_above (nest.line, nest.name) ls empty nested of_text.loop refl

-- ---- the numbers of the lines rise

abbrev numbers : List BodyLine → List ℕ
numbers ls = map (λ l. l.number) ls

rise_before : (m : ℕ) (s : Scope) (n : ℕ) (l : Line) (rest : List BodyLine) → m < n → ((k : ℕ) → k ≤ n → IsTrue (rises_from k (numbers rest)))
    → IsTrue (rises_from m (numbers (body_line s (numbered_line n l) ++ rest)))
rise_before m s n (lines.Matrix name form) rest lt more = more m (omega (arith, lt))
rise_before m s n (lines.Index name size) rest lt more = more m (omega (arith, lt))
rise_before m s n (lines.Vector name size source) rest lt more = more m (omega (arith, lt))
rise_before m s n (lines.Local name) rest lt more = more m (omega (arith, lt))
rise_before m s n (lines.Prop prop) rest lt more = more m (omega (arith, lt))
rise_before m s n (lines.Loop name) rest lt more = more m (omega (arith, lt))
rise_before m s n (lines.For name lo hi) rest lt more = and_both (nat_lt m n) (rises_from n (numbers rest)) (grind (arith, nat_tests, lt)) (more n (omega arith))
rise_before m s n (lines.When rel left right) rest lt more = and_both (nat_lt m n) (rises_from n (numbers rest)) (grind (arith, nat_tests, lt)) (more n (omega arith))
rise_before m s n (lines.Set array at value) rest lt more = and_both (nat_lt m n) (rises_from n (numbers rest)) (grind (arith, nat_tests, lt)) (more n (omega arith))
rise_before m s n (lines.Keep name value) rest lt more = and_both (nat_lt m n) (rises_from n (numbers rest)) (grind (arith, nat_tests, lt)) (more n (omega arith))
rise_before m s n lines.End rest lt more = more m (omega (arith, lt))

rise_inside : (ls : List Numbered) (m n : ℕ) (s : Scope) → m < n → Rise n ls → IsTrue (rises_from m (numbers (said s ls)))
rise_inside [] m n s lt h = refl
rise_inside (l ∷ ls) m n s lt h =
    rise_before m s l.number l.line (said (scope_after s l) ls) (omega (arith, lt, h.0)) (λ k le. rise_inside ls k (l.number + 1) (scope_after s l) (omega (arith, le)) h.1)

abbrev RiseGoal : ℕ × List ℕ → ℕ → Scope → List Numbered → Type 0
RiseGoal loop k s ls = AreNested Above ls → loops_in s ls ≡ loop ∷ [] → Rise k ls → IsTrue (rises_from loop.0 (numbers (said s ls)))

rise_above : (loop : ℕ × List ℕ) (k : ℕ) (s : Scope) (n : ℕ) (l : Line) (ls : List Numbered) → ((t : Scope) → RiseGoal loop (n + 1) t ls) → RiseGoal loop k s (numbered_line n l ∷ ls)
rise_above loop k s n (lines.Matrix name form) ls more nested one h = more (scope_behind s n (lines.Matrix name form)) nested one h.1
rise_above loop k s n (lines.Index name size) ls more nested one h = more (scope_behind s n (lines.Index name size)) nested one h.1
rise_above loop k s n (lines.Vector name size source) ls more nested one h = more (scope_behind s n (lines.Vector name size source)) nested one h.1
rise_above loop k s n (lines.Local name) ls more nested one h = more (scope_behind s n (lines.Local name)) nested one h.1
rise_above loop k s n (lines.Prop prop) ls more nested one h = more s nested one h.1
rise_above loop k s n (lines.Loop name) ls more nested one h =
    let t = scope_behind s n (lines.Loop name) in
    subst (λ (o : ℕ × List ℕ). IsTrue (rises_from o.0 (numbers (said t ls)))) (ap (first_loop loop) one) (rise_inside ls n (n + 1) t (omega arith) h.1)
rise_above loop k s n (lines.For name lo hi) ls more nested one h = absurd cc
rise_above loop k s n (lines.When rel left right) ls more nested one h = absurd cc
rise_above loop k s n (lines.Set array at value) ls more nested one h = absurd cc
rise_above loop k s n (lines.Keep name value) ls more nested one h = absurd cc
rise_above loop k s n lines.End ls more nested one h = absurd cc

all_rise : (loop : ℕ × List ℕ) (ls : List Numbered) (k : ℕ) (s : Scope) → RiseGoal loop k s ls
all_rise loop [] k s nested one h = absurd cc
all_rise loop (l ∷ ls) k s nested one h = rise_above loop k s l.number l.line ls (all_rise loop ls (l.number + 1)) nested one h

pub rising : (ls : List (List ℕ)) (nest : Nest) → IsRead ls nest → IsTrue (rises_from nest.line (map (λ l. l.number) (body_lines nest)))
rising ls nest read =
    let nested = fits ls read.accepted in
    let h = all_rise (nest.line, nest.name) (numbered ls) 1 empty nested read.of_text.loop (rises 1 ls) in
    subst (λ (b : List BodyLine). IsTrue (rises_from nest.line (numbers b))) (sym (body_is (numbered ls) nest nested read.of_text)) h
