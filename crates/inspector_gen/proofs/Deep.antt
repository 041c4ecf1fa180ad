-- At most five loops stand round a reference.
use Rattle.std.proofs.Common.{◌≡◌, ℕ, ◌+◌, ◌≤◌, List, [], ◌∷◌, ◌++◌, map, length, refl, sym, ap, subst, arith}
use Rattle.std.specs.Prelude.{max}
use Rattle.std.specs.List.{All, Contains, flat_map}
use Rattle.std.proofs.lemmas.List.Elements.{All-nil, All-cons, All-append, All-weaker, All-contains}
use Rattle.loop_core.specs.declared.nest.Nest.{Nest}
use Rattle.loop_core.specs.declared.nest.Side.{Side}
use Rattle.loop_core.specs.declared.nest.Rel.{Rel}
use Rattle.loop_core.specs.declared.nest.Term.{Term}
use Rattle.loop_core.specs.declared.nest.Item.{Item}
use Rattle.loop_core.specs.declared.nest.Item.TheOpen.{Item-F}
use Rattle.loop_core.specs.declared.nest.Item.TheViews.{roll-Item}
use Rattle.loop_core.specs.declared.nest.Item.TheFolds.{ind-Item, fold-roll-Item, map-Item}
use Rattle.loop_core.specs.Depth.{greatest, depth_step, depth}
use Rattle.loop_core.specs.IsNest.{IsNest}
use Rattle.uf_constraints.specs.declared.reach.Around.{Around}
use Rattle.uf_constraints.specs.declared.reach.Around.TheVariants.{Loop as Repeated, Guard}
use Rattle.uf_constraints.specs.declared.reach.Usage.TheVariants.{Sets}
use Rattle.uf_constraints.specs.declared.reach.Access.{Access}
use Rattle.uf_constraints.specs.declared.reach.Spot.{Spot}
use Rattle.uf_constraints.specs.declared.reach.Site.{Site}
use Rattle.uf_constraints.specs.Brackets.{spot, spots_of_all, spots_step, item_spots, spots, term_accesses, bracket_accesses, expr_accesses}
use Rattle.uf_constraints.specs.Relations.{sites}
use Rattle.dep_extract.proofs.Dependent.{from_site}
use Rattle.inspector_gen.specs.Variables.{unknown_of}

abbrev pub loops_in : List Around → ℕ
loops_in [] = 0
loops_in (Repeated line lo hi ∷ xs) = loops_in xs + 1
loops_in (Guard rel s t ∷ xs) = loops_in xs

loop_more : (xs : List Around) (line : ℕ) (lo hi : Term) → loops_in (xs ++ Repeated line lo hi ∷ []) ≡ loops_in xs + 1
loop_more [] line lo hi = refl
loop_more (Repeated l s t ∷ xs) line lo hi = ap (λ n. n + 1) (loop_more xs line lo hi)
loop_more (Guard r s t ∷ xs) line lo hi = loop_more xs line lo hi

guard_more : (xs : List Around) (rel : Rel) (s t : Term) → loops_in (xs ++ Guard rel s t ∷ []) ≡ loops_in xs
guard_more [] rel s t = refl
guard_more (Repeated l lo hi ∷ xs) rel s t = ap (λ n. n + 1) (guard_more xs rel s t)
guard_more (Guard r lo hi ∷ xs) rel s t = guard_more xs rel s t

-- the unknowns of a side inside the outer one
pub unknowns_are : (side : Side) (xs : List Around) → length (flat_map (unknown_of side) xs) ≡ loops_in xs
unknowns_are side [] = refl
unknowns_are side (Repeated line lo hi ∷ xs) = let rest = unknowns_are side xs in omega (arith, rest)
unknowns_are side (Guard rel s t ∷ xs) = unknowns_are side xs

-- at most so many loops stand round a spot
abbrev IsIn : ℕ → Spot → Type 0
IsIn n s = loops_in s.around ≤ n

more_in : (m n : ℕ) (ss : List Spot) → m ≤ n → All (IsIn m) ss → All (IsIn n) ss
more_in m n ss le h = All-weaker (IsIn m) (IsIn n) (λ s i. omega (arith, i, le)) ss h

-- the spots inside have so many loops more round them
abbrev Kept : ℕ → (List Around → List Spot) → Type 0
Kept n spots = (around : List Around) → All (IsIn (loops_in around + n)) (spots around)

abbrev KeptItem : Type 0
KeptItem = (item : Item) × Kept (depth item) (item_spots item)

abbrev items_of : List KeptItem → List Item
items_of es = map (λ e. e.0) es

abbrev spots_in : List KeptItem → List Around → List Spot
spots_in es = spots_of_all (map item_spots (items_of es))

abbrev deepest : List KeptItem → ℕ
deepest es = greatest (map depth (items_of es))

left_max : (m n : ℕ) → m ≤ max m n
left_max m n = omega arith

right_max : (m n : ℕ) → n ≤ max m n
right_max m n = omega arith

all_kept : (es : List KeptItem) → Kept (deepest es) (spots_in es)
all_kept [] around = All-nil (IsIn (loops_in around + 0))
all_kept (e ∷ es) around =
    let all = deepest (e ∷ es) in
    let one : depth e.0 ≤ all = left_max (depth e.0) (deepest es) in
    let rest : deepest es ≤ all = right_max (depth e.0) (deepest es) in
    All-append (IsIn (loops_in around + all)) (item_spots e.0 around) (spots_in es around)
    (more_in (loops_in around + depth e.0) (loops_in around + all) (item_spots e.0 around) (omega (arith, one)) (e.1 around))
    (more_in (loops_in around + deepest es) (loops_in around + all) (spots_in es around) (omega (arith, rest)) (all_kept es around))

loop_kept : (line : ℕ) (lo hi : Term) (xs : List Access) (es : List KeptItem) → Kept (deepest es + 1) (λ around. spot line around xs ∷ spots_in es (around ++ Repeated line lo hi ∷ []))
loop_kept line lo hi xs es around =
    let n = loops_in around + (deepest es + 1) in
    let inside = around ++ Repeated line lo hi ∷ [] in
    let more = loop_more around line lo hi in
    All-cons (IsIn n) (spot line around xs) (spots_in es inside) (omega arith)
    (more_in (loops_in inside + deepest es) n (spots_in es inside) (omega (arith, more)) (all_kept es inside))

guard_kept : (line : ℕ) (rel : Rel) (s t : Term) (xs : List Access) (es : List KeptItem) → Kept (deepest es) (λ around. spot line around xs ∷ spots_in es (around ++ Guard rel s t ∷ []))
guard_kept line rel s t xs es around =
    let n = loops_in around + deepest es in
    let inside = around ++ Guard rel s t ∷ [] in
    let same = guard_more around rel s t in
    All-cons (IsIn n) (spot line around xs) (spots_in es inside) (omega arith)
    (more_in (loops_in inside + deepest es) n (spots_in es inside) (omega (arith, same)) (all_kept es inside))

line_kept : (line : ℕ) (xs : List Access) → Kept 0 (λ around. spot line around xs ∷ [])
line_kept line xs around = All-cons (IsIn (loops_in around + 0)) (spot line around xs) [] (omega arith) (All-nil (IsIn (loops_in around + 0)))

abbrev stripped : Item-F KeptItem → Item-F Item
stripped y = map-Item KeptItem Item (λ e. e.0) y

abbrev KeptOf : Item → Type 0
KeptOf item = Kept (depth item) (item_spots item)

item_case : (y : Item-F KeptItem) → KeptOf (roll-Item (stripped y))
item_case y =
    let x : Item-F Item = stripped y in
    subst (λ (z : ℕ × (List Around → List Spot)). Kept z.0 z.1)
    (λ i. (sym (fold-roll-Item ℕ depth_step x) i, sym (fold-roll-Item (List Around → List Spot) spots_step x) i))
    (by y)
  where
    by : (y : Item-F KeptItem) → let x : Item-F Item = stripped y in Kept (depth_step (map-Item Item ℕ depth x)) (spots_step (map-Item Item (List Around → List Spot) item_spots x))
    by (Item-F.For line name lo hi es) = loop_kept line lo hi (term_accesses lo ++ term_accesses hi) es
    by (Item-F.When line rel left right es) = guard_kept line rel left right (term_accesses left ++ term_accesses right) es
    by (Item-F.Set line array at value) = line_kept line (bracket_accesses Sets array at ++ expr_accesses value)
    by (Item-F.Keep line local value) = line_kept line (expr_accesses value)

items_kept : (item : Item) → KeptOf item
items_kept = ind-Item KeptOf (λ x y is. subst (λ z. KeptOf (roll-Item z)) is (item_case y))

abbrev with_kept : List Item → List KeptItem
with_kept items = map (λ item. (item, items_kept item)) items

without : (items : List Item) → items_of (with_kept items) ≡ items
without [] = refl
without (i ∷ is) = ap (λ rest. i ∷ rest) (without is)

body_kept : (items : List Item) → Kept (greatest (map depth items)) (spots_of_all (map item_spots items))
body_kept items = subst (λ is. Kept (greatest (map depth is)) (spots_of_all (map item_spots is))) (without items) (all_kept (with_kept items))

pub few_loops : (nest : Nest) → IsNest nest → (t : Site) → Contains (sites nest) t → loops_in t.around ≤ 5
few_loops nest is_nest t h =
    let f = from_site nest t h in
    let few = is_nest.shallow in
    let within : loops_in f.1.around ≤ loops_in [] + greatest (map depth nest.body) = All-contains (IsIn (loops_in [] + greatest (map depth nest.body))) (spots nest) f.1 (body_kept nest.body []) f.3.0 in
    let same : f.1.around ≡ t.around = ap (λ (z : Site). z.around) f.4 in
    subst (λ xs. loops_in xs ≤ 5) same (omega (arith, within, few))
