-- Lines with rising numbers, and lines that pass no limit.
use Rattle.std.proofs.Common.{◌≡◌, ℕ, ◌+◌, ◌≤◌, ◌<◌, Bool, true, false, min, nat_lt, nat_le, if◌then◌else◌, List, [], ◌∷◌, length, Option, Some, None, refl, sym, ap, subst, ◌∙◌, arith}
use Rattle.std.specs.List.{filter}
use Rattle.std.proofs.lemmas.Bool.Decides.{nat_tests}
use Rattle.loop_lines.specs.declared.line.Line.{Line}
use Rattle.loop_lines.specs.Fitting.{text_line}
use Rattle.loop_lines.specs.Reading.{or_else}
use Rattle.loop_lines.specs.Words.{either}
use Rattle.loop_syntax.specs.declared.numbered.Numbered.{Numbered}
use Rattle.loop_syntax.specs.declared.refusal.LimitKind.{LimitKind}
use Rattle.loop_syntax.specs.declared.refusal.LimitKind.TheVariants.{Lines, Arrays, Locals, Depth, References}
use Rattle.loop_syntax.specs.Numbered.{worded, before, numbered_from}
use Rattle.loop_syntax.specs.Scope.{Scope, empty, scope_after, use_of, variables}
use Rattle.loop_syntax.specs.Resolved.{number_of}
use Rattle.loop_syntax.specs.Counts.{is_written, data_arrays, passed, constant_limit, scope_limit, limits_at, references, first_passed, is_within, lines_limit, first_limit, targets}
use Rattle.loop_syntax.specs.Flags.{is_flagged, AreFlagged, flagged}
use Rattle.loop_syntax.specs.Stages.{AreFew}

-- numbers from n on, each above those before it
abbrev pub Rise : ℕ → List Numbered → Type 0
Rise n [] = Unit {0}
Rise n (l ∷ ls) = (n ≤ l.number) × Rise (l.number + 1) ls

sooner : (n : ℕ) (ls : List Numbered) → Rise (n + 1) ls → Rise n ls
sooner n [] h = tt
sooner n (l ∷ ls) h = (omega (arith, h.0), h.1)

rise_before : (n : ℕ) (o : Option Line) (more : List Numbered) → Rise (n + 1) more → Rise n (before n o more)
rise_before n None more h = sooner n more h
rise_before n (Some l) more h = (omega arith, h)

pub rises : (n : ℕ) (ls : List (List ℕ)) → Rise n (numbered_from n ls)
rises n [] = tt
rises n (l ∷ ls) = rise_before n (worded (text_line l)) (numbered_from (n + 1) ls) (rises (n + 1) ls)

-- lines after line 400
pub none_within : (n : ℕ) (ls : List Numbered) → 400 < n → Rise n ls → filter is_within ls ≡ []
none_within n [] lt h = refl
none_within n (l ∷ ls) lt h =
    let far : nat_le l.number 400 ≡ false = grind (arith, nat_tests, h.0) in
    let more : filter is_within ls ≡ [] = none_within (l.number + 1) ls (omega (arith, h.0)) h.1 in
    rw far more

-- each number is below a bound
abbrev pub Below : ℕ → List Numbered → Type 0
Below m [] = Unit {0}
Below m (l ∷ ls) = (l.number < m) × Below m ls

below_before : (n m : ℕ) (o : Option Line) (more : List Numbered) → n < m → Below m more → Below m (before n o more)
below_before n m None more lt h = h
below_before n m (Some l) more lt h = (lt, h)

pub below : (n m : ℕ) (ls : List (List ℕ)) → n + length ls ≤ m → Below m (numbered_from n ls)
below n m [] h = tt
below n m (l ∷ ls) h = below_before n m (worded (text_line l)) (numbered_from (n + 1) ls) (omega (arith, h)) (below (n + 1) m ls (omega (arith, h)))

-- ---- limits

pub either_none : {A : Type 0} (a b : Option A) → either a b ≡ None → (a ≡ None) × (b ≡ None)
either_none None b e = (refl, e)
either_none (Some x) b e = absurd cc

known : {P : Type 0} (b : Bool) → ((b ≡ true) → P) → ((b ≡ false) → P) → P
known true f g = f refl
known false f g = g refl

absent : {A : Type 0} {x : A} → Some x ≡ None → ⊥
absent e = cc

passed_none : (b : Bool) (kind : LimitKind) → passed b kind ≡ None → b ≡ false
passed_none true kind e = absurd cc
passed_none false kind e = refl

-- what a line that passes no limit leaves
pub record Keeps (s : Scope) (count : ℕ) : Type 0 where
  pub arrays : s.arrays ≤ 64
  pub locals : s.locals ≤ 16
  pub loops : length (variables s.blocks) ≤ 6
  pub references : count ≤ 16

pub keeps : (l : Line) (s : Scope) (count : ℕ) → limits_at l s count ≡ None → Keeps s count
keeps l s count e =
    let deep = either (passed (nat_lt 6 (length (variables s.blocks))) Depth) (passed (nat_lt 16 count) References) in
    let many = either (passed (nat_lt 16 s.locals) Locals) deep in
    let a = either_none (constant_limit l) (scope_limit s count) e in
    let b = either_none (passed (nat_lt 64 s.arrays) Arrays) many a.1 in
    let d = either_none (passed (nat_lt 16 s.locals) Locals) deep b.1 in
    let c = either_none (passed (nat_lt 6 (length (variables s.blocks))) Depth) (passed (nat_lt 16 count) References) d.1 in
    let f : nat_lt 64 s.arrays ≡ false = passed_none (nat_lt 64 s.arrays) Arrays b.0 in
    let g : nat_lt 6 (length (variables s.blocks)) ≡ false = passed_none (nat_lt 6 (length (variables s.blocks))) Depth c.0 in
    let h : nat_lt 16 count ≡ false = passed_none (nat_lt 16 count) References c.1 in
    let k : nat_lt 16 s.locals ≡ false = passed_none (nat_lt 16 s.locals) Locals d.0 in
    record { arrays = grind (arith, nat_tests, f); locals = grind (arith, nat_tests, k); loops = grind (arith, nat_tests, g); references = grind (arith, nat_tests, h) }

abbrev then_passed : ℕ → Option LimitKind → Option (ℕ × LimitKind) → Option (ℕ × LimitKind)
then_passed n limit more = or_else limit (λ kind. Some (n, kind)) more

-- where neither of two gives anything
pub then_none : {K : Type 0} (n : ℕ) (first : Option K) (more : Option (ℕ × K)) → or_else first (λ kind. Some (n, kind)) more ≡ None → (first ≡ None) × (more ≡ None)
then_none n None more e = (refl, e)
then_none n (Some kind) more e = absurd cc

first_is : (written : List ℕ) (s : Scope) (count : ℕ) (l : Numbered) (ls : List Numbered) → l.number ≤ 400
    → first_passed written s count (filter is_within (l ∷ ls))
    ≡ then_passed l.number (limits_at l.line (scope_after s l) (count + references written s l.line)) (first_passed written (scope_after s l) (count + references written s l.line) (filter is_within ls))
first_is written s count l ls near =
    let within : nat_le l.number 400 ≡ true = grind (arith, nat_tests, near) in
    rw within refl

-- lines of which none passes a limit: the first passes none, nor do those after it
pub limits_first : (written : List ℕ) (s : Scope) (count : ℕ) (l : Numbered) (ls : List Numbered) → l.number < 401 → first_passed written s count (filter is_within (l ∷ ls)) ≡ None
    → (limits_at l.line (scope_after s l) (count + references written s l.line) ≡ None)
    × (first_passed written (scope_after s l) (count + references written s l.line) (filter is_within ls) ≡ None)
limits_first written s count l ls lt e =
    let behind = scope_after s l in
    let so_far = count + references written s l.line in
    then_none l.number (limits_at l.line behind so_far) (first_passed written behind so_far (filter is_within ls)) (sym (first_is written s count l ls (omega (arith, lt))) ∙ e)

few_from : (written : List ℕ) (s : Scope) (count : ℕ) (ls : List Numbered) → Below 401 ls → first_passed written s count (filter is_within ls) ≡ None → AreFew s ls
few_from written s count [] b e = tt
few_from written s count (l ∷ ls) b e =
    let behind = scope_after s l in
    let so_far = count + references written s l.line in
    let t = limits_first written s count l ls b.0 e in
    let k = keeps l.line behind so_far t.0 in
    (omega (arith, b.0), k.arrays, k.locals, k.loops, few_from written behind so_far ls b.1 t.1)

abbrev past_lines : Bool → Option (ℕ × LimitKind)
past_lines b = if b then Some (401, Lines) else None

pub short_of : (count : ℕ) → lines_limit count ≡ None → count ≤ 400
short_of count e = known (nat_lt 400 count) (λ h. absurd (absent (subst (λ (v : Bool). past_lines v ≡ None) h e))) (λ h. grind (arith, nat_tests, h))

-- a text that passes no limit: none of its lines does, and none is after line 400
pub limits_of : (ls : List (List ℕ)) → first_limit (length ls) (numbered_from 1 ls) ≡ None
    → (first_passed (targets empty (numbered_from 1 ls)) empty 0 (filter is_within (numbered_from 1 ls)) ≡ None) × Below 401 (numbered_from 1 ls)
limits_of ls e =
    let all = numbered_from 1 ls in
    let a = either_none (first_passed (targets empty all) empty 0 (filter is_within all)) (lines_limit (length ls)) e in
    let short : length ls ≤ 400 = short_of (length ls) a.1 in
    (a.0, below 1 401 ls (omega (arith, short)))

pub few : (ls : List (List ℕ)) → first_limit (length ls) (numbered_from 1 ls) ≡ None → AreFew empty (numbered_from 1 ls)
few ls e = let a = limits_of ls e in few_from (targets empty (numbered_from 1 ls)) empty 0 (numbered_from 1 ls) a.1 a.0

-- ---- the first limit, line by line

filter_same : {X : Type 0} (p q : X → Bool) → ((x : X) → p x ≡ q x) → (xs : List X) → filter p xs ≡ filter q xs
filter_same p q same [] = refl
filter_same p q same (x ∷ xs) = rw (same x, filter_same p q same xs) refl

same_count : (flags : List Bool) (written : List ℕ) (s : Scope) (l : Line) → AreFlagged flags written → flagged flags s (data_arrays l) ≡ references written s l
same_count flags written s l are =
    ap length (filter_same (λ a. is_flagged flags (number_of (use_of s a))) (λ a. is_written written (number_of (use_of s a))) (λ a. are (number_of (use_of s a))) (data_arrays l))

-- counting up to 17 is enough
capped : (n : ℕ) → nat_lt 16 (min 17 n) ≡ nat_lt 16 n
capped n = grind (arith, nat_tests)

capped_limit : (l : Line) (s : Scope) (n : ℕ) → limits_at l s (min 17 n) ≡ limits_at l s n
capped_limit l s n =
    ap (λ (b : Bool). either (constant_limit l) (either (passed (nat_lt 64 s.arrays) Arrays) (either (passed (nat_lt 16 s.locals) Locals) (either (passed (nat_lt 6 (length (variables s.blocks))) Depth) (passed b References))))) (capped n)

-- what a step of the count says
pub record Stepped (flags : List Bool) (s : Scope) (count : ℕ) (l : Numbered) (behind : Scope) (counted : ℕ) (limit : Option LimitKind) : Type 0 where
  pub limited : limit ≡ limits_at l.line (scope_after s l) counted
  pub moved : behind ≡ scope_after s l
  pub counts : counted ≡ min 17 (count + flagged flags s (data_arrays l.line))

limit_is : (flags : List Bool) (written : List ℕ) (s behind : Scope) (count counted : ℕ) (l : Numbered) (limit : Option LimitKind) → AreFlagged flags written → Stepped flags s count l behind counted limit
    → limit ≡ limits_at l.line (scope_after s l) (count + references written s l.line)
limit_is flags written s behind count counted l limit are step =
    let same = same_count flags written s l.line are in
    step.limited ∙ ap (limits_at l.line (scope_after s l)) step.counts ∙ capped_limit l.line (scope_after s l) (count + flagged flags s (data_arrays l.line)) ∙ ap (λ (r : ℕ). limits_at l.line (scope_after s l) (count + r)) same

pub passes : (flags : List Bool) (written : List ℕ) (s behind : Scope) (count counted : ℕ) (before after : List Numbered) (l : Numbered) (limit : Option LimitKind) (kind : LimitKind) (total : Option (ℕ × LimitKind))
    → AreFlagged flags written → before ≡ l ∷ after → l.number ≤ 400 → Stepped flags s count l behind counted limit → limit ≡ Some kind
    → first_passed written s count (filter is_within before) ≡ total → Some (l.number, kind) ≡ total
passes flags written s behind count counted before after l limit kind total are here near step some h =
    let more = first_passed written (scope_after s l) (count + references written s l.line) (filter is_within after) in
    let found : Some kind ≡ limits_at l.line (scope_after s l) (count + references written s l.line) = sym some ∙ limit_is flags written s behind count counted l limit are step in
    ap (λ (x : Option LimitKind). then_passed l.number x more) found ∙ sym (first_is written s count l after near) ∙ ap (λ (x : List Numbered). first_passed written s count (filter is_within x)) (sym here) ∙ h

pub kept_on : (flags : List Bool) (s behind : Scope) (count counted : ℕ) (l : Numbered) (limit : Option LimitKind) → Stepped flags s count l behind counted limit → limit ≡ None → Keeps behind counted
kept_on flags s behind count counted l limit step none =
    subst (λ (t : Scope). Keeps t counted) (sym step.moved) (keeps l.line (scope_after s l) counted (sym step.limited ∙ none))

exact : (m n : ℕ) → m ≡ min 17 n → m ≤ 16 → n ≡ m
exact m n is few = omega (arith, is, few)

pub goes_on : (flags : List Bool) (written : List ℕ) (s behind : Scope) (count counted : ℕ) (before after : List Numbered) (l : Numbered) (limit : Option LimitKind) (total : Option (ℕ × LimitKind))
    → AreFlagged flags written → before ≡ l ∷ after → l.number ≤ 400 → Stepped flags s count l behind counted limit → limit ≡ None
    → first_passed written s count (filter is_within before) ≡ total → first_passed written behind counted (filter is_within after) ≡ total
goes_on flags written s behind count counted before after l limit total are here near step none h =
    let count2 = count + references written s l.line in
    let more = first_passed written (scope_after s l) count2 (filter is_within after) in
    let found : None ≡ limits_at l.line (scope_after s l) count2 = sym none ∙ limit_is flags written s behind count counted l limit are step in
    let k = kept_on flags s behind count counted l limit step none in
    let counts : count2 ≡ counted = ap (λ (r : ℕ). count + r) (sym (same_count flags written s l.line are)) ∙ exact counted (count + flagged flags s (data_arrays l.line)) step.counts k.references in
    ap (λ (t : Scope). first_passed written t counted (filter is_within after)) step.moved
    ∙ ap (λ (c : ℕ). first_passed written (scope_after s l) c (filter is_within after)) (sym counts)
    ∙ ap (λ (x : Option LimitKind). then_passed l.number x more) found ∙ sym (first_is written s count l after near) ∙ ap (λ (x : List Numbered). first_passed written s count (filter is_within x)) (sym here) ∙ h

-- a line after line 400 is skipped
pub skipped : (before after : List Numbered) (l : Numbered) → before ≡ l ∷ after → 400 < l.number → filter is_within after ≡ filter is_within before
skipped before after l here far =
    let out : nat_le l.number 400 ≡ false = grind (arith, nat_tests, far) in
    rw (here, out) refl
