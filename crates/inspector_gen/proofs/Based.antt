-- What holds of each constraint of a relation's base, by what holds of its terms.
use Rattle.std.proofs.Common.{List, [], ◌∷◌, ◌++◌}
use Rattle.std.specs.List.{All}
use Rattle.std.proofs.lemmas.List.Elements.{All-nil, All-cons, All-head, All-tail, All-append}
use Rattle.loop_core.specs.declared.nest.Side.{Side}
use Rattle.loop_core.specs.declared.nest.Side.TheVariants.{First, Second}
use Rattle.loop_core.specs.declared.nest.Rel.{Rel}
use Rattle.loop_core.specs.declared.nest.Rel.TheVariants.{Equal as EqualRel, Less as LessRel, LessEqual as LessEqualRel}
use Rattle.loop_core.specs.declared.nest.Nest.{Nest}
use Rattle.loop_core.specs.declared.nest.Term.{Term}
use Rattle.loop_core.specs.declared.nest.Atom.TheVariants.{Zero, N, Nnz}
use Rattle.uf_constraints.specs.declared.system.Diff.{Diff}
use Rattle.uf_constraints.specs.declared.reach.Around.{Around}
use Rattle.uf_constraints.specs.declared.reach.Around.TheVariants.{Loop, Guard}
use Rattle.uf_constraints.specs.declared.reach.Site.{Site}
use Rattle.uf_constraints.specs.Bases.{at_most, less, equal, on, variable, compared_by, said_by, said_by_all, of_sizes, relation_base}
use Rattle.uf_constraints.specs.Universe.{plain}
use Rattle.dep_extract.proofs.Holding.{all_parts}

-- the terms of a loop and of a guard, on a side
abbrev pub RoundIs : (Term → Type 0) → Side → Around → Type 0
RoundIs P side (Loop line lo hi) = (P (on side lo) × P (on side hi)) × P (variable side line)
RoundIs P side (Guard rel s t) = P (on side s) × P (on side t)

module _ (P : Term → Type 0) (Q : Diff → Type 0) (most : (s t : Term) → P s → P t → Q (at_most s t)) (under : (s t : Term) → P s → P t → Q (less s t)) where
  one : (d : Diff) → Q d → All Q (d ∷ [])
  one d h = All-cons Q d [] h (All-nil Q)

  two : (d e : Diff) → Q d → Q e → All Q (d ∷ e ∷ [])
  two d e h g = All-cons Q d (e ∷ []) h (one e g)

  level : (s t : Term) → P s → P t → All Q (equal s t)
  level s t h g = two (at_most s t) (at_most t s) (most s t h g) (most t s g h)

  compared : (rel : Rel) (s t : Term) → P s → P t → All Q (compared_by rel s t)
  compared EqualRel s t h g = level s t h g
  compared LessRel s t h g = one (less s t) (under s t h g)
  compared LessEqualRel s t h g = one (at_most s t) (most s t h g)

  said : (side : Side) (x : Around) → RoundIs P side x → All Q (said_by side x)
  said side (Loop line lo hi) h =
      two (at_most (on side lo) (variable side line)) (less (variable side line) (on side hi)) (most (on side lo) (variable side line) h.0.0 h.1) (under (variable side line) (on side hi) h.1 h.0.1)
  said side (Guard rel s t) h = compared rel (on side s) (on side t) h.0 h.1

  all_said : (side : Side) (xs : List Around) → All (RoundIs P side) xs → All Q (said_by_all side xs)
  all_said side [] h = All-nil Q
  all_said side (x ∷ xs) h = All-append Q (said_by side x) (said_by_all side xs) (said side x (All-head (RoundIs P side) x xs h)) (all_said side xs (All-tail (RoundIs P side) x xs h))

  pub base_is : (nest : Nest) (s t : Site) → P (plain Zero) → P (plain N) → P (plain Nnz) → P (variable First nest.line) → P (variable Second nest.line)
      → All (RoundIs P First) s.around → All (RoundIs P Second) t.around → P (on First s.at) → P (on Second t.at) → All Q (relation_base nest s t)
  base_is nest s t zero n nnz i j around_s around_t at_s at_t =
      let x = variable First nest.line in
      let y = variable Second nest.line in
      let first = said_by_all First s.around in
      let begin : List Diff = at_most (plain Zero) x ∷ (less x y ∷ (less y (plain N) ∷ first)) in
      let second = said_by_all Second t.around in
      let of_size : All Q of_sizes = two (at_most (plain Zero) (plain N)) (at_most (plain Zero) (plain Nnz)) (most (plain Zero) (plain N) zero n) (most (plain Zero) (plain Nnz) zero nnz) in
      let begun : All Q begin =
      All-cons Q (at_most (plain Zero) x) (less x y ∷ (less y (plain N) ∷ first)) (most (plain Zero) x zero i)
      (All-cons Q (less x y) (less y (plain N) ∷ first) (under x y i j)
      (All-cons Q (less y (plain N)) first (under y (plain N) j n) (all_said First s.around around_s))) in
      All-append Q ((of_sizes ++ begin) ++ second) (equal (on First s.at) (on Second t.at))
      (All-append Q (of_sizes ++ begin) second (All-append Q of_sizes begin of_size begun) (all_said Second t.around around_t))
      (level (on First s.at) (on Second t.at) at_s at_t)

-- and what holds of the base holds of its parts
module _ (Q : Diff → Type 0) (nest : Nest) (s t : Site) (all : All Q (relation_base nest s t)) where
  abbrev x : Term
  x = variable First nest.line

  abbrev y : Term
  y = variable Second nest.line

  abbrev first_said : List Diff
  first_said = said_by_all First s.around

  abbrev begin : List Diff
  begin = at_most (plain Zero) x ∷ (less x y ∷ (less y (plain N) ∷ first_said))

  whole : All Q ((of_sizes ++ begin) ++ said_by_all Second t.around) × All Q (equal (on First s.at) (on Second t.at))
  whole = all_parts Q ((of_sizes ++ begin) ++ said_by_all Second t.around) (equal (on First s.at) (on Second t.at)) all

  sides : All Q (of_sizes ++ begin) × All Q (said_by_all Second t.around)
  sides = all_parts Q (of_sizes ++ begin) (said_by_all Second t.around) whole.0

  begun : All Q begin
  begun = (all_parts Q of_sizes begin sides.0).1

  later : All Q (less x y ∷ (less y (plain N) ∷ first_said))
  later = All-tail Q (at_most (plain Zero) x) (less x y ∷ (less y (plain N) ∷ first_said)) begun

  last : All Q (less y (plain N) ∷ first_said)
  last = All-tail Q (less x y) (less y (plain N) ∷ first_said) later

  pub low_is : Q (at_most (plain Zero) x)
  low_is = All-head Q (at_most (plain Zero) x) (less x y ∷ (less y (plain N) ∷ first_said)) begun

  pub apart_is : Q (less x y)
  apart_is = All-head Q (less x y) (less y (plain N) ∷ first_said) later

  pub high_is : Q (less y (plain N))
  high_is = All-head Q (less y (plain N)) first_said last

  pub first_is : All Q (said_by_all First s.around)
  first_is = All-tail Q (less y (plain N)) first_said last

  pub second_is : All Q (said_by_all Second t.around)
  second_is = sides.1
