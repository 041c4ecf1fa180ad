-- No name stands for two things in a nest of a text.
use Rattle.std.proofs.Common.{◌≡◌, ℕ, Bool, true, false, ◌&&◌, ◌||◌, ◌==◌, not, if◌then◌else◌, List, [], ◌∷◌, ◌++◌, map, Option, Some, None, refl, sym, ap, subst, ◌∙◌, append_assoc}
use Rattle.std.specs.Prelude.{IsTrue}
use Rattle.std.specs.List.{list_all, list_any}
use Rattle.std.specs.Str.{bytes_eq}
use Rattle.std.proofs.lemmas.Bool.{not-true}
use Rattle.std.proofs.lemmas.Cmp.{nat_list_eq_equiv}
use Rattle.std.proofs.lemmas.List.{append-nil, map-append}
use Rattle.std.proofs.lemmas.List.Folds.{list_any-append}
use Rattle.loop_core.specs.declared.decl.Decl.{Decl}
use Rattle.loop_core.specs.declared.decl.LocalDecl.{LocalDecl}
use Rattle.loop_core.specs.declared.nest.Nest.{Nest}
use Rattle.loop_core.specs.Names.{same_name, are_distinct}
use Rattle.loop_core.specs.Shape.{Line as BodyLine}
use Rattle.loop_core.specs.IsNest.{declared_names, names_anew}
use Rattle.loop_lines.specs.declared.line.Line.{Line}
use Rattle.loop_lines.specs.declared.line.Line.TheVariants as lines
use Rattle.loop_syntax.specs.declared.numbered.Numbered.{Numbered}
use Rattle.loop_lines.specs.declared.block.Block.{Block}
use Rattle.loop_lines.specs.declared.block.Block.TheVariants.{Repeated, Guarded}
use Rattle.loop_syntax.specs.declared.scope.Known.{Known}
use Rattle.loop_syntax.specs.declared.scope.Meaning.{Meaning}
use Rattle.loop_syntax.specs.declared.scope.Meaning.TheVariants as meanings
use Rattle.loop_syntax.specs.Numbered.{numbered}
use Rattle.loop_syntax.specs.Scope.{Scope, empty, variables, found, meaning_of, declared, opened, parts_from, scope_after}
use Rattle.loop_syntax.specs.NameRules.{new_fault, terms_fault, line_fault, first_fault}
use Rattle.loop_syntax.specs.Resolved.{outer}
use Rattle.loop_syntax.specs.Stages.{Stage, Above, Within, AreNested}
use Rattle.loop_syntax.specs.TextNest.{IsRead}
use Rattle.loop_lines.proofs.Bools.{and_left, and_right}
use Rattle.loop_syntax.proofs.StageLaws.{nested_next}
use Rattle.loop_syntax.proofs.FewLaws.{either_none}
use Rattle.loop_syntax.proofs.ReadLaws.{fits, faultless, fine_first}
use Rattle.loop_laws.proofs.ShownNames.{decls_from, locals_from, local_names}
use Rattle.loop_laws.proofs.ShownBody.{IsInside}
use Rattle.loop_laws.proofs.NestForms.{loops_of, body_line, text_body}
use Rattle.loop_laws.proofs.NestNames.{names_of, outer_from, body_from}
use Rattle.loop_laws.proofs.NestMatrix.{stays_inside, nothing_inside}

-- ---- names that aren't among others

abbrev is_among : List ℕ → List (List ℕ) → Bool
is_among name names = list_any (same_name name) names

abbrev names_in : List Known → List (List ℕ)
names_in ks = map (λ k. k.name) ks

-- the two tests of names are the same one
same_is : (xs ys : List ℕ) → same_name xs ys ≡ bytes_eq xs ys
same_is [] [] = refl
same_is [] (y ∷ ys) = refl
same_is (x ∷ xs) [] = refl
same_is (x ∷ xs) (y ∷ ys) = ap (λ (b : Bool). (x == y) && b) (same_is xs ys)

turned : (xs ys : List ℕ) → same_name xs ys ≡ same_name ys xs
turned xs ys =
    let e : bytes_eq xs ys ≡ bytes_eq ys xs = nat_list_eq_equiv.symm xs ys in
    same_is xs ys ∙ e ∙ sym (same_is ys xs)

neither : (a b : Bool) → (a || b) ≡ false → (a ≡ false) × (b ≡ false)
neither false b e = (refl, e)
neither true b e = absurd cc

nor : (a b : Bool) → a ≡ false → b ≡ false → (a || b) ≡ false
nor false b e f = f
nor true b e f = absurd cc

among_neither : (name : List ℕ) (xs ys : List (List ℕ)) → is_among name xs ≡ false → is_among name ys ≡ false → is_among name (xs ++ ys) ≡ false
among_neither name xs ys e f = list_any-append (same_name name) xs ys ∙ nor (is_among name xs) (is_among name ys) e f

not_here : (name : List ℕ) (k : Known) (more : Option Meaning) (b : Bool) → bytes_eq name k.name ≡ b → (if b then Some k.meaning else more) ≡ None → (bytes_eq name k.name ≡ false) × (more ≡ None)
not_here name k more true is e = absurd cc
not_here name k more false is e = (is, e)

-- a name that isn't found isn't among them
not_among : (name : List ℕ) (ks : List Known) → found name ks ≡ None → is_among name (names_in ks) ≡ false
not_among name [] e = refl
not_among name (k ∷ ks) e =
    let n = not_here name k (found name ks) (bytes_eq name k.name) refl e in
    nor (same_name name k.name) (is_among name (names_in ks)) (same_is name k.name ∙ n.0) (not_among name ks n.1)

new_name : (o : Option Meaning) → new_fault o ≡ None → o ≡ None
new_name None e = refl
new_name (Some m) e = absurd cc

apart : (name : List ℕ) (more : List (List ℕ)) → is_among name more ≡ false → are_distinct more ≡ true → are_distinct (name ∷ more) ≡ true
apart name more e h = ap (λ (b : Bool). not b && are_distinct more) e ∙ h

-- a name that isn't among distinct ones comes after them
distinct_more : (name : List ℕ) (names : List (List ℕ)) → is_among name names ≡ false → are_distinct names ≡ true → are_distinct (names ++ name ∷ []) ≡ true
distinct_more name [] e h = refl
distinct_more name (x ∷ xs) e h =
    let n = neither (same_name name x) (is_among name xs) e in
    let first = not-true (is_among x xs) (and_left (not (is_among x xs)) (are_distinct xs) h) in
    let other : is_among x (name ∷ []) ≡ false = nor (same_name x name) false (turned x name ∙ n.0) refl in
    apart x (xs ++ name ∷ []) (among_neither x xs (name ∷ []) first other) (distinct_more name xs n.1 (and_right (not (is_among x xs)) (are_distinct xs) h))

-- a name that is in neither of two lists may stand between them
distinct_between : (name : List ℕ) (xs ys : List (List ℕ)) → is_among name xs ≡ false → is_among name ys ≡ false → are_distinct (xs ++ ys) ≡ true → are_distinct (xs ++ name ∷ ys) ≡ true
distinct_between name [] ys e f h = apart name ys f h
distinct_between name (x ∷ xs) ys e f h =
    let n = neither (same_name name x) (is_among name xs) e in
    let none = not-true (is_among x (xs ++ ys)) (and_left (not (is_among x (xs ++ ys))) (are_distinct (xs ++ ys)) h) in
    let both = neither (is_among x xs) (is_among x ys) (sym (list_any-append (same_name x) xs ys) ∙ none) in
    let other : is_among x (name ∷ ys) ≡ false = nor (same_name x name) (is_among x ys) (turned x name ∙ n.0) both.1 in
    apart x (xs ++ name ∷ ys) (among_neither x xs (name ∷ ys) both.0 other) (distinct_between name xs ys n.1 f (and_right (not (is_among x (xs ++ ys))) (are_distinct (xs ++ ys)) h))

-- ---- names that are parted into two lists, each in its order

data Parted : List (List ℕ) → List (List ℕ) → List (List ℕ) → Type 0 where
  parted_none : Parted [] [] []
  to_first : (name : List ℕ) (xs ys all : List (List ℕ)) → Parted xs ys all → Parted (name ∷ xs) ys (name ∷ all)
  to_second : (name : List ℕ) (xs ys all : List (List ℕ)) → Parted xs ys all → Parted xs (name ∷ ys) (name ∷ all)

among_parts : (name : List ℕ) (xs ys all : List (List ℕ)) → Parted xs ys all → is_among name all ≡ false → (is_among name xs ≡ false) × (is_among name ys ≡ false)
among_parts name _ _ _ parted_none e = (refl, refl)
among_parts name _ _ _ (to_first x xs ys all p) e =
    let n = neither (same_name name x) (is_among name all) e in
    let m = among_parts name xs ys all p n.1 in
    (nor (same_name name x) (is_among name xs) n.0 m.0, m.1)
among_parts name _ _ _ (to_second y xs ys all p) e =
    let n = neither (same_name name y) (is_among name all) e in
    let m = among_parts name xs ys all p n.1 in
    (m.0, nor (same_name name y) (is_among name ys) n.0 m.1)

-- a name that isn't among them is in neither list
not_in_parts : (name : List ℕ) (xs ys all : List (List ℕ)) → Parted xs ys all → is_among name all ≡ false → is_among name (xs ++ ys) ≡ false
not_in_parts name xs ys all p e = let m = among_parts name xs ys all p e in among_neither name xs ys m.0 m.1

distinct_parts : (xs ys all : List (List ℕ)) → Parted xs ys all → are_distinct all ≡ true → are_distinct (xs ++ ys) ≡ true
distinct_parts _ _ _ parted_none h = refl
distinct_parts _ _ _ (to_first x xs ys all p) h =
    let none = not-true (is_among x all) (and_left (not (is_among x all)) (are_distinct all) h) in
    apart x (xs ++ ys) (not_in_parts x xs ys all p none) (distinct_parts xs ys all p (and_right (not (is_among x all)) (are_distinct all) h))
distinct_parts _ _ _ (to_second y xs ys all p) h =
    let none = not-true (is_among y all) (and_left (not (is_among y all)) (are_distinct all) h) in
    let m = among_parts y xs ys all p none in
    distinct_between y xs ys m.0 m.1 (distinct_parts xs ys all p (and_right (not (is_among y all)) (are_distinct all) h))

-- ---- the lines above the loop

-- names are those of declarations and of locals
abbrev AreNamesOf : List Decl → List LocalDecl → List (List ℕ) → Type 0
AreNamesOf decls locals names = Parted (names_of decls) (local_names locals) names

-- the loop's first line, the scope above it and the lines after it
record AtLoop (s : Scope) (ls : List Numbered) : Type 0 where
  line : ℕ
  name : List ℕ
  above : Scope
  inner : List Numbered
  new : List (List ℕ)
  loops : outer_from s ls ≡ (line, name) ∷ []
  names : names_in s.declared ++ new ≡ names_in above.declared
  parts : AreNamesOf (decls_from s ls) (locals_from s ls) new
  distinct : are_distinct (name ∷ names_in above.declared) ≡ true
  body : body_from s ls ≡ body_from (opened above (Repeated line name)) inner
  nested : AreNested (Within 0) inner
  fine : first_fault (opened above (Repeated line name)) inner ≡ None

-- a line above the loop's first one, which declares some names
later : (s : Scope) (l : Numbered) (ls : List Numbered) (own : List (List ℕ)) → outer l.number l.line ≡ [] → body_line s l ≡ []
    → names_in s.declared ++ own ≡ names_in (scope_after s l).declared → (more : AtLoop (scope_after s l) ls) → AreNamesOf (decls_from s (l ∷ ls)) (locals_from s (l ∷ ls)) (own ++ more.new) → AtLoop s (l ∷ ls)
later s l ls own no_loop no_body names more parts = record {
  line = more.line;
  name = more.name;
  above = more.above;
  inner = more.inner;
  new = own ++ more.new;
  loops = ap (λ (os : List (ℕ × List ℕ)). os ++ outer_from (scope_after s l) ls) no_loop ∙ more.loops;
  names = sym (append_assoc (names_in s.declared) own more.new) ∙ ap (λ (ns : List (List ℕ)). ns ++ more.new) names ∙ more.names;
  parts = parts;
  distinct = more.distinct;
  body = ap (λ (bs : List BodyLine). bs ++ body_from (scope_after s l) ls) no_body ∙ more.body;
  nested = more.nested;
  fine = more.fine;
}

abbrev ToLoop : List Numbered → Type 0
ToLoop ls = (s : Scope) → AreNested Above ls → first_fault s ls ≡ None → s.blocks ≡ [] → are_distinct (names_in s.declared) ≡ true → AtLoop s ls

-- a name that is new where no block is open
new_among : (s : Scope) (name : List ℕ) → s.blocks ≡ [] → new_fault (meaning_of s name) ≡ None → is_among name (names_in s.declared) ≡ false
new_among s name none e =
    not_among name s.declared (ap (λ (bs : List Block). found name (variables bs ++ s.declared)) (sym none) ∙ new_name (meaning_of s name) e)

grown : (s : Scope) (name : List ℕ) (meaning : Meaning) (arrays locals : ℕ) → names_in s.declared ++ name ∷ [] ≡ names_in (declared s name meaning arrays locals).declared
grown s name meaning arrays locals = sym (map-append (λ k. k.name) s.declared (record { name = name; meaning = meaning } ∷ []))

-- a declaration
declares : (s : Scope) (name : List ℕ) (meaning : Meaning) (arrays locals : ℕ) (ls : List Numbered) → ToLoop ls → AreNested Above ls → first_fault (declared s name meaning arrays locals) ls ≡ None
    → s.blocks ≡ [] → are_distinct (names_in s.declared) ≡ true → new_fault (meaning_of s name) ≡ None → AtLoop (declared s name meaning arrays locals) ls
declares s name meaning arrays locals ls more nested fine none distinct new =
    let still = ap are_distinct (sym (grown s name meaning arrays locals)) ∙ distinct_more name (names_in s.declared) (new_among s name none new) distinct in
    more (declared s name meaning arrays locals) nested fine none still

-- the name of an array or a matrix, before those that come later
own_decl : (name : List ℕ) (decls : List Decl) (locals : List LocalDecl) (new : List (List ℕ)) → AreNamesOf decls locals new → Parted (name ∷ names_of decls) (local_names locals) (name ∷ new)
own_decl name decls locals new p = to_first name (names_of decls) (local_names locals) new p

above_loop : (s : Scope) (n : ℕ) (l : Line) (ls : List Numbered) → ToLoop ls → AreNested Above (record { number = n; line = l } ∷ ls) → first_fault s (record { number = n; line = l } ∷ ls) ≡ None
    → s.blocks ≡ [] → are_distinct (names_in s.declared) ≡ true → AtLoop s (record { number = n; line = l } ∷ ls)
above_loop s n (lines.Matrix name form) ls more nested fine none distinct =
    let l : Numbered = record { number = n; line = lines.Matrix name form } in
    let f = fine_first s l ls fine in
    let meaning = meanings.Matrix form (parts_from s.arrays) in
    let at = declares s name meaning 4 0 ls more nested f.1 none distinct f.0 in
    later s l ls (name ∷ []) refl refl (grown s name meaning 4 0) at (own_decl name (decls_from (scope_after s l) ls) (locals_from (scope_after s l) ls) at.new at.parts)
above_loop s n (lines.Index name size) ls more nested fine none distinct =
    let l : Numbered = record { number = n; line = lines.Index name size } in
    let f = fine_first s l ls fine in
    let meaning = meanings.Indexes size s.arrays in
    let at = declares s name meaning 1 0 ls more nested f.1 none distinct f.0 in
    later s l ls (name ∷ []) refl refl (grown s name meaning 1 0) at (own_decl name (decls_from (scope_after s l) ls) (locals_from (scope_after s l) ls) at.new at.parts)
above_loop s n (lines.Vector name size source) ls more nested fine none distinct =
    let l : Numbered = record { number = n; line = lines.Vector name size source } in
    let f = fine_first s l ls fine in
    let meaning = meanings.Holds size s.arrays in
    let at = declares s name meaning 1 0 ls more nested f.1 none distinct f.0 in
    later s l ls (name ∷ []) refl refl (grown s name meaning 1 0) at (own_decl name (decls_from (scope_after s l) ls) (locals_from (scope_after s l) ls) at.new at.parts)
above_loop s n (lines.Local name) ls more nested fine none distinct =
    let l : Numbered = record { number = n; line = lines.Local name } in
    let f = fine_first s l ls fine in
    let meaning = meanings.Local s.locals in
    let at = declares s name meaning 0 1 ls more nested f.1 none distinct f.0 in
    later s l ls (name ∷ []) refl refl (grown s name meaning 0 1) at (to_second name (names_of (decls_from (scope_after s l) ls)) (local_names (locals_from (scope_after s l) ls)) at.new at.parts)
above_loop s n (lines.Prop prop) ls more nested fine none distinct =
    let l : Numbered = record { number = n; line = lines.Prop prop } in
    let at = more s nested (fine_first s l ls fine).1 none distinct in
    later s l ls [] refl refl (append-nil (names_in s.declared)) at at.parts
above_loop s n (lines.Loop name) ls more nested fine none distinct =
    let l : Numbered = record { number = n; line = lines.Loop name } in
    let f = fine_first s l ls fine in
    let nothing = nothing_inside (Within 0) (scope_after s l) ls tt nested in
    record {
      line = n;
      name = name;
      above = s;
      inner = ls;
      new = [];
      loops = ap (λ (os : List (ℕ × List ℕ)). (n, name) ∷ os) nothing.loops;
      names = append-nil (names_in s.declared);
      parts =
          subst (λ (ds : List Decl). AreNamesOf ds (locals_from (scope_after s l) ls) []) (sym nothing.decls)
          (subst (λ (own : List LocalDecl). AreNamesOf [] own []) (sym nothing.locals) parted_none);
      distinct = apart name (names_in s.declared) (new_among s name none f.0) distinct;
      body = refl;
      nested = nested;
      fine = f.1;
    }
above_loop s n (lines.For name lo hi) ls more nested fine none distinct = absurd cc
above_loop s n (lines.When rel left right) ls more nested fine none distinct = absurd cc
above_loop s n (lines.Set array at value) ls more nested fine none distinct = absurd cc
above_loop s n (lines.Keep name value) ls more nested fine none distinct = absurd cc
above_loop s n lines.End ls more nested fine none distinct = absurd cc

to_loop : (ls : List Numbered) → ToLoop ls
to_loop [] s nested fine none distinct = absurd cc
to_loop (l ∷ ls) s nested fine none distinct = above_loop s l.number l.line ls (to_loop ls) nested fine none distinct

at_loop : (ls : List (List ℕ)) (nest : Nest) → IsRead ls nest → AtLoop empty (numbered ls)
at_loop ls nest read = to_loop (numbered ls) empty (fits ls read.accepted) (faultless ls read.accepted) refl refl

-- the names that are known in the loop are those that the nest declares
known_are : (ls : List (List ℕ)) (nest : Nest) (read : IsRead ls nest) → AreNamesOf nest.decls nest.locals (names_in (at_loop ls nest read).above.declared)
known_are ls nest read =
    let at = at_loop ls nest read in
    let names = names_in at.above.declared in
    let text : AreNamesOf (decls_from empty (numbered ls)) (locals_from empty (numbered ls)) names = subst (λ (ns : List (List ℕ)). AreNamesOf (decls_from empty (numbered ls)) (locals_from empty (numbered ls)) ns) at.names at.parts in
    subst (λ (ds : List Decl). AreNamesOf ds nest.locals names) (sym read.of_text.decls)
    (subst (λ (own : List LocalDecl). AreNamesOf (decls_from empty (numbered ls)) own names) (sym read.of_text.locals) text)

abbrev first_name : List (ℕ × List ℕ) → List ℕ
first_name [] = []
first_name (o ∷ os) = o.1

pub distinct : (ls : List (List ℕ)) (nest : Nest) → IsRead ls nest → IsTrue (are_distinct (nest.name ∷ declared_names nest))
distinct ls nest read =
    let at = at_loop ls nest read in
    let known = names_in at.above.declared in
    let parts = known_are ls nest read in
    let name : nest.name ≡ at.name = ap first_name (sym read.of_text.loop ∙ at.loops) in
    let none = not-true (is_among at.name known) (and_left (not (is_among at.name known)) (are_distinct known) at.distinct) in
    let declared = distinct_parts (names_of nest.decls) (local_names nest.locals) known parts (and_right (not (is_among at.name known)) (are_distinct known) at.distinct) in
    ap (λ (x : List ℕ). are_distinct (x ∷ declared_names nest)) name
    ∙ apart at.name (declared_names nest) (not_in_parts at.name (names_of nest.decls) (local_names nest.locals) known parts none) declared

-- ---- the variables of the inner loops

-- they are the variables of the loops round a line
around_are : (bs : List Block) → names_in (variables bs) ≡ map (λ o. o.name) (loops_of bs)
around_are [] = refl
around_are (Repeated line name ∷ bs) = ap (λ (ns : List (List ℕ)). name ∷ ns) (around_are bs)
around_are (Guarded ∷ bs) = around_are bs

module _ (nest : Nest) where
  -- a scope knows the names that the nest declares
  abbrev Knows : Scope → Type 0
  Knows s = AreNamesOf nest.decls nest.locals (names_in s.declared)

  -- a loop's name that isn't found is neither declared nor a variable of a loop round it
  for_anew : (s : Scope) (name : List ℕ) → Knows s → new_fault (meaning_of s name) ≡ None
      → is_among name (declared_names nest ++ map (λ o. o.name) (loops_of s.blocks)) ≡ false
  for_anew s name known e =
      let none : is_among name (names_in (variables s.blocks ++ s.declared)) ≡ false = not_among name (variables s.blocks ++ s.declared) (new_name (meaning_of s name) e) in
      let listed = ap (is_among name) (map-append (λ k. k.name) (variables s.blocks) s.declared) in
      let parted = list_any-append (same_name name) (names_in (variables s.blocks)) (names_in s.declared) in
      let both = neither (is_among name (names_in (variables s.blocks))) (is_among name (names_in s.declared)) (sym (listed ∙ parted) ∙ none) in
      let declared = not_in_parts name (names_of nest.decls) (local_names nest.locals) (names_in s.declared) known both.1 in
      among_neither name (declared_names nest) (map (λ o. o.name) (loops_of s.blocks)) declared (ap (is_among name) (sym (around_are s.blocks)) ∙ both.0)

  abbrev are_anew : List BodyLine → Bool
  are_anew ls = list_all (names_anew nest) ls

  one_anew : (s : Scope) (n : ℕ) (l : Line) (rest : List BodyLine) → Knows s → line_fault s l ≡ None → are_anew rest ≡ true
      → are_anew (body_line s (record { number = n; line = l }) ++ rest) ≡ true
  one_anew s n (lines.For name lo hi) rest known fine h =
      let new = either_none (new_fault (meaning_of s name)) (terms_fault s lo hi) fine in
      rw (for_anew s name known new.0) h
  one_anew s n _ rest known fine h = h

  all_anew : (stage : Stage) (s : Scope) (ls : List Numbered) → IsInside stage → AreNested stage ls → first_fault s ls ≡ None → Knows s
      → are_anew (body_from s ls) ≡ true
  all_anew stage s [] is nested fine known = refl
  all_anew stage s (l ∷ ls) is nested fine known =
      let n = nested_next stage l ls nested in
      let f = fine_first s l ls fine in
      let here = stays_inside stage s l.number l.line n.0 is n.1 in
      one_anew s l.number l.line (body_from (scope_after s l) ls) known f.0 (all_anew n.0 (scope_after s l) ls here.inside n.2 f.1 (subst (λ (ks : List Known). AreNamesOf nest.decls nest.locals (names_in ks)) (sym here.declared) known))

pub anew : (ls : List (List ℕ)) (nest : Nest) → IsRead ls nest → IsTrue (list_all (names_anew nest) (text_body (numbered ls)))
anew ls nest read =
    let at = at_loop ls nest read in
    ap (λ (bs : List BodyLine). list_all (names_anew nest) bs) at.body ∙ all_anew nest (Within 0) (opened at.above (Repeated at.line at.name)) at.inner tt at.nested at.fine (known_are ls nest read)
