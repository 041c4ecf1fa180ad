-- The lines of the loop show what the lines of the text say.
use Rattle.std.proofs.Common.{◌≡◌, ℕ, zero, suc, ◌+◌, ◌≤◌, codes, List, [], ◌∷◌, ◌++◌, length, None, refl, sym, ap, ◌∙◌, append_assoc, arith}
use Rattle.loop_core.specs.declared.decl.Decl.{Decl}
use Rattle.loop_core.specs.declared.decl.LocalDecl.{LocalDecl}
use Rattle.loop_core.specs.declared.nest.Rel.{Rel}
use Rattle.loop_core.specs.declared.nest.Rel.TheVariants as rels
use Rattle.loop_lines.specs.declared.line.Line.{Line}
use Rattle.loop_lines.specs.declared.line.Line.TheVariants as lines
use Rattle.loop_lines.specs.declared.tree.ArrayName.{ArrayName}
use Rattle.loop_lines.specs.declared.tree.NamedTerm.{NamedTerm}
use Rattle.loop_lines.specs.declared.tree.NamedExpr.{NamedExpr}
use Rattle.loop_lines.specs.Words.{either}
use Rattle.loop_lines.specs.Shown.{shown_rel, shown_term, shown_entry, shown_line}
use Rattle.loop_lines.specs.Showable.{IsShowable}
use Rattle.loop_syntax.specs.declared.numbered.Numbered.{Numbered}
use Rattle.loop_syntax.specs.declared.scope.ArrayUse.{ArrayUse}
use Rattle.loop_syntax.specs.declared.scope.ArrayUse.TheVariants as uses
use Rattle.loop_syntax.specs.Scope.{Scope, outer_blocks, scope_behind, scope_after, use_of}
use Rattle.loop_syntax.specs.NameRules.{new_fault, kept_fault, target_fault, term_fault, terms_fault, value_fault, line_fault, first_fault}
use Rattle.loop_syntax.specs.Scope.{meaning_of}
use Rattle.loop_syntax.specs.Resolved.{array_in, local_in, term_in, value_in, mark}
use Rattle.loop_syntax.specs.Nesting.{Mark}
use Rattle.loop_syntax.specs.Stages.{Stage, Above, Within, Behind, AreNested}
use Rattle.loop_syntax.specs.TextNest.{gathered}
use Rattle.loop_print.specs.PrintNames.{Block, array_names, local_name}
use Rattle.loop_print.specs.PrintTerms.{term_text, entry_text}
use Rattle.loop_print.specs.PrintExprs.{expr_text}
use Rattle.loop_print.specs.PrintItems.{rel_text, span_text, indent, line_text}
use Rattle.loop_laws.specs.ShownText.{margin, one_less, shown_lines, unlines}
use Rattle.loop_syntax.proofs.FewLaws.{Rise, either_none}
use Rattle.loop_syntax.proofs.ReadLaws.{fine_first}
use Rattle.loop_laws.proofs.ShownNames.{IsArray, local_names, Fall, fall_below, fall_outer, Named, named_behind, Knows, knows}
use Rattle.loop_laws.proofs.ShownTrees.{kept_local, entry_is, local_shows, term_shows, value_shows}
use Rattle.loop_laws.proofs.ShownMarks.{marks_text}

-- ---- lines that are read in a scope

abbrev pub AreShowable : List Numbered → Type 0
AreShowable [] = Unit {0}
AreShowable (l ∷ ls) = IsShowable l.line × AreShowable ls

-- Lines with numbers from n on break no rule on names and can be shown, and the scope above them belongs to the
-- declarations.
pub record Reads (decls : List Decl) (locals : List LocalDecl) (s : Scope) (n : ℕ) (ls : List Numbered) : Type 0 where
  pub fine : first_fault s ls ≡ None
  pub rise : Rise n ls
  pub named : Named (array_names decls) (local_names locals) s ls
  pub fall : Fall n s.blocks
  pub showable : AreShowable ls

fall_behind : (s : Scope) (n m : ℕ) (l : Line) → n ≤ m → Fall n s.blocks → Fall (m + 1) (scope_behind s m l).blocks
fall_behind s n m (lines.Matrix name form) le h = fall_below n (m + 1) s.blocks (omega arith) h
fall_behind s n m (lines.Index name size) le h = fall_below n (m + 1) s.blocks (omega arith) h
fall_behind s n m (lines.Vector name size source) le h = fall_below n (m + 1) s.blocks (omega arith) h
fall_behind s n m (lines.Local name) le h = fall_below n (m + 1) s.blocks (omega arith) h
fall_behind s n m (lines.Prop prop) le h = fall_below n (m + 1) s.blocks (omega arith) h
fall_behind s n m (lines.Loop name) le h = (omega arith, fall_below n m s.blocks le h)
fall_behind s n m (lines.For name lo hi) le h = (omega arith, fall_below n m s.blocks le h)
fall_behind s n m (lines.When rel left right) le h = fall_below n (m + 1) s.blocks (omega arith) h
fall_behind s n m (lines.Set array at value) le h = fall_below n (m + 1) s.blocks (omega arith) h
fall_behind s n m (lines.Keep name value) le h = fall_below n (m + 1) s.blocks (omega arith) h
fall_behind s n m lines.End le h = fall_outer (m + 1) s.blocks (fall_below n (m + 1) s.blocks (omega arith) h)

pub reads_fault : (decls : List Decl) (locals : List LocalDecl) (s : Scope) (n : ℕ) (l : Numbered) (ls : List Numbered) → Reads decls locals s n (l ∷ ls) → line_fault s l.line ≡ None
reads_fault decls locals s n l ls h = (fine_first s l ls h.fine).0

pub reads_names : (decls : List Decl) (locals : List LocalDecl) (s : Scope) (n : ℕ) (ls : List Numbered) → Reads decls locals s n ls → Knows decls locals s
reads_names decls locals s n ls h = knows decls locals s n ls h.named h.fall

pub reads_next : (decls : List Decl) (locals : List LocalDecl) (s : Scope) (n : ℕ) (l : Numbered) (ls : List Numbered) → Reads decls locals s n (l ∷ ls) → Reads decls locals (scope_after s l) (l.number + 1) ls
reads_next decls locals s n l ls h = record {
  fine = (fine_first s l ls h.fine).1;
  rise = h.rise.1;
  named = named_behind (array_names decls) (local_names locals) s l.number l.line ls h.named;
  fall = fall_behind s n l.number l.line h.rise.0 h.fall;
  showable = h.showable.1;
}

-- ---- the words of a line

rel_shows : (rel : Rel) → rel_text rel ≡ shown_rel rel
rel_shows rels.Equal = refl
rel_shows rels.Less = refl
rel_shows rels.LessEqual = refl

target_array : (u : ArrayUse) → target_fault u ≡ None → IsArray u
target_array uses.Unknown e = absurd cc
target_array uses.Other e = absurd cc
target_array (uses.Indexes size number) e = tt
target_array (uses.Holds size number) e = tt

module _ (decls : List Decl) (locals : List LocalDecl) (s : Scope) (k : Knows decls locals s) where
  for_shows : (name : List ℕ) (lo hi : NamedTerm) → line_fault s (lines.For name lo hi) ≡ None
      → codes "for " ++ name ++ codes " in " ++ span_text decls s.blocks (term_in s lo) (term_in s hi) ≡ shown_line (lines.For name lo hi)
  for_shows name lo hi e =
      let both = either_none (term_fault s lo) (term_fault s hi) (either_none (new_fault (meaning_of s name)) (terms_fault s lo hi) e).1 in
      let front : List ℕ = codes "for " ++ name ++ codes " in " in
      let a = term_shows decls locals s k lo both.0 in
      let b = term_shows decls locals s k hi both.1 in
      ap (λ (t : List ℕ). front ++ (t ++ codes ".." ++ term_text decls s.blocks (term_in s hi))) a
      ∙ ap (λ (t : List ℕ). front ++ (shown_term lo ++ codes ".." ++ t)) b
      ∙ sym (append_assoc front (shown_term lo ++ codes "..") (shown_term hi))
      ∙ ap (λ (t : List ℕ). t ++ shown_term hi) (sym (append_assoc front (shown_term lo) (codes "..")))

  when_shows : (rel : Rel) (left right : NamedTerm) → line_fault s (lines.When rel left right) ≡ None
      → codes "when " ++ term_text decls s.blocks (term_in s left) ++ rel_text rel ++ term_text decls s.blocks (term_in s right) ≡ shown_line (lines.When rel left right)
  when_shows rel left right e =
      let both = either_none (term_fault s left) (term_fault s right) e in
      ap (λ (t : List ℕ). codes "when " ++ t ++ rel_text rel ++ term_text decls s.blocks (term_in s right)) (term_shows decls locals s k left both.0)
      ∙ ap (λ (t : List ℕ). codes "when " ++ shown_term left ++ t ++ term_text decls s.blocks (term_in s right)) (rel_shows rel)
      ∙ ap (λ (t : List ℕ). codes "when " ++ shown_term left ++ shown_rel rel ++ t) (term_shows decls locals s k right both.1)

  set_shows : (array : ArrayName) (at : NamedTerm) (value : NamedExpr) → line_fault s (lines.Set array at value) ≡ None
      → codes "set " ++ entry_text decls (array_in s array) (term_text decls s.blocks (term_in s at)) ++ codes " = " ++ expr_text decls locals s.blocks (value_in s value) 0 ≡ shown_line (lines.Set array at value)
  set_shows array at value e =
      let both = either_none (either (target_fault (use_of s array)) (term_fault s at)) (value_fault s value) e in
      let first = either_none (target_fault (use_of s array)) (term_fault s at) both.0 in
      let entry = entry_is decls locals s k array (term_text decls s.blocks (term_in s at)) (shown_term at) (target_array (use_of s array) first.0) (term_shows decls locals s k at first.1) in
      ap (λ (t : List ℕ). codes "set " ++ t ++ codes " = " ++ expr_text decls locals s.blocks (value_in s value) 0) entry
      ∙ ap (λ (t : List ℕ). codes "set " ++ shown_entry array (shown_term at) ++ codes " = " ++ t) (value_shows decls locals s k value both.1 0)

  keep_shows : (name : List ℕ) (value : NamedExpr) → line_fault s (lines.Keep name value) ≡ None
      → codes "set " ++ local_name locals (local_in s name) ++ codes " = " ++ expr_text decls locals s.blocks (value_in s value) 0 ≡ shown_line (lines.Keep name value)
  keep_shows name value e =
      let both = either_none (kept_fault (meaning_of s name)) (value_fault s value) e in
      ap (λ (t : List ℕ). codes "set " ++ t ++ codes " = " ++ expr_text decls locals s.blocks (value_in s value) 0) (local_shows decls locals s k name (kept_local (meaning_of s name) both.0))
      ∙ ap (λ (t : List ℕ). codes "set " ++ name ++ codes " = " ++ t) (value_shows decls locals s k value both.1 0)

-- ---- line by line

indent_is : (blocks : List Block) → indent blocks ≡ margin (length blocks)
indent_is [] = refl
indent_is (b ∷ bs) = ap (λ (l : List ℕ). codes "  " ++ l) (indent_is bs)

outer_length : (blocks : List Block) → length (outer_blocks blocks) ≡ one_less (length blocks)
outer_length [] = refl
outer_length (b ∷ bs) = refl

-- a line, and the text after it
line_is : (blocks : List Block) (a b x y : List ℕ) → a ≡ b → x ≡ y → line_text blocks a ++ x ≡ (margin (length blocks) ++ b) ++ 10 ∷ y
line_is blocks a b x y e f =
    append_assoc (indent blocks ++ a) (codes "\n") x
    ∙ ap (λ (i : List ℕ). (i ++ a) ++ 10 ∷ x) (indent_is blocks) ∙ ap (λ (w : List ℕ). (margin (length blocks) ++ w) ++ 10 ∷ x) e ∙ ap (λ (l : List ℕ). (margin (length blocks) ++ b) ++ 10 ∷ l) f

-- the lines of the loop that lines give from a scope on
abbrev pub marks_from : Scope → List Numbered → List Mark
marks_from s ls = gathered (λ s l. mark s l.number l.line) s ls

abbrev pub IsInside : Stage → Type 0
IsInside Above = ⊥
IsInside (Within blocks) = Unit {0}
IsInside Behind = Unit {0}

module _ (decls : List Decl) (locals : List LocalDecl) where
  abbrev AreShown : Scope → List Numbered → Type 0
  AreShown s ls = marks_text decls locals s.blocks (marks_from s ls) ≡ unlines (shown_lines (length s.blocks) ls)

  abbrev Goal : List Numbered → Type 0
  Goal ls = (stage : Stage) (s : Scope) (n : ℕ) → IsInside stage → AreNested stage ls → Reads decls locals s n ls → AreShown s ls

  end_shown : (s : Scope) (n : ℕ) (ls : List Numbered) → AreShown (scope_behind s n lines.End) ls → AreShown s (record { number = n; line = lines.End } ∷ ls)
  end_shown s n ls h =
      let behind = marks_text decls locals (outer_blocks s.blocks) (marks_from (scope_behind s n lines.End) ls) in
      line_is (outer_blocks s.blocks) (codes "end") (codes "end") behind (unlines (shown_lines (length (outer_blocks s.blocks)) ls)) refl h
      ∙ ap (λ (b : ℕ). (margin b ++ codes "end") ++ 10 ∷ unlines (shown_lines b ls)) (outer_length s.blocks)

  inside : (k : ℕ) (s : Scope) (n m : ℕ) (l : Line) (ls : List Numbered) → Goal ls → AreNested (Within k) (record { number = n; line = l } ∷ ls) → Reads decls locals s m (record { number = n; line = l } ∷ ls)
      → AreShown s (record { number = n; line = l } ∷ ls)
  inside k s n m (lines.Matrix name form) ls more nested h = absurd cc
  inside k s n m (lines.Index name size) ls more nested h = absurd cc
  inside k s n m (lines.Vector name size source) ls more nested h = absurd cc
  inside k s n m (lines.Local name) ls more nested h = absurd cc
  inside k s n m (lines.Prop prop) ls more nested h = absurd cc
  inside k s n m (lines.Loop name) ls more nested h = absurd cc
  inside k s n m (lines.For name lo hi) ls more nested h =
      let l : Numbered = record { number = n; line = lines.For name lo hi } in
      line_is s.blocks _ _ _ _ (for_shows decls locals s (reads_names decls locals s m (l ∷ ls) h) name lo hi (reads_fault decls locals s m l ls h))
      (more (Within (k + 1)) (scope_after s l) (n + 1) tt nested (reads_next decls locals s m l ls h))
  inside k s n m (lines.When rel left right) ls more nested h =
      let l : Numbered = record { number = n; line = lines.When rel left right } in
      line_is s.blocks _ _ _ _ (when_shows decls locals s (reads_names decls locals s m (l ∷ ls) h) rel left right (reads_fault decls locals s m l ls h))
      (more (Within (k + 1)) (scope_after s l) (n + 1) tt nested (reads_next decls locals s m l ls h))
  inside k s n m (lines.Set array at value) ls more nested h =
      let l : Numbered = record { number = n; line = lines.Set array at value } in
      line_is s.blocks _ _ _ _ (set_shows decls locals s (reads_names decls locals s m (l ∷ ls) h) array at value (reads_fault decls locals s m l ls h))
      (more (Within k) (scope_after s l) (n + 1) tt nested (reads_next decls locals s m l ls h))
  inside k s n m (lines.Keep name value) ls more nested h =
      let l : Numbered = record { number = n; line = lines.Keep name value } in
      line_is s.blocks _ _ _ _ (keep_shows decls locals s (reads_names decls locals s m (l ∷ ls) h) name value (reads_fault decls locals s m l ls h))
      (more (Within k) (scope_after s l) (n + 1) tt nested (reads_next decls locals s m l ls h))
  inside zero s n m lines.End ls more nested h =
      let l : Numbered = record { number = n; line = lines.End } in
      end_shown s n ls (more Behind (scope_after s l) (n + 1) tt nested (reads_next decls locals s m l ls h))
  inside (suc k) s n m lines.End ls more nested h =
      let l : Numbered = record { number = n; line = lines.End } in
      end_shown s n ls (more (Within k) (scope_after s l) (n + 1) tt nested (reads_next decls locals s m l ls h))

  pub body_shown : (ls : List Numbered) → Goal ls
  body_shown [] stage s n is nested h = refl
  body_shown (l ∷ ls) Above s n is nested h = absurd is
  body_shown (l ∷ ls) (Within k) s n is nested h = inside k s l.number n l.line ls (body_shown ls) nested h
  body_shown (l ∷ ls) Behind s n is nested h = absurd cc
