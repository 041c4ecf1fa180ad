-- The rules on names and the limits are the same where lines have other numbers.
use Rattle.std.proofs.Common.{◌≡◌, ℕ, ◌+◌, nat_lt, List, [], ◌∷◌, ◌++◌, map, length, Option, Some, None, refl, ap, ◌∙◌}
use Rattle.std.proofs.Math.Path.{fun_ext}
use Rattle.std.specs.Option.{option_map}
use Rattle.std.specs.List.{filter}
use Rattle.std.proofs.lemmas.List.{length-map}
use Rattle.loop_core.specs.declared.decl.Size.TheVariants as sizes
use Rattle.loop_lines.specs.declared.line.Line.{Line}
use Rattle.loop_lines.specs.declared.line.Line.TheVariants as lines
use Rattle.loop_lines.specs.declared.line.NamedProp.{NamedProp}
use Rattle.loop_lines.specs.declared.line.NamedProp.TheVariants as props
use Rattle.loop_lines.specs.declared.tree.ArrayName.{ArrayName}
use Rattle.loop_lines.specs.declared.tree.NamedAtom.TheOpen.{NamedAtom-F}
use Rattle.loop_lines.specs.declared.tree.NamedAtom.TheFolds.{fold-NamedTerm}
use Rattle.loop_lines.specs.declared.tree.NamedTerm.{NamedTerm}
use Rattle.loop_lines.specs.declared.tree.NamedExpr.{NamedExpr}
use Rattle.loop_lines.specs.declared.tree.NamedExpr.TheOpen.{NamedExpr-F}
use Rattle.loop_lines.specs.declared.tree.NamedExpr.TheFolds.{fold-NamedExpr}
use Rattle.loop_lines.specs.Reading.{or_else}
use Rattle.loop_lines.specs.Words.{either}
use Rattle.loop_syntax.specs.declared.refusal.NameKind.{NameKind}
use Rattle.loop_syntax.specs.declared.refusal.LimitKind.{LimitKind}
use Rattle.loop_syntax.specs.declared.refusal.LimitKind.TheVariants.{Arrays, Locals, Depth, References}
use Rattle.loop_syntax.specs.declared.scope.Meaning.{Meaning}
use Rattle.loop_syntax.specs.declared.scope.Meaning.TheVariants as meanings
use Rattle.loop_syntax.specs.declared.scope.ArrayUse.{ArrayUse}
use Rattle.loop_syntax.specs.declared.numbered.Numbered.{Numbered}
use Rattle.loop_syntax.specs.Scope.{Scope, variables, meaning_of, scope_after, use_of}
use Rattle.loop_syntax.specs.NameRules.{new_fault, variable_fault, local_fault, kept_fault, index_fault, sized_fault, alike_fault, data_fault, target_fault, atom_fault, term_fault, terms_fault, value_step, value_fault, prop_fault, line_fault, first_fault}
use Rattle.loop_syntax.specs.Resolved.{number_of}
use Rattle.loop_syntax.specs.Counts.{data_arrays, target, targets, is_written, references, passed, constant_limit, limits_at, first_passed}
use Rattle.loop_laws.proofs.BackNumbers.{with_number}
use Rattle.loop_laws.proofs.BackScope.{with_meaning, with_scope, variables_with, meaning_with, uses_with, scope_with}

-- ---- names

new_with : (f : ℕ → ℕ) (m : Option Meaning) → new_fault (option_map (with_meaning f) m) ≡ new_fault m
new_with f None = refl
new_with f (Some m) = refl

variable_with : (f : ℕ → ℕ) (m : Option Meaning) → variable_fault (option_map (with_meaning f) m) ≡ variable_fault m
variable_with f None = refl
variable_with f (Some (meanings.Matrix form parts)) = refl
variable_with f (Some (meanings.Indexes size number)) = refl
variable_with f (Some (meanings.Holds size number)) = refl
variable_with f (Some (meanings.Variable line)) = refl
variable_with f (Some (meanings.Local number)) = refl

own_with : (f : ℕ → ℕ) (m : Option Meaning) → local_fault (option_map (with_meaning f) m) ≡ local_fault m
own_with f None = refl
own_with f (Some (meanings.Matrix form parts)) = refl
own_with f (Some (meanings.Indexes size number)) = refl
own_with f (Some (meanings.Holds size number)) = refl
own_with f (Some (meanings.Variable line)) = refl
own_with f (Some (meanings.Local number)) = refl

kept_with : (f : ℕ → ℕ) (m : Option Meaning) → kept_fault (option_map (with_meaning f) m) ≡ kept_fault m
kept_with f None = refl
kept_with f (Some (meanings.Matrix form parts)) = refl
kept_with f (Some (meanings.Indexes size number)) = refl
kept_with f (Some (meanings.Holds size number)) = refl
kept_with f (Some (meanings.Variable line)) = refl
kept_with f (Some (meanings.Local number)) = refl

module _ (f : ℕ → ℕ) (s : Scope) where
  new_name_with : (name : List ℕ) → new_fault (meaning_of (with_scope f s) name) ≡ new_fault (meaning_of s name)
  new_name_with name = ap new_fault (meaning_with f s name) ∙ new_with f (meaning_of s name)

  atom_with : (x : NamedAtom-F (Option NameKind) (Option NameKind)) → atom_fault (with_scope f s) x ≡ atom_fault s x
  atom_with NamedAtom-F.Zero = refl
  atom_with NamedAtom-F.N = refl
  atom_with NamedAtom-F.Nnz = refl
  atom_with (NamedAtom-F.Var name) = ap variable_fault (meaning_with f s name) ∙ variable_with f (meaning_of s name)
  atom_with (NamedAtom-F.At array inner) = ap (λ (u : ArrayName → ArrayUse). either (index_fault (u array)) inner) (uses_with f s)

  term_with : (t : NamedTerm) → term_fault (with_scope f s) t ≡ term_fault s t
  term_with t = ap (λ (step : NamedAtom-F (Option NameKind) (Option NameKind) → Option NameKind). fold-NamedTerm (Option NameKind) (Option NameKind) step (λ t. t.atom) t) (fun_ext atom_with)

  terms_with : (a b : NamedTerm) → terms_fault (with_scope f s) a b ≡ terms_fault s a b
  terms_with a b = ap (λ (x : Option NameKind). either x (term_fault (with_scope f s) b)) (term_with a) ∙ ap (either (term_fault s a)) (term_with b)

  step_with : (x : NamedExpr-F (Option NameKind)) → value_step (with_scope f s) x ≡ value_step s x
  step_with (NamedExpr-F.Lit value) = refl
  step_with (NamedExpr-F.Read array at) =
      ap (λ (u : ArrayName → ArrayUse). either (data_fault (u array)) (term_fault (with_scope f s) at)) (uses_with f s) ∙ ap (either (data_fault (use_of s array))) (term_with at)
  step_with (NamedExpr-F.Local name) = ap local_fault (meaning_with f s name) ∙ own_with f (meaning_of s name)
  step_with (NamedExpr-F.Op op left right) = refl

  value_with : (e : NamedExpr) → value_fault (with_scope f s) e ≡ value_fault s e
  value_with e = ap (λ (step : NamedExpr-F (Option NameKind) → Option NameKind). fold-NamedExpr (Option NameKind) step e) (fun_ext step_with)

  prop_with : (p : NamedProp) → prop_fault (with_scope f s) p ≡ prop_fault s p
  prop_with (props.Range array lo hi) = ap (λ (u : ArrayName → ArrayUse). index_fault (u array)) (uses_with f s)
  prop_with (props.Rising p) = ap (λ (u : ArrayName → ArrayUse). index_fault (u p)) (uses_with f s)
  prop_with (props.Strict p) = ap (λ (u : ArrayName → ArrayUse). index_fault (u p)) (uses_with f s)
  prop_with (props.Injective array) = ap (λ (u : ArrayName → ArrayUse). index_fault (u array)) (uses_with f s)
  prop_with (props.Sorted array p) = ap (λ (u : ArrayName → ArrayUse). either (index_fault (u array)) (sized_fault sizes.NPlusOne (u p))) (uses_with f s)
  prop_with (props.Below array p) = ap (λ (u : ArrayName → ArrayUse). either (index_fault (u array)) (sized_fault sizes.NPlusOne (u p))) (uses_with f s)
  prop_with (props.Upto array p) = ap (λ (u : ArrayName → ArrayUse). either (index_fault (u array)) (sized_fault sizes.NPlusOne (u p))) (uses_with f s)
  prop_with (props.Diagonal d array p) =
      ap (λ (u : ArrayName → ArrayUse). either (sized_fault sizes.N (u d)) (either (index_fault (u array)) (sized_fault sizes.NPlusOne (u p)))) (uses_with f s)
  prop_with (props.Before a b) = ap (λ (u : ArrayName → ArrayUse). either (index_fault (u a)) (alike_fault (u a) (u b))) (uses_with f s)

  set_with : (array : ArrayName) (at : NamedTerm) (value : NamedExpr) → line_fault (with_scope f s) (lines.Set array at value) ≡ line_fault s (lines.Set array at value)
  set_with array at value =
      ap (λ (u : ArrayName → ArrayUse). either (either (target_fault (u array)) (term_fault (with_scope f s) at)) (value_fault (with_scope f s) value)) (uses_with f s)
      ∙ ap (λ (x : Option NameKind). either (either (target_fault (use_of s array)) x) (value_fault (with_scope f s) value)) (term_with at)
      ∙ ap (either (either (target_fault (use_of s array)) (term_fault s at))) (value_with value)

  keep_with : (name : List ℕ) (value : NamedExpr) → line_fault (with_scope f s) (lines.Keep name value) ≡ line_fault s (lines.Keep name value)
  keep_with name value =
      ap (λ (x : Option NameKind). either x (value_fault (with_scope f s) value)) (ap kept_fault (meaning_with f s name) ∙ kept_with f (meaning_of s name))
      ∙ ap (either (kept_fault (meaning_of s name))) (value_with value)

  line_fault_with : (l : Line) → line_fault (with_scope f s) l ≡ line_fault s l
  line_fault_with (lines.Matrix name form) = new_name_with name
  line_fault_with (lines.Index name size) = new_name_with name
  line_fault_with (lines.Vector name size source) = new_name_with name
  line_fault_with (lines.Local name) = new_name_with name
  line_fault_with (lines.Prop prop) = prop_with prop
  line_fault_with (lines.Loop name) = new_name_with name
  line_fault_with (lines.For name lo hi) =
      ap (λ (x : Option NameKind). either x (terms_fault (with_scope f s) lo hi)) (new_name_with name) ∙ ap (either (new_fault (meaning_of s name))) (terms_with lo hi)
  line_fault_with (lines.When rel left right) = terms_with left right
  line_fault_with (lines.Set array at value) = set_with array at value
  line_fault_with (lines.Keep name value) = keep_with name value
  line_fault_with lines.End = refl

-- ---- the first line that breaks a rule

abbrev renamed : {K : Type 0} → (ℕ → ℕ) → Option (ℕ × K) → Option (ℕ × K)
renamed f found = option_map (λ x. (f x.0, x.1)) found

abbrev first_of : {K : Type 0} → ℕ → Option K → Option (ℕ × K) → Option (ℕ × K)
first_of n here more = or_else here (λ kind. Some (n, kind)) more

first_with : {K : Type 0} (f : ℕ → ℕ) (n : ℕ) (here : Option K) (more : Option (ℕ × K)) → first_of (f n) here (renamed f more) ≡ renamed f (first_of n here more)
first_with f n None more = refl
first_with f n (Some kind) more = refl

fault_with : (f : ℕ → ℕ) (s : Scope) (ls : List Numbered) → first_fault (with_scope f s) (map (with_number f) ls) ≡ renamed f (first_fault s ls)
fault_with f s [] = refl
fault_with f s (l ∷ ls) =
    let rest = first_fault (scope_after (with_scope f s) (with_number f l)) (map (with_number f) ls) in
    ap (λ (here : Option NameKind). first_of (f l.number) here rest) (line_fault_with f s l.line)
    ∙ ap (λ (t : Scope). first_of (f l.number) (line_fault s l.line) (first_fault t (map (with_number f) ls))) (scope_with f s l.number l.line)
    ∙ ap (first_of (f l.number) (line_fault s l.line)) (fault_with f (scope_after s l) ls)
    ∙ first_with f l.number (line_fault s l.line) (first_fault (scope_after s l) ls)

pub no_fault : (f : ℕ → ℕ) (s : Scope) (ls : List Numbered) → first_fault s ls ≡ None → first_fault (with_scope f s) (map (with_number f) ls) ≡ None
no_fault f s ls e = fault_with f s ls ∙ ap (renamed f) e

-- ---- limits

target_with : (f : ℕ → ℕ) (s : Scope) (l : Line) → target (with_scope f s) l ≡ target s l
target_with f s (lines.Matrix name form) = refl
target_with f s (lines.Index name size) = refl
target_with f s (lines.Vector name size source) = refl
target_with f s (lines.Local name) = refl
target_with f s (lines.Prop prop) = refl
target_with f s (lines.Loop name) = refl
target_with f s (lines.For name lo hi) = refl
target_with f s (lines.When rel left right) = refl
target_with f s (lines.Set array at value) = ap (λ (u : ArrayName → ArrayUse). number_of (u array) ∷ []) (uses_with f s)
target_with f s (lines.Keep name value) = refl
target_with f s lines.End = refl

pub targets_with : (f : ℕ → ℕ) (s : Scope) (ls : List Numbered) → targets (with_scope f s) (map (with_number f) ls) ≡ targets s ls
targets_with f s [] = refl
targets_with f s (l ∷ ls) =
    ap (λ (x : List ℕ). x ++ targets (scope_after (with_scope f s) (with_number f l)) (map (with_number f) ls)) (target_with f s l.line)
    ∙ ap (λ (t : Scope). target s l.line ++ targets t (map (with_number f) ls)) (scope_with f s l.number l.line)
    ∙ ap (λ (x : List ℕ). target s l.line ++ x) (targets_with f (scope_after s l) ls)

depth_with : (f : ℕ → ℕ) (s : Scope) → length (variables (with_scope f s).blocks) ≡ length (variables s.blocks)
depth_with f s = ap length (variables_with f s.blocks) ∙ length-map (variables s.blocks) _

limit_with : (f : ℕ → ℕ) (l : Line) (s : Scope) (count : ℕ) → limits_at l (with_scope f s) count ≡ limits_at l s count
limit_with f l s count =
    ap (λ (d : ℕ). either (constant_limit l) (either (passed (nat_lt 64 s.arrays) Arrays) (either (passed (nat_lt 16 s.locals) Locals) (either (passed (nat_lt 6 d) Depth) (passed (nat_lt 16 count) References))))) (depth_with f s)

references_with : (written : List ℕ) (f : ℕ → ℕ) (s : Scope) (l : Line) → references written (with_scope f s) l ≡ references written s l
references_with written f s l = ap (λ (u : ArrayName → ArrayUse). length (filter (λ a. is_written written (number_of (u a))) (data_arrays l))) (uses_with f s)

passed_with : (written : List ℕ) (f : ℕ → ℕ) (s : Scope) (count : ℕ) (ls : List Numbered) → first_passed written (with_scope f s) count (map (with_number f) ls) ≡ renamed f (first_passed written s count ls)
passed_with written f s count [] = refl
passed_with written f s count (l ∷ ls) =
    let more = map (with_number f) ls in
    let so_far = count + references written s l.line in
    ap (λ (r : ℕ). first_of (f l.number) (limits_at l.line (scope_after (with_scope f s) (with_number f l)) (count + r)) (first_passed written (scope_after (with_scope f s) (with_number f l)) (count + r) more)) (references_with written f s l.line)
    ∙ ap (λ (t : Scope). first_of (f l.number) (limits_at l.line t so_far) (first_passed written t so_far more)) (scope_with f s l.number l.line)
    ∙ ap (λ (here : Option LimitKind). first_of (f l.number) here (first_passed written (with_scope f (scope_after s l)) so_far more)) (limit_with f l.line (scope_after s l) so_far)
    ∙ ap (first_of (f l.number) (limits_at l.line (scope_after s l) so_far)) (passed_with written f (scope_after s l) so_far ls)
    ∙ first_with f l.number (limits_at l.line (scope_after s l) so_far) (first_passed written (scope_after s l) so_far ls)

pub none_passed : (written : List ℕ) (f : ℕ → ℕ) (s : Scope) (ls : List Numbered) → first_passed written s 0 ls ≡ None → first_passed written (with_scope f s) 0 (map (with_number f) ls) ≡ None
none_passed written f s ls e = passed_with written f s 0 ls ∙ ap (renamed f) e
