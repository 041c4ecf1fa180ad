-- The variables on the lines of a nest of a text are those of the loops round them.
use Rattle.std.proofs.Common.{◌≡◌, ℕ, Bool, true, false, ◌||◌, ◌==◌, if◌then◌else◌, List, [], ◌∷◌, ◌++◌, Option, Some, None, refl, sym, ap, subst, ◌∙◌, arith}
use Rattle.std.specs.Prelude.{IsTrue}
use Rattle.std.specs.List.{list_all, flat_map}
use Rattle.std.specs.Str.{bytes_eq}
use Rattle.std.proofs.lemmas.Bool.Decides.{nat_tests}
use Rattle.std.proofs.lemmas.Grind.{flat_map-append}
use Rattle.std.proofs.lemmas.List.Folds.{list_all-append}
use Rattle.loop_core.specs.declared.nest.Side.TheVariants.{Own}
use Rattle.loop_core.specs.declared.nest.VarId.{VarId}
use Rattle.loop_core.specs.declared.nest.Term.{Term}
use Rattle.loop_core.specs.declared.nest.Nest.{Nest}
use Rattle.loop_core.specs.Binding.{same_variable}
use Rattle.loop_core.specs.Shape.{Loop, Line as BodyLine, vars_step, term_vars, expr_terms_step, expr_terms}
use Rattle.loop_core.specs.IsNest.{is_round, knows_variables}
use Rattle.loop_lines.specs.declared.line.Line.{Line}
use Rattle.loop_lines.specs.declared.line.Line.TheVariants as lines
use Rattle.loop_lines.specs.declared.tree.NamedAtom.{NamedAtom}
use Rattle.loop_lines.specs.declared.tree.NamedAtom.TheOpen.{NamedAtom-F}
use Rattle.loop_lines.specs.declared.tree.NamedTerm.{NamedTerm}
use Rattle.loop_lines.specs.declared.tree.NamedExpr.{NamedExpr}
use Rattle.loop_lines.specs.declared.tree.NamedExpr.TheOpen.{NamedExpr-F}
use Rattle.loop_lines.specs.declared.tree.NamedExpr.TheViews.{roll-NamedExpr}
use Rattle.loop_lines.specs.declared.tree.NamedExpr.TheFolds.{ind-NamedExpr, map-NamedExpr}
use Rattle.loop_lines.specs.Words.{either}
use Rattle.loop_syntax.specs.declared.numbered.Numbered.{Numbered}
use Rattle.loop_lines.specs.declared.block.Block.{Block}
use Rattle.loop_lines.specs.declared.block.Block.TheVariants.{Repeated, Guarded}
use Rattle.loop_syntax.specs.declared.scope.Known.{Known}
use Rattle.loop_syntax.specs.declared.scope.Meaning.{Meaning}
use Rattle.loop_syntax.specs.declared.scope.Meaning.TheVariants as meanings
use Rattle.loop_syntax.specs.Numbered.{numbered}
use Rattle.loop_syntax.specs.Scope.{Scope, empty, variables, found, meaning_of, parts_from, scope_behind, scope_after, use_of}
use Rattle.loop_syntax.specs.NameRules.{new_fault, variable_fault, kept_fault, index_fault, data_fault, target_fault, atom_fault, term_fault, terms_fault, value_fault, line_fault, first_fault}
use Rattle.loop_syntax.specs.Resolved.{loop_line, variable_in, term_in, value_in}
use Rattle.loop_syntax.specs.TextNest.{IsRead}
use Rattle.loop_lines.proofs.Bools.{and_both}
use Rattle.loop_syntax.proofs.FewLaws.{either_none}
use Rattle.loop_syntax.proofs.ReadLaws.{faultless, fine_first}
use Rattle.loop_laws.proofs.ShownNames.{AreNoVariables, no_variables_both, none_found, no_variable}
use Rattle.loop_laws.proofs.ShownTrees.{variable_is, fault_of_value}
use Rattle.loop_laws.proofs.NestForms.{loops_of, body_line, text_body}
use Rattle.loop_laws.proofs.NestLayers.{Step, by_layers, named_layer, term_layer, expr_layer}
use Rattle.loop_laws.proofs.NestNames.{body_from}

-- ---- a name that stands for a variable has an open loop

abbrev var_at : ℕ → VarId
var_at line = record { line = line; side = Own }

or_right : (a b : Bool) → b ≡ true → (a || b) ≡ true
or_right false b h = h
or_right true b h = refl

own_loop : (own : List ℕ) (line at : ℕ) (more : Option Meaning) (around : List Loop) (b : Bool) → (more ≡ Some (meanings.Variable line) → is_round around (var_at line) ≡ true)
    → (if b then Some (meanings.Variable at) else more) ≡ Some (meanings.Variable line) → is_round (record { line = at; name = own } ∷ around) (var_at line) ≡ true
own_loop own line at more around true next e =
    let here : at ≡ line = cc in
    let test : (at == line) ≡ true = grind (arith, nat_tests) in
    rw test refl
own_loop own line at more around false next e = or_right (same_variable (var_at at) (var_at line)) (is_round around (var_at line)) (next e)

has_loop : (name : List ℕ) (line : ℕ) (bs : List Block) (ks : List Known) → AreNoVariables ks → found name (variables bs ++ ks) ≡ Some (meanings.Variable line)
    → is_round (loops_of bs) (var_at line) ≡ true
has_loop name line [] ks apart e = absurd (no_variable (found name ks) line (none_found name ks apart) e)
has_loop name line (Repeated at own ∷ bs) ks apart e = own_loop own line at (found name (variables bs ++ ks)) (loops_of bs) (bytes_eq name own) (has_loop name line bs ks apart) e
has_loop name line (Guarded ∷ bs) ks apart e = has_loop name line bs ks apart e

-- ---- terms and expressions that break no rule

module _ (s : Scope) (apart : AreNoVariables s.declared) where
  abbrev are_round : List VarId → Bool
  are_round vs = list_all (is_round (loops_of s.blocks)) vs

  both_round : (vs ws : List VarId) → are_round vs ≡ true → are_round ws ≡ true → are_round (vs ++ ws) ≡ true
  both_round vs ws h k = list_all-append (is_round (loops_of s.blocks)) vs ws ∙ and_both (are_round vs) (are_round ws) h k

  abbrev TermRound : NamedTerm → Type 0
  TermRound t = term_fault s t ≡ None → are_round (term_vars (term_in s t)) ≡ true

  variable_round : (name : List ℕ) → variable_fault (meaning_of s name) ≡ None → is_round (loops_of s.blocks) (variable_in s name) ≡ true
  variable_round name e = has_loop name (loop_line (meaning_of s name)) s.blocks s.declared apart (variable_is (meaning_of s name) e)

  round_step : Step TermRound
  round_step NamedAtom-F.Zero plus e = ap are_round (term_layer vars_step (λ t. t.atom) s NamedAtom-F.Zero plus)
  round_step NamedAtom-F.N plus e = ap are_round (term_layer vars_step (λ t. t.atom) s NamedAtom-F.N plus)
  round_step NamedAtom-F.Nnz plus e = ap are_round (term_layer vars_step (λ t. t.atom) s NamedAtom-F.Nnz plus)
  round_step (NamedAtom-F.Var name) plus e =
      let x : NamedAtom-F NamedAtom NamedTerm = NamedAtom-F.Var name in
      let fine = sym (named_layer (atom_fault s) (λ t. t.atom) x plus) ∙ e in
      let one = and_both (is_round (loops_of s.blocks) (variable_in s name)) true (variable_round name fine) refl in
      ap are_round (term_layer vars_step (λ t. t.atom) s x plus) ∙ one
  round_step (NamedAtom-F.At array inner) plus e =
      let x : NamedAtom-F NamedAtom NamedTerm = NamedAtom-F.At array inner.0 in
      let both = either_none (index_fault (use_of s array)) (term_fault s inner.0) (sym (named_layer (atom_fault s) (λ t. t.atom) x plus) ∙ e) in
      ap are_round (term_layer vars_step (λ t. t.atom) s x plus) ∙ inner.1 both.1

  term_round : (t : NamedTerm) → TermRound t
  term_round = by_layers TermRound round_step

  two_round : (a b : NamedTerm) → terms_fault s a b ≡ None → are_round (term_vars (term_in s a) ++ (term_vars (term_in s b) ++ [])) ≡ true
  two_round a b e =
      let both = either_none (term_fault s a) (term_fault s b) e in
      both_round (term_vars (term_in s a)) (term_vars (term_in s b) ++ []) (term_round a both.0) (both_round (term_vars (term_in s b)) [] (term_round b both.1) refl)

  abbrev all_vars : List Term → List VarId
  all_vars ts = flat_map term_vars ts

  abbrev ValueRound : NamedExpr → Type 0
  ValueRound v = value_fault s v ≡ None → are_round (all_vars (expr_terms (value_in s v))) ≡ true

  abbrev RoundValue : Type 0
  RoundValue = (v : NamedExpr) × ValueRound v

  value_case : (y : NamedExpr-F RoundValue) → ValueRound (roll-NamedExpr (map-NamedExpr RoundValue NamedExpr (λ e. e.0) y))
  value_case (NamedExpr-F.Lit z) e = ap (λ (ts : List Term). are_round (all_vars ts)) (expr_layer expr_terms_step s (NamedExpr-F.Lit z))
  value_case (NamedExpr-F.Read array at) e =
      let both = either_none (data_fault (use_of s array)) (term_fault s at) (fault_of_value s (NamedExpr-F.Read array at) e) in
      ap (λ (ts : List Term). are_round (all_vars ts)) (expr_layer expr_terms_step s (NamedExpr-F.Read array at)) ∙ both_round (term_vars (term_in s at)) [] (term_round at both.1) refl
  value_case (NamedExpr-F.Local name) e = ap (λ (ts : List Term). are_round (all_vars ts)) (expr_layer expr_terms_step s (NamedExpr-F.Local name))
  value_case (NamedExpr-F.Op op l r) e =
      let x : NamedExpr-F NamedExpr = NamedExpr-F.Op op l.0 r.0 in
      let both = either_none (value_fault s l.0) (value_fault s r.0) (fault_of_value s x e) in
      let left = expr_terms (value_in s l.0) in
      let right = expr_terms (value_in s r.0) in
      ap (λ (ts : List Term). are_round (all_vars ts)) (expr_layer expr_terms_step s x)
      ∙ ap are_round (flat_map-append term_vars left right) ∙ both_round (all_vars left) (all_vars right) (l.1 both.0) (r.1 both.1)

  value_round : (v : NamedExpr) → ValueRound v
  value_round = ind-NamedExpr ValueRound (λ x y is. subst (λ z. ValueRound (roll-NamedExpr z)) is (value_case y))

-- ---- line by line

abbrev are_known : List BodyLine → Bool
are_known ls = list_all knows_variables ls

one_known : (s : Scope) (n : ℕ) (l : Line) (rest : List BodyLine) → AreNoVariables s.declared → line_fault s l ≡ None → are_known rest ≡ true
    → are_known (body_line s (record { number = n; line = l }) ++ rest) ≡ true
one_known s n (lines.For name lo hi) rest apart fine h = rw (two_round s apart lo hi (either_none (new_fault (meaning_of s name)) (terms_fault s lo hi) fine).1) h
one_known s n (lines.When rel left right) rest apart fine h = rw (two_round s apart left right fine) h
one_known s n (lines.Set array at value) rest apart fine h =
    let both = either_none (either (target_fault (use_of s array)) (term_fault s at)) (value_fault s value) fine in
    let place = term_round s apart at (either_none (target_fault (use_of s array)) (term_fault s at) both.0).1 in
    rw (both_round s apart (term_vars (term_in s at)) (all_vars s apart (expr_terms (value_in s value))) place (value_round s apart value both.1)) h
one_known s n (lines.Keep name value) rest apart fine h =
    rw (value_round s apart value (either_none (kept_fault (meaning_of s name)) (value_fault s value) fine).1) h
one_known s n _ rest apart fine h = h

-- declared names stand for no variables
apart_behind : (s : Scope) (n : ℕ) (l : Line) → AreNoVariables s.declared → AreNoVariables (scope_behind s n l).declared
apart_behind s n (lines.Matrix name form) h = no_variables_both s.declared (record { name = name; meaning = meanings.Matrix form (parts_from s.arrays) } ∷ []) h (tt, tt)
apart_behind s n (lines.Index name size) h = no_variables_both s.declared (record { name = name; meaning = meanings.Indexes size s.arrays } ∷ []) h (tt, tt)
apart_behind s n (lines.Vector name size source) h = no_variables_both s.declared (record { name = name; meaning = meanings.Holds size s.arrays } ∷ []) h (tt, tt)
apart_behind s n (lines.Local name) h = no_variables_both s.declared (record { name = name; meaning = meanings.Local s.locals } ∷ []) h (tt, tt)
apart_behind s n _ h = h

all_known : (s : Scope) (ls : List Numbered) → first_fault s ls ≡ None → AreNoVariables s.declared → are_known (body_from s ls) ≡ true
all_known s [] fine apart = refl
all_known s (l ∷ ls) fine apart =
    let f = fine_first s l ls fine in
    one_known s l.number l.line (body_from (scope_after s l) ls) apart f.0 (all_known (scope_after s l) ls f.1 (apart_behind s l.number l.line apart))

pub in_scope : (ls : List (List ℕ)) (nest : Nest) → IsRead ls nest → IsTrue (list_all knows_variables (text_body (numbered ls)))
in_scope ls nest read = all_known empty (numbered ls) (faultless ls read.accepted) tt
