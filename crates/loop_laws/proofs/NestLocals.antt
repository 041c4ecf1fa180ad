-- The locals on the lines of a nest of a text are declared ones.
use Rattle.std.proofs.Common.{◌≡◌, ℕ, ◌+◌, ◌<◌, nat_lt, Bool, true, false, if◌then◌else◌, List, [], ◌∷◌, ◌++◌, length, Option, Some, None, refl, sym, ap, subst, ◌∙◌, arith}
use Rattle.std.specs.Prelude.{IsTrue}
use Rattle.std.specs.List.{list_all}
use Rattle.std.specs.Str.{bytes_eq}
use Rattle.std.proofs.lemmas.Bool.Decides.{nat_tests}
use Rattle.loop_core.specs.declared.nest.Nest.{Nest}
use Rattle.loop_core.specs.Shape.{Line as BodyLine, line_locals, expr_locals, expr_locals_step}
use Rattle.loop_core.specs.IsNest.{knows_locals}
use Rattle.loop_lines.specs.declared.block.Block.{Block}
use Rattle.loop_lines.specs.declared.block.Block.TheVariants.{Repeated, Guarded}
use Rattle.loop_lines.specs.declared.line.Line.{Line}
use Rattle.loop_lines.specs.declared.line.Line.TheVariants as lines
use Rattle.loop_lines.specs.declared.tree.NamedExpr.{NamedExpr}
use Rattle.loop_lines.specs.declared.tree.NamedExpr.TheOpen.{NamedExpr-F}
use Rattle.loop_lines.specs.declared.tree.NamedExpr.TheViews.{roll-NamedExpr}
use Rattle.loop_lines.specs.declared.tree.NamedExpr.TheFolds.{ind-NamedExpr, map-NamedExpr}
use Rattle.loop_lines.specs.Words.{either}
use Rattle.loop_syntax.specs.declared.numbered.Numbered.{Numbered}
use Rattle.loop_syntax.specs.declared.scope.Known.{Known}
use Rattle.loop_syntax.specs.declared.scope.Meaning.{Meaning}
use Rattle.loop_syntax.specs.declared.scope.Meaning.TheVariants as meanings
use Rattle.loop_syntax.specs.Numbered.{numbered}
use Rattle.loop_syntax.specs.Scope.{Scope, empty, variables, known, found, meaning_of, parts_from, scope_behind, scope_after, use_of}
use Rattle.loop_syntax.specs.NameRules.{local_fault, kept_fault, target_fault, term_fault, value_fault, line_fault, first_fault}
use Rattle.loop_syntax.specs.Resolved.{local_number, local_in, value_in}
use Rattle.loop_syntax.specs.TextNest.{IsRead}
use Rattle.loop_lines.proofs.Bools.{and_both}
use Rattle.loop_syntax.proofs.FewLaws.{either_none}
use Rattle.loop_syntax.proofs.ReadLaws.{faultless, fine_first}
use Rattle.loop_laws.proofs.ShownNames.{locals_from}
use Rattle.loop_laws.proofs.ShownTrees.{local_is, kept_local, fault_of_value}
use Rattle.loop_laws.proofs.NestForms.{body_line, text_body}
use Rattle.loop_laws.proofs.NestLayers.{expr_layer}
use Rattle.loop_laws.proofs.NestKinds.{all_both, all_gathered}

-- ---- a name that stands for a local has one of the declared numbers

abbrev IsOwn : ℕ → Meaning → Type 0
IsOwn count (meanings.Local number) = number < count
IsOwn count _ = Unit {0}

abbrev AreOwn : ℕ → List Known → Type 0
AreOwn count [] = Unit {0}
AreOwn count (k ∷ ks) = IsOwn count k.meaning × AreOwn count ks

own_both : (count : ℕ) (xs ys : List Known) → AreOwn count xs → AreOwn count ys → AreOwn count (xs ++ ys)
own_both count [] ys h k = k
own_both count (x ∷ xs) ys h k = (h.0, own_both count xs ys h.1 k)

variables_own : (count : ℕ) (bs : List Block) → AreOwn count (variables bs)
variables_own count [] = tt
variables_own count (Repeated line name ∷ bs) = (tt, variables_own count bs)
variables_own count (Guarded ∷ bs) = variables_own count bs

abbrev IsOwnIf : ℕ → Option Meaning → Type 0
IsOwnIf count None = Unit {0}
IsOwnIf count (Some m) = IsOwn count m

found_own : (count : ℕ) (name : List ℕ) (ks : List Known) → AreOwn count ks → IsOwnIf count (found name ks)
found_own count name [] h = tt
found_own count name (k ∷ ks) h =
    elim (bytes_eq name k.name) as (λ (b : Bool). IsOwnIf count (if b then Some k.meaning else found name ks)) [ true ↦ h.0 | false ↦ found_own count name ks h.1 ]

number_own : (count number : ℕ) (o : Option Meaning) → IsOwnIf count o → o ≡ Some (meanings.Local number) → number < count
number_own count number o h e = let P : Option Meaning → Type 0 = λ x. IsOwnIf count x in subst P e h

-- ---- scopes

-- the lines above gave the locals below the scope's number, and these lines give the others
record Counts (count : ℕ) (s : Scope) (ls : List Numbered) : Type 0 where
  left : s.locals + length (locals_from s ls) ≡ count
  own : AreOwn count s.declared

own_more : (count : ℕ) (ks : List Known) (name : List ℕ) (meaning : Meaning) → AreOwn count ks → IsOwn count meaning → AreOwn count (ks ++ record { name = name; meaning = meaning } ∷ [])
own_more count ks name meaning h is = own_both count ks (record { name = name; meaning = meaning } ∷ []) h (is, tt)

counts_behind : (count : ℕ) (s : Scope) (n : ℕ) (l : Line) (ls : List Numbered) → Counts count s (record { number = n; line = l } ∷ ls) → Counts count (scope_behind s n l) ls
counts_behind count s n (lines.Matrix name form) ls h = record { left = omega (arith, h.left); own = own_more count s.declared name (meanings.Matrix form (parts_from s.arrays)) h.own tt }
counts_behind count s n (lines.Index name size) ls h = record { left = omega (arith, h.left); own = own_more count s.declared name (meanings.Indexes size s.arrays) h.own tt }
counts_behind count s n (lines.Vector name size source) ls h = record { left = omega (arith, h.left); own = own_more count s.declared name (meanings.Holds size s.arrays) h.own tt }
counts_behind count s n (lines.Local name) ls h = record { left = omega (arith, h.left); own = own_more count s.declared name (meanings.Local s.locals) h.own (omega (arith, h.left)) }
counts_behind count s n (lines.Prop prop) ls h = record { left = h.left; own = h.own }
counts_behind count s n (lines.Loop name) ls h = record { left = h.left; own = h.own }
counts_behind count s n (lines.For name lo hi) ls h = record { left = h.left; own = h.own }
counts_behind count s n (lines.When rel left right) ls h = record { left = h.left; own = h.own }
counts_behind count s n (lines.Set array at value) ls h = record { left = h.left; own = h.own }
counts_behind count s n (lines.Keep name value) ls h = record { left = h.left; own = h.own }
counts_behind count s n lines.End ls h = record { left = h.left; own = h.own }

-- ---- expressions and lines that break no rule

module _ (count : ℕ) (s : Scope) (own : AreOwn count s.declared) where
  abbrev are_own : List ℕ → Bool
  are_own locals = list_all (λ local. nat_lt local count) locals

  local_own : (name : List ℕ) → local_fault (meaning_of s name) ≡ None → are_own (local_in s name ∷ []) ≡ true
  local_own name e =
      let all = own_both count (variables s.blocks) s.declared (variables_own count s.blocks) own in
      let h = number_own count (local_number (meaning_of s name)) (meaning_of s name) (found_own count name (known s) all) (local_is (meaning_of s name) e) in
      let lower : nat_lt (local_in s name) count ≡ true = grind (arith, nat_tests, h) in
      and_both (nat_lt (local_in s name) count) true lower refl

  abbrev HasOwn : NamedExpr → Type 0
  HasOwn v = value_fault s v ≡ None → are_own (expr_locals (value_in s v)) ≡ true

  abbrev OwnValue : Type 0
  OwnValue = (v : NamedExpr) × HasOwn v

  value_case : (y : NamedExpr-F OwnValue) → HasOwn (roll-NamedExpr (map-NamedExpr OwnValue NamedExpr (λ e. e.0) y))
  value_case (NamedExpr-F.Lit value) e = ap are_own (expr_layer expr_locals_step s (NamedExpr-F.Lit value))
  value_case (NamedExpr-F.Read array at) e = ap are_own (expr_layer expr_locals_step s (NamedExpr-F.Read array at))
  value_case (NamedExpr-F.Local name) e = ap are_own (expr_layer expr_locals_step s (NamedExpr-F.Local name)) ∙ local_own name (fault_of_value s (NamedExpr-F.Local name) e)
  value_case (NamedExpr-F.Op op l r) e =
      let x : NamedExpr-F NamedExpr = NamedExpr-F.Op op l.0 r.0 in
      let both = either_none (value_fault s l.0) (value_fault s r.0) (fault_of_value s x e) in
      ap are_own (expr_layer expr_locals_step s x) ∙ all_both (λ local. nat_lt local count) (expr_locals (value_in s l.0)) (expr_locals (value_in s r.0)) (l.1 both.0) (r.1 both.1)

  value_own : (v : NamedExpr) → HasOwn v
  value_own = ind-NamedExpr HasOwn (λ x y is. subst (λ z. HasOwn (roll-NamedExpr z)) is (value_case y))

  abbrev line_own : BodyLine → Bool
  line_own l = are_own (line_locals l.form)

  one_own : (n : ℕ) (l : Line) → line_fault s l ≡ None → list_all line_own (body_line s (record { number = n; line = l })) ≡ true
  one_own n (lines.Set array at value) e =
      let both = either_none (either (target_fault (use_of s array)) (term_fault s at)) (value_fault s value) e in
      and_both (are_own (expr_locals (value_in s value))) true (value_own value both.1) refl
  one_own n (lines.Keep name value) e =
      let both = either_none (kept_fault (meaning_of s name)) (value_fault s value) e in
      let local = local_own name (kept_local (meaning_of s name) both.0) in
      let all = all_both (λ k. nat_lt k count) (expr_locals (value_in s value)) (local_in s name ∷ []) (value_own value both.1) local in
      and_both (are_own (expr_locals (value_in s value) ++ local_in s name ∷ [])) true all refl
  one_own n _ e = refl

-- ---- line by line

abbrev Goes : ℕ → Scope → List Numbered → Type 0
Goes count s ls = Counts count s ls × (first_fault s ls ≡ None)

abbrev owns : ℕ → BodyLine → Bool
owns count l = list_all (λ local. nat_lt local count) (line_locals l.form)

go_on : (count : ℕ) (s : Scope) (l : Numbered) (ls : List Numbered) → Goes count s (l ∷ ls) → (list_all (owns count) (body_line s l) ≡ true) × Goes count (scope_after s l) ls
go_on count s l ls h =
    let f = fine_first s l ls h.1 in
    (one_own count s h.0.own l.number l.line f.0, (counts_behind count s l.number l.line ls h.0, f.1))

pub of_locals : (ls : List (List ℕ)) (nest : Nest) → IsRead ls nest → IsTrue (list_all (knows_locals nest) (text_body (numbered ls)))
of_locals ls nest read =
    let count = length nest.locals in
    let given : length (locals_from empty (numbered ls)) ≡ count = ap length (sym read.of_text.locals) in
    let left : 0 + length (locals_from empty (numbered ls)) ≡ count = omega (arith, given) in
    let first : Goes count empty (numbered ls) = (record { left = left; own = tt }, faultless ls read.accepted) in
    all_gathered (owns count) body_line (Goes count) (go_on count) empty (numbered ls) first
