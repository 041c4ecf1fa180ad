-- A scope's table keeps up with its declared names and its open blocks.
use Rattle.std.proofs.Common.{ℕ, ◌≡◌, ◌-◌, Bool, true, false, List, [], ◌∷◌, ◌++◌, ◌≤◌, length, Option, Some, None, refl, sym, ◌∙◌, ap, subst, arith}
use Rattle.std.specs.Prelude.{if◌then◌else◌, IsSome, unwrap_or, reverse}
use Rattle.std.proofs.lemmas.List.{reverse-append, length-reverse, length-map}
use Rattle.std.specs.Option.{option_map}
use Rattle.std.specs.Cmp.Lexicographic.{bytes_decides}
use Rattle.std.specs.HashMap.{HashMap, get}
use Rattle.std.specs.Str.{bytes_eq}
use Rattle.loop_lines.specs.declared.block.Block.{Block}
use Rattle.loop_lines.specs.declared.block.Block.TheVariants.{Repeated, Guarded}
use Rattle.loop_syntax.specs.declared.scope.Known.{Known}
use Rattle.loop_syntax.specs.declared.scope.Meaning.{Meaning}
use Rattle.loop_syntax.specs.declared.scope.Meaning.TheVariants as meanings
use Rattle.loop_syntax.specs.declared.scope.Opened.{Opened}
use Rattle.loop_syntax.specs.declared.standing.Key.{Key}
use Rattle.loop_syntax.specs.declared.standing.Standing.{Standing}
use Rattle.loop_syntax.specs.Scope.{found, variables}
use Rattle.loop_syntax.specs.ScopeFields.{innermost, blocks_of, KeepsUp}
use Rattle.loop_syntax.specs.Standing.{key, same_key, standing_of, first_meaning, and_declared, with_variable, nothing, own_meaning, ChangesAt}

-- ---- a name is sought among the variables, and then among the declared names

found_step : (name : List ℕ) (k : Known) (xs ys : List Known) (b : Bool) → bytes_eq name k.name ≡ b
    → found name (xs ++ ys) ≡ first_meaning (found name xs) (found name ys) → found name ((k ∷ xs) ++ ys) ≡ first_meaning (found name (k ∷ xs)) (found name ys)
found_step name k xs ys true e ih = rw e refl
found_step name k xs ys false e ih = rw e ih

found_both : (name : List ℕ) (xs ys : List Known) → found name (xs ++ ys) ≡ first_meaning (found name xs) (found name ys)
found_both name [] ys = refl
found_both name (k ∷ xs) ys = found_step name k xs ys (bytes_eq name k.name) refl (found_both name xs ys)

pub found_first : (name : List ℕ) (xs ys : List Known) (m : Meaning) → found name xs ≡ Some m → found name (xs ++ ys) ≡ Some m
found_first name xs ys m e = found_both name xs ys ∙ ap (λ r. first_meaning r (found name ys)) e

pub found_second : (name : List ℕ) (xs ys : List Known) → found name xs ≡ None → found name (xs ++ ys) ≡ found name ys
found_second name xs ys e = found_both name xs ys ∙ ap (λ r. first_meaning r (found name ys)) e

found_repeated : (name own : List ℕ) (line : ℕ) (more : List Block) (b : Bool) → bytes_eq name own ≡ b
    → found name (variables more) ≡ option_map meanings.Variable (innermost name more)
    → found name (variables (Repeated line own ∷ more)) ≡ option_map meanings.Variable (innermost name (Repeated line own ∷ more))
found_repeated name own line more true e ih = rw e refl
found_repeated name own line more false e ih = rw e ih

found_variable : (name : List ℕ) (blocks : List Block) → found name (variables blocks) ≡ option_map meanings.Variable (innermost name blocks)
found_variable name [] = refl
found_variable name (Repeated line own ∷ more) = found_repeated name own line more (bytes_eq name own) refl (found_variable name more)
found_variable name (Guarded ∷ more) = found_variable name more

first_alone : (meaning : Option Meaning) → first_meaning meaning None ≡ meaning
first_alone None = refl
first_alone (Some meaning) = refl

module _ {S : Type 0} where
  pub meaning_kept : (table : HashMap Key Standing S) (declared : List Known) (blocks : List Opened) (loops : ℕ) (name : List ℕ) → KeepsUp table declared blocks loops
      → own_meaning (standing_of table name) ≡ found name (variables (blocks_of blocks) ++ declared)
  meaning_kept table declared blocks loops name kept =
      ap (λ v. first_meaning (option_map meanings.Variable v) (standing_of table name).declared) (kept.variable name)
      ∙ ap (λ d. first_meaning (option_map meanings.Variable (innermost name (blocks_of blocks))) d) (kept.known name)
      ∙ ap (λ v. first_meaning v (found name declared)) (sym (found_variable name (blocks_of blocks)))
      ∙ sym (found_both name (variables (blocks_of blocks)) declared)

  -- ---- what a change of the table leaves

  pub noted_kept : (table after : HashMap Key Standing S) (declared : List Known) (blocks : List Opened) (loops : ℕ)
      → ((other : List ℕ) → standing_of after other ≡ standing_of table other) → KeepsUp table declared blocks loops → KeepsUp after declared blocks loops
  noted_kept table after declared blocks loops same kept = record {
    known = λ name. ap (λ s. s.declared) (same name) ∙ kept.known name;
    variable = λ name. ap (λ s. s.variable) (same name) ∙ kept.variable name;
    outer = kept.outer;
    counted = kept.counted;
  }

  pub declared_kept : (table after : HashMap Key Standing S) (declared : List Known) (blocks : List Opened) (loops : ℕ) (name : List ℕ) (stands : Meaning)
      → ChangesAt name (λ own. and_declared own stands) table after → KeepsUp table declared blocks loops
      → KeepsUp after (declared ++ record { name = name; meaning = stands } ∷ []) blocks loops
  declared_kept table after declared blocks loops name stands changed kept = record {
    known = λ other.
        let both : found other (declared ++ record { name = name; meaning = stands } ∷ []) ≡ first_meaning (found other declared) (if bytes_eq other name then Some stands else None) = found_both other declared (record { name = name; meaning = stands } ∷ []) in
        let alone : first_meaning (found other declared) None ≡ found other declared = first_alone (found other declared) in
        grind (arith, both, alone, changed other, kept.known other);
    variable = λ other. grind (arith, changed other, kept.variable other);
    outer = kept.outer;
    counted = kept.counted;
  }

  loop_closed : (table after : HashMap Key Standing S) (declared : List Known) (blocks : List Opened) (loops : ℕ) (name : List ℕ) (line : ℕ) (outer : Option ℕ)
      → ChangesAt name (λ own. with_variable own outer) table after → KeepsUp table declared (record { block = Repeated line name; outer = outer } ∷ blocks) loops
      → KeepsUp after declared blocks (loops - 1)
  loop_closed table after declared blocks loops name line outer changed kept = record {
    known = λ other. grind (arith, changed other, kept.known other);
    variable = λ other.
        let same : bytes_eq other name ≡ true → innermost name (blocks_of blocks) ≡ innermost other (blocks_of blocks) = λ e. ap (λ n. innermost n (blocks_of blocks)) (sym ((bytes_decides other name).0 e)) in
        grind (arith, same, changed other, kept.outer.0, kept.variable other);
    outer = kept.outer.1;
    counted = omega (arith, kept.counted);
  }

  -- the name of an open loop is in the table
  open_present : (table : HashMap Key Standing S) (declared : List Known) (blocks : List Opened) (loops : ℕ) (name : List ℕ) (line : ℕ) (outer : Option ℕ)
      → KeepsUp table declared (record { block = Repeated line name; outer = outer } ∷ blocks) loops → IsSome (get same_key table (key name))
  open_present table declared blocks loops name line outer kept = known_in (get same_key table (key name)) (kept.variable name ∙ rw same refl)
    where
      same : bytes_eq name name ≡ true
      same = (bytes_decides name name).1 refl

      known_in : (own : Option Standing) → (unwrap_or own nothing).variable ≡ Some line → IsSome own
      known_in None e = cc
      known_in (Some own) e = refl

-- ---- the last block that was pushed is the innermost

last_first : (blocks rest : List Opened) (last : Opened) (block : Block) → blocks ≡ rest ++ last ∷ [] → last.block ≡ block
    → reverse blocks ≡ record { block = block; outer = last.outer } ∷ reverse rest
last_first blocks rest last block popped is =
    ap reverse popped ∙ reverse-append rest (last ∷ []) ∙ ap (λ b. record { block = b; outer = last.outer } ∷ reverse rest) is

module _ {S : Type 0} where
  pub popped_present : (table : HashMap Key Standing S) (declared : List Known) (blocks rest : List Opened) (loops : ℕ) (last : Opened) (name : List ℕ) (line : ℕ)
      → blocks ≡ rest ++ last ∷ [] → last.block ≡ Repeated line name → KeepsUp table declared (reverse blocks) loops → IsSome (get same_key table (key name))
  popped_present table declared blocks rest loops last name line popped is kept =
      open_present table declared (reverse rest) loops name line last.outer (subst (λ bs. KeepsUp table declared bs loops) (last_first blocks rest last (Repeated line name) popped is) kept)

  pub popped_kept : (table after : HashMap Key Standing S) (declared : List Known) (blocks rest : List Opened) (loops : ℕ) (last : Opened) (name : List ℕ) (line : ℕ)
      → blocks ≡ rest ++ last ∷ [] → last.block ≡ Repeated line name → ChangesAt name (λ own. with_variable own last.outer) table after
      → KeepsUp table declared (reverse blocks) loops → KeepsUp after declared (reverse rest) (loops - 1)
  popped_kept table after declared blocks rest loops last name line popped is changed kept =
      loop_closed table after declared (reverse rest) loops name line last.outer changed (subst (λ bs. KeepsUp table declared bs loops) (last_first blocks rest last (Repeated line name) popped is) kept)

-- ---- there are no more loops than open blocks

few_variables : (blocks : List Block) → length (variables blocks) ≤ length blocks
few_variables [] = omega arith
few_variables (Repeated line name ∷ more) = omega (arith, few_variables more)
few_variables (Guarded ∷ more) = omega (arith, few_variables more)

pub few_loops : (blocks : List Opened) → length (variables (blocks_of (reverse blocks))) ≤ length blocks
few_loops blocks =
    let few : length (variables (blocks_of (reverse blocks))) ≤ length (blocks_of (reverse blocks)) = few_variables (blocks_of (reverse blocks)) in
    let same : length (blocks_of (reverse blocks)) ≡ length blocks = length-map (reverse blocks) (λ opened. opened.block) ∙ length-reverse blocks in
    omega (arith, few, same)
