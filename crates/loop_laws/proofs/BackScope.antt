-- Scopes in which the lines of loops have other numbers.
use Rattle.std.proofs.Common.{◌≡◌, ℕ, ◌+◌, Bool, true, false, if◌then◌else◌, List, [], ◌∷◌, ◌++◌, map, Option, Some, None, refl, sym, ap, ◌∙◌}
use Rattle.std.proofs.Math.Path.{fun_ext}
use Rattle.std.specs.Option.{option_map}
use Rattle.std.specs.Str.{bytes_eq}
use Rattle.std.proofs.lemmas.List.{map-append}
use Rattle.loop_lines.specs.declared.line.Line.{Line}
use Rattle.loop_lines.specs.declared.line.Line.TheVariants as lines
use Rattle.loop_lines.specs.declared.tree.ArrayName.{ArrayName}
use Rattle.loop_lines.specs.declared.tree.ArrayName.TheVariants.{Own, Dotted}
use Rattle.loop_syntax.specs.declared.scope.Meaning.{Meaning}
use Rattle.loop_syntax.specs.declared.scope.Meaning.TheVariants as meanings
use Rattle.loop_lines.specs.declared.block.Block.{Block}
use Rattle.loop_lines.specs.declared.block.Block.TheVariants.{Repeated, Guarded}
use Rattle.loop_syntax.specs.declared.scope.Known.{Known}
use Rattle.loop_syntax.specs.Scope.{Scope, variables, known, found, meaning_of, outer_blocks, parts_from, scope_behind, own_use, dotted_use, use_of}
use Rattle.loop_syntax.specs.Resolved.{loop_line, local_number, local_in}

abbrev pub with_meaning : (ℕ → ℕ) → Meaning → Meaning
with_meaning f (meanings.Matrix form parts) = meanings.Matrix form parts
with_meaning f (meanings.Indexes size number) = meanings.Indexes size number
with_meaning f (meanings.Holds size number) = meanings.Holds size number
with_meaning f (meanings.Variable line) = meanings.Variable (f line)
with_meaning f (meanings.Local number) = meanings.Local number

abbrev with_known : (ℕ → ℕ) → Known → Known
with_known f k = record { name = k.name; meaning = with_meaning f k.meaning }

abbrev pub with_block : (ℕ → ℕ) → Block → Block
with_block f (Repeated line name) = Repeated (f line) name
with_block f Guarded = Guarded

abbrev pub with_scope : (ℕ → ℕ) → Scope → Scope
with_scope f s = record { declared = map (with_known f) s.declared; arrays = s.arrays; locals = s.locals; blocks = map (with_block f) s.blocks }

-- ---- what names stand for

pub variables_with : (f : ℕ → ℕ) (bs : List Block) → variables (map (with_block f) bs) ≡ map (with_known f) (variables bs)
variables_with f [] = refl
variables_with f (Repeated line name ∷ bs) = ap (λ (l : List Known). record { name = name; meaning = meanings.Variable (f line) } ∷ l) (variables_with f bs)
variables_with f (Guarded ∷ bs) = variables_with f bs

found_step : (f : ℕ → ℕ) (here : Bool) (m : Meaning) (x y : Option Meaning) → y ≡ option_map (with_meaning f) x
    → (if here then Some (with_meaning f m) else y) ≡ option_map (with_meaning f) (if here then Some m else x)
found_step f true m x y e = refl
found_step f false m x y e = e

found_with : (f : ℕ → ℕ) (name : List ℕ) (ks : List Known) → found name (map (with_known f) ks) ≡ option_map (with_meaning f) (found name ks)
found_with f name [] = refl
found_with f name (k ∷ ks) = found_step f (bytes_eq name k.name) k.meaning (found name ks) (found name (map (with_known f) ks)) (found_with f name ks)

pub meaning_with : (f : ℕ → ℕ) (s : Scope) (name : List ℕ) → meaning_of (with_scope f s) name ≡ option_map (with_meaning f) (meaning_of s name)
meaning_with f s name =
    let all = ap (λ (l : List Known). l ++ map (with_known f) s.declared) (variables_with f s.blocks) ∙ sym (map-append (with_known f) (variables s.blocks) s.declared) in
    ap (found name) all ∙ found_with f name (known s)

own_with : (f : ℕ → ℕ) (m : Option Meaning) → own_use (option_map (with_meaning f) m) ≡ own_use m
own_with f None = refl
own_with f (Some (meanings.Matrix form parts)) = refl
own_with f (Some (meanings.Indexes size number)) = refl
own_with f (Some (meanings.Holds size number)) = refl
own_with f (Some (meanings.Variable line)) = refl
own_with f (Some (meanings.Local number)) = refl

dotted_with : (f : ℕ → ℕ) (part : List ℕ) (m : Option Meaning) → dotted_use (option_map (with_meaning f) m) part ≡ dotted_use m part
dotted_with f part None = refl
dotted_with f part (Some (meanings.Matrix form parts)) = refl
dotted_with f part (Some (meanings.Indexes size number)) = refl
dotted_with f part (Some (meanings.Holds size number)) = refl
dotted_with f part (Some (meanings.Variable line)) = refl
dotted_with f part (Some (meanings.Local number)) = refl

use_with : (f : ℕ → ℕ) (s : Scope) (array : ArrayName) → use_of (with_scope f s) array ≡ use_of s array
use_with f s (Own name) = ap own_use (meaning_with f s name) ∙ own_with f (meaning_of s name)
use_with f s (Dotted matrix part) = ap (λ (m : Option Meaning). dotted_use m part) (meaning_with f s matrix) ∙ dotted_with f part (meaning_of s matrix)

-- arrays stand for the same
pub uses_with : (f : ℕ → ℕ) (s : Scope) → use_of (with_scope f s) ≡ use_of s
uses_with f s = fun_ext (use_with f s)

loop_with : (f : ℕ → ℕ) → f 0 ≡ 0 → (m : Option Meaning) → loop_line (option_map (with_meaning f) m) ≡ f (loop_line m)
loop_with f nought None = sym nought
loop_with f nought (Some (meanings.Matrix form parts)) = sym nought
loop_with f nought (Some (meanings.Indexes size number)) = sym nought
loop_with f nought (Some (meanings.Holds size number)) = sym nought
loop_with f nought (Some (meanings.Variable line)) = refl
loop_with f nought (Some (meanings.Local number)) = sym nought

pub line_with : (f : ℕ → ℕ) → f 0 ≡ 0 → (s : Scope) (name : List ℕ) → loop_line (meaning_of (with_scope f s) name) ≡ f (loop_line (meaning_of s name))
line_with f nought s name = ap loop_line (meaning_with f s name) ∙ loop_with f nought (meaning_of s name)

number_with : (f : ℕ → ℕ) (m : Option Meaning) → local_number (option_map (with_meaning f) m) ≡ local_number m
number_with f None = refl
number_with f (Some (meanings.Matrix form parts)) = refl
number_with f (Some (meanings.Indexes size number)) = refl
number_with f (Some (meanings.Holds size number)) = refl
number_with f (Some (meanings.Variable line)) = refl
number_with f (Some (meanings.Local number)) = refl

-- and so do locals
pub local_with : (f : ℕ → ℕ) (s : Scope) (name : List ℕ) → local_in (with_scope f s) name ≡ local_in s name
local_with f s name = ap local_number (meaning_with f s name) ∙ number_with f (meaning_of s name)

-- ---- what lines leave

abbrev scope_of : List Known → ℕ → ℕ → List Block → Scope
scope_of ks arrays locals blocks = record { declared = ks; arrays = arrays; locals = locals; blocks = blocks }

declared_with : (f : ℕ → ℕ) (s : Scope) (k : Known) (arrays locals : ℕ)
    → scope_of (map (with_known f) s.declared ++ with_known f k ∷ []) (s.arrays + arrays) (s.locals + locals) (map (with_block f) s.blocks) ≡ with_scope f (scope_of (s.declared ++ k ∷ []) (s.arrays + arrays) (s.locals + locals) s.blocks)
declared_with f s k arrays locals =
    ap (λ (ks : List Known). scope_of ks (s.arrays + arrays) (s.locals + locals) (map (with_block f) s.blocks)) (sym (map-append (with_known f) s.declared (k ∷ [])))

outer_with : (f : ℕ → ℕ) (bs : List Block) → outer_blocks (map (with_block f) bs) ≡ map (with_block f) (outer_blocks bs)
outer_with f [] = refl
outer_with f (b ∷ bs) = refl

pub scope_with : (f : ℕ → ℕ) (s : Scope) (n : ℕ) (l : Line) → scope_behind (with_scope f s) (f n) l ≡ with_scope f (scope_behind s n l)
scope_with f s n (lines.Matrix name form) = declared_with f s (record { name = name; meaning = meanings.Matrix form (parts_from s.arrays) }) 4 0
scope_with f s n (lines.Index name size) = declared_with f s (record { name = name; meaning = meanings.Indexes size s.arrays }) 1 0
scope_with f s n (lines.Vector name size source) = declared_with f s (record { name = name; meaning = meanings.Holds size s.arrays }) 1 0
scope_with f s n (lines.Local name) = declared_with f s (record { name = name; meaning = meanings.Local s.locals }) 0 1
scope_with f s n (lines.Prop prop) = refl
scope_with f s n (lines.Loop name) = refl
scope_with f s n (lines.For name lo hi) = refl
scope_with f s n (lines.When rel left right) = refl
scope_with f s n (lines.Set array at value) = refl
scope_with f s n (lines.Keep name value) = refl
scope_with f s n lines.End = ap (scope_of (map (with_known f) s.declared) s.arrays s.locals) (outer_with f s.blocks)
