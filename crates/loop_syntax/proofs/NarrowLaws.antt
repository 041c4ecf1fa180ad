-- Scopes stay narrow line by line.
use Rattle.std.proofs.Common.{ℕ, ◌+◌, ◌≤◌, ◌<◌, Bool, true, false, if◌then◌else◌, codes, List, [], ◌∷◌, ◌++◌, Option, Some, None, arith}
use Rattle.std.specs.Str.{bytes_eq}
use Rattle.loop_core.specs.declared.decl.Form.{Form}
use Rattle.loop_core.specs.declared.decl.Size.TheVariants as sizes
use Rattle.loop_lines.specs.declared.line.Line.{Line}
use Rattle.loop_lines.specs.declared.line.Line.TheVariants as lines
use Rattle.loop_lines.specs.declared.tree.ArrayName.{ArrayName}
use Rattle.loop_lines.specs.declared.tree.ArrayName.TheVariants.{Own, Dotted}
use Rattle.loop_syntax.specs.declared.scope.Meaning.{Meaning}
use Rattle.loop_syntax.specs.declared.scope.Meaning.TheVariants as meanings
use Rattle.loop_syntax.specs.declared.scope.ArrayUse.TheVariants as uses
use Rattle.loop_syntax.specs.declared.scope.Known.{Known}
use Rattle.loop_syntax.specs.declared.scope.Parts.{Parts}
use Rattle.loop_lines.specs.declared.block.Block.{Block}
use Rattle.loop_lines.specs.declared.block.Block.TheVariants.{Repeated, Guarded}
use Rattle.loop_syntax.specs.Scope.{Scope, empty, variables, known, found, meaning_of, declared, outer_blocks, parts_from, scope_behind, index_part, part_use, own_use, dotted_use, use_of}
use Rattle.loop_syntax.specs.Resolved.{number_of, loop_line, local_number}
use Rattle.loop_syntax.specs.Narrow.{IsNarrow}

abbrev pub IsSmall : Meaning → Type 0
IsSmall (meanings.Matrix form parts) = (parts.ptr < 256) × (parts.index < 256) × (parts.diag < 256) × (parts.val < 256)
IsSmall (meanings.Indexes size number) = number < 256
IsSmall (meanings.Holds size number) = number < 256
IsSmall (meanings.Variable line) = line < 65536
IsSmall (meanings.Local number) = number < 256

abbrev pub AreSmall : List Known → Type 0
AreSmall [] = Unit {0}
AreSmall (k ∷ ks) = IsSmall k.meaning × AreSmall ks

pub record Kept (s : Scope) : Type 0 where
  pub few : s.arrays ≤ 64
  pub few_locals : s.locals ≤ 16
  pub names : AreSmall s.declared
  pub loops : AreSmall (variables s.blocks)

pub kept_empty : Kept empty
kept_empty = record { few = omega arith; few_locals = omega arith; names = tt; loops = tt }

joined : (xs ys : List Known) → AreSmall xs → AreSmall ys → AreSmall (xs ++ ys)
joined [] ys h k = k
joined (x ∷ xs) ys h k = (h.0, joined xs ys h.1 k)

-- ---- what is found is small

abbrev IsSmallOrNone : Option Meaning → Type 0
IsSmallOrNone None = Unit {0}
IsSmallOrNone (Some m) = IsSmall m

found_small : (name : List ℕ) (ks : List Known) → AreSmall ks → IsSmallOrNone (found name ks)
found_small name [] h = tt
found_small name (k ∷ ks) h =
    elim (bytes_eq name k.name) as (λ (b : Bool). IsSmallOrNone (if b then Some k.meaning else found name ks)) [ true ↦ h.0 | false ↦ found_small name ks h.1 ]

meaning_small : (s : Scope) (name : List ℕ) → Kept s → IsSmallOrNone (meaning_of s name)
meaning_small s name k = found_small name (known s) (joined (variables s.blocks) s.declared k.loops k.names)

line_small : (o : Option Meaning) → IsSmallOrNone o → loop_line o < 65536
line_small None h = omega arith
line_small (Some (meanings.Matrix form parts)) h = omega arith
line_small (Some (meanings.Indexes size number)) h = omega arith
line_small (Some (meanings.Holds size number)) h = omega arith
line_small (Some (meanings.Variable line)) h = h
line_small (Some (meanings.Local number)) h = omega arith

local_small : (o : Option Meaning) → IsSmallOrNone o → local_number o < 256
local_small None h = omega arith
local_small (Some (meanings.Matrix form parts)) h = omega arith
local_small (Some (meanings.Indexes size number)) h = omega arith
local_small (Some (meanings.Holds size number)) h = omega arith
local_small (Some (meanings.Variable line)) h = omega arith
local_small (Some (meanings.Local number)) h = h

own_small : (o : Option Meaning) → IsSmallOrNone o → number_of (own_use o) < 256
own_small None h = omega arith
own_small (Some (meanings.Matrix form parts)) h = omega arith
own_small (Some (meanings.Indexes size number)) h = h
own_small (Some (meanings.Holds size number)) h = h
own_small (Some (meanings.Variable line)) h = omega arith
own_small (Some (meanings.Local number)) h = omega arith

part_small : (form : Form) (parts : Parts) (part : List ℕ) → IsSmall (meanings.Matrix form parts) → number_of (part_use form parts part) < 256
part_small form parts part h =
    let last = elim (bytes_eq part (codes "val")) as (λ (b : Bool). number_of (if b then uses.Holds sizes.Nnz parts.val else uses.Unknown) < 256) [ true ↦ h.3 | false ↦ omega arith ] in
    let third = elim (bytes_eq part (codes "diag")) as (λ (b : Bool). number_of (if b then uses.Indexes sizes.N parts.diag else (if bytes_eq part (codes "val") then uses.Holds sizes.Nnz parts.val else uses.Unknown)) < 256) [ true ↦ h.2 | false ↦ last ] in
    let second = elim (bytes_eq part (index_part form)) as (λ (b : Bool). number_of (if b then uses.Indexes sizes.Nnz parts.index else (if bytes_eq part (codes "diag") then uses.Indexes sizes.N parts.diag else (if bytes_eq part (codes "val") then uses.Holds sizes.Nnz parts.val else uses.Unknown))) < 256) [ true ↦ h.1 | false ↦ third ] in
    elim (bytes_eq part (codes "ptr")) as (λ (b : Bool). number_of (if b then uses.Indexes sizes.NPlusOne parts.ptr else (if bytes_eq part (index_part form) then uses.Indexes sizes.Nnz parts.index else (if bytes_eq part (codes "diag") then uses.Indexes sizes.N parts.diag else (if bytes_eq part (codes "val") then uses.Holds sizes.Nnz parts.val else uses.Unknown)))) < 256) [ true ↦ h.0 | false ↦ second ]

dotted_small : (o : Option Meaning) (part : List ℕ) → IsSmallOrNone o → number_of (dotted_use o part) < 256
dotted_small None part h = omega arith
dotted_small (Some (meanings.Matrix form parts)) part h = part_small form parts part h
dotted_small (Some (meanings.Indexes size number)) part h = omega arith
dotted_small (Some (meanings.Holds size number)) part h = omega arith
dotted_small (Some (meanings.Variable line)) part h = omega arith
dotted_small (Some (meanings.Local number)) part h = omega arith

use_small : (s : Scope) (array : ArrayName) → Kept s → number_of (use_of s array) < 256
use_small s (Own name) k = own_small (meaning_of s name) (meaning_small s name k)
use_small s (Dotted matrix part) k = dotted_small (meaning_of s matrix) part (meaning_small s matrix k)

pub narrow : (s : Scope) → Kept s → IsNarrow s
narrow s k = record {
  arrays = λ array. use_small s array k;
  locals = λ name. local_small (meaning_of s name) (meaning_small s name k);
  lines = λ name. line_small (meaning_of s name) (meaning_small s name k);
}

-- ---- line by line

one_more : (s : Scope) (name : List ℕ) (meaning : Meaning) (arrays locals : ℕ) → Kept s → IsSmall meaning → s.arrays + arrays ≤ 64 → s.locals + locals ≤ 16 → Kept (declared s name meaning arrays locals)
one_more s name meaning arrays locals k small few few_locals = record { few = few; few_locals = few_locals; names = joined s.declared (record { name = name; meaning = meaning } ∷ []) k.names (small, tt); loops = k.loops }

inner_small : (bs : List Block) → AreSmall (variables bs) → AreSmall (variables (outer_blocks bs))
inner_small [] h = tt
inner_small (Repeated line name ∷ bs) h = h.1
inner_small (Guarded ∷ bs) h = h

pub kept_behind : (s : Scope) (n : ℕ) (l : Line) → n ≤ 400 → (scope_behind s n l).arrays ≤ 64 → (scope_behind s n l).locals ≤ 16 → Kept s → Kept (scope_behind s n l)
kept_behind s n (lines.Matrix name form) lt few locals k = one_more s name (meanings.Matrix form (parts_from s.arrays)) 4 0 k (omega (arith, few), omega (arith, few), omega (arith, few), omega (arith, few)) few locals
kept_behind s n (lines.Index name size) lt few locals k = one_more s name (meanings.Indexes size s.arrays) 1 0 k (omega (arith, few)) few locals
kept_behind s n (lines.Vector name size source) lt few locals k = one_more s name (meanings.Holds size s.arrays) 1 0 k (omega (arith, few)) few locals
kept_behind s n (lines.Local name) lt few locals k = one_more s name (meanings.Local s.locals) 0 1 k (omega (arith, locals)) few locals
kept_behind s n (lines.Prop prop) lt few locals k = k
kept_behind s n (lines.Loop name) lt few locals k = record { few = k.few; few_locals = k.few_locals; names = k.names; loops = (omega (arith, lt), k.loops) }
kept_behind s n (lines.For name lo hi) lt few locals k = record { few = k.few; few_locals = k.few_locals; names = k.names; loops = (omega (arith, lt), k.loops) }
kept_behind s n (lines.When rel left right) lt few locals k = record { few = k.few; few_locals = k.few_locals; names = k.names; loops = k.loops }
kept_behind s n (lines.Set array at value) lt few locals k = k
kept_behind s n (lines.Keep name value) lt few locals k = k
kept_behind s n lines.End lt few locals k = record { few = k.few; few_locals = k.few_locals; names = k.names; loops = inner_small s.blocks k.loops }
