-- A loop file declares no more properties than it has bytes.
use Rattle.std.proofs.Common.{ℕ, suc, ◌≡◌, ◌<◌, ◌≤◌, ◌+◌, ◌^◌, ◌==◌, Bool, true, false, if◌then◌else◌, List, [], ◌∷◌, Option, Some, None, length, refl, ap, arith}
use Rattle.std.specs.List.{onto_first}
use Rattle.std.proofs.lemmas.List.{length-append}
use Rattle.text_base.specs.Lines.{lines}
use Rattle.loop_core.specs.declared.nest.Nest.{Nest}
use Rattle.loop_lines.specs.declared.line.Line.{Line}
use Rattle.loop_lines.specs.declared.line.Line.TheVariants as line
use Rattle.loop_syntax.specs.declared.numbered.Numbered.{Numbered}
use Rattle.loop_syntax.specs.Numbered.{before}
use Rattle.loop_syntax.specs.Resolved.{property}
use Rattle.loop_syntax.specs.Scope.{Scope, empty, scope_after}
use Rattle.loop_syntax.specs.TextNest.{gathered}
use Rattle.loop_syntax.specs.Texts.{AreSaid, HasNest, counted}

few_onto : (b : ℕ) (ls : List (List ℕ)) → length (onto_first b ls) ≤ suc (length ls)
few_onto b [] = omega arith
few_onto b (l ∷ ls) = omega arith

few_if : (c : Bool) (b : ℕ) (ls : List (List ℕ)) → length (if c then [] ∷ ls else onto_first b ls) ≤ suc (length ls)
few_if true b ls = omega arith
few_if false b ls = few_onto b ls

few_lines : (bytes : List ℕ) → length (lines bytes) ≤ length bytes
few_lines [] = omega arith
few_lines (b ∷ bs) = let here = few_if (b == 10) b (lines bs) in let rest = few_lines bs in omega (arith, here, rest)

few_before : (n : ℕ) (o : Option Line) (more : List Numbered) → length (before n o more) ≤ suc (length more)
few_before n None more = omega arith
few_before n (Some l) more = omega arith

few_counted : (n : ℕ) (said : List (Option Line)) → length (counted n said) ≤ length said
few_counted n [] = omega arith
few_counted n (s ∷ said) =
    let here = few_before n s (counted (n + 1) said) in
    let rest = few_counted (n + 1) said in omega (arith, here, rest)

one_each : (ls : List (List ℕ)) (said : List (Option Line)) → AreSaid ls said → length said ≡ length ls
one_each [] [] are = refl
one_each (l ∷ ls) (s ∷ said) (is, are) = let rest = one_each ls said are in omega (arith, rest)
one_each [] (s ∷ said) are = absurd are
one_each (l ∷ ls) [] are = absurd are

one_at_most : (s : Scope) (n : ℕ) (l : Line) → length (property s n l) ≤ 1
one_at_most s n (line.Prop prop) = omega arith
one_at_most s n _ = omega arith

few_gathered : (s : Scope) (ls : List Numbered) → length (gathered (λ s l. property s l.number l.line) s ls) ≤ length ls
few_gathered s [] = omega arith
few_gathered s (l ∷ ls) =
    let here = one_at_most s l.number l.line in
    let rest = few_gathered (scope_after s l) ls in
    let both = length-append (property s l.number l.line) (gathered (λ s l. property s l.number l.line) (scope_after s l) ls) in
    omega (arith, here, rest, both)

pub few_properties : (bytes : List ℕ) (nest : Nest) → length bytes ≤ 65536 → HasNest (lines bytes) nest → length nest.props < 2 ^ 32
few_properties bytes nest short has =
    let same = ap length has.made.props in
    let a = few_gathered empty has.numbered in
    let b = ap length has.lines.lines in
    let c = few_counted 1 has.lines.said in
    let d = one_each (lines bytes) has.lines.said has.lines.are in
    let e = few_lines bytes in
    omega (arith, same, a, b, c, d, e, short)
