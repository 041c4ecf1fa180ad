use Rattle.std.proofs.Common.{rules, ◌≡◌, [], ◌∷◌, if◌then◌else◌, sym, ap, ◌∙◌, FitsSigned, to_z, of_z, w64, negsuc, ◌-ℤ◌}
use Rattle.std.proofs.lemmas.Int.{to_z-of_z}
use Rattle.inspector_gen.specs.Known.{knows}
use Rattle.inspector_gen.specs.Kinds.{if_below}
use Rattle.inspector_gen.proofs.ways.below.Goals as goal

pub returns-then-is_below : goal.returns-then-is_below
returns-then-is_below c = λ bounds table.
    let e = c.in-Some.e in
    let fits : FitsSigned w64 e = search rules in
    let same : to_z w64 (of_z w64 e) ≡ e = to_z-of_z w64 e fits in
    let known = sym c.if-is_below.true ∙ c.is_below.ensures bounds table ∙ ap (λ z. knows bounds (record { a = c.args.a.now; b = c.args.after.now; c = negsuc 0 -ℤ z })) same in
    ap (λ (b : _). if b then e ∷ [] else []) known ∙ ap (if_below bounds c.args.a.now c.args.after.now) (sym c.in-Some.is)

pub returns-else-is_below : goal.returns-else-is_below
returns-else-is_below c = λ bounds table.
    let e = c.in-Some.e in
    let fits : FitsSigned w64 e = search rules in
    let same : to_z w64 (of_z w64 e) ≡ e = to_z-of_z w64 e fits in
    let known = sym c.if-is_below.false ∙ c.is_below.ensures bounds table ∙ ap (λ z. knows bounds (record { a = c.args.a.now; b = c.args.after.now; c = negsuc 0 -ℤ z })) same in
    ap (λ (b : _). if b then e ∷ [] else []) known ∙ ap (if_below bounds c.args.a.now c.args.after.now) (sym c.in-Some.is)
