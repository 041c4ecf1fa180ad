use Rattle.std.proofs.Common.{rules, ◌≡◌, ℤ, ◌∙◌, sym, ap, subst, w64, FitsSigned, to_z, of_z}
use mir.Syntax.{w128}
use Rattle.std.proofs.lemmas.Int.{to_z-of_z}
use Rattle.loop_core.specs.declared.nest.Expr.TheFolds.{the_lemmas as of_expr}
use Rattle.loop_core.specs.Variables.{bindings}
use Rattle.loop_core.specs.Terms.{term_value}
use Rattle.loop_core.specs.Instances.{Formula, Load, Apply, formula}
use Rattle.loop_core.specs.Values.{operated}
use Rattle.p2p_exec.specs.declared.run.Run.{Run}
use Rattle.p2p_exec.specs.Reading.{MayRead, Reads}
use Rattle.p2p_exec.proofs.Readings.{may_left, may_right, both_read}
use Rattle.p2p_exec.proofs.run.Run.+value.Goals as goal

pub load-requires : goal.load-requires
load-requires t c =
    let x : Run = c.args.self.now in
    let a = c.args.arrays.now in
    let env = bindings c.args.env.now in
    let fits : FitsSigned w128 c.value-at.result = search rules in
    let shape : formula a env c.args.expr.now ≡ Load c.in-Read.array (term_value a env c.in-Read.at) = search (rules, of_expr) in
    let place : term_value a env c.in-Read.at ≡ to_z w128 (of_z w128 c.value-at.result) = sym (to_z-of_z w128 c.value-at.result fits ∙ c.value-at.ensures.value) in
    record { may = subst (MayRead x) (shape ∙ ap (Load c.in-Read.array) place) c.requires.may }

pub value-left-requires : goal.value-left-requires
value-left-requires t c =
    let x : Run = c.args.self.now in
    let f = formula c.args.arrays.now (bindings c.args.env.now) in
    let shape : f c.args.expr.now ≡ Apply c.in-Op.op (f c.in-Op.left) (f c.in-Op.right) = search (rules, of_expr) in
    let may = may_left x c.in-Op.op (f c.in-Op.left) (f c.in-Op.right) (subst (MayRead x) shape c.requires.may) in
    (search (rules, of_expr, c.requires, c.decreases), (c.requires.bounded, subst (λ e. MayRead x (f e)) (sym c.get-in-Op.ensures) may))

pub value-right-requires : goal.value-right-requires
value-right-requires t c =
    let x : Run = c.args.self.now in
    let y : Run = c.value-left.new.self in
    let f = formula c.args.arrays.now (bindings c.args.env.now) in
    let shape : f c.args.expr.now ≡ Apply c.in-Op.op (f c.in-Op.left) (f c.in-Op.right) = search (rules, of_expr) in
    let left : Reads x (f c.in-Op.left) c.value-left.result y = subst (λ e. Reads x (f e) c.value-left.result y) c.get-in-Op.ensures c.value-left.ensures in
    let may = may_right x y c.in-Op.op (f c.in-Op.left) (f c.in-Op.right) c.value-left.result (subst (MayRead x) shape c.requires.may) left in
    (search (rules, of_expr, c.requires, c.decreases), (c.requires.bounded, subst (λ e. MayRead y (f e)) (sym c.get-in-Op-2.ensures) may))

pub returns-in-Read : goal.returns-in-Read
returns-in-Read t c =
    let x : Run = c.args.self.now in
    let a = c.args.arrays.now in
    let env = bindings c.args.env.now in
    let fits : FitsSigned w128 c.value-at.result = search rules in
    let word_fits : FitsSigned w64 c.load.result = search rules in
    let shape : formula a env c.args.expr.now ≡ Load c.in-Read.array (term_value a env c.in-Read.at) = search (rules, of_expr) in
    let place : term_value a env c.in-Read.at ≡ to_z w128 (of_z w128 c.value-at.result) = sym (to_z-of_z w128 c.value-at.result fits ∙ c.value-at.ensures.value) in
    subst (λ (word : ℤ). Reads x (formula a env c.args.expr.now) word c.load.new.self) (sym (to_z-of_z w64 c.load.result word_fits))
    (subst (λ (g : Formula). Reads x g c.load.result c.load.new.self) (sym (shape ∙ ap (Load c.in-Read.array) place)) c.load.ensures)

pub returns-in-Op : goal.returns-in-Op
returns-in-Op t c =
    let x : Run = c.args.self.now in
    let y : Run = c.value-left.new.self in
    let z : Run = c.value-right.new.self in
    let f = formula c.args.arrays.now (bindings c.args.env.now) in
    let shape : f c.args.expr.now ≡ Apply c.in-Op.op (f c.in-Op.left) (f c.in-Op.right) = search (rules, of_expr) in
    let fits : FitsSigned w64 c.operate.result = search rules in
    let fits_left : FitsSigned w64 c.value-left.result = search rules in
    let fits_right : FitsSigned w64 c.value-right.result = search rules in
    let one = to_z-of_z w64 c.value-left.result fits_left in
    let two = to_z-of_z w64 c.value-right.result fits_right in
    let word : operated c.in-Op.op c.value-left.result c.value-right.result ≡ to_z w64 (of_z w64 c.operate.result) =
    sym (to_z-of_z w64 c.operate.result fits ∙ (c.operate.ensures ∙ (λ i. operated c.in-Op.op (one i) (two i)))) in
    let left : Reads x (f c.in-Op.left) c.value-left.result y = subst (λ e. Reads x (f e) c.value-left.result y) c.get-in-Op.ensures c.value-left.ensures in
    let right : Reads y (f c.in-Op.right) c.value-right.result z = subst (λ e. Reads y (f e) c.value-right.result z) c.get-in-Op-2.ensures c.value-right.ensures in
    let both = both_read x y z c.in-Op.op (f c.in-Op.left) (f c.in-Op.right) c.value-left.result c.value-right.result left right in
    subst (λ (g : Formula). Reads x g (to_z w64 (of_z w64 c.operate.result)) z) (sym shape)
    (subst (λ (word : ℤ). Reads x (Apply c.in-Op.op (f c.in-Op.left) (f c.in-Op.right)) word z) word both)
