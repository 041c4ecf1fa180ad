-- Lemmas on the values of formulas.
use Rattle.std.proofs.Common.{◌≡◌, ℕ, ℤ, List, [], ◌∷◌, ◌++◌, length, take, drop, refl, sym, ap, ◌∙◌, append_assoc, arith}
use Rattle.std.proofs.lemmas.List.{take-append-drop, drop_at, length-map, length-append, length-take, map-append}
use Rattle.loop_core.specs.declared.nest.Op.{Op}
use Rattle.loop_core.specs.Instances.{Formula, Number, Load, Own, Apply}
use Rattle.loop_core.specs.Values.{operated, reads, value_of}
use Rattle.loop_core.specs.Sequence.{word_of, words_read, formula_value}

-- an operation's value is that of its sides, where the first side takes its own words alone
sides : (op : Op) (l r : Formula) (locals a b : List ℤ) → length a ≡ length (reads l) → value_of l locals (a ++ b) ≡ value_of l locals a → value_of (Apply op l r) locals (a ++ b) ≡ operated op (value_of l locals a) (value_of r locals b)
sides op l r locals a b long same =
    let rest = drop_at a b (length (reads l)) long in
    λ i. operated op (same i) (value_of r locals (rest i))

-- the words past those that a formula reads don't change its value
pub enough : (f : Formula) (locals words more : List ℤ) → length words ≡ length (reads f) → value_of f locals (words ++ more) ≡ value_of f locals words
enough (Number value) locals words more e = refl
enough (Load array at) locals [] more e = absurd (omega (arith, e))
enough (Load array at) locals (w ∷ ws) more e = refl
enough (Own local) locals words more e = refl
enough (Apply op l r) locals words more e =
    let n : ℕ = length (reads l) in
    let a : List ℤ = take n words in
    let b : List ℤ = drop n words in
    let is : a ++ b ≡ words = take-append-drop n words in
    let both = length-append (reads l) (reads r) in
    let whole : length (a ++ b) ≡ length words = ap length is in
    let parts = length-append a b in
    let long : length a ≡ n = omega (arith, e, both, length-take n words) in
    let rest : length b ≡ length (reads r) = omega (arith, e, both, long, whole, parts) in
    let one = sides op l r locals a (b ++ more) long (enough l locals a (b ++ more) long) in
    let two = sides op l r locals a b long (enough l locals a b long) in
    ap (λ (ws : List ℤ). value_of (Apply op l r) locals (ws ++ more)) (sym is)
    ∙ ap (value_of (Apply op l r) locals) (append_assoc a b more)
    ∙ one
    ∙ ap (operated op (value_of l locals a)) (enough r locals b more rest)
    ∙ sym two
    ∙ ap (value_of (Apply op l r) locals) is

pub operation : (x : List (List ℤ)) (locals : List ℤ) (op : Op) (l r : Formula) → formula_value x locals (Apply op l r) ≡ operated op (formula_value x locals l) (formula_value x locals r)
operation x locals op l r =
    let a : List ℤ = words_read x l in
    let b : List ℤ = words_read x r in
    let long : length a ≡ length (reads l) = length-map (reads l) (word_of x) in
    ap (value_of (Apply op l r) locals) (map-append (word_of x) (reads l) (reads r))
    ∙ sides op l r locals a b long (enough l locals a b long)
