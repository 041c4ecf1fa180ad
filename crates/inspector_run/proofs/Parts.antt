-- The numbers of an outer loop, in pieces.
use Rattle.std.proofs.Common.{◌≡◌, ℕ, zero, suc, ℤ, pos, ◌+ℤ◌, ◌-ℤ◌, ◌≤ℤ◌, ◌+◌, List, [], ◌∷◌, ◌++◌, map, flat_map, refl, sym, ap, ◌∙◌, subst, arith, append_assoc}
use Rattle.std.specs.List.{All}
use Rattle.std.proofs.lemmas.Int.{ints}
use Rattle.std.proofs.lemmas.List.{map-append, append-nil}
use Rattle.std.proofs.lemmas.List.Concat.{flat_map-append}
use Rattle.std.proofs.lemmas.List.Elements.{All-nil, All-cons, All-weaker}
use Rattle.loop_core.specs.declared.nest.VarId.{VarId}
use Rattle.loop_core.specs.Lists.{Lists}
use Rattle.loop_core.specs.Instances.{trips}
use Rattle.inspector_run.specs.declared.plan.InspOp.{InspOp}
use Rattle.inspector_run.specs.declared.inverse.Inverse.{Inverse}
use Rattle.inspector_run.specs.declared.pieces.Piece.{Piece}
use Rattle.inspector_run.specs.Tries.{numbers, numbers_between}
use Rattle.inspector_run.specs.Pairs.{fixed, met, met_along, as_rows}
use Rattle.inspector_run.specs.Ready.{IsReady, AreReady}
use Rattle.inspector_run.specs.Pieces.{values_in, piece_pairs, MayRun}
use Rattle.inspector_run.proofs.Near.{natural_is}
use Rattle.inspector_run.proofs.Readied.{All-front, All-back}

numbers_after : (m n : ℕ) (first : ℤ) → numbers (m + n) first ≡ numbers m first ++ numbers n (first +ℤ pos m)
numbers_after zero n first =
    let many : 0 + n ≡ n = omega arith in
    let same : first ≡ first +ℤ pos 0 = omega (arith, ints) in
    ap (λ k. numbers k first) many ∙ ap (numbers n) same
numbers_after (suc m) n first =
    let many : suc m + n ≡ suc (m + n) = omega arith in
    let same : first +ℤ pos 1 +ℤ pos m ≡ first +ℤ pos (suc m) = omega (arith, ints) in
    ap (λ k. numbers k first) many ∙ ap (λ l. first ∷ l) (numbers_after m n (first +ℤ pos 1) ∙ ap (λ f. numbers m (first +ℤ pos 1) ++ numbers n f) same)

-- numbers up to one between, and those from it on
pub numbers_cut : (lo middle hi : ℤ) → lo ≤ℤ middle → middle ≤ℤ hi → numbers_between lo hi ≡ numbers_between lo middle ++ numbers_between middle hi
numbers_cut lo middle hi low high =
    let many : trips lo hi ≡ trips lo middle + trips middle hi = omega (arith, ints, natural_is (hi -ℤ lo), natural_is (middle -ℤ lo), natural_is (hi -ℤ middle)) in
    let from : lo +ℤ pos (trips lo middle) ≡ middle = omega (arith, ints, natural_is (middle -ℤ lo)) in
    ap (λ n. numbers n lo) many ∙ numbers_after (trips lo middle) (trips middle hi) lo
    ∙ ap (λ f. numbers (trips lo middle) lo ++ numbers (trips middle hi) f) from

-- one piece more
pub piece_step : (before : List Piece) (rest first after whole : Piece) → values_in rest ≡ values_in first ++ values_in after → flat_map values_in before ++ values_in rest ≡ values_in whole
    → flat_map values_in (before ++ first ∷ []) ++ values_in after ≡ values_in whole
piece_step before rest first after whole parts inv =
    let one : flat_map values_in (before ++ first ∷ []) ≡ flat_map values_in before ++ values_in first = flat_map-append values_in before (first ∷ []) ∙ ap (λ l. flat_map values_in before ++ l) (append-nil (values_in first)) in
    ap (λ l. l ++ values_in after) one ∙ append_assoc (flat_map values_in before) (values_in first) (values_in after)
    ∙ ap (λ l. flat_map values_in before ++ l) (sym parts) ∙ inv

pub piece_end : (before : List Piece) (rest whole : Piece) → flat_map values_in before ++ values_in rest ≡ values_in whole → flat_map values_in (before ++ rest ∷ []) ≡ values_in whole
piece_end before rest whole inv =
    flat_map-append values_in before (rest ∷ []) ∙ ap (λ l. flat_map values_in before ++ l) (append-nil (values_in rest)) ∙ inv

-- the pairs of the pieces, one after another
pub pairs_of_pieces : (a : Lists) (ops : List InspOp) (v : VarId) (pieces : List Piece) → flat_map (piece_pairs a ops v) pieces ≡ map as_rows (met_along (met a ops) v [] (flat_map values_in pieces))
pairs_of_pieces a ops v [] = refl
pairs_of_pieces a ops v (p ∷ ps) =
    let rest : List ℤ → List (ℤ × ℤ) = met_along (met a ops) v [] in
    ap (λ l. piece_pairs a ops v p ++ l) (pairs_of_pieces a ops v ps)
    ∙ sym (map-append as_rows (rest (values_in p)) (rest (flat_map values_in ps)))
    ∙ ap (map as_rows) (sym (flat_map-append (λ x. met a ops (fixed v x [])) (values_in p) (flat_map values_in ps)))

abbrev IsReadyIn : Lists → List InspOp → VarId → Piece → Type 0
IsReadyIn a ops v p = AreReady a ops v [] (values_in p)

ready_pieces : (a : Lists) (ops : List InspOp) (v : VarId) (pieces : List Piece) → AreReady a ops v [] (flat_map values_in pieces) → All (IsReadyIn a ops v) pieces
ready_pieces a ops v [] ready = All-nil (IsReadyIn a ops v)
ready_pieces a ops v (p ∷ ps) ready =
    let R = λ (x : ℤ). IsReady a ops (fixed v x []) in
    All-cons (IsReadyIn a ops v) p ps (All-front R (values_in p) (flat_map values_in ps) ready)
    (ready_pieces a ops v ps (All-back R (values_in p) (flat_map values_in ps) ready))

-- each piece may be run, and together they give the pairs of the whole
pub may_run_each : (a : Lists) (inverses : List Inverse) (ops : List InspOp) (v : VarId) (pieces : List Piece) (whole : Piece) → flat_map values_in pieces ≡ values_in whole → MayRun a inverses ops v whole → All (MayRun a inverses ops v) pieces
may_run_each a inverses ops v pieces whole parts may =
    All-weaker (IsReadyIn a ops v) (MayRun a inverses ops v) (λ p ready. record { ready = ready; served = may.served }) pieces
    (ready_pieces a ops v pieces (subst (AreReady a ops v []) (sym parts) may.ready))

pub pairs_in_all : (a : Lists) (ops : List InspOp) (v : VarId) (pieces : List Piece) (whole : Piece) → flat_map values_in pieces ≡ values_in whole → flat_map (piece_pairs a ops v) pieces ≡ piece_pairs a ops v whole
pairs_in_all a ops v pieces whole parts = pairs_of_pieces a ops v pieces ∙ ap (λ values. map as_rows (met_along (met a ops) v [] values)) parts
