use Rattle.std.proofs.Common.{◌≡◌, ℕ, add-one, ◌+◌, ◌<◌, ◌^◌, ◌∙◌, ◌++◌, ◌∷◌, [], List, replicate, arith, ap, sym}
use Rattle.std.specs.List.{range_with_len}
use Rattle.std.proofs.lemmas.List.{append_assoc, replicate_more}
use Rattle.std.proofs.lemmas.List.Elements.{All-same, All-push}
use Rattle.wait_sparsify.proofs.Numbering.{range_more}
use Rattle.wait_sparsify.proofs.numbered.push_seats.Goals as goal

pub loop-at-preserved : goal.loop-at-preserved
loop-at-preserved c =
    let at = c.loop-at.at in
    let worker = c.args.worker in
    let had = c.args.seats.now in
    let inv = c.loop-at.invariant in
    let z : 0 + at ≡ at = omega arith in
    let more : range_with_len 0 (at + 1) ≡ range_with_len 0 at ++ at ∷ [] = rw add-one (range_more 0 at ∙ ap (λ k. range_with_len 0 at ++ k ∷ []) z) in
    record {
      owners = c.in_ok-push.ensures.items ∙ ap (λ (xs : List ℕ). xs ++ worker ∷ []) inv.owners ∙ append_assoc had.owners.items (replicate at worker) (worker ∷ []) ∙ ap (λ (xs : List ℕ). had.owners.items ++ xs) (replicate_more at worker);
      places = c.in_ok-push-2.ensures.items ∙ ap (λ (n : ℕ). c.loop-at.seats.places.items ++ n ∷ []) c.in_ok-small.ensures.same ∙ ap (λ (xs : List ℕ). xs ++ at ∷ []) inv.places ∙ append_assoc had.places.items (range_with_len 0 at) (at ∷ []) ∙ ap (λ (xs : List ℕ). had.places.items ++ xs) (sym more);
      small_owners = λ h. All-same (λ (w : ℕ). w + 1 < 2 ^ 32) c.push.new.self.items (c.loop-at.seats.owners.items ++ worker ∷ []) c.in_ok-push.ensures.items (All-push (λ (w : ℕ). w + 1 < 2 ^ 32) c.loop-at.seats.owners.items worker (inv.small_owners h) c.requires);
      small_places = λ h. All-same (λ (p : ℕ). p + 1 < 2 ^ 32) c.push-in-loop-at.new.self.items (c.loop-at.seats.places.items ++ c.in_ok-small.field-0 ∷ []) c.in_ok-push-2.ensures.items (All-push (λ (p : ℕ). p + 1 < 2 ^ 32) c.loop-at.seats.places.items c.in_ok-small.field-0 (inv.small_places h) c.in_ok-small.ensures.room);
    }
