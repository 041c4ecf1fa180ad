use Rattle.std.proofs.Common.{rules, ◌≡◌, ◌<◌, ◌+◌, length, ap, ◌∙◌}
use Rattle.std.specs.List.{remove}
use Rattle.std.proofs.lemmas.List.Edits.{length-remove}
use Rattle.inspector_gen.proofs.turn.take_next.Goals as goal

pub returns-clause-left : goal.returns-clause-left
returns-clause-left c =
    let left = c.args.left.now in
    let place = c.in_ok-place.place in
    let inside : place < length left = search rules in
    let rest : c.remove-next.new.self ≡ remove left place = c.remove-next.ensures.rest in
    ap (λ l. length l + 1) rest ∙ length-remove left place inside
