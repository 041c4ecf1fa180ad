-- A file's beginning grows by a piece that stands right after it.
use Rattle.std.proofs.Common.{◌≤◌, ◌+◌, ℕ, List, length, take, ◌++◌, Option, Some, None, Result, Ok, Err, IfOk, IfSome, sym, ◌∙◌}
use Rattle.std.proofs.Math.Seq.{take-add}
use Rattle.std.proofs.lemmas.List.{take_at, drop_at, length-take-le, take-append-le}
use Rattle.wave_io.specs.Files.{Begin, StandsAt}

pub Begin-more : (all old into after : List ℕ) (n k : ℕ) → n ≤ length old → k ≤ length into → StandsAt all n into k
    → Begin all old n → Begin all (take n old ++ (into ++ after)) (n + k)
Begin-more all old into after n k within room stands begin =
    let e = length-take-le n old within in
    take-add n k (take n old ++ (into ++ after))
    ∙ (rw (take_at (take n old) (into ++ after) n e, drop_at (take n old) (into ++ after) n e, take-append-le k into after room, stands, begin) (sym (take-add n k all)))

pub begins_after : {E : Type 0} (r : Result ℕ E) (told : Option (List ℕ)) (old into after : List ℕ) (n : ℕ) → n ≤ length old
    → IfOk r (λ k. k ≤ length into)
    → IfOk r (λ k. IfSome told (λ all. StandsAt all n into k))
    → IfOk r (λ k. IfSome told (λ all. Begin all old n → Begin all (take n old ++ (into ++ after)) (n + k)))
begins_after (Ok k) (Some all) old into after n within room stands = Begin-more all old into after n k within room stands
begins_after (Ok k) None old into after n within room stands = tt
begins_after (Err e) told old into after n within room stands = tt
