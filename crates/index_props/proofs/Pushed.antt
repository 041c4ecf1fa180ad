-- One entry more.
use Rattle.std.proofs.Common.{◌≤◌, ◌+◌, ◌^◌, List, [], ◌∷◌, ◌++◌, unsigned_abs}
use Rattle.std.proofs.lemmas.List.Elements.{All-push}
use Rattle.index_props.specs.Entries.{EntryTerms}
use Rattle.index_props.specs.Within.{EntriesWithin}

pub pushed_within : (es : List EntryTerms) (e : EntryTerms) → EntriesWithin es → unsigned_abs e.index.plus ≤ 2 ^ 21 + 1 → EntriesWithin (es ++ e ∷ [])
pushed_within es e old small = All-push (λ x. unsigned_abs x.index.plus ≤ 2 ^ 21 + 1) es e old small
