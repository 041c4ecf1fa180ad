-- Each relation has a writer.
use Rattle.std.proofs.Common.{◌≡◌, ◌||◌, ◌&&◌, refl, List, [], ◌∷◌, Bool, true, false, if◌then◌else◌}
use Rattle.std.specs.Prelude.{IsTrue}
use Rattle.std.specs.List.{All, flat_map}
use Rattle.std.proofs.lemmas.List.Elements.{All-append, All-cons, All-nil}
use Rattle.loop_core.specs.declared.nest.Nest.{Nest}
use Rattle.loop_core.specs.Shape.{same_array}
use Rattle.uf_constraints.specs.declared.system.Relation.{Relation}
use Rattle.uf_constraints.specs.declared.reach.Site.{Site}
use Rattle.uf_constraints.specs.Relations.{are_related, relation, related, relations, sites}

-- one of the two references writes
abbrev pub HasWriter : Relation → Type 0
HasWriter r = IsTrue (r.first.writes || r.second.writes)

second_true : (a b : Bool) → (a && b) ≡ true → b ≡ true
second_true true b p = p
second_true false b p = absurd cc

where_related : (b : Bool) (r : Relation) → (b ≡ true → HasWriter r) → All HasWriter (if b then r ∷ [] else [])
where_related true r h = All-cons HasWriter r [] (h refl) (All-nil HasWriter)
where_related false r h = All-nil HasWriter

related_write : (nest : Nest) (s t : Site) → All HasWriter (related nest s t)
related_write nest s t =
    where_related (are_related s t) (relation nest s t)
    (second_true (same_array s.reference.array t.reference.array) (s.reference.writes || t.reference.writes))

all_flat : {X : Type 0} (P : Relation → Type 0) (f : X → List Relation) (xs : List X) → ((x : X) → All P (f x)) → All P (flat_map f xs)
all_flat P f [] h = All-nil P
all_flat P f (x ∷ xs) h = All-append P (f x) (flat_map f xs) (h x) (all_flat P f xs h)

pub relations_write : (nest : Nest) → All HasWriter (relations nest)
relations_write nest =
    all_flat HasWriter (λ s. flat_map (related nest s) (sites nest)) (sites nest)
    (λ s. all_flat HasWriter (related nest s) (sites nest) (related_write nest s))
