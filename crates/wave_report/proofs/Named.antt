-- The declared names of a nest consist of letters, digits and `_`.
use Rattle.std.proofs.Common.{◌≡◌, ℕ, Bool, true, false, List, [], ◌∷◌, ◌++◌, map, refl}
use Rattle.std.specs.Prelude.{◌&&◌}
use Rattle.std.specs.List.{All, list_all}
use Rattle.std.proofs.lemmas.List.Elements.{All-nil, All-cons}
use Rattle.loop_core.specs.declared.decl.Decl.{Decl}
use Rattle.loop_core.specs.declared.nest.Nest.{Nest}
use Rattle.loop_core.specs.IsNest.{IsNest}
use Rattle.loop_core.specs.Names.{begins_with_letter, is_name, is_name_byte}
use Rattle.wave_report.specs.ArrayText.{IsPlain, AreNamed}
use Rattle.wave_report.proofs.Plain.{and_left, and_right}

plain : (a b c d : Bool) → (a && b && c && d) ≡ true → b ≡ true
plain true true c d h = refl
plain true false c d h = absurd (cc)
plain false b c d h = absurd (cc)

plain_name : (name : List ℕ) → is_name name ≡ true → IsPlain name
plain_name name h = plain (begins_with_letter name) (list_all is_name_byte name) _ _ h

declared : (ds : List Decl) (ls more : List (List ℕ)) → list_all is_name ((map (λ (d : Decl). d.name) ds ++ ls) ++ more) ≡ true → AreNamed ds
declared [] ls more h = All-nil (λ (d : Decl). IsPlain d.name)
declared (d ∷ ds) ls more h =
    let rest : Bool = list_all is_name ((map (λ (d : Decl). d.name) ds ++ ls) ++ more) in
    All-cons (λ (d : Decl). IsPlain d.name) d ds (plain_name d.name (and_left (is_name d.name) rest h)) (declared ds ls more (and_right (is_name d.name) rest h))

pub are_named : (nest : Nest) → IsNest nest → AreNamed nest.decls
are_named nest h = declared nest.decls (map (λ l. l.name) nest.locals) _ h.names
