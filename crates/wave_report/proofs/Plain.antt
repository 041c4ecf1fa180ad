-- Names of letters, digits and `_` are ASCII, and so they are UTF-8.
use Rattle.std.proofs.Common.{◌≡◌, ℕ, ◌<◌, Bool, true, false, List, [], ◌∷◌, refl, arith}
use Rattle.std.specs.Prelude.{◌&&◌}
use Rattle.std.specs.List.{list_all}
use Rattle.std.specs.Str.{IsAscii, IsUtf8}
use Rattle.std.proofs.lemmas.Grind.{common_steps}
use Rattle.std.proofs.lemmas.Str.{IsUtf8-from_ascii}
use Rattle.std.proofs.lemmas.Str.Ascii.{IsAscii-nil, IsAscii-cons}
use Rattle.loop_core.specs.Names.{is_name_byte}
use Rattle.wave_report.specs.ArrayText.{IsPlain}

pub and_left : (a b : Bool) → (a && b) ≡ true → a ≡ true
and_left true b h = refl
and_left false b h = absurd (cc)

pub and_right : (a b : Bool) → (a && b) ≡ true → b ≡ true
and_right true b h = h
and_right false b h = absurd (cc)

byte_small : (b : ℕ) → is_name_byte b ≡ true → b < 128
byte_small b h = grind (arith, common_steps)

plain_ascii : (name : List ℕ) → list_all is_name_byte name ≡ true → IsAscii name
plain_ascii [] h = IsAscii-nil
plain_ascii (b ∷ bs) h =
    IsAscii-cons b bs (byte_small b (and_left (is_name_byte b) (list_all is_name_byte bs) h)) (plain_ascii bs (and_right (is_name_byte b) (list_all is_name_byte bs) h))

pub plain_utf8 : (name : List ℕ) → IsPlain name → IsUtf8 name
plain_utf8 name h = IsUtf8-from_ascii name (plain_ascii name h)
