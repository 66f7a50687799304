-- A name and a slug have at most 80 bytes, and those of a name are ASCII.
use Rattle.std.proofs.Common.{◌≡◌, ◌<◌, ◌≤◌, ◌∷◌, [], List, ℕ, suc, true, None, length, IsTrue, IsUtf8, arith, ne_eqb}
use Rattle.std.specs.Prelude.{◌&&◌, nat_le, nat_lt}
use Rattle.std.specs.List.{list_all}
use Rattle.std.specs.Str.{IsAscii}
use Rattle.std.proofs.lemmas.Bool.{leb-true, and_parts}
use Rattle.std.proofs.lemmas.Bool.Decides.{nat_tests}
use Rattle.std.proofs.lemmas.Str.{IsUtf8-from_ascii}
use Rattle.std.proofs.lemmas.Str.Ascii.{IsAscii-cons}
use Rattle.plain_text.specs.Names.{is_name_byte, is_name, past_80, bad_place}
use Rattle.plain_text.proofs.Slugs.{both_none}
use Rattle.plain_text.proofs.Splitting.{not_within}

pub slug_short : (s : List ℕ) → bad_place s ≡ None → length s ≤ 80
slug_short [] slug = omega arith
slug_short (x ∷ s) slug =
    let past : past_80 (x ∷ s) ≡ None = (both_none _ (past_80 (x ∷ s)) (rw (ne_eqb (suc (length s)) 0 (λ none. omega arith)) at slug)).1 in
    not_within 80 (length (x ∷ s)) past

pub name_short : (name : List ℕ) → IsTrue (is_name name) → length name ≤ 80
name_short name is = leb-true (length name) 80 (and_parts _ _ (and_parts (nat_lt 0 (length name) && nat_le (length name) 80) _ is).0).1

below_128 : (x : ℕ) → is_name_byte x ≡ true → x < 128
below_128 x is = grind (arith, nat_tests)

pub all_ascii : (bytes : List ℕ) → list_all is_name_byte bytes ≡ true → IsAscii bytes
all_ascii [] is = λ i. omega arith
all_ascii (x ∷ bytes) is = let parts = and_parts (is_name_byte x) (list_all is_name_byte bytes) is in IsAscii-cons x bytes (below_128 x parts.0) (all_ascii bytes parts.1)

pub IsUtf8-name : (name : List ℕ) → IsTrue (is_name name) → IsUtf8 name
IsUtf8-name name is = IsUtf8-from_ascii name (all_ascii name (and_parts _ (list_all is_name_byte name) is).1)
