-- What a text of an id reads as has sixteen bytes.
use Rattle.std.proofs.Common.{◌≡◌, ℕ, zero, suc, ◌<◌, ◌+◌, ◌*◌, Bool, true, false, List, [], ◌∷◌, length, get_or, take, drop, refl, sym, subst, arith, Option, Some, None}
use Rattle.std.specs.Prelude.{◌==◌, ◌&&◌, if◌then◌else◌}
use Rattle.std.specs.List.{list_all}
use Rattle.std.proofs.lemmas.Bool.Decides.{nat_tests}
use Rattle.std.proofs.lemmas.Bool.{eqb-true, and_parts}
use Rattle.uuid.specs.Text.{parsed, parsed_simple, parsed_hyphenated, parsed_urn, by_index, byte_of_digits, is_hex_digit, value_of, digits_of, has_hyphens, has_urn_prefix, open_brace, close_brace}
use Rattle.uuid.proofs.TextLemmas.{by_index_length, by_index_at, all_fit}
use Rattle.enrol_states.specs.Consistent.{IsId}

-- where there is an id, it has sixteen bytes
abbrev pub IsIdIn : Option (List ℕ) → Type 0
IsIdIn None = Unit {0}
IsIdIn (Some id) = IsId id

either : (b : Bool) (x y : Option (List ℕ)) → IsIdIn x → IsIdIn y → IsIdIn (if b then x else y)
either true x y here there = here
either false x y here there = there

where_true : (b : Bool) (x : Option (List ℕ)) → (b ≡ true → IsIdIn x) → IsIdIn (if b then x else None)
where_true true x here = here refl
where_true false x here = tt

each_passes : (p : ℕ → Bool) (xs : List ℕ) → list_all p xs ≡ true → (k : ℕ) → k < length xs → p (get_or xs k 0) ≡ true
each_passes p [] all k below = absurd (omega (arith, below))
each_passes p (x ∷ xs) all zero below = (and_parts (p x) (list_all p xs) all).0
each_passes p (x ∷ xs) all (suc k) below = each_passes p xs (and_parts (p x) (list_all p xs) all).1 k (omega (arith, below))

digit_small : (c : ℕ) → is_hex_digit c ≡ true → value_of c < 16
digit_small c is = grind (arith, nat_tests)

byte_small : (hex : List ℕ) (j : ℕ) → length hex ≡ 32 → list_all is_hex_digit hex ≡ true → j < 16 → byte_of_digits hex j < 256
byte_small hex j len all below =
    let high = digit_small (get_or hex (2 * j) 0) (each_passes is_hex_digit hex all (2 * j) (omega (arith, len, below))) in
    let low = digit_small (get_or hex (2 * j + 1) 0) (each_passes is_hex_digit hex all (2 * j + 1) (omega (arith, len, below))) in
    omega (arith, high, low)

simple : (hex : List ℕ) → IsIdIn (parsed_simple hex)
simple hex = where_true ((length hex == 32) && list_all is_hex_digit hex) (Some (by_index 16 (byte_of_digits hex))) (λ both.
    let len = eqb-true (length hex) 32 (and_parts (length hex == 32) (list_all is_hex_digit hex) both).0 in
    let all = (and_parts (length hex == 32) (list_all is_hex_digit hex) both).1 in
    let sixteen = by_index_length 16 (byte_of_digits hex) in
    record {
      sixteen = sixteen;
      bytes = all_fit (by_index 16 (byte_of_digits hex)) (λ k below.
          let inside : k < 16 = omega (arith, below, sixteen) in
          subst (λ (b : ℕ). b < 256) (sym (by_index_at 16 (byte_of_digits hex) k 0 inside)) (byte_small hex k len all inside));
    })

with_hyphens : (s : List ℕ) → IsIdIn (parsed_hyphenated s)
with_hyphens s = where_true ((length s == 36) && has_hyphens s) (parsed_simple (digits_of s)) (λ is. simple (digits_of s))

pub id_in_text : (s : List ℕ) → IsIdIn (parsed s)
id_in_text s =
    either (length s == 32) _ _ (simple s)
    (either (length s == 36) _ _ (with_hyphens s)
    (either (length s == 38) _ _
    (where_true ((length s == 38) && (get_or s 0 0 == open_brace) && (get_or s 37 0 == close_brace)) (parsed_hyphenated (take 36 (drop 1 s))) (λ is. with_hyphens (take 36 (drop 1 s))))
    (where_true (length s == 45) (parsed_urn s) (λ is. where_true ((length s == 45) && has_urn_prefix s) (parsed_hyphenated (drop 9 s)) (λ has. with_hyphens (drop 9 s))))))
