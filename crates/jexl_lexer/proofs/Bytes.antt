-- Bytes of characters.
use Rattle.std.proofs.Common.{◌≡◌, ℕ, ◌<◌, ◌≤◌, Bool, true, false, List, [], ◌∷◌, ◌++◌, length, refl, ap, ◌∙◌, arith, length-append}
use Rattle.std.specs.Prelude.{nat_lt, encode_utf8}
use Rattle.std.proofs.lemmas.Bool.{ltb-true, ltb-false}
use Rattle.std.proofs.lemmas.Str.{encode_ascii, inside_one, length-encode, len_utf8_bounds}
use Rattle.jexl_lexer.specs.Scanning.{NoAsciiFront}

pub char_long : (c : ℕ) → 1 ≤ length (encode_utf8 c)
char_long c = let b = len_utf8_bounds c in let e = length-encode c in omega arith

pub shorter : (bs rest : List ℕ) (c : ℕ) → bs ≡ encode_utf8 c ++ rest → length rest < length bs
shorter bs rest c e =
    let l : length bs ≡ length (encode_utf8 c ++ rest) = ap (λ (w : List ℕ). length w) e in
    omega (arith, l, length-append (encode_utf8 c) rest, char_long c)

high : (b c : ℕ) (bs rest : List ℕ) → b ∷ bs ≡ encode_utf8 c ++ rest → 128 ≤ c → b < 128 → ⊥
high b c bs rest e h l = let s : c ≡ b = inside_one c rest (b ∷ bs) 0 e (char_long c) l in omega arith

big_by : (b : ℕ) (t : Bool) → nat_lt b 128 ≡ t → (b < 128 → ⊥) → 128 ≤ b
big_by b true e n = absurd (n (ltb-true b 128 e))
big_by b false e n = ltb-false b 128 e

pub big_front : (bs rest : List ℕ) (c : ℕ) → bs ≡ encode_utf8 c ++ rest → 128 ≤ c → NoAsciiFront bs
big_front [] rest c e h = tt
big_front (b ∷ bs) rest c e h = big_by b (nat_lt b 128) refl (λ l. high b c bs rest e h l)

pub small_front : (bs rest : List ℕ) (c : ℕ) → bs ≡ encode_utf8 c ++ rest → c < 128 → bs ≡ c ∷ rest
small_front bs rest c e l = e ∙ ap (λ (w : List ℕ). w ++ rest) (encode_ascii c l)
