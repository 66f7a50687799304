-- The content of a string is UTF-8, where its text is.
use Rattle.std.proofs.Common.{◌≡◌, ◌≤◌, ◌<◌, ℕ, ◌+◌, ◌*◌, Bool, true, false, cond, ◌&&◌, ◌||◌, ◌==◌, nat_lt, nat_le, List, [], ◌∷◌, ◌++◌, length, drop, get_or, Option, Some, None, IfSome, option_and_then, IsUtf8, inl, inr, refl, sym, ap, ◌∙◌, subst, arith, append_assoc, append-nil, length-append, get_or-append-add, take_at, drop_at, ltb-true, eqb-true, lt-ltb, le-ltb, le-leb}
use Rattle.std.specs.Char.{is_digit, digit_value, encode_utf8}
use Rattle.std.proofs.lemmas.Bool.{and_parts, cases_lt}
use Rattle.std.proofs.lemmas.Str.{IsUtf8-append, IsUtf8-encode, IsUtf8-take, IsUtf8-drop, IsCharBoundary-before_ascii, IsCharBoundary-after_ascii, encode_ascii}
use lib.Utf8.{scalar, low_scalar}
use Rattle.json.specs.Text.{code_unit, short_escape, is_high_surrogate, is_low_surrogate, surrogate_pair, Within, plain, after_backslash, after_u, after_high, prepend, content}

-- ---- an ASCII byte of a text parts it

pub parted : (front : List ℕ) (x : ℕ) (xs : List ℕ) → x < 128 → IsUtf8 (front ++ x ∷ xs) → IsUtf8 front × IsUtf8 xs
parted front x xs small u =
    let text = front ++ x ∷ xs in
    let n = length front in
    let within : n < length text = omega (arith, length-append front (x ∷ xs)) in
    let start : n + 0 ≡ n = omega arith in
    let byte : get_or text n 0 ≡ x = ap (λ k. get_or text k 0) (sym start) ∙ get_or-append-add front (x ∷ xs) 0 0 in
    let ascii : get_or text n 0 < 128 = omega (arith, byte, small) in
    let long : length (front ++ x ∷ []) ≡ n + 1 = length-append front (x ∷ []) in (
      subst IsUtf8 (take_at front (x ∷ xs) n refl) (IsUtf8-take text n u (IsCharBoundary-before_ascii text n within ascii)),
      subst IsUtf8 (ap (drop (n + 1)) (sym (append_assoc front (x ∷ []) xs)) ∙ drop_at (front ++ x ∷ []) xs (n + 1) long) (IsUtf8-drop text (n + 1) u (IsCharBoundary-after_ascii text n u within ascii)),
    )

pub after_ascii : (x : ℕ) (xs : List ℕ) → x < 128 → IsUtf8 (x ∷ xs) → IsUtf8 xs
after_ascii x xs small u = (parted [] x xs small u).1

IsUtf8-byte : (x : ℕ) → x < 128 → IsUtf8 (x ∷ [])
IsUtf8-byte x small = subst IsUtf8 (encode_ascii x small) (IsUtf8-encode x (low_scalar x (omega (arith, small))))

-- ---- what escapes stand for

digit_small : (x : ℕ) → is_digit x 16 ≡ true → (x < 128) × (digit_value x < 16)
digit_small x e = grind (arith, e)

abbrev Spells : ℕ → ℕ → ℕ → ℕ → ℕ → Type 0
Spells a b c d u = (a < 128) × (b < 128) × (c < 128) × (d < 128) × (u < 65536)

spelled : (a b c d : ℕ) (digits : Bool) → (is_digit a 16 && is_digit b 16 && is_digit c 16 && is_digit d 16) ≡ digits
    → IfSome (cond digits (Some (digit_value a * 4096 + digit_value b * 256 + digit_value c * 16 + digit_value d)) None) (Spells a b c d)
spelled a b c d true e =
    let p = and_parts (is_digit a 16 && is_digit b 16 && is_digit c 16) (is_digit d 16) e in
    let q = and_parts (is_digit a 16 && is_digit b 16) (is_digit c 16) p.0 in
    let r = and_parts (is_digit a 16) (is_digit b 16) q.0 in
    let first = digit_small a r.0 in
    let second = digit_small b r.1 in
    let third = digit_small c q.1 in
    let fourth = digit_small d p.1 in
    (first.0, second.0, third.0, fourth.0, omega (arith, first.1, second.1, third.1, fourth.1))
spelled a b c d false e = tt

unit_spelled : (a b c d : ℕ) → IfSome (code_unit a b c d) (Spells a b c d)
unfolding code_unit
unit_spelled a b c d = spelled a b c d (is_digit a 16 && is_digit b 16 && is_digit c 16 && is_digit d 16) refl

either_byte : (P : Option ℕ → Type 0) (t : Bool) (x y : Option ℕ) → (t ≡ true → P x) → P y → P (cond t x y)
either_byte P true x y f g = f refl
either_byte P false x y f g = g

abbrev Escapes : ℕ → Option ℕ → Type 0
Escapes x r = IfSome r (λ c. (x < 128) × (c < 128))

stands_for : (x code : ℕ) (stands : ℕ) → stands < 128 → code < 128 → (x == code) ≡ true → Escapes x (Some stands)
stands_for x code stands small low e = let same = eqb-true x code e in (omega (arith, same, low), small)

itself : (x : ℕ) (q b s : Bool) → (q ≡ true → x ≡ 34) → (b ≡ true → x ≡ 92) → (s ≡ true → x ≡ 47) → (q || b || s) ≡ true → Escapes x (Some x)
itself x true b s f g h e = (omega (arith, f refl), omega (arith, f refl))
itself x false true s f g h e = (omega (arith, g refl), omega (arith, g refl))
itself x false false true f g h e = (omega (arith, h refl), omega (arith, h refl))
itself x false false false f g h e = absurd cc

short_small : (x : ℕ) → Escapes x (short_escape x)
unfolding short_escape
short_small x =
    either_byte (Escapes x) _ _ _ (itself x (x == 34) (x == 92) (x == 47) (eqb-true x 34) (eqb-true x 92) (eqb-true x 47))
    (either_byte (Escapes x) (x == 98) _ _ (stands_for x 98 8 (omega arith) (omega arith))
    (either_byte (Escapes x) (x == 102) _ _ (stands_for x 102 12 (omega arith) (omega arith))
    (either_byte (Escapes x) (x == 110) _ _ (stands_for x 110 10 (omega arith) (omega arith))
    (either_byte (Escapes x) (x == 114) _ _ (stands_for x 114 13 (omega arith) (omega arith))
    (either_byte (Escapes x) (x == 116) _ None (stands_for x 116 9 (omega arith) (omega arith)) tt)))))

high_scalar : (c : ℕ) → 57344 ≤ c → c < 1114112 → scalar c ≡ true
high_scalar c low high = let past : 55296 ≤ c = omega (arith, low) in rw (le-ltb c 55296 past, le-leb 57344 c low, lt-ltb c 1114112 high) refl

-- a unit that is neither half of a pair
single_scalar : (u : ℕ) → u < 65536 → is_high_surrogate u ≡ false → is_low_surrogate u ≡ false → scalar u ≡ true
single_scalar u small high low = elim (cases_lt u 55296) [
  | inl below ↦ low_scalar u below
  | inr from ↦ elim (cases_lt u 56320) [
    | inl first ↦ absurd (let one = le-leb 55296 u from in let two = lt-ltb u 56320 first in cc)
    | inr past ↦ elim (cases_lt u 57344) [
      | inl second ↦ absurd (let one = le-leb 56320 u past in let two = lt-ltb u 57344 second in cc)
      | inr above ↦ high_scalar u above (omega (arith, small))
    ]
  ]
]

pair_scalar : (h l : ℕ) → is_high_surrogate h ≡ true → is_low_surrogate l ≡ true → scalar (surrogate_pair h l) ≡ true
pair_scalar h l high low =
    let one = and_parts (nat_le 55296 h) (nat_lt h 56320) high in
    let two = and_parts (nat_le 56320 l) (nat_lt l 57344) low in
    let a : h < 56320 = ltb-true h 56320 one.1 in
    let b : l < 57344 = ltb-true l 57344 two.1 in
    high_scalar (surrogate_pair h l) (omega arith) (omega (arith, a, b))

-- ---- the content

-- what is known of the bytes before a place of a string, and from there on
abbrev pub Stands : Within → List ℕ → List ℕ → Type 0
Stands plain front xs = IsUtf8 (front ++ xs)
Stands after_backslash front xs = IsUtf8 front × IsUtf8 xs
Stands after_u front xs = IsUtf8 front × IsUtf8 xs
Stands (after_high h) front xs = IsUtf8 front × IsUtf8 xs × (is_high_surrogate h ≡ true)

-- the front, and the content behind it
abbrev pub IsText : List ℕ → Option (List ℕ) → Type 0
IsText front read = IfSome read (λ s. IsUtf8 (front ++ s))

by_test : (front : List ℕ) (test : Bool) (x y : Option (List ℕ)) → (test ≡ true → IsText front x) → (test ≡ false → IsText front y) → IsText front (cond test x y)
by_test front true x y f g = f refl
by_test front false x y f g = g refl

prepended : (front bytes : List ℕ) (read : Option (List ℕ)) → IsText (front ++ bytes) read → IsText front (prepend bytes read)
prepended front bytes None h = tt
prepended front bytes (Some s) h = subst IsUtf8 (append_assoc front bytes s) h

bound : (front : List ℕ) (P : ℕ → Type 0) (o : Option ℕ) (f : ℕ → Option (List ℕ)) → IfSome o P → ((u : ℕ) → P u → IsText front (f u)) → IsText front (option_and_then f o)
bound front P None f h each = tt
bound front P (Some u) f h each = each u h

IsUtf8-between : (front bytes xs : List ℕ) → IsUtf8 front → IsUtf8 bytes → IsUtf8 xs → IsUtf8 ((front ++ bytes) ++ xs)
IsUtf8-between front bytes xs u v w = IsUtf8-append (front ++ bytes) xs (IsUtf8-append front bytes u v) w

pub content-IsText : (w : Within) (front xs : List ℕ) → Stands w front xs → IsText front (content w xs)
unfolding content
content-IsText plain front [] u = tt
content-IsText plain front (x ∷ xs) u =
    by_test front (x == 34) _ _ (λ q. subst IsUtf8 (sym (append-nil front)) (parted front x xs (omega (arith, eqb-true x 34 q)) u).0)
    (λ q. by_test front (x == 92) _ _ (λ b. content-IsText after_backslash front xs (parted front x xs (omega (arith, eqb-true x 92 b)) u))
    (λ b. by_test front (nat_lt x 32) None _ (λ l. tt) (λ l. prepended front (x ∷ []) (content plain xs) (content-IsText plain (front ++ x ∷ []) xs (subst IsUtf8 (sym (append_assoc front (x ∷ []) xs)) u)))))
content-IsText after_backslash front [] u = tt
content-IsText after_backslash front (x ∷ xs) u =
    by_test front (x == 117) _ _ (λ e. content-IsText after_u front xs (u.0, after_ascii x xs (omega (arith, eqb-true x 117 e)) u.1))
    (λ e. bound front _ (short_escape x) _ (short_small x)
    (λ c small. prepended front (c ∷ []) (content plain xs) (content-IsText plain (front ++ c ∷ []) xs (IsUtf8-between front (c ∷ []) xs u.0 (IsUtf8-byte c small.1) (after_ascii x xs small.0 u.1)))))
content-IsText after_u front [] u = tt
content-IsText after_u front (a ∷ []) u = tt
content-IsText after_u front (a ∷ b ∷ []) u = tt
content-IsText after_u front (a ∷ b ∷ c ∷ []) u = tt
content-IsText after_u front (a ∷ b ∷ c ∷ d ∷ xs) u =
    bound front (Spells a b c d) (code_unit a b c d) _ (unit_spelled a b c d)
    (λ unit spells.
    let rest : IsUtf8 xs = after_ascii d xs spells.3 (after_ascii c (d ∷ xs) spells.2 (after_ascii b (c ∷ d ∷ xs) spells.1 (after_ascii a (b ∷ c ∷ d ∷ xs) spells.0 u.1))) in
    by_test front (is_high_surrogate unit) _ _ (λ high. content-IsText (after_high unit) front xs (u.0, rest, high))
    (λ high. by_test front (is_low_surrogate unit) None _ (λ low. tt)
    (λ low. prepended front (encode_utf8 unit) (content plain xs) (content-IsText plain (front ++ encode_utf8 unit) xs (IsUtf8-between front (encode_utf8 unit) xs u.0 (IsUtf8-encode unit (single_scalar unit spells.4 high low)) rest)))))
content-IsText (after_high h) front [] u = tt
content-IsText (after_high h) front (s ∷ []) u = tt
content-IsText (after_high h) front (s ∷ v ∷ []) u = tt
content-IsText (after_high h) front (s ∷ v ∷ a ∷ []) u = tt
content-IsText (after_high h) front (s ∷ v ∷ a ∷ b ∷ []) u = tt
content-IsText (after_high h) front (s ∷ v ∷ a ∷ b ∷ c ∷ []) u = tt
content-IsText (after_high h) front (s ∷ v ∷ a ∷ b ∷ c ∷ d ∷ xs) u =
    by_test front ((s == 92) && (v == 117)) _ None
    (λ escaped.
    let marks = and_parts (s == 92) (v == 117) escaped in
    bound front (Spells a b c d) (code_unit a b c d) _ (unit_spelled a b c d)
    (λ unit spells.
    let digits : IsUtf8 (a ∷ b ∷ c ∷ d ∷ xs) = after_ascii v (a ∷ b ∷ c ∷ d ∷ xs) (omega (arith, eqb-true v 117 marks.1)) (after_ascii s (v ∷ a ∷ b ∷ c ∷ d ∷ xs) (omega (arith, eqb-true s 92 marks.0)) u.1) in
    let rest : IsUtf8 xs = after_ascii d xs spells.3 (after_ascii c (d ∷ xs) spells.2 (after_ascii b (c ∷ d ∷ xs) spells.1 (after_ascii a (b ∷ c ∷ d ∷ xs) spells.0 digits))) in
    by_test front (is_low_surrogate unit) _ None
    (λ low.
    let pair = encode_utf8 (surrogate_pair h unit) in
    prepended front pair (content plain xs) (content-IsText plain (front ++ pair) xs (IsUtf8-between front pair xs u.0 (IsUtf8-encode (surrogate_pair h unit) (pair_scalar h unit u.2 low)) rest)))
    (λ low. tt)))
    (λ escaped. tt)
