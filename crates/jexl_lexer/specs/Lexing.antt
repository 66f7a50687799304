-- Which bytes spell which tokens, and where the first fault is.
use Rattle.std.specs.Prelude.{◌≡◌, ◌≢◌, ℕ, suc, ◌+◌, ◌^◌, ◌<◌, ◌≤◌, pos, Bool, true, false, ◌||◌, ◌&&◌, ◌==◌, nat_le, List, [], ◌∷◌, ◌++◌, length, codes}
use Rattle.sequences.specs.Runs.{value_from}
use Rattle.jexl_lexer.specs.declared.lexer.TheConstants.{MAX_TOKENS}
use Rattle.jexl_lexer.specs.declared.token.Sign.{Sign}
use Rattle.jexl_lexer.specs.declared.token.Sign.TheVariants as signs
use Rattle.jexl_lexer.specs.declared.token.Token.{Token}
use Rattle.jexl_lexer.specs.declared.token.TokenKind.{TokenKind}
use Rattle.jexl_lexer.specs.declared.token.TokenKind.TheVariants as kinds

-- a space, a tab, a line feed or a carriage return
abbrev pub is_blank : ℕ → Bool
is_blank b = (b == 32) || ((b == 9) || ((b == 10) || (b == 13)))

-- `0` to `9`
abbrev pub is_digit : ℕ → Bool
is_digit b = nat_le 48 b && nat_le b 57

-- `A` to `Z`, `a` to `z`, `_` or `$`
abbrev pub is_start : ℕ → Bool
is_start b = (nat_le 65 b && nat_le b 90) || ((nat_le 97 b && nat_le b 122) || ((b == 95) || (b == 36)))

-- what may stand in a name after its first byte
abbrev pub is_word : ℕ → Bool
is_word b = is_start b || is_digit b

-- `'` or `"`
abbrev pub is_quote : ℕ → Bool
is_quote b = (b == 39) || (b == 34)

-- each byte passes the test
abbrev pub AllPass : (ℕ → Bool) → List ℕ → Type 0
AllPass p [] = Unit {0}
AllPass p (b ∷ bs) = (p b ≡ true) × AllPass p bs

-- the first byte, if any, fails the test
abbrev pub Stops : (ℕ → Bool) → List ℕ → Type 0
Stops p [] = Unit {0}
Stops p (b ∷ bs) = p b ≡ false

-- a dot and a digit stand in front
abbrev pub IsDecimal : List ℕ → Type 0
IsDecimal [] = ⊥
IsDecimal (b ∷ []) = ⊥
IsDecimal (b ∷ c ∷ bs) = (b ≡ 46) × (is_digit c ≡ true)

-- What may stand between quotes q, and the text that it is: a backslash (92) and any character give that character.
-- By bytes this holds for every text, since no byte of a longer character is a quote or a backslash
pub data Inside (q : ℕ) : List ℕ → List ℕ → Type 0 where
  nothing : Inside q [] []
  plain : {cs ts : List ℕ} (c : ℕ) → c ≢ q → c ≢ 92 → Inside q cs ts → Inside q (c ∷ cs) (c ∷ ts)
  escaped : {cs ts : List ℕ} (c : ℕ) → Inside q cs ts → Inside q (92 ∷ c ∷ cs) (c ∷ ts)

-- what never comes to its closing quote q
pub data NeverClosed (q : ℕ) : List ℕ → Type 0 where
  ends : NeverClosed q []
  plain_on : {cs : List ℕ} (c : ℕ) → c ≢ q → c ≢ 92 → NeverClosed q cs → NeverClosed q (c ∷ cs)
  escaped_on : {cs : List ℕ} (c : ℕ) → NeverClosed q cs → NeverClosed q (92 ∷ c ∷ cs)
  last_backslash : NeverClosed q (92 ∷ [])

-- the bytes of a sign
abbrev pub sign_text : Sign → List ℕ
sign_text signs.And = codes "&&"
sign_text signs.Or = codes "||"
sign_text signs.Equal = codes "=="
sign_text signs.NotEqual = codes "!="
sign_text signs.AtMost = codes "<="
sign_text signs.AtLeast = codes ">="
sign_text signs.FloorDiv = codes "//"
sign_text signs.Less = codes "<"
sign_text signs.Greater = codes ">"
sign_text signs.Plus = codes "+"
sign_text signs.Minus = codes "-"
sign_text signs.Star = codes "*"
sign_text signs.Percent = codes "%"
sign_text signs.Caret = codes "^"
sign_text signs.Bang = codes "!"
sign_text signs.Question = codes "?"
sign_text signs.Colon = codes ":"
sign_text signs.Dot = codes "."
sign_text signs.Comma = codes ","
sign_text signs.LeftRound = codes "("
sign_text signs.RightRound = codes ")"
sign_text signs.LeftSquare = codes "["
sign_text signs.RightSquare = codes "]"
sign_text signs.LeftBrace = codes "{"
sign_text signs.RightBrace = codes "}"
sign_text signs.Bar = codes "|"

-- no longer sign begins these bytes
abbrev pub IsLongest : Sign → List ℕ → Type 0
IsLongest s bytes = (r : Sign) (rest : List ℕ) → bytes ≡ sign_text r ++ rest → length (sign_text r) ≤ length (sign_text s)

-- no sign begins these bytes
abbrev pub NoSign : List ℕ → Type 0
NoSign bytes = (r : Sign) (rest : List ℕ) → bytes ≢ sign_text r ++ rest

-- one token at the front, and the bytes after it: a longest run of digits, a longest name, a text in quotes, or a longest sign
pub data Begins : List ℕ → TokenKind → List ℕ → Type 0 where
  number : (d : ℕ) (ds rest : List ℕ) → AllPass is_digit (d ∷ ds) → Stops is_digit rest → (IsDecimal rest → ⊥) → value_from 0 (d ∷ ds) < 2 ^ 63
      → Begins (d ∷ (ds ++ rest)) (kinds.Number (pos (value_from 0 (d ∷ ds)))) rest
  name : (b : ℕ) (bs rest : List ℕ) → is_start b ≡ true → AllPass is_word bs → Stops is_word rest
      → Begins (b ∷ (bs ++ rest)) (kinds.Name (b ∷ bs)) rest
  quoted : (q : ℕ) (body text rest : List ℕ) → is_quote q ≡ true → Inside q body text
      → Begins (q ∷ (body ++ (q ∷ rest))) (kinds.Quoted text) rest
  sign : (s : Sign) (rest : List ℕ) → IsLongest s (sign_text s ++ rest)
      → Begins (sign_text s ++ rest) (kinds.Sign s) rest

pub data Fault : Type 0 where
  BadChar : Fault
  OpenText : Fault
  BigNumber : Fault
  Decimal : Fault
  TooManyTokens : Fault

-- a fault at the front, where a byte stands that isn't blank
pub data FaultAt : List ℕ → Fault → Type 0 where
  decimal : (d : ℕ) (ds rest : List ℕ) → AllPass is_digit (d ∷ ds) → Stops is_digit rest → IsDecimal rest
      → FaultAt (d ∷ (ds ++ rest)) Decimal
  big_number : (d : ℕ) (ds rest : List ℕ) → AllPass is_digit (d ∷ ds) → Stops is_digit rest → (IsDecimal rest → ⊥) → 2 ^ 63 ≤ value_from 0 (d ∷ ds)
      → FaultAt (d ∷ (ds ++ rest)) BigNumber
  open_text : (q : ℕ) (body : List ℕ) → is_quote q ≡ true → NeverClosed q body
      → FaultAt (q ∷ body) OpenText
  bad_char : (b : ℕ) (bs : List ℕ) → is_digit b ≡ false → is_start b ≡ false → is_quote b ≡ false → NoSign (b ∷ bs)
      → FaultAt (b ∷ bs) BadChar

-- From this place on, after n tokens, the bytes are these tokens and blanks. There are at most `MAX_TOKENS` tokens in all
pub data Lexes : ℕ → ℕ → List ℕ → List Token → Type 0 where
  done : (n place : ℕ) → Lexes n place [] []
  skip : {n place : ℕ} {bs : List ℕ} {ts : List Token} (b : ℕ) → is_blank b ≡ true → Lexes n (suc place) bs ts
      → Lexes n place (b ∷ bs) ts
  next : {n : ℕ} {bs rest : List ℕ} {ts : List Token} (place end : ℕ) (k : TokenKind) → n < MAX_TOKENS → Begins bs k rest → place + length bs ≡ end + length rest → Lexes (suc n) end rest ts
      → Lexes n place bs (record { kind = k; start = place; end = end } ∷ ts)

-- From this place on, after n tokens, the first fault is this one, at that place: behind blanks and tokens, where a token would begin.
-- Whether there are `MAX_TOKENS` tokens before it is asked first
pub data Faults : ℕ → ℕ → List ℕ → Fault → ℕ → Type 0 where
  skip_on : {n place at : ℕ} {bs : List ℕ} {f : Fault} (b : ℕ) → is_blank b ≡ true → Faults n (suc place) bs f at
      → Faults n place (b ∷ bs) f at
  next_on : {n at : ℕ} {bs rest : List ℕ} {f : Fault} (place end : ℕ) (k : TokenKind) → n < MAX_TOKENS → Begins bs k rest → place + length bs ≡ end + length rest → Faults (suc n) end rest f at
      → Faults n place bs f at
  too_many : (place b : ℕ) (bs : List ℕ) → is_blank b ≡ false
      → Faults MAX_TOKENS place (b ∷ bs) TooManyTokens place
  here : {n : ℕ} {bs : List ℕ} {f : Fault} (place b : ℕ) → n < MAX_TOKENS → is_blank b ≡ false → FaultAt (b ∷ bs) f
      → Faults n place (b ∷ bs) f place
