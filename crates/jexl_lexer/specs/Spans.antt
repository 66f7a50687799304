-- How tokens stand in their text.
use Rattle.std.specs.Prelude.{◌≡◌, ℕ, ◌-◌, ◌<◌, ◌≤◌, pos, true, List, [], ◌∷◌, ◌++◌, take, drop}
use Rattle.jexl_lexer.specs.declared.token.Token.{Token}
use Rattle.jexl_lexer.specs.declared.token.TokenKind.{TokenKind}
use Rattle.jexl_lexer.specs.declared.token.TokenKind.TheVariants as kinds
use Rattle.sequences.specs.Runs.{value_from}
use Rattle.jexl_lexer.specs.Lexing.{is_blank, is_digit, is_quote, AllPass, sign_text, Inside}

-- the bytes from one place up to another
abbrev pub slice : List ℕ → ℕ → ℕ → List ℕ
slice bytes start end = take (end - start) (drop start bytes)

-- From this place on, no token begins before the last one has ended, each has at least one byte, and all end within this length
abbrev pub SpansRise : ℕ → ℕ → List Token → Type 0
SpansRise place size [] = place ≤ size
SpansRise place size (t ∷ ts) = (place ≤ t.start) × (t.start < t.end) × SpansRise t.end size ts

-- from this place on, the bytes before, between and after the tokens are blanks
abbrev pub BlanksOutside : List ℕ → ℕ → List Token → Type 0
BlanksOutside bytes place [] = AllPass is_blank (drop place bytes)
BlanksOutside bytes place (t ∷ ts) = AllPass is_blank (slice bytes place t.start) × BlanksOutside bytes t.end ts

-- the bytes are a quote, this text with backslashes, and the same quote
pub record IsQuoted (text bytes : List ℕ) : Type 0 where
  pub quote : ℕ
  pub body : List ℕ
  pub is_quote : is_quote quote ≡ true
  pub parts : bytes ≡ quote ∷ (body ++ (quote ∷ []))
  pub inside : Inside quote body text

-- the bytes of a token, and no others, spell it
abbrev pub IsSpelled : TokenKind → List ℕ → Type 0
IsSpelled (kinds.Number n) bytes = AllPass is_digit bytes × (n ≡ pos (value_from 0 bytes))
IsSpelled (kinds.Quoted text) bytes = IsQuoted text bytes
IsSpelled (kinds.Name name) bytes = bytes ≡ name
IsSpelled (kinds.Sign s) bytes = bytes ≡ sign_text s

-- the token is read from its slice
abbrev pub IsReadFrom : List ℕ → Token → Type 0
IsReadFrom bytes t = IsSpelled t.kind (slice bytes t.start t.end)
