-- Lexing a text from the left, as functions on its bytes: what the functions of the lexer give.
use Rattle.std.specs.Prelude.{ℕ, zero, suc, ◌+◌, ◌-◌, ◌^◌, pos, Bool, true, false, ◌&&◌, ◌==◌, nat_lt, List, [], ◌∷◌, length, Option, Some, None, Result, Ok, Err}
use Rattle.jexl_lexer.specs.declared.lexer.TheConstants.{MAX_TOKENS}
use Rattle.jexl_lexer.specs.declared.token.Sign.{Sign}
use Rattle.jexl_lexer.specs.declared.token.Token.{Token}
use Rattle.jexl_lexer.specs.declared.token.TokenKind.{TokenKind}
use Rattle.jexl_lexer.specs.declared.token.TokenKind.TheVariants as kinds
use Rattle.sequences.specs.Runs.{run, value_from}
use Rattle.jexl_lexer.specs.Lexing.{is_blank, is_digit, is_start, is_word, is_quote, Fault, BadChar, OpenText, BigNumber, Decimal, TooManyTokens}
use Rattle.jexl_lexer.specs.Scanning.{inside, first_sign, all_signs}

-- a token and the bytes after it, or its fault
abbrev pub TokenRead : Type 0
TokenRead = Result (TokenKind × List ℕ) Fault

-- a dot and a digit stand in front
abbrev pub decimal : List ℕ → Bool
decimal [] = false
decimal (b ∷ []) = false
decimal (b ∷ c ∷ bs) = (b == 46) && is_digit c

-- the number, unless it is too big
abbrev pub value_part : ℕ → List ℕ → Bool → TokenRead
value_part n rest true = Ok (kinds.Number (pos n), rest)
value_part n rest false = Err BigNumber

-- the number of these digits, unless a dot and a digit follow
abbrev pub number_part : List ℕ → List ℕ → Bool → TokenRead
number_part ds rest true = Err Decimal
number_part ds rest false = value_part (value_from 0 ds) rest (nat_lt (value_from 0 ds) (2 ^ 63))

abbrev pub quote_part : Option (List ℕ × List ℕ) → TokenRead
quote_part None = Err OpenText
quote_part (Some x) = Ok (kinds.Quoted x.0, x.1)

abbrev pub sign_part : Option (Sign × List ℕ) → TokenRead
sign_part None = Err BadChar
sign_part (Some x) = Ok (kinds.Sign x.0, x.1)

abbrev pub other_part : ℕ → List ℕ → Bool → TokenRead
other_part b bs true = quote_part (inside b false bs)
other_part b bs false = sign_part (first_sign all_signs (b ∷ bs))

abbrev pub name_part : ℕ → List ℕ → Bool → TokenRead
name_part b bs true = Ok (kinds.Name (b ∷ (run is_word bs).0), (run is_word bs).1)
name_part b bs false = other_part b bs (is_quote b)

abbrev pub token_part : ℕ → List ℕ → Bool → TokenRead
token_part b bs true = number_part (b ∷ (run is_digit bs).0) (run is_digit bs).1 (decimal (run is_digit bs).1)
token_part b bs false = name_part b bs (is_start b)

-- the token, or the fault, at the front of these bytes
unfoldable pub token_at : ℕ → List ℕ → TokenRead
token_at b bs = token_part b bs (is_digit b)

-- all tokens, or the first fault with its place
abbrev pub AllRead : Type 0
AllRead = Result (List Token) (Fault × ℕ)

abbrev pub in_front : Token → AllRead → AllRead
in_front t (Ok ts) = Ok (t ∷ ts)
in_front t (Err e) = Err e

-- the end of a token from this place on
abbrev pub end_of : ℕ → List ℕ → List ℕ → ℕ
end_of place bs rest = place + (length bs - length rest)

abbrev pub after_token : (ℕ → ℕ → List ℕ → AllRead) → ℕ → ℕ → List ℕ → TokenRead → AllRead
after_token f n place bs (Err e) = Err (e, place)
after_token f n place bs (Ok x) = in_front (record { kind = x.0; start = place; end = end_of place bs x.1 }) (f (suc n) (end_of place bs x.1) x.1)

abbrev pub room_part : (ℕ → ℕ → List ℕ → AllRead) → ℕ → ℕ → ℕ → List ℕ → Bool → AllRead
room_part f n place b bs true = after_token f n place (b ∷ bs) (token_at b bs)
room_part f n place b bs false = Err (TooManyTokens, place)

abbrev pub blank_part : (ℕ → ℕ → List ℕ → AllRead) → ℕ → ℕ → ℕ → List ℕ → Bool → AllRead
blank_part f n place b bs true = f n (suc place) bs
blank_part f n place b bs false = room_part f n place b bs (nat_lt n MAX_TOKENS)

-- lexing in at most so many steps, after n tokens, from this place on
unfoldable pub lex_from : ℕ → ℕ → ℕ → List ℕ → AllRead
lex_from zero n place bs = Ok []
lex_from (suc m) n place [] = Ok []
lex_from (suc m) n place (b ∷ bs) = blank_part (lex_from m) n place b bs (is_blank b)

-- the token at the front
abbrev pub token_of : List ℕ → TokenRead
token_of [] = Err BadChar
token_of (b ∷ bs) = token_at b bs
