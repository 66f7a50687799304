-- Which sign a token is.
use Rattle.std.specs.Prelude.{ℕ, Bool, false, nat_eq}
use Rattle.jexl_lexer.specs.declared.token.Sign.{Sign}
use Rattle.jexl_lexer.specs.declared.token.Sign.TheVariants.{And, Or, Equal, NotEqual, AtMost, AtLeast, FloorDiv, Less, Greater, Plus, Minus, Star, Percent, Caret, Bang, Question, Colon, Dot, Comma, LeftRound, RightRound, LeftSquare, RightSquare, LeftBrace, RightBrace, Bar}
use Rattle.jexl_lexer.specs.declared.token.TokenKind.{TokenKind}
use Rattle.jexl_lexer.specs.declared.token.TokenKind.TheVariants as kinds

-- a sign's place in the list of signs
abbrev pub place : Sign → ℕ
place And = 0
place Or = 1
place Equal = 2
place NotEqual = 3
place AtMost = 4
place AtLeast = 5
place FloorDiv = 6
place Less = 7
place Greater = 8
place Plus = 9
place Minus = 10
place Star = 11
place Percent = 12
place Caret = 13
place Bang = 14
place Question = 15
place Colon = 16
place Dot = 17
place Comma = 18
place LeftRound = 19
place RightRound = 20
place LeftSquare = 21
place RightSquare = 22
place LeftBrace = 23
place RightBrace = 24
place Bar = 25

abbrev pub same_sign : Sign → Sign → Bool
same_sign a b = nat_eq (place a) (place b)

abbrev pub is_sign : Sign → TokenKind → Bool
is_sign s (kinds.Number n) = false
is_sign s (kinds.Quoted q) = false
is_sign s (kinds.Name n) = false
is_sign s (kinds.Sign r) = same_sign r s
