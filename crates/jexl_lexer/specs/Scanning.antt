-- Scanning a text from the left, as functions on its bytes: what the functions of the lexer give.
use Rattle.std.specs.Prelude.{◌≡◌, ◌≢◌, ℕ, ◌≤◌, Bool, true, false, cond, not, ◌||◌, ◌==◌, List, [], ◌∷◌, ◌++◌, length, Option, Some, None, option_map}
use Rattle.sequences.specs.Runs.{prepend}
use Rattle.jexl_lexer.specs.declared.token.Sign.{Sign}
use Rattle.jexl_lexer.specs.declared.token.Sign.TheVariants as signs
use Rattle.jexl_lexer.specs.Lexing.{sign_text}

-- the bytes are none, or begin with one that isn't ASCII
abbrev pub NoAsciiFront : List ℕ → Type 0
NoAsciiFront [] = Unit {0}
NoAsciiFront (b ∷ bs) = 128 ≤ b

-- the first byte is there, and passes the test
abbrev pub Starts : (ℕ → Bool) → List ℕ → Type 0
Starts p [] = ⊥
Starts p (b ∷ bs) = p b ≡ true

-- the byte is neither the quote q nor a backslash
abbrev pub is_plain : ℕ → ℕ → Bool
is_plain q c = not ((c == q) || (c == 92))

-- bytes put before the first part
abbrev pub with_bytes : List ℕ → List ℕ × List ℕ → List ℕ × List ℕ
with_bytes w x = (w ++ x.0, x.1)

-- the text up to the closing quote q, and the bytes after it; the flag says that a backslash stands before
unfoldable pub inside : ℕ → Bool → List ℕ → Option (List ℕ × List ℕ)
inside q e [] = None
inside q true (c ∷ cs) = option_map (prepend c) (inside q false cs)
inside q false (c ∷ cs) =
    cond (c == q) (Some ([], cs)) (cond (c == 92) (inside q true cs) (option_map (prepend c) (inside q false cs)))

-- the bytes after a text
abbrev pub strip : List ℕ → List ℕ → Option (List ℕ)
strip [] bs = Some bs
strip (t ∷ ts) [] = None
strip (t ∷ ts) (b ∷ bs) = cond (t == b) (strip ts bs) None

-- this sign where it was found, else the other answer
abbrev pub or_next : Sign → Option (List ℕ) → Option (Sign × List ℕ) → Option (Sign × List ℕ)
or_next s None o = o
or_next s (Some rest) o = Some (s, rest)

-- the first of these signs that begins the bytes, and the bytes after it
unfoldable pub first_sign : List Sign → List ℕ → Option (Sign × List ℕ)
first_sign [] bs = None
first_sign (s ∷ ss) bs = or_next s (strip (sign_text s) bs) (first_sign ss bs)

-- the signs, the longer ones first
abbrev pub all_signs : List Sign
all_signs =
    signs.And ∷ signs.Or ∷ signs.Equal ∷ signs.NotEqual ∷ signs.AtMost ∷ signs.AtLeast ∷ signs.FloorDiv ∷ signs.Less
    ∷ signs.Greater ∷ signs.Plus ∷ signs.Minus ∷ signs.Star ∷ signs.Percent ∷ signs.Caret ∷ signs.Bang ∷ signs.Question
    ∷ signs.Colon ∷ signs.Dot ∷ signs.Comma ∷ signs.LeftRound ∷ signs.RightRound ∷ signs.LeftSquare ∷ signs.RightSquare
    ∷ signs.LeftBrace ∷ signs.RightBrace ∷ signs.Bar ∷ []

-- the sign is spelled by these bytes, or none is
abbrev pub IsSignOf : List ℕ → Option Sign → Type 0
IsSignOf bytes (Some s) = sign_text s ≡ bytes
IsSignOf bytes None = (s : Sign) → sign_text s ≢ bytes

-- this sign of two bytes stands in front of the rest
abbrev pub IsDouble : List ℕ → Sign → List ℕ → Type 0
IsDouble bytes s rest = (bytes ≡ sign_text s ++ rest) × (length (sign_text s) ≡ 2)

-- no sign of two bytes stands in front
abbrev pub NoDouble : List ℕ → Type 0
NoDouble bytes = (s : Sign) (rest : List ℕ) → IsDouble bytes s rest → ⊥
