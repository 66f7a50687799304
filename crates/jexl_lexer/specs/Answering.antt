-- What the lexer answers.
use Rattle.std.specs.Prelude.{◌≡◌, ℕ, List, Result, Ok, Err}
use Rattle.jexl_lexer.specs.declared.token.TokenKind.{TokenKind}
use Rattle.jexl_lexer.specs.declared.fault.LexFault.{LexFault}
use Rattle.jexl_lexer.specs.declared.fault.LexFault.TheVariants as faults
use Rattle.jexl_lexer.specs.Lexing.{BadChar, OpenText, BigNumber, Decimal, TooManyTokens, Faults}
use Rattle.jexl_lexer.specs.Reading.{TokenRead}

-- the first fault of these bytes is this one, with its place. Want of memory may come at any text
abbrev pub FaultsAs : List ℕ → LexFault → Type 0
FaultsAs bs (faults.BadChar place) = Faults 0 0 bs BadChar place
FaultsAs bs (faults.OpenText place) = Faults 0 0 bs OpenText place
FaultsAs bs (faults.BigNumber place) = Faults 0 0 bs BigNumber place
FaultsAs bs (faults.Decimal place) = Faults 0 0 bs Decimal place
FaultsAs bs (faults.TooManyTokens place) = Faults 0 0 bs TooManyTokens place
FaultsAs bs faults.OutOfMemory = Unit {0}

-- the fault is that of one token, at this place
abbrev pub FailsAs : ℕ → TokenRead → LexFault → Type 0
FailsAs place t (faults.BadChar p) = (p ≡ place) × (t ≡ Err BadChar)
FailsAs place t (faults.OpenText p) = (p ≡ place) × (t ≡ Err OpenText)
FailsAs place t (faults.BigNumber p) = (p ≡ place) × (t ≡ Err BigNumber)
FailsAs place t (faults.Decimal p) = (p ≡ place) × (t ≡ Err Decimal)
FailsAs place t (faults.TooManyTokens p) = ⊥
FailsAs place t faults.OutOfMemory = Unit {0}

-- what a function returns is this token, or its fault
abbrev pub Gives : {X : Type 0} → ℕ → (X → TokenKind × List ℕ) → Result X LexFault → TokenRead → Type 0
Gives place view (Ok x) t = t ≡ Ok (view x)
Gives place view (Err e) t = FailsAs place t e
