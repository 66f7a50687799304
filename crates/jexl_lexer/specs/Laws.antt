-- Laws of the tokens: each text has exactly one list of tokens, or exactly one first fault.
use Rattle.std.specs.Prelude.{◌≡◌, ◌⊎◌, ℕ, List}
use Rattle.jexl_lexer.specs.declared.token.Token.{Token}
use Rattle.jexl_lexer.specs.Lexing.{Fault, Lexes, Faults}

abbrev pub OneList : Type 0
OneList = (bytes : List ℕ) (ts us : List Token) → Lexes 0 0 bytes ts → Lexes 0 0 bytes us → ts ≡ us

abbrev pub OneFault : Type 0
OneFault = (bytes : List ℕ) (f g : Fault) (at to : ℕ) → Faults 0 0 bytes f at → Faults 0 0 bytes g to → (f ≡ g) × (at ≡ to)

abbrev pub NeverBoth : Type 0
NeverBoth = (bytes : List ℕ) (ts : List Token) (f : Fault) (at : ℕ) → Lexes 0 0 bytes ts → Faults 0 0 bytes f at → ⊥

abbrev pub AlwaysOne : Type 0
AlwaysOne = (bytes : List ℕ) → ((ts : List Token) × Lexes 0 0 bytes ts) ⊎ ((f : Fault) × (at : ℕ) × Faults 0 0 bytes f at)
