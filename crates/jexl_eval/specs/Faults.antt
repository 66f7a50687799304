-- Values, or the first fault.
use Rattle.std.specs.Prelude.{Result, Ok, Err}

pub data Fault : Type 0 where
  Overflow : Fault
  ZeroDivisor : Fault
  Kind : Fault
  UnknownTransform : Fault
  BadArguments : Fault

-- what is made of a value, or the fault that there is in its place
infixl 10 ◌>>=◌
abbrev pub ◌>>=◌ : {A B : Type 0} → Result A Fault → (A → Result B Fault) → Result B Fault
(Ok x) >>= f = f x
(Err e) >>= f = Err e
