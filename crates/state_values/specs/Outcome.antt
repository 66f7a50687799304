-- A reading, and what a call answers of it.
use Rattle.std.specs.Prelude.{◌≡◌, Option, Some, None, Result, Ok, Err}
use Rattle.state_values.specs.declared.fault.CodecFault.{CodecFault}
use Rattle.state_values.specs.declared.fault.CodecFault.TheVariants.{NotAState, OutOfMemory}

infixl 10 ◌>>=◌
abbrev pub ◌>>=◌ : {A B : Type 0} → Option A → (A → Option B) → Option B
None >>= f = None
(Some a) >>= f = f a

-- want of memory is the one free answer
abbrev pub Fails : {A : Type 0} → CodecFault → Option A → Type 0
Fails OutOfMemory reading = Unit {0}
Fails NotAState reading = reading ≡ None

-- what a call returned, seen by view, is what the reading gives, unless memory ran out
abbrev pub Gives : {X Y : Type 0} → (X → Y) → Result X CodecFault → Option Y → Type 0
Gives view (Ok x) reading = reading ≡ Some (view x)
Gives view (Err e) reading = Fails e reading
