-- A joining, and what a call answers of it.
use Rattle.std.specs.Prelude.{◌≡◌, List, [], ◌∷◌, Result, Ok, Err}
use Rattle.fml_imports.specs.declared.fault.JoinFault.{JoinFault}
use Rattle.fml_imports.specs.declared.fault.JoinFault.TheVariants as faults
use Rattle.fml_imports.specs.declared.fault.JoinRefusal.{JoinRefusal}

infixl 10 ◌>>=◌
abbrev pub ◌>>=◌ : {A B : Type 0} → Result A JoinRefusal → (A → Result B JoinRefusal) → Result B JoinRefusal
(Ok x) >>= f = f x
(Err e) >>= f = Err e

-- a thing is added after the other, up to the first fault
abbrev pub each : {T A : Type 0} → (T → A → Result T JoinRefusal) → T → List A → Result T JoinRefusal
each add t [] = Ok t
each add t (a ∷ as') = do
  next ← add t a
  each add next as'

-- a refusal stands; memory is free to give a fault
abbrev pub Fails : {A : Type 0} → JoinFault → Result A JoinRefusal → Type 0
Fails (faults.Refused refusal) joined = joined ≡ Err refusal
Fails faults.OutOfMemory joined = Unit {0}

-- what a call returned is what joining gives, unless memory ran out
abbrev pub Gives : {A : Type 0} → Result A JoinFault → Result A JoinRefusal → Type 0
Gives (Ok x) joined = joined ≡ Ok x
Gives (Err e) joined = Fails e joined

-- the same of a call that changes what the joining is about: this is what it leaves
abbrev pub Leaves : {A B : Type 0} → B → Result A JoinFault → Result B JoinRefusal → Type 0
Leaves left (Ok x) joined = joined ≡ Ok left
Leaves left (Err e) joined = Fails e joined
