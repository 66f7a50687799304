-- A reading, and what a call answers of it.
use Rattle.std.specs.Prelude.{◌≡◌, ℕ, List, [], ◌∷◌, ◌++◌, Option, Some, None, Result, Ok, Err, Bool, true, false}
use Rattle.fml_reader.specs.declared.fault.ModuleFault.{ModuleFault}
use Rattle.fml_reader.specs.declared.fault.ModuleFault.TheVariants as faults
use Rattle.fml_reader.specs.declared.fault.ModuleRefusal.{ModuleRefusal}
use Rattle.fml_reader.specs.declared.fault.ModuleRefusal.TheVariants.{BadShape}

infixl 10 ◌>>=◌
abbrev pub ◌>>=◌ : {A B : Type 0} → Result A ModuleRefusal → (A → Result B ModuleRefusal) → Result B ModuleRefusal
(Ok x) >>= f = f x
(Err e) >>= f = Err e

-- this place doesn't have its shape
abbrev pub bad : {A : Type 0} → Result A ModuleRefusal
bad = Err (BadShape [])

abbrev pub needed : {A : Type 0} → Option A → Result A ModuleRefusal
needed None = bad
needed (Some a) = Ok a

abbrev pub checked : Bool → Result (Unit {0}) ModuleRefusal
checked true = Ok tt
checked false = bad

-- a refusal of a place is one of the path through this key; `/` has code 47
abbrev pub refusal_under : List ℕ → ModuleRefusal → ModuleRefusal
refusal_under k (BadShape path) = BadShape (47 ∷ k ++ path)

-- what is read of the value of this key
abbrev pub under : {A : Type 0} → List ℕ → Result A ModuleRefusal → Result A ModuleRefusal
under k (Ok x) = Ok x
under k (Err e) = Err (refusal_under k e)

-- want of memory is the one free answer
abbrev pub Fails : {A : Type 0} → ModuleFault → Result A ModuleRefusal → Type 0
Fails (faults.Refused refusal) read = read ≡ Err refusal
Fails faults.OutOfMemory read = Unit {0}

-- what a call returned, seen by view, is what reading gives, unless memory ran out
abbrev pub Gives : {X Y : Type 0} → (X → Y) → Result X ModuleFault → Result Y ModuleRefusal → Type 0
Gives view (Ok x) read = read ≡ Ok (view x)
Gives view (Err e) read = Fails e read

-- what a call returned, of which a refusal's path goes through this key
abbrev pub fault_under : List ℕ → ModuleFault → ModuleFault
fault_under k (faults.Refused refusal) = faults.Refused (refusal_under k refusal)
fault_under k faults.OutOfMemory = faults.OutOfMemory

abbrev pub passed : {A : Type 0} → List ℕ → Result A ModuleFault → Result A ModuleFault
passed k (Ok x) = Ok x
passed k (Err e) = Err (fault_under k e)

abbrev pub IsUnder : {A : Type 0} → List ℕ → Result A ModuleFault → Result A ModuleFault → Type 0
IsUnder k read (Ok x) = read ≡ Ok x
IsUnder k read (Err (faults.Refused refusal)) = passed k read ≡ Err (faults.Refused refusal)
IsUnder k read (Err faults.OutOfMemory) = Unit {0}
