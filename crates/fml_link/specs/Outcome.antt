-- A linking, and what a call answers of it.
use Rattle.std.specs.Prelude.{◌≡◌, List, [], ◌∷◌, Result, Ok, Err}
use Rattle.json_tree.specs.Json.{Json}
use Rattle.json_tree.specs.Tree.{json_of}
use Rattle.json_tree.specs.declared.tree.Tree.{Tree}
use Rattle.fml_imports.specs.declared.joining.Linked.{Linked}
use Rattle.fml_reader.specs.declared.module.Module.{Module}
use Rattle.fml_link.specs.declared.fault.LinkFault.{LinkFault}
use Rattle.fml_link.specs.declared.fault.LinkFault.TheVariants as faults
use Rattle.fml_link.specs.declared.fault.LinkRefusal.{LinkRefusal}

infixl 10 ◌>>=◌
abbrev pub ◌>>=◌ : {A B : Type 0} → Result A LinkRefusal → (A → Result B LinkRefusal) → Result B LinkRefusal
(Ok x) >>= f = f x
(Err e) >>= f = Err e

-- a thing is added after the other, up to the first fault
abbrev pub each : {T A : Type 0} → (T → A → Result T LinkRefusal) → T → List A → Result T LinkRefusal
each add t [] = Ok t
each add t (a ∷ as') = do
  next ← add t a
  each add next as'

-- a refusal stands; memory and the shelf are free to give a fault
abbrev pub Fails : {A : Type 0} → LinkFault → Result A LinkRefusal → Type 0
Fails (faults.Refused refusal) linked = linked ≡ Err refusal
Fails faults.ShelfFault linked = Unit {0}
Fails faults.OutOfMemory linked = Unit {0}

-- what a call returned is what linking gives, unless memory ran out or the shelf failed
abbrev pub Gives : {A : Type 0} → Result A LinkFault → Result A LinkRefusal → Type 0
Gives (Ok x) linked = linked ≡ Ok x
Gives (Err e) linked = Fails e linked

-- the same of a call that returned a tree of the value
abbrev pub GivesTree : Result Tree LinkFault → Result Json LinkRefusal → Type 0
GivesTree (Ok t) linked = linked ≡ Ok (json_of t)
GivesTree (Err e) linked = Fails e linked

-- the same of a call that returned a file with the module
abbrev pub GivesModule : Result Linked LinkFault → Result Module LinkRefusal → Type 0
GivesModule (Ok file) linked = linked ≡ Ok file.module
GivesModule (Err e) linked = Fails e linked

-- the same of a call that changes what the linking is about: this is what it leaves
abbrev pub Leaves : {A B : Type 0} → B → Result A LinkFault → Result B LinkRefusal → Type 0
Leaves left (Ok x) linked = linked ≡ Ok left
Leaves left (Err e) linked = Fails e linked
