-- What a function of the parser returns is what reading gives.
use Rattle.std.specs.Prelude.{◌≡◌, Option, Some, None, Result, Ok, Err}
use Rattle.jexl_parser.specs.declared.fault.ParseFault.{ParseFault}
use Rattle.jexl_parser.specs.declared.fault.ParseFault.TheVariants as faults

abbrev pub Fails : {Y : Type 0} → ParseFault → Option Y → Type 0
Fails faults.OutOfMemory read = Unit {0}
Fails faults.Unexpected read = read ≡ None
Fails faults.TooDeep read = ⊥
Fails faults.TooTall read = ⊥

abbrev pub Gives : {X Y : Type 0} → (X → Y) → Result X ParseFault → Option Y → Type 0
Gives view (Ok x) read = read ≡ Some (view x)
Gives view (Err e) read = Fails e read

-- The same of a part after which reading goes on
abbrev pub Goes : {X Y : Type 0} → (X → Option Y) → Result X ParseFault → Option Y → Type 0
Goes next (Ok x) read = read ≡ next x
Goes next (Err e) read = Fails e read
