-- What a call answers, beside what is meant.
use Rattle.std.specs.Prelude.{◌≡◌, Result, Ok, Err, ⊤}
use Rattle.jexl_eval.specs.declared.fault.EvalFault.{EvalFault}
use Rattle.jexl_eval.specs.declared.fault.EvalFault.TheVariants as faults
use Rattle.jexl_eval.specs.Faults.{Fault, Overflow, ZeroDivisor, Kind, UnknownTransform, BadArguments}

-- the fault is the one that is meant; want of memory is the one free answer
abbrev pub Fails : {Y : Type 0} → EvalFault → Result Y Fault → Type 0
Fails faults.Overflow meant = meant ≡ Err Overflow
Fails faults.ZeroDivisor meant = meant ≡ Err ZeroDivisor
Fails faults.Kind meant = meant ≡ Err Kind
Fails faults.UnknownTransform meant = meant ≡ Err UnknownTransform
Fails faults.BadArguments meant = meant ≡ Err BadArguments
Fails faults.OutOfMemory meant = ⊤

-- what a call returned, seen by view, is what is meant
abbrev pub Gives : {X Y : Type 0} → (X → Y) → Result X EvalFault → Result Y Fault → Type 0
Gives view (Ok x) meant = meant ≡ Ok (view x)
Gives view (Err e) meant = Fails e meant
