-- What a call returned of what was read before.
use Rattle.std.proofs.Common.{◌≡◌, ℕ, List, Result, Ok, Err, ap, ◌∙◌}
use Rattle.fml_reader.specs.declared.fault.ModuleFault.{ModuleFault}
use Rattle.fml_reader.specs.declared.fault.ModuleFault.TheVariants as faults
use Rattle.fml_reader.specs.declared.fault.ModuleRefusal.{ModuleRefusal}
use Rattle.fml_reader.specs.Outcome.{refusal_under, under, Gives, IsUnder}

pub gives_under : {A : Type 0} (k : List ℕ) (read : Result A ModuleRefusal) (got answer : Result A ModuleFault) → Gives (λ x. x) got read → IsUnder k got answer → Gives (λ x. x) answer (under k read)
gives_under k read (Ok x) (Ok y) h same = let value : x ≡ y = cc in ap (under k) h ∙ ap (λ z. Ok z) value
gives_under k read (Ok x) (Err (faults.Refused r)) h same = absurd cc
gives_under k read (Ok x) (Err faults.OutOfMemory) h same = tt
gives_under k read (Err d) (Ok y) h same = absurd cc
gives_under k read (Err (faults.Refused d)) (Err (faults.Refused r)) h same = let refusal : refusal_under k d ≡ r = cc in ap (under k) h ∙ ap (λ e. Err e) refusal
gives_under k read (Err faults.OutOfMemory) (Err (faults.Refused r)) h same = absurd cc
gives_under k read (Err d) (Err faults.OutOfMemory) h same = tt
