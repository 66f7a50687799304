use Rattle.std.proofs.Common.{◌≡◌, ℕ, List, drop}
use Rattle.fml_types.specs.declared.manifest.ObjectDefinition.{ObjectDefinition}
use Rattle.fml_imports.specs.Imports.{first_found}
use Rattle.fml_imports.specs.Joining.{unknown_in}
use Rattle.fml_imports.proofs.checks.unknown_of_objects.Given as goal

abbrev pub invariant-loop-object : goal.invariant-loop-object
invariant-loop-object l =
    first_found (λ (p : List ℕ × ObjectDefinition). unknown_in l.types p.1.fields) (drop l.object-index l.object-items) ≡ first_found (λ (p : List ℕ × ObjectDefinition). unknown_in l.types p.1.fields) l.types.objects
