use Rattle.std.proofs.Common.{◌≡◌, ℕ, List, drop}
use Rattle.fml_types.specs.declared.manifest.FeatureDefinition.{FeatureDefinition}
use Rattle.fml_imports.specs.Imports.{first_found}
use Rattle.fml_imports.specs.Joining.{unknown_in}
use Rattle.fml_imports.proofs.checks.unknown_of_features.Given as goal

abbrev pub invariant-loop-feature : goal.invariant-loop-feature
invariant-loop-feature l =
    first_found (λ (p : List ℕ × FeatureDefinition). unknown_in l.types p.1.variables) (drop l.feature-index l.feature-items) ≡ first_found (λ (p : List ℕ × FeatureDefinition). unknown_in l.types p.1.variables) l.features
