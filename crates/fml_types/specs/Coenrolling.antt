-- Which features several experiments may have at once.
use Rattle.std.specs.Prelude.{ℕ, List, [], ◌∷◌, if◌then◌else◌}
use Rattle.fml_types.specs.declared.manifest.FeatureDefinition.{FeatureDefinition}

abbrev pub coenrolling : List (List ℕ × FeatureDefinition) → List (List ℕ)
coenrolling [] = []
coenrolling (f ∷ fs) = if f.1.allows_coenrollment then f.0 ∷ coenrolling fs else coenrolling fs
