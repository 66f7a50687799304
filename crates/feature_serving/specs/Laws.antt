-- Laws of the definitions alone.
use Rattle.std.specs.Prelude.{◌≡◌, ℕ, List, Some, All, IsPermutation}
use Rattle.std.specs.List.Sorted.{IsStrictlySortedBy}
use Rattle.json_tree.specs.Json.{IsSound}
use Rattle.json_tree.specs.Tree.{json_of}
use Rattle.recipe_reader.specs.declared.recipe.Branch.{Branch}
use Rattle.recipe_reader.specs.declared.recipe.FeatureValue.{FeatureValue}
use Rattle.recipe_reader.specs.declared.recipe.Recipe.{Recipe}
use Rattle.fml_types.specs.Sound.{AreSoundEntries, HasSoundTypes}
use Rattle.fml_types.specs.declared.manifest.Manifest.{Manifest}
use Rattle.fml_value.specs.Typed.{TypedValue}
use Rattle.enrol_states.specs.Order.{Rise}
use Rattle.enrol_states.specs.State.{slugs_of}
use Rattle.enrol_states.specs.declared.state.State.{State}
use Rattle.feature_serving.specs.Layers.{Layer, laid_by_rows, layer_cmp, layers}
use Rattle.feature_serving.specs.Serving.{served, HasFeatureType}

-- each layer goes before those after it, where the slugs of the rows rise
abbrev pub AreInOrder : Type 0
AreInOrder = (s : State) (feature : List ℕ) → Rise (slugs_of s.rows) → IsStrictlySortedBy layer_cmp (layers s feature)

-- what each row lays is there exactly once, and nothing else is
abbrev pub AreOfRows : Type 0
AreOfRows = (s : State) (feature : List ℕ) → IsPermutation (laid_by_rows s feature) (layers s feature)

-- no other list is so
abbrev pub IsOneOrder : Type 0
IsOneOrder = (s : State) (feature : List ℕ) (ls : List Layer) → Rise (slugs_of s.rows) → IsPermutation (laid_by_rows s feature) ls → IsStrictlySortedBy layer_cmp ls → ls ≡ layers s feature

-- what the type of a tree keeps, of each tree that the recipe's branches set
abbrev pub HasSoundValues : Recipe → Type 0
HasSoundValues r = All (λ (b : Branch). All (λ (v : FeatureValue). IsSound (json_of v.value)) b.features) r.branches

-- what is served has the type of its feature, where the manifest's types are sound, and so are its defaults and what the live recipes set
abbrev pub HaveTypes : Type 0
HaveTypes = (m : Manifest) (s : State) (name : List ℕ) (v : TypedValue) → HasSoundTypes m → All (λ f. AreSoundEntries f.1.defaults) m.features → All HasSoundValues s.live → served m s name ≡ Some v → HasFeatureType m name v
