-- The value that is served of a feature.
use Rattle.std.specs.Prelude.{◌≡◌, ℕ, List, fold, Option, Some, None, Result, Ok, Err, ⊤, option_map}
use Rattle.fml_types.specs.Named.{found}
use Rattle.fml_types.specs.declared.manifest.FeatureDefinition.{FeatureDefinition}
use Rattle.fml_types.specs.declared.manifest.Manifest.{Manifest}
use Rattle.fml_value.specs.Typed.{TypedValue}
use Rattle.fml_value.specs.TypedOf.{typed_of}
use Rattle.fml_value.specs.declared.value.Value.{Value}
use Rattle.fml_merge.specs.Features.{default_of, overlay_feature, IsOfFeature}
use Rattle.enrol_states.specs.declared.state.State.{State}
use Rattle.feature_serving.specs.Layers.{Layer, layers}
use Rattle.feature_serving.specs.declared.serving.ServeFault.{ServeFault}
use Rattle.feature_serving.specs.declared.serving.ServeFault.TheVariants as faults

-- the layers laid over a value of the feature, one after the other
abbrev pub layers_laid : Manifest → FeatureDefinition → TypedValue → List Layer → TypedValue
layers_laid m f v ls = fold (λ w l. overlay_feature m f w l.value) v ls

-- the feature's default, over which its layers are laid
abbrev pub served_of : Manifest → State → List ℕ → FeatureDefinition → TypedValue
served_of m s name f = layers_laid m f (default_of m f) (layers s name)

-- the served value, where the manifest has the feature
unfoldable pub served : Manifest → State → List ℕ → Option TypedValue
served m s name = option_map (served_of m s name) (found name m.features)

-- the manifest has a feature of this name, and the value is an object of exactly its variables, each of its type
pub record HasFeatureType (m : Manifest) (name : List ℕ) (v : TypedValue) : Type 0 where
  pub feature : FeatureDefinition
  pub defined : found name m.features ≡ Some feature
  pub typed : IsOfFeature m feature v

-- want of memory is the one free answer
abbrev pub GivesServed : Result Value ServeFault → Option TypedValue → Type 0
GivesServed (Ok v) value = value ≡ Some (typed_of v)
GivesServed (Err faults.UnknownFeature) value = value ≡ None
GivesServed (Err faults.OutOfMemory) value = ⊤
