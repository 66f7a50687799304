-- The values of features have the types of their variables.
use Rattle.std.proofs.Common.{ℕ, suc, true, false, List, [], ◌∷◌, Option, Some, None, refl, arith}
use Rattle.std.specs.Prelude.{if◌then◌else◌}
use Rattle.json_tree.specs.Json as json
use Rattle.json_tree.specs.Json.{Json, IsSound}
use Rattle.json_tree.specs.Tree.{json_of}
use Rattle.json_tree.specs.declared.tree.Tree.{Tree}
use Rattle.fml_types.specs.Shapes.{shape_of}
use Rattle.fml_types.specs.Sound.{IsSoundTable, IsSoundType, IsGrounded, IsSoundDefault, AreSoundEntries, AreSoundFields}
use Rattle.fml_types.specs.declared.manifest.DefaultEntry.{DefaultEntry}
use Rattle.fml_types.specs.declared.manifest.FeatureDefinition.{FeatureDefinition}
use Rattle.fml_types.specs.declared.manifest.Field.{Field}
use Rattle.fml_types.specs.declared.manifest.Manifest.{Manifest}
use Rattle.fml_types.specs.declared.manifest.TypeTable.{TypeTable}
use Rattle.fml_value.specs.HasType.{HasType, AreFields}
use Rattle.fml_value.specs.Typed.{TypedValue, object, entries_of}
use Rattle.fml_merge.specs.Features.{IsOfFeature, default_of, entries_laid, is_for, overlay_feature}
use Rattle.fml_merge.specs.Zero.{HasZeros, initial, with_default, zero_of}
use Rattle.fml_merge.proofs.Levels.{zeros_typed, low_objects}
use Rattle.fml_merge.proofs.Typing.{fields_typed, over_typed, sound_scope, sound_field}

-- ---- before anything is laid over them

pub variables_typed : (types : TypeTable) → IsSoundTable types → HasZeros types → (fs : List (List ℕ × Field)) → AreSoundFields types fs → AreFields types fs (entries_of (initial (zero_of types) types fs))
variables_typed types table zeros [] sound = tt
variables_typed types table zeros (f ∷ fs) sound =
    let here = sound 0 f (omega arith) in
    (refl, one here.of_type f.1.default here.default, variables_typed types table zeros fs (λ j d less. sound (suc j) d (omega arith)))
  where
    one : IsSoundType types (shape_of f.1.field_type) → (d : Option Tree) → IsSoundDefault d → HasType types (shape_of f.1.field_type) (with_default (zero_of types) types (shape_of f.1.field_type) d)
    one s None d = zeros (shape_of f.1.field_type) s
    one s (Some tree) d = over_typed types (zero_of types) (IsSoundType types) (sound_scope types table) zeros (shape_of f.1.field_type) (zero_of types (shape_of f.1.field_type)) (json_of tree) s (zeros (shape_of f.1.field_type) s) d

-- ---- a feature over sound types

module _ (m : Manifest) (f : FeatureDefinition) (table : IsSoundTable m.types) (grounded : IsGrounded m.types) (fields : AreSoundFields m.types f.variables) where
  zeros : HasZeros m.types
  zeros = zeros_typed m.types table (low_objects m.types grounded)

  object_over : (v : TypedValue) (ms : json.Members) → IsOfFeature m f v → json.AreSoundMembers ms → IsOfFeature m f (overlay_feature m f v (json.object ms))
  object_over (object es) ms h sound = fields_typed m.types (zero_of m.types) (IsSoundType m.types) (sound_scope m.types table) zeros f.variables es ms (λ name g is. sound_field m.types f.variables name g fields is) h sound
  object_over v ms h sound = absurd h

  pub overlay_typed : (v : TypedValue) (x : Json) → IsOfFeature m f v → IsSound x → IsOfFeature m f (overlay_feature m f v x)
  overlay_typed v (json.object ms) h sound = object_over v ms h sound
  overlay_typed v x h sound = h

  entries_typed : (v : TypedValue) (es : List DefaultEntry) → IsOfFeature m f v → AreSoundEntries es → IsOfFeature m f (entries_laid m f v es)
  entries_typed v [] h sound = h
  entries_typed v (e ∷ es) h sound =
      let one : IsOfFeature m f (if is_for m.channel e.channels then overlay_feature m f v (json_of e.value) else v) =
      elim (is_for m.channel e.channels) as (λ b. IsOfFeature m f (if b then overlay_feature m f v (json_of e.value) else v)) [ true ↦ overlay_typed v (json_of e.value) h (sound 0 e (omega arith)) | false ↦ h ] in
      entries_typed (if is_for m.channel e.channels then overlay_feature m f v (json_of e.value) else v) es one (λ j d less. sound (suc j) d (omega arith))

  pub default_typed : AreSoundEntries f.defaults → IsOfFeature m f (default_of m f)
  default_typed sound = entries_typed _ f.defaults (variables_typed m.types table zeros f.variables fields) sound
