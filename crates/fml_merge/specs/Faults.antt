-- The first default of a manifest that doesn't fit.
use Rattle.std.specs.Prelude.{◌≡◌, ℕ, suc, ◌++◌, Bool, true, false, List as Seq, [], ◌∷◌, Option as Maybe, Some, None, Result, Ok, Err, codes, decimal, option_map, if◌then◌else◌}
use Rattle.std.specs.Option.{option_or}
use Rattle.json_tree.specs.Json as json
use Rattle.json_tree.specs.Json.{Json}
use Rattle.json_tree.specs.Tree.{json_of}
use Rattle.json_tree.specs.declared.tree.Tree.{Tree}
use Rattle.fml_types.specs.Shape.{Shape}
use Rattle.fml_types.specs.Shapes.{shape_of}
use Rattle.fml_types.specs.declared.manifest.DefaultEntry.{DefaultEntry}
use Rattle.fml_types.specs.declared.manifest.FeatureDefinition.{FeatureDefinition}
use Rattle.fml_types.specs.declared.manifest.Field.{Field}
use Rattle.fml_types.specs.declared.manifest.Manifest.{Manifest}
use Rattle.fml_types.specs.declared.manifest.ObjectDefinition.{ObjectDefinition}
use Rattle.fml_types.specs.declared.manifest.TypeTable.{TypeTable}
use Rattle.fml_value.specs.Fits.{fits, members_fit, type_of_field}
use Rattle.fml_merge.specs.declared.defaults.DefaultFault.{DefaultFault}
use Rattle.fml_merge.specs.declared.defaults.DefaultFault.TheVariants as faults

-- a default that isn't there fits
abbrev pub default_fits : TypeTable → Shape → Maybe Tree → Bool
default_fits types t None = true
default_fits types t (Some tree) = fits types t (json_of tree)

-- the name of the first field or variable whose default doesn't fit
abbrev pub bad_field : TypeTable → Seq (Seq ℕ × Field) → Maybe (Seq ℕ)
bad_field types [] = None
bad_field types (f ∷ fs) = if default_fits types (shape_of f.1.field_type) f.1.default then bad_field types fs else Some f.0

-- an object whose keys are variables and whose values fit them
abbrev pub entry_fits : TypeTable → Seq (Seq ℕ × Field) → Json → Bool
entry_fits types variables (json.object ms) = members_fit types (type_of_field variables) ms
entry_fits types variables x = false

-- the index of the first entry that doesn't fit, where the first of these has index i
abbrev pub bad_entry : TypeTable → Seq (Seq ℕ × Field) → ℕ → Seq DefaultEntry → Maybe ℕ
bad_entry types variables i [] = None
bad_entry types variables i (e ∷ es) = if entry_fits types variables (json_of e.value) then bad_entry types variables (suc i) es else Some i

abbrev pub bad_in_object : TypeTable → ObjectDefinition → Maybe (Seq ℕ)
bad_in_object types o = option_map (λ name. codes "/fields/" ++ name) (bad_field types o.fields)

abbrev pub bad_in_feature : TypeTable → FeatureDefinition → Maybe (Seq ℕ)
bad_in_feature types f =
    option_or (option_map (λ name. codes "/variables/" ++ name) (bad_field types f.variables)) (option_map (λ i. codes "/defaults/" ++ decimal i) (bad_entry types f.variables 0 f.defaults))

-- the first name that has such a place, with it
abbrev pub first_owner : {T : Type 0} → (T → Maybe (Seq ℕ)) → Seq (Seq ℕ × T) → Maybe (Seq ℕ × Seq ℕ)
first_owner bad_in [] = None
first_owner bad_in (p ∷ ps) = option_or (option_map (λ place. (p.0, place)) (bad_in p.1)) (first_owner bad_in ps)

-- the owner and the place of the first default that doesn't fit: of the objects, then of the features
unfoldable pub bad_default : Manifest → Maybe (Seq ℕ × Seq ℕ)
bad_default m = option_or (first_owner (bad_in_object m.types) m.types.objects) (first_owner (bad_in_feature m.types) m.features)

-- want of memory is the one free answer
abbrev pub GivesDefaults : Result (Unit {0}) DefaultFault → Maybe (Seq ℕ × Seq ℕ) → Type 0
GivesDefaults (Ok u) bad = bad ≡ None
GivesDefaults (Err (faults.BadDefault owner place)) bad = bad ≡ Some (owner, place)
GivesDefaults (Err faults.OutOfMemory) bad = Unit {0}
