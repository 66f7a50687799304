-- The single file of a well formed manifest nests at most 64 deep.
use Rattle.std.proofs.Common.{◌≤◌, ℕ, List, [], ◌∷◌, map, get_or, Option as Maybe, Some, None, arith}
use Rattle.std.specs.Prelude.{All}
use Rattle.json_tree.specs.Json as json
use Rattle.json_tree.specs.Json.{Json, items_of, members_of, depth, items_depth, members_depth}
use Rattle.json_tree.specs.Tree.{json_of}
use Rattle.json_tree.specs.declared.tree.Tree.{Tree}
use Rattle.fml_types.specs.declared.field_type.FieldType.{FieldType}
use Rattle.fml_types.specs.declared.manifest.DefaultEntry.{DefaultEntry}
use Rattle.fml_types.specs.declared.manifest.EnumDefinition.{EnumDefinition}
use Rattle.fml_types.specs.declared.manifest.FeatureDefinition.{FeatureDefinition}
use Rattle.fml_types.specs.declared.manifest.Field.{Field}
use Rattle.fml_types.specs.declared.manifest.Manifest.{Manifest}
use Rattle.fml_types.specs.declared.manifest.ObjectDefinition.{ObjectDefinition}
use Rattle.fml_imports.specs.Single.{members_json, variant_json, enum_json, field_json, definition_json, entry_json, feature_json, single}
use Rattle.fml_imports.specs.WellFormed.{IsShort, IsShortDefault, AreWellFormedFields, IsWellFormedEntry, IsWellFormedObject, IsWellFormedFeature, IsWellFormed}
use Rattle.fml_imports.proofs.Alls.{all_head, all_tail}

abbrev IsWithin : {A : Type 0} → ℕ → (A → Json) → A → Type 0
IsWithin n value x = depth (value x) ≤ n

abbrev IsMemberWithin : {A : Type 0} → ℕ → (A → Json) → List ℕ × A → Type 0
IsMemberWithin n value p = depth (value p.1) ≤ n

items_within : {A : Type 0} (n : ℕ) (value : A → Json) (xs : List A) → All (IsWithin n value) xs → items_depth (items_of (map value xs)) ≤ n
items_within n value [] within = omega arith
items_within n value (x ∷ xs) within =
    let here : depth (value x) ≤ n = all_head (IsWithin n value) x xs within in
    let others : items_depth (items_of (map value xs)) ≤ n = items_within n value xs (all_tail (IsWithin n value) x xs within) in
    omega arith

members_within : {A : Type 0} (n : ℕ) (value : A → Json) (ps : List (List ℕ × A)) → All (IsMemberWithin n value) ps → members_depth (members_of (members_json value ps)) ≤ n
members_within n value [] within = omega arith
members_within n value (p ∷ ps) within =
    let here : depth (value p.1) ≤ n = all_head (IsMemberWithin n value) p ps within in
    let others : members_depth (members_of (members_json value ps)) ≤ n = members_within n value ps (all_tail (IsMemberWithin n value) p ps within) in
    omega arith

field-within : (t : FieldType) (d : Maybe Tree) → IsShortDefault d → depth (field_json (record { field_type = t; default = d })) ≤ 60
field-within t None short = omega arith
field-within t (Some d) short = let levels : depth (json_of d) ≤ 59 = short.levels in omega arith

fields_within : (fs : List (List ℕ × Field)) → AreWellFormedFields fs → members_depth (members_of (members_json field_json fs)) ≤ 60
fields_within fs formed = members_within 60 field_json fs (λ k d h. field-within (get_or fs k d).1.field_type (get_or fs k d).1.default (formed k d h).default)

texts_within : (names : List (List ℕ)) → items_depth (items_of (map json.text names)) ≤ 0
texts_within names = items_within 0 json.text names (λ k d h. omega arith)

entry-within : (channels : Maybe (List (List ℕ))) (value : Tree) → IsShort value → depth (entry_json (record { channels = channels; value = value })) ≤ 60
entry-within None value short = let levels : depth (json_of value) ≤ 59 = short.levels in omega arith
entry-within (Some names) value short =
    let levels : depth (json_of value) ≤ 59 = short.levels in
    let texts = texts_within names in
    omega arith

entries_within : (es : List DefaultEntry) → All IsWellFormedEntry es → items_depth (items_of (map entry_json es)) ≤ 60
entries_within es formed = items_within 60 entry_json es (λ k d h. entry-within (get_or es k d).channels (get_or es k d).value (formed k d h).value)

variants_within : (vs : List (List ℕ × Unit {0})) → members_depth (members_of (members_json variant_json vs)) ≤ 1
variants_within vs = members_within 1 variant_json vs (λ k d h. omega arith)

enum_within : (e : EnumDefinition) → depth (enum_json e) ≤ 3
enum_within e = let variants = variants_within e.variants in omega arith

enums_within : (es : List (List ℕ × EnumDefinition)) → members_depth (members_of (members_json enum_json es)) ≤ 3
enums_within es = members_within 3 enum_json es (λ k d h. enum_within (get_or es k d).1)

object_within : (o : ObjectDefinition) → AreWellFormedFields o.fields → depth (definition_json o) ≤ 62
object_within o formed = let fields = fields_within o.fields formed in omega arith

objects_within : (os : List (List ℕ × ObjectDefinition)) → All IsWellFormedObject os → members_depth (members_of (members_json definition_json os)) ≤ 62
objects_within os formed = members_within 62 definition_json os (λ k d h. object_within (get_or os k d).1 (formed k d h).fields)

feature_within : (f : FeatureDefinition) → AreWellFormedFields f.variables → All IsWellFormedEntry f.defaults → depth (feature_json f) ≤ 62
feature_within f variables entries =
    let fields = fields_within f.variables variables in
    let items = entries_within f.defaults entries in
    omega arith

features_within : (fs : List (List ℕ × FeatureDefinition)) → All IsWellFormedFeature fs → members_depth (members_of (members_json feature_json fs)) ≤ 62
features_within fs formed = members_within 62 feature_json fs (λ k d h. feature_within (get_or fs k d).1 (formed k d h).variables (formed k d h).entries)

pub single_shallow : (m : Manifest) → IsWellFormed m → depth (single m) ≤ 64
single_shallow m formed =
    let enums = enums_within m.types.enums in
    let objects = objects_within m.types.objects formed.objects in
    let features = features_within m.features formed.features in
    omega arith
