-- The single file of a well formed manifest reads as what the manifest has.
use Rattle.std.proofs.Common.{◌≡◌, ℕ, suc, ◌<◌, Bool, true, List, [], ◌∷◌, map, length, get_or, Option as Maybe, Some, None, Result, Ok, refl, ap, ◌∙◌, arith}
use Rattle.std.specs.Prelude.{All, IsTrue, codes, decimal, option_map, cond}
use Rattle.json_tree.specs.Json as json
use Rattle.json_tree.specs.Json.{Json, items_of, members_of, get}
use Rattle.json_tree.specs.Tree.{json_of}
use Rattle.json_tree.specs.declared.tree.Tree.{Tree}
use Rattle.plain_text.specs.Names.{is_name}
use Rattle.fml_types.specs.Shapes.{shape_of, type_from}
use Rattle.fml_types.specs.declared.field_type.FieldType.{FieldType}
use Rattle.fml_types.specs.declared.manifest.DefaultEntry.{DefaultEntry}
use Rattle.fml_types.specs.declared.manifest.EnumDefinition.{EnumDefinition}
use Rattle.fml_types.specs.declared.manifest.FeatureDefinition.{FeatureDefinition}
use Rattle.fml_types.specs.declared.manifest.Field.{Field}
use Rattle.fml_types.specs.declared.manifest.Manifest.{Manifest}
use Rattle.fml_types.specs.declared.manifest.ObjectDefinition.{ObjectDefinition}
use Rattle.fml_reader.specs.Outcome.{◌>>=◌, bad, needed, under}
use Rattle.json_tree.specs.Inverse.{tree_from, tree_from-json_of}
use Rattle.fml_reader.specs.Values.{text_in, value_in, is_key}
use Rattle.fml_reader.specs.Walks.{each_item, each_member, members_in, keyed, there}
use Rattle.fml_reader.specs.Fields.{type_in, field_of, fields_of, variant_of, some_there, enum_of, enums_of, object_of, objects_of}
use Rattle.fml_reader.specs.Features.{texts_of, in_order, both, entry_of, entries_of, feature_of, features_of}
use Rattle.fml_reader.specs.Modules.{definitions_of, module_of}
use Rattle.fml_reader.specs.declared.fault.ModuleRefusal.{ModuleRefusal}
use Rattle.fml_reader.specs.declared.module.Module.{Module}
use Rattle.fml_reader.proofs.Types.{same_types}
use Rattle.fml_imports.specs.Single.{type_text, members_json, by_name_json, list_json, variant_json, enum_json, field_json, definition_json, entry_json, feature_json, single}
use Rattle.fml_imports.specs.WellFormed.{IsSpelledType, IsShort, IsShortDefault, IsWellFormedField, AreWellFormedFields, AreInOrder, IsWellFormedEntry, IsWellFormedEnum, IsWellFormedObject, IsWellFormedFeature, IsWellFormed}
use Rattle.fml_imports.proofs.Alls.{all_head, all_tail, all_map}
use Rattle.fml_imports.proofs.TypesAgain.{spelled_again}

abbrev done : {A : Type 0} → A → Result A ModuleRefusal
done x = Ok x

bind_known : {A B : Type 0} (r : Result A ModuleRefusal) (a : A) (f : A → Result B ModuleRefusal) → r ≡ done a → (r >>= f) ≡ f a
bind_known {A = A} r a f h = ap (λ (x : Result A ModuleRefusal). x >>= f) h

-- ---- items and members

ReadAgain : {A : Type 0} → (Json → Result A ModuleRefusal) → (A → Json) → A → Type 0
ReadAgain read value x = read (value x) ≡ done x

items_again : {A : Type 0} (read : Json → Result A ModuleRefusal) (value : A → Json) (i : ℕ) (xs : List A) → All (ReadAgain read value) xs → each_item read i (items_of (map value xs)) ≡ done xs
unfolding ReadAgain
items_again read value i [] again = refl
items_again read value i (x ∷ xs) again =
    bind_known (under (decimal i) (read (value x))) x (λ a. each_item read (suc i) (items_of (map value xs)) >>= λ as'. Ok (a ∷ as')) (ap (under (decimal i)) (all_head (ReadAgain read value) x xs again))
    ∙ bind_known (each_item read (suc i) (items_of (map value xs))) xs (λ as'. Ok (x ∷ as')) (items_again read value (suc i) xs (all_tail (ReadAgain read value) x xs again))

member_again : {A : Type 0} (test : List ℕ → Bool) (read : Json → Result A ModuleRefusal) (x : Json) (k : List ℕ) (a : A) → test k ≡ true → read x ≡ done a → under k (keyed (test k) (read x)) ≡ done a
member_again test read x k a takes again = ap (λ (c : Bool). under k (keyed c (read x))) takes ∙ ap (under k) again

-- a name that is taken, of a part that is read again
record IsReadAgain {A : Type 0} (test : List ℕ → Bool) (read : Json → Result A ModuleRefusal) (value : A → Json) (p : List ℕ × A) : Type 0 where
  pub takes : IsTrue (test p.0)
  pub again : read (value p.1) ≡ done p.1

members_again : {A : Type 0} (test : List ℕ → Bool) (read : Json → Result A ModuleRefusal) (value : A → Json) (ps : List (List ℕ × A)) → All (IsReadAgain test read value) ps → each_member test read (members_of (members_json value ps)) ≡ done ps
members_again test read value [] again = refl
members_again test read value (p ∷ ps) again =
    let first = all_head (IsReadAgain test read value) p ps again in
    bind_known (under p.0 (keyed (test p.0) (read (value p.1)))) p.1 (λ a. each_member test read (members_of (members_json value ps)) >>= λ as'. Ok ((p.0, a) ∷ as')) (member_again test read (value p.1) p.0 p.1 first.takes first.again)
    ∙ bind_known (each_member test read (members_of (members_json value ps))) ps (λ as'. Ok ((p.0, p.1) ∷ as')) (members_again test read value ps (all_tail (IsReadAgain test read value) p ps again))

-- ---- fields

type_again : (t : FieldType) → IsSpelledType (shape_of t) → type_in (json.text (type_text (shape_of t))) ≡ done t
type_again t of_text = ap (λ o. needed (option_map type_from o)) (spelled_again (shape_of t) of_text) ∙ ap done (same_types t)

value_again : (t : Tree) → IsShort t → value_in (json_of t) ≡ done t
value_again t short = ap (λ (c : Bool). cond c (done (tree_from (json_of t))) bad) short.bytes ∙ ap done (tree_from-json_of t)

there_again : {A : Type 0} (read : Json → Result A ModuleRefusal) (x : Json) (a : A) → read x ≡ done a → there read x ≡ done (Some a)
there_again read x a again = bind_known (read x) a (λ b. Ok (Some b)) again

field-again : (t : FieldType) (d : Maybe Tree) → IsSpelledType (shape_of t) → IsShortDefault d → field_of (field_json (record { field_type = t; default = d })) ≡ done (record { field_type = t; default = d })
unfolding field_of
field-again t None of_text short = bind_known (under (codes "type") (type_in (json.text (type_text (shape_of t))))) t (λ type. Ok (record { field_type = type; default = None })) (ap (under (codes "type")) (type_again t of_text))
field-again t (Some d) of_text short =
    bind_known (under (codes "type") (type_in (json.text (type_text (shape_of t))))) t (λ type. under (codes "default") (there value_in (json_of d)) >>= λ default. Ok (record { field_type = type; default = default })) (ap (under (codes "type")) (type_again t of_text))
    ∙ bind_known (under (codes "default") (there value_in (json_of d))) (Some d) (λ default. Ok (record { field_type = t; default = default })) (ap (under (codes "default")) (there_again value_in (json_of d) d (value_again d short)))

field_again : (f : List ℕ × Field) → IsWellFormedField f → IsReadAgain is_key field_of field_json f
field_again f formed = record { takes = formed.key; again = field-again f.1.field_type f.1.default formed.of_type formed.default }

fields_again : (fs : List (List ℕ × Field)) → AreWellFormedFields fs → fields_of (by_name_json field_json fs) ≡ done fs
fields_again fs formed = members_again is_key field_of field_json fs (all_map IsWellFormedField (IsReadAgain is_key field_of field_json) fs field_again formed)

-- ---- enums and objects

no_more : (u : Unit {0}) → done tt ≡ done u
no_more tt = refl

variant_again : (v : List ℕ × Unit {0}) → IsTrue (is_key v.0) → IsReadAgain is_key variant_of variant_json v
variant_again v key = record { takes = key; again = no_more v.1 }

variants_again : (vs : List (List ℕ × Unit {0})) → All (λ (v : List ℕ × Unit {0}). IsTrue (is_key v.0)) vs → members_in is_key variant_of (by_name_json variant_json vs) ≡ done vs
variants_again vs keys = members_again is_key variant_of variant_json vs (all_map (λ (v : List ℕ × Unit {0}). IsTrue (is_key v.0)) (IsReadAgain is_key variant_of variant_json) vs variant_again keys)

some_again : (vs : List (List ℕ × Unit {0})) → 0 < length vs → under (codes "variants") (some_there vs) ≡ done tt
some_again [] some = absurd (omega arith)
some_again (v ∷ vs) some = refl

enum-again : (e : EnumDefinition) → All (λ (v : List ℕ × Unit {0}). IsTrue (is_key v.0)) e.variants → 0 < length e.variants → enum_of (enum_json e) ≡ done e
unfolding enum_of
enum-again e keys some =
    bind_known (under (codes "variants") (members_in is_key variant_of (by_name_json variant_json e.variants))) e.variants (λ variants. under (codes "variants") (some_there variants) >>= λ s. Ok (record { variants = variants })) (ap (under (codes "variants")) (variants_again e.variants keys))
    ∙ bind_known (under (codes "variants") (some_there e.variants)) tt (λ s. Ok (record { variants = e.variants })) (some_again e.variants some)

object-again : (o : ObjectDefinition) → AreWellFormedFields o.fields → object_of (definition_json o) ≡ done o
unfolding object_of
object-again o formed = bind_known (under (codes "fields") (fields_of (by_name_json field_json o.fields))) o.fields (λ fields. Ok (record { fields = fields })) (ap (under (codes "fields")) (fields_again o.fields formed))

object_again : (o : List ℕ × ObjectDefinition) → IsWellFormedObject o → IsReadAgain is_name object_of definition_json o
object_again o formed = record { takes = formed.name; again = object-again o.1 formed.fields }

objects_again : (os : List (List ℕ × ObjectDefinition)) → All IsWellFormedObject os → objects_of (by_name_json definition_json os) ≡ done os
objects_again os formed = members_again is_name object_of definition_json os (all_map IsWellFormedObject (IsReadAgain is_name object_of definition_json) os object_again formed)

enums_read : (es : List (List ℕ × EnumDefinition)) → All IsWellFormedEnum es → All (λ (e : List ℕ × EnumDefinition). 0 < length e.1.variants) es → All (IsReadAgain is_name enum_of enum_json) es
enums_read es formed some k d h = record { takes = (formed k d h).name; again = enum-again (get_or es k d).1 (formed k d h).variants (some k d h) }

enums_again : (es : List (List ℕ × EnumDefinition)) → All IsWellFormedEnum es → All (λ (e : List ℕ × EnumDefinition). 0 < length e.1.variants) es → enums_of (by_name_json enum_json es) ≡ done es
enums_again es formed some = members_again is_name enum_of enum_json es (enums_read es formed some)

-- ---- features

text_again : (s : List ℕ) → ReadAgain text_in json.text s
unfolding ReadAgain
text_again s = refl

texts_again : (names : List (List ℕ)) → texts_of (list_json json.text names) ≡ done names
texts_again names = items_again text_in json.text 0 names (λ k d h. text_again (get_or names k d))

entry-again : (channels : Maybe (List (List ℕ))) (value : Tree) → AreInOrder channels → IsShort value → entry_of (entry_json (record { channels = channels; value = value })) ≡ done (record { channels = channels; value = value })
unfolding entry_of
entry-again None value ordered short = bind_known (under (codes "value") (value_in (json_of value))) value (λ v. Ok (record { channels = None; value = v })) (ap (under (codes "value")) (value_again value short))
entry-again (Some names) value ordered short =
    bind_known (under (codes "channels") (there texts_of (list_json json.text names))) (Some names)
    (λ listed. under (codes "value") (value_in (json_of value)) >>= λ v. Ok (record { channels = option_map (in_order []) (both None listed); value = v })) (ap (under (codes "channels")) (there_again texts_of (list_json json.text names) names (texts_again names)))
    ∙ bind_known (under (codes "value") (value_in (json_of value))) value (λ v. Ok (record { channels = Some (in_order [] names); value = v })) (ap (under (codes "value")) (value_again value short))
    ∙ ap (λ (ns : List (List ℕ)). done (record { channels = Some ns; value = value })) ordered

entry_again : (e : DefaultEntry) → IsWellFormedEntry e → ReadAgain entry_of entry_json e
unfolding ReadAgain
entry_again e formed = entry-again e.channels e.value formed.channels formed.value

entries_again : (es : List DefaultEntry) → All IsWellFormedEntry es → entries_of (list_json entry_json es) ≡ done es
entries_again es formed = items_again entry_of entry_json 0 es (all_map IsWellFormedEntry (ReadAgain entry_of entry_json) es entry_again formed)

feature-again : (f : FeatureDefinition) → AreWellFormedFields f.variables → All IsWellFormedEntry f.defaults → feature_of (feature_json f) ≡ done f
unfolding feature_of
feature-again f variables entries =
    bind_known (under (codes "variables") (fields_of (by_name_json field_json f.variables))) f.variables
    (λ variables. under (codes "defaults") (entries_of (list_json entry_json f.defaults)) >>= λ es. Ok (record { variables = variables; defaults = es; allows_coenrollment = f.allows_coenrollment })) (ap (under (codes "variables")) (fields_again f.variables variables))
    ∙ bind_known (under (codes "defaults") (entries_of (list_json entry_json f.defaults))) f.defaults (λ es. Ok (record { variables = f.variables; defaults = es; allows_coenrollment = f.allows_coenrollment })) (ap (under (codes "defaults")) (entries_again f.defaults entries))

features_read : (fs : List (List ℕ × FeatureDefinition)) → All (λ (f : List ℕ × FeatureDefinition). IsTrue (is_name f.0)) fs → All IsWellFormedFeature fs → All (IsReadAgain is_name feature_of feature_json) fs
features_read fs names formed k d h = record { takes = names k d h; again = feature-again (get_or fs k d).1 (formed k d h).variables (formed k d h).entries }

features_again : (fs : List (List ℕ × FeatureDefinition)) → All (λ (f : List ℕ × FeatureDefinition). IsTrue (is_name f.0)) fs → All IsWellFormedFeature fs → features_of (by_name_json feature_json fs) ≡ done fs
features_again fs names formed = members_again is_name feature_of feature_json fs (features_read fs names formed)

-- ---- the file

-- a file that has the channel of a manifest
abbrev file_with : Manifest → List (List ℕ × EnumDefinition) → List (List ℕ × ObjectDefinition) → List (List ℕ × FeatureDefinition) → Module
file_with m enums objects features = record { channels = m.channel ∷ []; includes = []; imports = []; enums = enums; types_enums = []; objects = objects; types_objects = []; features = features }

-- what the single file says
abbrev pub alone : Manifest → Module
alone m = file_with m m.types.enums m.types.objects m.features

definitions_again : (m : Manifest) → IsWellFormed m → definitions_of (m.channel ∷ []) [] [] (single m) ≡ done (alone m)
unfolding definitions_of
definitions_again m formed =
    bind_known (under (codes "enums") (enums_of (by_name_json enum_json m.types.enums))) m.types.enums
    (λ es. under (codes "objects") (objects_of (by_name_json definition_json m.types.objects)) >>= λ os. under (codes "features") (features_of (by_name_json feature_json m.features)) >>= λ fs. Ok (file_with m es os fs)) (ap (under (codes "enums")) (enums_again m.types.enums formed.enums formed.sound.types.variants))
    ∙ bind_known (under (codes "objects") (objects_of (by_name_json definition_json m.types.objects))) m.types.objects
    (λ os. under (codes "features") (features_of (by_name_json feature_json m.features)) >>= λ fs. Ok (file_with m m.types.enums os fs)) (ap (under (codes "objects")) (objects_again m.types.objects formed.objects))
    ∙ bind_known (under (codes "features") (features_of (by_name_json feature_json m.features))) m.features (λ fs. Ok (file_with m m.types.enums m.types.objects fs)) (ap (under (codes "features")) (features_again m.features formed.sound.names formed.features))

pub module_again : (m : Manifest) → IsWellFormed m → module_of (single m) ≡ done (alone m)
unfolding module_of
module_again m formed = definitions_again m formed
