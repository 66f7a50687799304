-- What each file that is read keeps.
use Rattle.std.proofs.Common.{◌≡◌, ℕ, suc, ◌<◌, Bool, List, [], ◌∷◌, length, Option, Some, None, Result, Ok, IsUtf8, refl, sym, ap, ◌∙◌, subst, arith}
use Rattle.std.specs.Prelude.{All, IsTrue, codes, decimal, nat_le, option_map}
use Rattle.json_tree.specs.Json.{Json, text, list, object, get, Items, no_items, item, Members, no_members, member, IsSound, AreSoundItems, AreSoundMembers}
use Rattle.json_tree.specs.Tree.{json_of}
use Rattle.json_tree.specs.Bytes.{text_of}
use Rattle.json_tree.specs.declared.tree.Tree.{Tree}
use Rattle.plain_text.specs.Names.{is_name}
use Rattle.fml_types.specs.Shape.{Shape}
use Rattle.fml_types.specs.Shapes.{shape_of, type_from}
use Rattle.fml_types.specs.Sound.{has_single_options, AreSoundEntries, IsSoundDefault}
use Rattle.fml_types.specs.TypeTexts.{spelled}
use Rattle.fml_types.specs.declared.field_type.FieldType.{FieldType}
use Rattle.fml_types.specs.declared.manifest.EnumDefinition.{EnumDefinition}
use Rattle.fml_types.specs.declared.manifest.ObjectDefinition.{ObjectDefinition}
use Rattle.fml_types.specs.declared.manifest.FeatureDefinition.{FeatureDefinition}
use Rattle.fml_types.specs.declared.manifest.DefaultEntry.{DefaultEntry}
use Rattle.fml_types.specs.declared.manifest.Field.{Field}
use Rattle.fml_reader.specs.Outcome.{◌>>=◌, needed, under}
use Rattle.json_tree.specs.Inverse.{tree_from}
use Rattle.fml_reader.specs.Imports.{overrides_of, import_of, imports_of}
use Rattle.fml_reader.specs.Values.{object_in, value_in, is_key}
use Rattle.fml_reader.specs.Walks.{each_item, each_member, members_in, keyed, there, required, optional, first_there, in_types}
use Rattle.fml_reader.specs.Fields.{type_in, field_of, fields_of, variant_of, some_there, enum_of, enums_of, object_of, objects_of}
use Rattle.fml_reader.specs.Features.{entry_of, entries_of, feature_of, features_of}
use Rattle.fml_reader.specs.Modules.{types_in, module_of}
use Rattle.fml_reader.specs.declared.fault.ModuleRefusal.{ModuleRefusal}
use Rattle.fml_reader.specs.declared.imports.Import.{Import}
use Rattle.fml_reader.specs.declared.module.Module.{Module}
use Rattle.fml_imports.specs.Sound.{IsReadField, AreReadFields, HaveVariants, HaveReadFields, HaveSoundOverrides, IsRead, IsReadModule}
use Rattle.fml_imports.proofs.Alls.{all_nil, all_cons, all_map}
use Rattle.fml_imports.proofs.ModuleParts.{ok_of, same_ok, under_ok, keyed_ok, field_parts, entry_parts, feature_parts, import_features, module_parts}
use Rattle.fml_imports.proofs.Singles.{spelled_single, same_shapes}
use Rattle.json_tree.proofs.Trees.{same_values}
use Rattle.fml_imports.proofs.SoundValues.{IsSoundOption, get_sound}

pub required_ok : {A : Type 0} (k : List ℕ) (read : Json → Result A ModuleRefusal) (o : Option Json) (a : A) → IsSoundOption o → required k read o ≡ Ok a → (x : Json) × IsSound x × (read x ≡ Ok a)
required_ok k read None a sound h = absurd cc
required_ok k read (Some x) a sound h = (x, sound, under_ok k (read x) a h)

pub optional_ok : {A : Type 0} (P : A → Type 0) (k : List ℕ) (read : Json → Result A ModuleRefusal) (without : A) (o : Option Json) (a : A) → P without → ((x : Json) (b : A) → IsSound x → read x ≡ Ok b → P b) → IsSoundOption o → optional k read without o ≡ Ok a → P a
optional_ok P k read without None a default step sound h = let same : without ≡ a = cc in subst P same default
optional_ok P k read without (Some x) a default step sound h = step x a sound (under_ok k (read x) a h)

pub either_ok : {A : Type 0} (P : A → Type 0) (plural single : List ℕ) (read : Json → Result A ModuleRefusal) (without : A) (o other : Option Json) (a : A)
    → P without → ((x : Json) (b : A) → IsSound x → read x ≡ Ok b → P b) → IsSoundOption o → IsSoundOption other → first_there plural single read without o other ≡ Ok a → P a
either_ok P plural single read without None other a default step sound sound_other h = optional_ok P single read without other a default step sound_other h
either_ok P plural single read without (Some x) other a default step sound sound_other h = step x a sound (under_ok plural (read x) a h)

pub in_types_ok : {A : Type 0} (P : A → Type 0) (k : List ℕ) (read : Json → Result A ModuleRefusal) (without : A) (o : Option Json) (a : A) → P without → ((x : Json) (b : A) → IsSound x → read x ≡ Ok b → P b) → IsSoundOption o → in_types k read without o ≡ Ok a → P a
in_types_ok P k read without None a default step sound h = let same : without ≡ a = cc in subst P same default
in_types_ok P k read without (Some x) a default step sound h = optional_ok P k read without (get k x) a default step (get_sound k x sound) (under_ok (codes "types") (optional k read without (get k x)) a h)

-- each item is read
pub items_ok : {A : Type 0} (P : A → Type 0) (read : Json → Result A ModuleRefusal) → ((x : Json) (a : A) → IsSound x → read x ≡ Ok a → P a) → (i : ℕ) (xs : Items) (as' : List A) → AreSoundItems xs → each_item read i xs ≡ Ok as' → All P as'
items_ok P read step i no_items as' sound h = let same : [] ≡ as' = cc in subst (All P) same (all_nil P)
items_ok P read step i (item x xs) as' sound h =
    let first = ok_of (under (decimal i) (read x)) (λ a. each_item read (suc i) xs >>= λ bs. Ok (a ∷ bs)) as' h in
    let others = ok_of (each_item read (suc i) xs) (λ bs. Ok (first.0 ∷ bs)) as' first.2 in
    let same : first.0 ∷ others.0 ≡ as' = cc in
    subst (All P) same (all_cons P first.0 others.0 (step x first.0 sound.0 (under_ok (decimal i) (read x) first.0 first.1)) (items_ok P read step (suc i) xs others.0 sound.1 others.1))

-- each member that is read has its key taken and its value read
pub members_ok : {A : Type 0} (P : List ℕ × A → Type 0) (test : List ℕ → Bool) (read : Json → Result A ModuleRefusal) → ((k : List ℕ) (x : Json) (a : A) → IsUtf8 k → IsTrue (test k) → IsSound x → read x ≡ Ok a → P (k, a)) → (ms : Members) (ps : List (List ℕ × A))
    → AreSoundMembers ms → each_member test read ms ≡ Ok ps → All P ps
members_ok P test read step no_members ps sound h = let same : [] ≡ ps = cc in subst (All P) same (all_nil P)
members_ok P test read step (member k x ms) ps sound h =
    let first = ok_of (under k (keyed (test k) (read x))) (λ a. each_member test read ms >>= λ as'. Ok ((k, a) ∷ as')) ps h in
    let others = ok_of (each_member test read ms) (λ as'. Ok ((k, first.0) ∷ as')) ps first.2 in
    let one = keyed_ok (test k) (read x) first.0 (under_ok k (keyed (test k) (read x)) first.0 first.1) in
    let same : (k, first.0) ∷ others.0 ≡ ps = cc in
    subst (All P) same (all_cons P (k, first.0) others.0 (step k x first.0 sound.0 one.0 sound.2 one.1) (members_ok P test read step ms others.0 sound.3 others.1))

-- ---- values

pub value_sound : (x : Json) (t : Tree) → IsSound x → value_in x ≡ Ok t → IsSound (json_of t)
value_sound x t sound h =
    let read = keyed_ok (nat_le (length (text_of x)) 65536) (Ok (tree_from x)) t h in
    subst IsSound (sym (same_values x) ∙ ap json_of (same_ok (tree_from x) t read.1)) sound

pub default_sound : (x : Json) (d : Option Tree) → IsSound x → there value_in x ≡ Ok d → IsSoundDefault d
default_sound x d sound h =
    let a = ok_of (value_in x) (λ t. Ok (Some t)) d h in
    subst IsSoundDefault (same_ok (Some a.0) d a.2) (value_sound x a.0 sound a.1)

-- ---- fields

pub needed_ok : (o : Option Shape) (t : FieldType) → needed (option_map type_from o) ≡ Ok t → (s : Shape) × (o ≡ Some s) × (type_from s ≡ t)
needed_ok None t h = absurd cc
needed_ok (Some s) t h = (s, refl, cc)

type_single : (x : Json) (t : FieldType) → type_in x ≡ Ok t → IsTrue (has_single_options (shape_of t))
type_single (text b) t h =
    let found = needed_ok (spelled b) t h in
    subst (λ s. IsTrue (has_single_options s)) (sym (same_shapes found.0) ∙ ap shape_of found.2) (spelled_single b found.0 found.1)
type_single x t h = absurd cc

field_read : (x : Json) (f : Field) → IsSound x → field_of x ≡ Ok f → IsReadField f
field_read x f sound h =
    let parts = field_parts x f h in
    let read = required_ok (codes "type") type_in (get (codes "type") x) f.field_type (get_sound (codes "type") x sound) parts.field_type in
    record {
      options = type_single read.0 f.field_type read.2;
      default = optional_ok IsSoundDefault (codes "default") (there value_in) None (get (codes "default") x) f.default tt default_sound (get_sound (codes "default") x sound) parts.default;
    }

fields_read : (x : Json) (fs : List (List ℕ × Field)) → IsSound x → fields_of x ≡ Ok fs → AreReadFields fs
fields_read (object ms) fs sound h = members_ok (λ (f : List ℕ × Field). IsReadField f.1) is_key field_of (λ k x f utf8 taken within read. field_read x f within read) ms fs sound h
fields_read x fs sound h = absurd cc

-- ---- enums and objects

some_variants : (vs : List (List ℕ × Unit {0})) (u : Unit {0}) → under (codes "variants") (some_there vs) ≡ Ok u → 0 < length vs
some_variants [] u h = absurd cc
some_variants (v ∷ vs) u h = omega arith

enum_variants : (x : Json) (e : EnumDefinition) → IsSound x → enum_of x ≡ Ok e → 0 < length e.variants
unfolding enum_of
enum_variants x e sound h =
    let a = ok_of (object_in x) _ e h in
    let b = ok_of (required (codes "variants") (members_in is_key variant_of) (get (codes "variants") x)) _ e a.2 in
    let c = ok_of (under (codes "variants") (some_there b.0)) _ e b.2 in
    let same : b.0 ≡ e.variants = cc in
    subst (λ l. 0 < length l) same (some_variants b.0 c.0 c.1)

enums_variants : (x : Json) (es : List (List ℕ × EnumDefinition)) → IsSound x → enums_of x ≡ Ok es → HaveVariants es
enums_variants (object ms) es sound h = members_ok (λ (e : List ℕ × EnumDefinition). 0 < length e.1.variants) is_name enum_of (λ k x e utf8 taken within read. enum_variants x e within read) ms es sound h
enums_variants x es sound h = absurd cc

object_read : (x : Json) (o : ObjectDefinition) → IsSound x → object_of x ≡ Ok o → AreReadFields o.fields
unfolding object_of
object_read x o sound h =
    let a = ok_of (object_in x) _ o h in
    let b = ok_of (required (codes "fields") fields_of (get (codes "fields") x)) _ o a.2 in
    let read = required_ok (codes "fields") fields_of (get (codes "fields") x) b.0 (get_sound (codes "fields") x sound) b.1 in
    let same : b.0 ≡ o.fields = cc in
    subst AreReadFields same (fields_read read.0 b.0 read.1 read.2)

objects_read : (x : Json) (os : List (List ℕ × ObjectDefinition)) → IsSound x → objects_of x ≡ Ok os → HaveReadFields os
objects_read (object ms) os sound h = members_ok (λ (o : List ℕ × ObjectDefinition). AreReadFields o.1.fields) is_name object_of (λ k x o utf8 taken within read. object_read x o within read) ms os sound h
objects_read x os sound h = absurd cc

-- ---- entries

entry_sound : (x : Json) (e : DefaultEntry) → IsSound x → entry_of x ≡ Ok e → IsSound (json_of e.value)
entry_sound x e sound h =
    let read = required_ok (codes "value") value_in (get (codes "value") x) e.value (get_sound (codes "value") x sound) (entry_parts x e h).value in
    value_sound read.0 e.value read.1 read.2

entries_sound : (x : Json) (es : List DefaultEntry) → IsSound x → entries_of x ≡ Ok es → AreSoundEntries es
entries_sound (list xs) es sound h = items_ok (λ (e : DefaultEntry). IsSound (json_of e.value)) entry_of entry_sound 0 xs es sound h
entries_sound x es sound h = absurd cc

-- ---- imports

overrides_sound : (x : Json) (os : List (List ℕ × List DefaultEntry)) → IsSound x → overrides_of x ≡ Ok os → HaveSoundOverrides os
overrides_sound (object ms) os sound h = members_ok (λ (o : List ℕ × List DefaultEntry). AreSoundEntries o.1) is_name entries_of (λ k x es utf8 taken within read. entries_sound x es within read) ms os sound h
overrides_sound x os sound h = absurd cc

import_sound : (x : Json) (i : Import) → IsSound x → import_of x ≡ Ok i → HaveSoundOverrides i.features
import_sound x i sound h =
    optional_ok HaveSoundOverrides (codes "features") overrides_of [] (get (codes "features") x) i.features (all_nil (λ (o : List ℕ × List DefaultEntry). AreSoundEntries o.1)) overrides_sound (get_sound (codes "features") x sound) (import_features x i h)

HaveSoundImports : List Import → Type 0
HaveSoundImports is = All (λ (i : Import). HaveSoundOverrides i.features) is

imports_sound : (x : Json) (is : List Import) → IsSound x → imports_of x ≡ Ok is → HaveSoundImports is
unfolding HaveSoundImports
imports_sound (list xs) is sound h = items_ok (λ (i : Import). HaveSoundOverrides i.features) import_of import_sound 0 xs is sound h
imports_sound x is sound h = absurd cc

-- ---- features

-- a feature whose definition is read
IsReadDefinition : FeatureDefinition → Type 0
IsReadDefinition f = AreReadFields f.variables × AreSoundEntries f.defaults

feature_read : (x : Json) (f : FeatureDefinition) → IsSound x → feature_of x ≡ Ok f → IsReadDefinition f
unfolding IsReadDefinition
feature_read x f sound h =
    let parts = feature_parts x f h in (
      optional_ok AreReadFields (codes "variables") fields_of [] (get (codes "variables") x) f.variables (all_nil (λ (f : List ℕ × Field). IsReadField f.1)) fields_read (get_sound (codes "variables") x sound) parts.variables,
      optional_ok AreSoundEntries (codes "defaults") entries_of [] (get (codes "defaults") x) f.defaults (all_nil (λ (e : DefaultEntry). IsSound (json_of e.value))) entries_sound (get_sound (codes "defaults") x sound) parts.defaults,
    )

-- a feature that is read
IsReadFeature : List ℕ × FeatureDefinition → Type 0
IsReadFeature f = IsTrue (is_name f.0) × IsReadDefinition f.1

features_read : (x : Json) (fs : List (List ℕ × FeatureDefinition)) → IsSound x → features_of x ≡ Ok fs → All IsReadFeature fs
unfolding IsReadFeature
features_read (object ms) fs sound h = members_ok IsReadFeature is_name feature_of (λ k x f utf8 taken within read. (taken, feature_read x f within read)) ms fs sound h
features_read x fs sound h = absurd cc

-- what stands under `types`
pub types_sound : (o t : Option Json) → IsSoundOption o → types_in o ≡ Ok t → IsSoundOption t
types_sound None t sound h = subst IsSoundOption (same_ok None t h) tt
types_sound (Some x) t sound h =
    let a = ok_of (under (codes "types") (object_in x)) (λ u. Ok (Some x)) t h in
    subst IsSoundOption (same_ok (Some x) t a.2) sound

-- ---- the module

pub module_read : (x : Json) (m : Module) → IsSound x → module_of x ≡ Ok m → IsReadModule m
unfolding IsReadFeature IsReadDefinition HaveSoundImports
module_read x m sound h =
    let p = module_parts x m h in
    let within : (k : List ℕ) → IsSoundOption (get k x) = λ k. get_sound k x sound in
    let types = types_sound (get (codes "types") x) p.types (within (codes "types")) p.types_is in
    let no_enum = all_nil (λ (e : List ℕ × EnumDefinition). 0 < length e.1.variants) in
    let no_object = all_nil (λ (o : List ℕ × ObjectDefinition). AreReadFields o.1.fields) in
    let features = optional_ok (All IsReadFeature) (codes "features") features_of [] (get (codes "features") x) m.features (all_nil IsReadFeature) features_read (within (codes "features")) p.features in
    record {
      imports = either_ok HaveSoundImports (codes "imports") (codes "import") imports_of [] (get (codes "imports") x) (get (codes "import") x) m.imports (all_nil (λ (i : Import). HaveSoundOverrides i.features)) imports_sound (within (codes "imports")) (within (codes "import")) p.imports;
      variants = optional_ok HaveVariants (codes "enums") enums_of [] (get (codes "enums") x) m.enums no_enum enums_variants (within (codes "enums")) p.enums;
      types_variants = in_types_ok HaveVariants (codes "enums") enums_of [] p.types m.types_enums no_enum enums_variants types p.types_enums;
      fields = optional_ok HaveReadFields (codes "objects") objects_of [] (get (codes "objects") x) m.objects no_object objects_read (within (codes "objects")) p.objects;
      types_fields = in_types_ok HaveReadFields (codes "objects") objects_of [] p.types m.types_objects no_object objects_read types p.types_objects;
      names = all_map IsReadFeature (λ f. IsTrue (is_name f.0)) m.features (λ g read. read.0) features;
      variables = all_map IsReadFeature (λ f. AreReadFields f.1.variables) m.features (λ g read. read.1.0) features;
      entries = all_map IsReadFeature (λ f. AreSoundEntries f.1.defaults) m.features (λ g read. read.1.1) features;
    }

pub read_module : (m : Module) → IsRead m → IsReadModule m
read_module m read = module_read read.tree m read.sound read.reads
