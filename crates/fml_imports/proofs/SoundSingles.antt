-- The single file of what is joined of files that are read is a sound JSON value.
use Rattle.std.proofs.Common.{◌≡◌, ℕ, Bool, true, false, List, [], ◌∷◌, map, Option as Maybe, Some, None, Result, Ok, Err, IsUtf8, refl, sym, ap, ◌∙◌, subst}
use Rattle.std.specs.Prelude.{All, IfOk, ⊤, codes, option_map}
use Rattle.json_tree.specs.Json as json
use Rattle.json_tree.specs.Json.{Json, text, list, object, get, Members, no_members, member, items_of, members_of, IsSound, AreSoundItems, AreSoundMembers}
use Rattle.json_tree.specs.Tree.{json_of}
use Rattle.json_tree.specs.declared.tree.Tree.{Tree}
use Rattle.plain_text.specs.Names.{is_name}
use Rattle.fml_types.specs.Ground.{grounding}
use Rattle.fml_types.specs.Named.{AreRising}
use Rattle.fml_types.specs.Named as named
use Rattle.fml_types.specs.Shapes.{shape_of}
use Rattle.fml_types.specs.Sound.{IsSoundDefault}
use Rattle.fml_types.specs.TypeTexts.{spelled}
use Rattle.fml_types.specs.declared.field_type.FieldType.{FieldType}
use Rattle.fml_types.specs.declared.manifest.DefaultEntry.{DefaultEntry}
use Rattle.fml_types.specs.declared.manifest.EnumDefinition.{EnumDefinition}
use Rattle.fml_types.specs.declared.manifest.FeatureDefinition.{FeatureDefinition}
use Rattle.fml_types.specs.declared.manifest.Field.{Field}
use Rattle.fml_types.specs.declared.manifest.Manifest.{Manifest}
use Rattle.fml_types.specs.declared.manifest.ObjectDefinition.{ObjectDefinition}
use Rattle.fml_reader.specs.Outcome.{◌>>=◌, under}
use Rattle.fml_reader.specs.Imports.{overrides_of, import_of, imports_of}
use Rattle.fml_reader.specs.Values.{object_in, text_in, value_in, is_key}
use Rattle.fml_reader.specs.Walks.{each_member, members_in, keyed, there, required}
use Rattle.fml_reader.specs.Fields.{type_in, field_of, fields_of, variant_of, some_there, enum_of, enums_of, object_of, objects_of}
use Rattle.fml_reader.specs.Features.{texts_of, names_in, in_order, both, entry_of, entries_of, feature_of, features_of}
use Rattle.fml_reader.specs.Modules.{module_of}
use Rattle.fml_reader.specs.declared.fault.ModuleRefusal.{ModuleRefusal}
use Rattle.fml_reader.specs.declared.imports.Import.{Import}
use Rattle.fml_reader.specs.declared.module.Module.{Module}
use Rattle.fml_imports.specs.Channels.{is_among}
use Rattle.fml_imports.specs.Imports.{first_unknown_import}
use Rattle.fml_imports.specs.Joining.{all_known, unknown_of, all_grounded, root_channels, channel_known, unknown_override, manifest_with, checked, made_of, joined}
use Rattle.fml_imports.specs.Outcome as join
use Rattle.fml_imports.specs.Overrides as over
use Rattle.fml_imports.specs.Single.{members_json, variant_json, enum_json, field_json, definition_json, entry_json, feature_json, type_text, single}
use Rattle.fml_imports.specs.Sound.{IsRead, AreRead}
use Rattle.fml_imports.specs.Tables.{tables_of, module_for}
use Rattle.fml_imports.specs.declared.fault.JoinFault.{JoinFault}
use Rattle.fml_imports.specs.declared.joining.Linked.{Linked}
use Rattle.fml_imports.proofs.Alls.{all_nil, all_cons, all_head, all_tail, all_append, all_map}
use Rattle.fml_imports.proofs.JoinedParts.{Asked, Feature, Override, Imported, ModuleHas, ManifestHas, joined_has}
use Rattle.fml_imports.proofs.ModuleParts.{ok_of, same_ok, under_ok, keyed_ok, field_parts, entry_parts, feature_parts, import_features, module_parts}
use Rattle.fml_imports.proofs.ReadModules.{needed_ok, required_ok, optional_ok, either_ok, in_types_ok, items_ok, members_ok, default_sound, value_sound, types_sound}
use Rattle.fml_imports.proofs.RisingFeatures.{joined_rises}
use Rattle.fml_imports.proofs.Singles.{same_shapes}
use Rattle.fml_imports.proofs.SoundManifests.{bind_ok, checked_ok}
use Rattle.fml_imports.proofs.SoundTexts as texts
use Rattle.fml_imports.proofs.SoundTexts.{type_utf8, names_utf8, ordered_utf8, among_all}
use Rattle.fml_imports.proofs.SoundValues.{IsSoundOption, get_sound}
use Rattle.fml_imports.proofs.SpelledTypes.{spelled_type}

-- ---- members and items of sound values

-- a name in UTF-8, with a sound value
abbrev IsSoundMember : {A : Type 0} → (A → Json) → List ℕ × A → Type 0
IsSoundMember value p = IsUtf8 p.0 × IsSound (value p.1)

-- members of such values are sound
abbrev HaveSoundValues : {A : Type 0} → (A → Json) → List (List ℕ × A) → Type 0
HaveSoundValues value ps = AreSoundMembers (members_of (members_json value ps))

below_json : {A : Type 0} (value : A → Json) (k : List ℕ) (ps : List (List ℕ × A)) → named.IsBelow k ps → json.IsBelow k (members_of (members_json value ps))
below_json value k [] h = tt
below_json value k (p ∷ ps) h = (h.0, below_json value k ps h.1)

rising_sound : {A : Type 0} (value : A → Json) (ps : List (List ℕ × A)) → AreRising ps → All (IsSoundMember value) ps → HaveSoundValues value ps
rising_sound value [] rise all = tt
rising_sound value (p ∷ ps) rise all =
    let one = all_head (IsSoundMember value) p ps all in
    (one.0, below_json value p.0 ps rise.0, one.1, rising_sound value ps rise.1 (all_tail (IsSoundMember value) p ps all))

each_sound : {A : Type 0} (value : A → Json) (ps : List (List ℕ × A)) → HaveSoundValues value ps → All (IsSoundMember value) ps
each_sound value [] sound = all_nil (IsSoundMember value)
each_sound value (p ∷ ps) sound = all_cons (IsSoundMember value) p ps (sound.0, sound.2) (each_sound value ps sound.3)

items_sound : {A : Type 0} (value : A → Json) (xs : List A) → All (λ (x : A). IsSound (value x)) xs → AreSoundItems (items_of (map value xs))
items_sound value [] all = tt
items_sound {A = A} value (x ∷ xs) all = (all_head (λ (y : A). IsSound (value y)) x xs all, items_sound value xs (all_tail (λ (y : A). IsSound (value y)) x xs all))

texts_sound : (names : List (List ℕ)) → All IsUtf8 names → AreSoundItems (items_of (map text names))
texts_sound names all = items_sound text names all

-- what is read of sound values has sound values
module _ {A : Type 0} (value : A → Json) (test : List ℕ → Bool) (read : Json → Result A ModuleRefusal) (step : (x : Json) (a : A) → IsSound x → read x ≡ Ok a → IsSound (value a)) where
  below_read : (k : List ℕ) (ms : Members) (ps : List (List ℕ × A)) → json.IsBelow k ms → each_member test read ms ≡ Ok ps → json.IsBelow k (members_of (members_json value ps))
  below_read k no_members ps below h = let same : [] ≡ ps = cc in subst (λ (qs : List (List ℕ × A)). json.IsBelow k (members_of (members_json value qs))) same tt
  below_read k (member l x ms) ps below h =
      let first = ok_of (under l (keyed (test l) (read x))) (λ a. each_member test read ms >>= λ as'. Ok ((l, a) ∷ as')) ps h in
      let others = ok_of (each_member test read ms) (λ as'. Ok ((l, first.0) ∷ as')) ps first.2 in
      let same : (l, first.0) ∷ others.0 ≡ ps = cc in
      subst (λ (qs : List (List ℕ × A)). json.IsBelow k (members_of (members_json value qs))) same (below.0, below_read k ms others.0 below.1 others.1)

  each_read : (ms : Members) (ps : List (List ℕ × A)) → AreSoundMembers ms → each_member test read ms ≡ Ok ps → HaveSoundValues value ps
  each_read no_members ps sound h = let same : [] ≡ ps = cc in subst (HaveSoundValues value) same tt
  each_read (member k x ms) ps sound h =
      let first = ok_of (under k (keyed (test k) (read x))) (λ a. each_member test read ms >>= λ as'. Ok ((k, a) ∷ as')) ps h in
      let others = ok_of (each_member test read ms) (λ as'. Ok ((k, first.0) ∷ as')) ps first.2 in
      let one = keyed_ok (test k) (read x) first.0 (under_ok k (keyed (test k) (read x)) first.0 first.1) in
      let same : (k, first.0) ∷ others.0 ≡ ps = cc in
      subst (HaveSoundValues value) same (sound.0, below_read k ms others.0 sound.1 others.1, step x first.0 sound.2 one.1, each_read ms others.0 sound.3 others.1)

  members_read : (x : Json) (ps : List (List ℕ × A)) → IsSound x → members_in test read x ≡ Ok ps → HaveSoundValues value ps
  members_read (object ms) ps sound h = each_read ms ps sound h
  members_read x ps sound h = absurd cc

-- ---- fields

type_sound : (x : Json) (t : FieldType) → IsSound x → type_in x ≡ Ok t → IsUtf8 (type_text (shape_of t))
type_sound (text b) t sound h =
    let found = needed_ok (spelled b) t h in
    subst (λ s. IsUtf8 (type_text s)) (sym (same_shapes found.0) ∙ ap shape_of found.2) (type_utf8 found.0 (spelled_type b found.0 found.1).names)
type_sound x t sound h = absurd cc

field-sound : (t : FieldType) (d : Maybe Tree) → IsUtf8 (type_text (shape_of t)) → IsSoundDefault d → IsSound (field_json (record { field_type = t; default = d }))
field-sound t None utf8 sound = (texts.type_word, tt, utf8, tt)
field-sound t (Some d) utf8 sound = (texts.default_word, (refl, tt), sound, (texts.type_word, tt, utf8, tt))

field_sound : (x : Json) (f : Field) → IsSound x → field_of x ≡ Ok f → IsSound (field_json f)
field_sound x f sound h =
    let parts = field_parts x f h in
    let read = required_ok (codes "type") type_in (get (codes "type") x) f.field_type (get_sound (codes "type") x sound) parts.field_type in
    let default = optional_ok IsSoundDefault (codes "default") (there value_in) None (get (codes "default") x) f.default tt default_sound (get_sound (codes "default") x sound) parts.default in
    field-sound f.field_type f.default (type_sound read.0 f.field_type read.1 read.2) default

fields_sound : (x : Json) (fs : List (List ℕ × Field)) → IsSound x → fields_of x ≡ Ok fs → HaveSoundValues field_json fs
fields_sound x fs sound h = members_read field_json is_key field_of field_sound x fs sound h

-- ---- enums and objects

variants_sound : (x : Json) (vs : List (List ℕ × Unit {0})) → IsSound x → members_in is_key variant_of x ≡ Ok vs → HaveSoundValues variant_json vs
variants_sound x vs sound h = members_read variant_json is_key variant_of (λ (y : Json) (u : Unit {0}) (one : IsSound y) (read : variant_of y ≡ Ok u). tt) x vs sound h

enum_sound : (x : Json) (e : EnumDefinition) → IsSound x → enum_of x ≡ Ok e → IsSound (enum_json e)
unfolding enum_of
enum_sound x e sound h =
    let a = ok_of (object_in x) _ e h in
    let b = ok_of (required (codes "variants") (members_in is_key variant_of) (get (codes "variants") x)) _ e a.2 in
    let c = ok_of (under (codes "variants") (some_there b.0)) _ e b.2 in
    let read = required_ok (codes "variants") (members_in is_key variant_of) (get (codes "variants") x) b.0 (get_sound (codes "variants") x sound) b.1 in
    let same : record { variants = b.0 } ≡ e = same_ok _ e c.2 in
    subst (λ (f : EnumDefinition). IsSound (enum_json f)) same (texts.variants_word, tt, variants_sound read.0 b.0 read.1 read.2, tt)

enums_sound : (x : Json) (es : List (List ℕ × EnumDefinition)) → IsSound x → enums_of x ≡ Ok es → All (IsSoundMember enum_json) es
enums_sound x es sound h = each_sound enum_json es (members_read enum_json is_name enum_of enum_sound x es sound h)

object_sound : (x : Json) (o : ObjectDefinition) → IsSound x → object_of x ≡ Ok o → IsSound (definition_json o)
unfolding object_of
object_sound x o sound h =
    let a = ok_of (object_in x) _ o h in
    let b = ok_of (required (codes "fields") fields_of (get (codes "fields") x)) _ o a.2 in
    let read = required_ok (codes "fields") fields_of (get (codes "fields") x) b.0 (get_sound (codes "fields") x sound) b.1 in
    let same : record { fields = b.0 } ≡ o = same_ok _ o b.2 in
    subst (λ (p : ObjectDefinition). IsSound (definition_json p)) same (texts.fields_word, tt, fields_sound read.0 b.0 read.1 read.2, tt)

objects_sound : (x : Json) (os : List (List ℕ × ObjectDefinition)) → IsSound x → objects_of x ≡ Ok os → All (IsSoundMember definition_json) os
objects_sound x os sound h = each_sound definition_json os (members_read definition_json is_name object_of object_sound x os sound h)

-- ---- entries

text_sound : (x : Json) (s : List ℕ) → IsSound x → text_in x ≡ Ok s → IsUtf8 s
text_sound (text b) s sound h = subst IsUtf8 (same_ok b s h) sound
text_sound x s sound h = absurd cc

names_sound : (x : Json) (names : List (List ℕ)) → IsSound x → texts_of x ≡ Ok names → All IsUtf8 names
names_sound (list xs) names sound h = items_ok IsUtf8 text_in text_sound 0 xs names sound h
names_sound x names sound h = absurd cc

abbrev IsTextOption : Maybe (List ℕ) → Type 0
IsTextOption None = ⊤
IsTextOption (Some s) = IsUtf8 s

abbrev AreTextsOption : Maybe (List (List ℕ)) → Type 0
AreTextsOption None = ⊤
AreTextsOption (Some names) = All IsUtf8 names

text_there : (x : Json) (o : Maybe (List ℕ)) → IsSound x → there text_in x ≡ Ok o → IsTextOption o
text_there x o sound h =
    let a = ok_of (text_in x) (λ s. Ok (Some s)) o h in
    subst IsTextOption (same_ok (Some a.0) o a.2) (text_sound x a.0 sound a.1)

names_there : (x : Json) (o : Maybe (List (List ℕ))) → IsSound x → there texts_of x ≡ Ok o → AreTextsOption o
names_there x o sound h =
    let a = ok_of (texts_of x) (λ s. Ok (Some s)) o h in
    subst AreTextsOption (same_ok (Some a.0) o a.2) (names_sound x a.0 sound a.1)

channels_texts : (divided : Maybe (List ℕ)) (listed : Maybe (List (List ℕ))) → IsTextOption divided → AreTextsOption listed → AreTextsOption (option_map (in_order []) (both (option_map names_in divided) listed))
channels_texts None None one all = tt
channels_texts None (Some names) one all = ordered_utf8 names all
channels_texts (Some s) None one all = ordered_utf8 (names_in s) (names_utf8 s one)
channels_texts (Some s) (Some names) one all = ordered_utf8 _ (all_append IsUtf8 (names_in s) names (names_utf8 s one) all)

entry-sound : (channels : Maybe (List (List ℕ))) (value : Tree) → AreTextsOption channels → IsSound (json_of value) → IsSound (entry_json (record { channels = channels; value = value }))
entry-sound None value all sound = (texts.value_word, tt, sound, tt)
entry-sound (Some names) value all sound = (texts.channels_word, (refl, tt), texts_sound names all, (texts.value_word, tt, sound, tt))

entry_sound : (x : Json) (e : DefaultEntry) → IsSound x → entry_of x ≡ Ok e → IsSound (entry_json e)
entry_sound x e sound h =
    let parts = entry_parts x e h in
    let divided = optional_ok IsTextOption (codes "channel") (there text_in) None (get (codes "channel") x) parts.divided tt text_there (get_sound (codes "channel") x sound) parts.divided_is in
    let listed = optional_ok AreTextsOption (codes "channels") (there texts_of) None (get (codes "channels") x) parts.listed tt names_there (get_sound (codes "channels") x sound) parts.listed_is in
    let read = required_ok (codes "value") value_in (get (codes "value") x) e.value (get_sound (codes "value") x sound) parts.value in
    entry-sound e.channels e.value (subst AreTextsOption parts.channels (channels_texts parts.divided parts.listed divided listed)) (value_sound read.0 e.value read.1 read.2)

abbrev HasSoundEntry : DefaultEntry → Type 0
HasSoundEntry e = IsSound (entry_json e)

entries_sound : (x : Json) (es : List DefaultEntry) → IsSound x → entries_of x ≡ Ok es → All HasSoundEntry es
entries_sound (list xs) es sound h = items_ok HasSoundEntry entry_of entry_sound 0 xs es sound h
entries_sound x es sound h = absurd cc

value-of : (channels : Maybe (List (List ℕ))) (value : Tree) → IsSound (entry_json (record { channels = channels; value = value })) → IsSound (json_of value)
value-of None value sound = sound.2
value-of (Some names) value sound = sound.3.2

without_channels : (e : DefaultEntry) → HasSoundEntry e → HasSoundEntry (record e { channels = None })
without_channels e sound = entry-sound None e.value tt (value-of e.channels e.value sound)

-- ---- features and imports

-- the variables of a feature of this name
abbrev HasSoundVariables : List ℕ → List (List ℕ × Field) → Type 0
HasSoundVariables name fields = IsUtf8 name × HaveSoundValues field_json fields

abbrev Sound : Asked
Sound = record { Enum = IsSoundMember enum_json; Object = IsSoundMember definition_json; Variables = HasSoundVariables; Entry = HasSoundEntry }

feature-sound : (f : FeatureDefinition) → HaveSoundValues field_json f.variables → All HasSoundEntry f.defaults → IsSound (feature_json f)
feature-sound f variables entries =
    (texts.coenrollment_word, (refl, (refl, tt)), tt, (texts.defaults_word, (refl, tt), items_sound entry_json f.defaults entries, (texts.variables_word, tt, variables, tt)))

feature_sound : (x : Json) (f : FeatureDefinition) → IsSound x → feature_of x ≡ Ok f → HaveSoundValues field_json f.variables × All HasSoundEntry f.defaults
feature_sound x f sound h =
    let parts = feature_parts x f h in (
      optional_ok (HaveSoundValues field_json) (codes "variables") fields_of [] (get (codes "variables") x) f.variables tt fields_sound (get_sound (codes "variables") x sound) parts.variables,
      optional_ok (All HasSoundEntry) (codes "defaults") entries_of [] (get (codes "defaults") x) f.defaults (all_nil HasSoundEntry) entries_sound (get_sound (codes "defaults") x sound) parts.defaults,
    )

one_feature : (k : List ℕ) (x : Json) (f : FeatureDefinition) → IsUtf8 k → IsSound x → feature_of x ≡ Ok f → Feature Sound (k, f)
one_feature k x f utf8 sound h = let parts = feature_sound x f sound h in record { variables = (utf8, parts.0); entries = parts.1 }

features_sound : (x : Json) (fs : List (List ℕ × FeatureDefinition)) → IsSound x → features_of x ≡ Ok fs → All (Feature Sound) fs
features_sound (object ms) fs sound h = members_ok (Feature Sound) is_name feature_of (λ k x f utf8 taken within read. one_feature k x f utf8 within read) ms fs sound h
features_sound x fs sound h = absurd cc

overrides_sound : (x : Json) (os : List (List ℕ × List DefaultEntry)) → IsSound x → overrides_of x ≡ Ok os → All (Override Sound) os
overrides_sound (object ms) os sound h = members_ok (Override Sound) is_name entries_of (λ k x es utf8 taken within read. entries_sound x es within read) ms os sound h
overrides_sound x os sound h = absurd cc

import_sound : (x : Json) (i : Import) → IsSound x → import_of x ≡ Ok i → Imported Sound i
import_sound x i sound h =
    optional_ok (All (Override Sound)) (codes "features") overrides_of [] (get (codes "features") x) i.features (all_nil (Override Sound)) overrides_sound (get_sound (codes "features") x sound) (import_features x i h)

imports_sound : (x : Json) (is : List Import) → IsSound x → imports_of x ≡ Ok is → All (Imported Sound) is
imports_sound (list xs) is sound h = items_ok (Imported Sound) import_of import_sound 0 xs is sound h
imports_sound x is sound h = absurd cc

-- ---- the module

-- its parts are sound, and its channels texts
record IsSoundModule (m : Module) : Type 0 where
  pub parts : ModuleHas Sound m
  pub channels : All IsUtf8 m.channels

module_sound : (x : Json) (m : Module) → IsSound x → module_of x ≡ Ok m → IsSoundModule m
module_sound x m sound h =
    let p = module_parts x m h in
    let within : (k : List ℕ) → IsSoundOption (get k x) = λ k. get_sound k x sound in
    let types = types_sound (get (codes "types") x) p.types (within (codes "types")) p.types_is in
    let no_enum = all_nil (IsSoundMember enum_json) in
    let no_object = all_nil (IsSoundMember definition_json) in
    record {
      parts = record {
        imports = either_ok (All (Imported Sound)) (codes "imports") (codes "import") imports_of [] (get (codes "imports") x) (get (codes "import") x) m.imports (all_nil (Imported Sound)) imports_sound (within (codes "imports")) (within (codes "import")) p.imports;
        enums = optional_ok (All (IsSoundMember enum_json)) (codes "enums") enums_of [] (get (codes "enums") x) m.enums no_enum enums_sound (within (codes "enums")) p.enums;
        types_enums = in_types_ok (All (IsSoundMember enum_json)) (codes "enums") enums_of [] p.types m.types_enums no_enum enums_sound types p.types_enums;
        objects = optional_ok (All (IsSoundMember definition_json)) (codes "objects") objects_of [] (get (codes "objects") x) m.objects no_object objects_sound (within (codes "objects")) p.objects;
        types_objects = in_types_ok (All (IsSoundMember definition_json)) (codes "objects") objects_of [] p.types m.types_objects no_object objects_sound types p.types_objects;
        features = optional_ok (All (Feature Sound)) (codes "features") features_of [] (get (codes "features") x) m.features (all_nil (Feature Sound)) features_sound (within (codes "features")) p.features;
      };
      channels = optional_ok (All IsUtf8) (codes "channels") texts_of [] (get (codes "channels") x) m.channels (all_nil IsUtf8) names_sound (within (codes "channels")) p.channels;
    }

-- ---- the manifest

known_channel : (c : Bool) (u : Unit {0}) → channel_known c ≡ Ok u → c ≡ true
known_channel true u h = refl
known_channel false u h = absurd cc

checked_channel : (m made : Manifest) (c : Bool) (i o : Maybe (List ℕ)) → checked m c i o ≡ Ok made → c ≡ true
unfolding checked
checked_channel m made has_channel i o h =
    let k = bind_ok (all_known (unknown_of m)) _ made h in
    let g = bind_ok (all_grounded (grounding m.types)) _ made k.2 in
    let c = bind_ok (channel_known has_channel) _ made g.2 in
    known_channel has_channel c.0 c.1

root_texts : (files : List Linked) → All (λ (f : Linked). IsSoundModule f.module) files → All IsUtf8 (root_channels files)
root_texts [] all = all_nil IsUtf8
root_texts (f ∷ fs) all = (all_head (λ (f : Linked). IsSoundModule f.module) f fs all).channels

joined_channel : (files : List Linked) (channel : List ℕ) (m : Manifest) → All (λ (f : Linked). IsSoundModule f.module) files → joined files channel ≡ Ok m → IsUtf8 m.channel
unfolding joined
joined_channel files channel m all h =
    let t = bind_ok (tables_of (map (module_for channel) files)) (λ t. made_of t (over.overrides_of channel files) files channel) m h in
    let made = checked_ok (manifest_with t.0 (over.overrides_of channel files) channel) m (is_among channel (root_channels files)) (first_unknown_import files) (unknown_override (over.overrides_of channel files) t.0) t.2 in
    let among = checked_channel (manifest_with t.0 (over.overrides_of channel files) channel) m (is_among channel (root_channels files)) (first_unknown_import files) (unknown_override (over.overrides_of channel files) t.0) t.2 in
    subst (λ (n : Manifest). IsUtf8 n.channel) made.2 (among_all IsUtf8 channel (root_channels files) among (root_texts files all))

single-sound : (m : Manifest) → IsUtf8 m.channel → AreRising m.features → ManifestHas Sound m → IsSound (single m)
single-sound m channel rise have =
    let features = all_map (Feature Sound) (IsSoundMember feature_json) m.features (λ (f : List ℕ × FeatureDefinition) (one : Feature Sound f). (one.variables.0, feature-sound f.1 one.variables.1 one.entries)) have.features in (
      texts.channels_word,
      (refl, (refl, (refl, tt))),
      (channel, tt),
      (
        texts.enums_word,
        (refl, (refl, tt)),
        rising_sound enum_json m.types.enums have.enums_rise have.enums,
        (
          texts.features_word,
          (refl, tt),
          rising_sound feature_json m.features rise features,
          (texts.objects_word, tt, rising_sound definition_json m.types.objects have.objects_rise have.objects, tt),
        ),
      ),
    )

pub joined_single_sound : (files : List Linked) (channel : List ℕ) (m : Manifest) → AreRead files → joined files channel ≡ Ok m → IsSound (single m)
joined_single_sound files channel m read h =
    let modules = all_map (λ (f : Linked). IsRead f.module) (λ (f : Linked). IsSoundModule f.module) files (λ (f : Linked) (one : IsRead f.module). module_sound one.tree f.module one.sound one.reads) read in
    let parts = all_map (λ (f : Linked). IsSoundModule f.module) (λ (f : Linked). ModuleHas Sound f.module) files (λ (f : Linked) (one : IsSoundModule f.module). one.parts) modules in
    single-sound m (joined_channel files channel m modules h) (joined_rises files channel m h) (joined_has Sound without_channels files channel m parts h)

-- what a call returned of what is joined
pub gives_sound_single : (files : List Linked) (channel : List ℕ) (got : Result Manifest JoinFault) → AreRead files → join.Gives got (joined files channel) → IfOk got (λ m. IsSound (single m))
gives_sound_single files channel (Ok m) read h = joined_single_sound files channel m read h
gives_sound_single files channel (Err e) read h = tt
