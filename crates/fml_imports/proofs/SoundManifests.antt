-- What is joined of files that are read is a sound manifest.
use Rattle.std.proofs.Common.{◌≡◌, ℕ, ◌<◌, Bool, true, false, List, [], ◌∷◌, ◌++◌, map, length, Option, Some, None, Result, Ok, Err, refl, ap, ◌∙◌, subst}
use Rattle.std.specs.Prelude.{◌||◌, All, IfOk, IsTrue, bytes_eq, if◌then◌else◌}
use Rattle.std.specs.Option.{option_or}
use Rattle.std.specs.Ordering.{is_lt, nat_cmp}
use Rattle.std.specs.Cmp.Lexicographic.{slice_cmp}
use Rattle.std.proofs.lemmas.Bool.{or_parts}
use Rattle.json_tree.specs.Json.{IsSound}
use Rattle.json_tree.specs.Tree.{json_of}
use Rattle.plain_text.specs.Names.{is_name}
use Rattle.fml_types.specs.Ground.{grounding}
use Rattle.fml_types.specs.Named.{has_name, with_name}
use Rattle.fml_types.specs.Shapes.{shape_of}
use Rattle.fml_types.specs.Sound.{unknown_name, AreSoundEntries, AreSoundFields, IsSoundManifest}
use Rattle.fml_types.specs.declared.grounding.Ungrounded.{Ungrounded}
use Rattle.fml_types.specs.declared.grounding.Ungrounded.TheVariants as ungrounded
use Rattle.fml_types.specs.declared.manifest.EnumDefinition.{EnumDefinition}
use Rattle.fml_types.specs.declared.manifest.ObjectDefinition.{ObjectDefinition}
use Rattle.fml_types.specs.declared.manifest.FeatureDefinition.{FeatureDefinition}
use Rattle.fml_types.specs.declared.manifest.Field.{Field}
use Rattle.fml_types.specs.declared.manifest.Manifest.{Manifest}
use Rattle.fml_types.specs.declared.manifest.TypeTable.{TypeTable}
use Rattle.fml_reader.specs.declared.module.Module.{Module}
use Rattle.fml_types.specs.declared.manifest.DefaultEntry.{DefaultEntry}
use Rattle.fml_reader.specs.declared.imports.Import.{Import}
use Rattle.fml_imports.specs.Channels.{is_among, is_for, kept_entries, entries_for}
use Rattle.fml_imports.specs.Imports.{first_found, first_unknown_import}
use Rattle.fml_imports.specs.Joining.{unknown_in, manifest_with, unknown_of, unknown_override, all_known, all_grounded, root_channels, channel_known, imports_known, overrides_known, checked, made_of, joined}
use Rattle.fml_imports.specs.Overrides.{import_overrides, file_overrides, overrides_of, entries_over, overridden}
use Rattle.fml_imports.specs.Outcome.{◌>>=◌, Gives, each}
use Rattle.fml_imports.specs.Sound.{AreReadFields, HaveVariants, HaveReadFields, HaveNames, HaveReadVariables, HaveSoundEntries, HaveSoundOverrides, IsRead, AreRead, IsReadModule}
use Rattle.fml_imports.specs.Tables.{Tables, no_tables, with_enum, with_object, with_feature, with_module, tables_of, feature_for, module_for}
use Rattle.fml_imports.specs.declared.joining.Linked.{Linked}
use Rattle.fml_imports.specs.declared.fault.JoinFault.{JoinFault}
use Rattle.fml_imports.specs.declared.fault.JoinRefusal.{JoinRefusal}
use Rattle.fml_imports.specs.declared.fault.JoinRefusal.TheVariants as refusals
use Rattle.fml_imports.proofs.Alls.{all_nil, all_cons, all_head, all_tail, all_append, all_map, all_mapped, all_flat}
use Rattle.fml_imports.proofs.Names.{turned}
use Rattle.fml_imports.proofs.ReadModules.{read_module}

pub bind_ok : {A B : Type 0} (r : Result A JoinRefusal) (f : A → Result B JoinRefusal) (b : B) → (r >>= f) ≡ Ok b → (a : A) × (r ≡ Ok a) × (f a ≡ Ok b)
bind_ok (Ok a) f b h = (a, refl, h)
bind_ok (Err e) f b h = absurd cc

-- what is kept as each thing is added
pub each_keeps : {T A : Type 0} (P : T → Type 0) (Q : A → Type 0) (add : T → A → Result T JoinRefusal) → ((t u : T) (x : A) → P t → Q x → add t x ≡ Ok u → P u) → (xs : List A) (t u : T) → All Q xs → P t → each add t xs ≡ Ok u → P u
each_keeps P Q add step [] t u all kept h = let same : t ≡ u = cc in subst P same kept
each_keeps P Q add step (x ∷ xs) t u all kept h =
    let first = bind_ok (add t x) (λ v. each add v xs) u h in
    each_keeps P Q add step xs first.0 u (all_tail Q x xs all) (step t first.0 x kept (all_head Q x xs all) first.1) first.2

-- ---- one more name

all-with : {T : Type 0} (P : List ℕ × T → Type 0) (p q : List ℕ × T) (qs with : List (List ℕ × T)) (b : Bool) → P p → All P (q ∷ qs) → All P with → All P (if b then p ∷ q ∷ qs else q ∷ with)
all-with P p q qs with true one all rest = all_cons P p (q ∷ qs) one all
all-with P p q qs with false one all rest = all_cons P q with (all_head P q qs all) rest

pub all_with : {T : Type 0} (P : List ℕ × T → Type 0) (p : List ℕ × T) (qs : List (List ℕ × T)) → P p → All P qs → All P (with_name p qs)
all_with P p [] one all = all_cons P p [] one (all_nil P)
all_with P p (q ∷ qs) one all = all-with P p q qs (with_name p qs) (is_lt (slice_cmp nat_cmp p.0 q.0)) one all (all_with P p qs one (all_tail P q qs all))

-- a name that isn't the new one is there where it was
other-with : {T : Type 0} (n : List ℕ) (p q : List ℕ × T) (qs with : List (List ℕ × T)) (b : Bool) → bytes_eq p.0 n ≡ false → has_name n (q ∷ qs) ≡ false → has_name n with ≡ false → has_name n (if b then p ∷ q ∷ qs else q ∷ with) ≡ false
other-with n p q qs with true other absent rest = ap (λ b. b || has_name n (q ∷ qs)) other ∙ absent
other-with n p q qs with false other absent rest = ap (λ b. b || has_name n with) (or_parts (bytes_eq q.0 n) (has_name n qs) absent).0 ∙ rest

other_with : {T : Type 0} (n : List ℕ) (p : List ℕ × T) (qs : List (List ℕ × T)) → bytes_eq p.0 n ≡ false → has_name n qs ≡ false → has_name n (with_name p qs) ≡ false
other_with n p [] other absent = ap (λ b. b || false) other
other_with n p (q ∷ qs) other absent =
    other-with n p q qs (with_name p qs) (is_lt (slice_cmp nat_cmp p.0 q.0)) other absent (other_with n p qs other (or_parts (bytes_eq q.0 n) (has_name n qs) absent).1)

-- no enum has the name of an object
AreApart : List (List ℕ × EnumDefinition) → List (List ℕ × ObjectDefinition) → Type 0
AreApart enums objects = All (λ (e : List ℕ × EnumDefinition). has_name e.0 objects ≡ false) enums

apart_with : (o : List ℕ × ObjectDefinition) (objects : List (List ℕ × ObjectDefinition)) (enums : List (List ℕ × EnumDefinition)) → has_name o.0 enums ≡ false → AreApart enums objects → AreApart enums (with_name o objects)
unfolding AreApart
apart_with o objects [] new apart = all_nil (λ (x : List ℕ × EnumDefinition). has_name x.0 (with_name o objects) ≡ false)
apart_with o objects (e ∷ es) new apart =
    let before : List ℕ × EnumDefinition → Type 0 = λ x. has_name x.0 objects ≡ false in
    all_cons (λ (x : List ℕ × EnumDefinition). has_name x.0 (with_name o objects) ≡ false) e es
    (other_with e.0 o objects (turned o.0 e.0 ∙ (or_parts (bytes_eq e.0 o.0) (has_name o.0 es) new).0) (all_head before e es apart))
    (apart_with o objects es (or_parts (bytes_eq e.0 o.0) (has_name o.0 es) new).1 (all_tail before e es apart))

-- ---- the tables

record AreSoundTables (t : Tables) : Type 0 where
  pub variants : HaveVariants t.enums
  pub apart : AreApart t.enums t.objects
  pub fields : HaveReadFields t.objects
  pub names : HaveNames t.features
  pub variables : HaveReadVariables t.features
  pub entries : HaveSoundEntries t.features

pub added : {A : Type 0} (b : Bool) (e : JoinRefusal) (t u : A) → (if b then Err e else Ok t) ≡ Ok u → (b ≡ false) × (t ≡ u)
added true e t u h = absurd cc
added false e t u h = (refl, cc)

enum_keeps : (t u : Tables) (e : List ℕ × EnumDefinition) → AreSoundTables t → 0 < length e.1.variants → with_enum t e ≡ Ok u → AreSoundTables u
unfolding AreApart
enum_keeps t u e sound one h =
    let new = added (has_name e.0 t.enums || has_name e.0 t.objects) (refusals.DuplicateName e.0) (record t { enums = with_name e t.enums }) u h in
    subst AreSoundTables new.1 (record {
      variants = all_with (λ (x : List ℕ × EnumDefinition). 0 < length x.1.variants) e t.enums one sound.variants;
      apart = all_with (λ (x : List ℕ × EnumDefinition). has_name x.0 t.objects ≡ false) e t.enums (or_parts (has_name e.0 t.enums) (has_name e.0 t.objects) new.0).1 sound.apart;
      fields = sound.fields;
      names = sound.names;
      variables = sound.variables;
      entries = sound.entries;
    })

object_keeps : (t u : Tables) (o : List ℕ × ObjectDefinition) → AreSoundTables t → AreReadFields o.1.fields → with_object t o ≡ Ok u → AreSoundTables u
object_keeps t u o sound one h =
    let new = added (has_name o.0 t.enums || has_name o.0 t.objects) (refusals.DuplicateName o.0) (record t { objects = with_name o t.objects }) u h in
    subst AreSoundTables new.1 (record {
      variants = sound.variants;
      apart = apart_with o t.objects t.enums (or_parts (has_name o.0 t.enums) (has_name o.0 t.objects) new.0).0 sound.apart;
      fields = all_with (λ (x : List ℕ × ObjectDefinition). AreReadFields x.1.fields) o t.objects one sound.fields;
      names = sound.names;
      variables = sound.variables;
      entries = sound.entries;
    })

-- a feature that is read
IsReadFeature : List ℕ × FeatureDefinition → Type 0
IsReadFeature f = IsTrue (is_name f.0) × AreReadFields f.1.variables × AreSoundEntries f.1.defaults

feature_keeps : (t u : Tables) (f : List ℕ × FeatureDefinition) → AreSoundTables t → IsReadFeature f → with_feature t f ≡ Ok u → AreSoundTables u
unfolding IsReadFeature
feature_keeps t u f sound one h =
    let new = added (has_name f.0 t.features) (refusals.DuplicateName f.0) (record t { features = with_name f t.features }) u h in
    subst AreSoundTables new.1 (record {
      variants = sound.variants;
      apart = sound.apart;
      fields = sound.fields;
      names = all_with (λ (x : List ℕ × FeatureDefinition). IsTrue (is_name x.0)) f t.features one.0 sound.names;
      variables = all_with (λ (x : List ℕ × FeatureDefinition). AreReadFields x.1.variables) f t.features one.1 sound.variables;
      entries = all_with (λ (x : List ℕ × FeatureDefinition). AreSoundEntries x.1.defaults) f t.features one.2 sound.entries;
    })

features_read : (m : Module) → IsReadModule m → All IsReadFeature m.features
unfolding IsReadFeature
features_read m sound k d h = (sound.names k d h, sound.variables k d h, sound.entries k d h)

-- what a file defines, as it is read
record AreReadDefinitions (m : Module) : Type 0 where
  pub variants : HaveVariants m.enums
  pub types_variants : HaveVariants m.types_enums
  pub fields : HaveReadFields m.objects
  pub types_fields : HaveReadFields m.types_objects
  pub features : All IsReadFeature m.features

module_keeps : (t u : Tables) (m : Module) → AreSoundTables t → AreReadDefinitions m → with_module t m ≡ Ok u → AreSoundTables u
unfolding with_module
module_keeps t u m sound read h =
    let a = bind_ok (each with_enum t m.enums) _ u h in
    let b = bind_ok (each with_enum a.0 m.types_enums) _ u a.2 in
    let c = bind_ok (each with_object b.0 m.objects) _ u b.2 in
    let d = bind_ok (each with_object c.0 m.types_objects) _ u c.2 in
    let sound_a = each_keeps AreSoundTables (λ (x : List ℕ × EnumDefinition). 0 < length x.1.variants) with_enum enum_keeps m.enums t a.0 read.variants sound a.1 in
    let sound_b = each_keeps AreSoundTables (λ (x : List ℕ × EnumDefinition). 0 < length x.1.variants) with_enum enum_keeps m.types_enums a.0 b.0 read.types_variants sound_a b.1 in
    let sound_c = each_keeps AreSoundTables (λ (x : List ℕ × ObjectDefinition). AreReadFields x.1.fields) with_object object_keeps m.objects b.0 c.0 read.fields sound_b c.1 in
    let sound_d = each_keeps AreSoundTables (λ (x : List ℕ × ObjectDefinition). AreReadFields x.1.fields) with_object object_keeps m.types_objects c.0 d.0 read.types_fields sound_c d.1 in
    each_keeps AreSoundTables IsReadFeature with_feature feature_keeps m.features d.0 u read.features sound_d d.2

nothing_sound : AreSoundTables no_tables
unfolding AreApart
nothing_sound = record {
  variants = all_nil (λ (x : List ℕ × EnumDefinition). 0 < length x.1.variants);
  apart = all_nil (λ (x : List ℕ × EnumDefinition). has_name {T = ObjectDefinition} x.0 [] ≡ false);
  fields = all_nil (λ (x : List ℕ × ObjectDefinition). AreReadFields x.1.fields);
  names = all_nil (λ (x : List ℕ × FeatureDefinition). IsTrue (is_name x.0));
  variables = all_nil (λ (x : List ℕ × FeatureDefinition). AreReadFields x.1.variables);
  entries = all_nil (λ (x : List ℕ × FeatureDefinition). AreSoundEntries x.1.defaults);
}

tables_sound : (modules : List Module) (t : Tables) → All AreReadDefinitions modules → tables_of modules ≡ Ok t → AreSoundTables t
tables_sound modules t read h = each_keeps AreSoundTables AreReadDefinitions with_module module_keeps modules no_tables t read nothing_sound h

-- ---- the checks

known_ok : (o : Option (List ℕ)) (u : Unit {0}) → all_known o ≡ Ok u → o ≡ None
known_ok None u h = refl
known_ok (Some name) u h = absurd cc

both_none : (a b : Option (List ℕ)) → option_or a b ≡ None → (a ≡ None) × (b ≡ None)
both_none None b h = (refl, h)
both_none (Some n) b h = absurd cc

none_found : {A : Type 0} (find : A → Option (List ℕ)) (xs : List A) → first_found find xs ≡ None → All (λ x. find x ≡ None) xs
none_found find [] h = all_nil (λ x. find x ≡ None)
none_found find (x ∷ xs) h = let both = both_none (find x) (first_found find xs) h in all_cons (λ y. find y ≡ None) x xs both.0 (none_found find xs both.1)

grounded_ok : (g : Result (Unit {0}) Ungrounded) (u : Unit {0}) → all_grounded g ≡ Ok u → g ≡ Ok tt
grounded_ok (Ok v) u h = refl
grounded_ok (Err (ungrounded.EndlessObject name)) u h = absurd cc
grounded_ok (Err (ungrounded.ObjectTooLarge name)) u h = absurd cc

sound_fields : (types : TypeTable) (fields : List (List ℕ × Field)) → unknown_in types fields ≡ None → AreReadFields fields → AreSoundFields types fields
sound_fields types fields known read k d h = record {
  of_type = record {
    known = none_found (λ (f : List ℕ × Field). unknown_name types (shape_of f.1.field_type)) fields known k d h;
    options = (read k d h).options;
  };
  default = (read k d h).default;
}

sound_objects : (types : TypeTable) (objects : List (List ℕ × ObjectDefinition)) → All (λ (o : List ℕ × ObjectDefinition). unknown_in types o.1.fields ≡ None) objects → HaveReadFields objects → All (λ (o : List ℕ × ObjectDefinition). AreSoundFields types o.1.fields) objects
sound_objects types objects known read k d h = sound_fields types _ (known k d h) (read k d h)

sound_features : (types : TypeTable) (features : List (List ℕ × FeatureDefinition)) → All (λ (f : List ℕ × FeatureDefinition). unknown_in types f.1.variables ≡ None) features → HaveReadVariables features → All (λ (f : List ℕ × FeatureDefinition). AreSoundFields types f.1.variables) features
sound_features types features known read k d h = sound_fields types _ (known k d h) (read k d h)

-- ---- entries that count, and overrides

kept_sound : (channel : List ℕ) (es : List DefaultEntry) → AreSoundEntries es → AreSoundEntries (kept_entries channel es)
kept_sound channel [] sound = sound
kept_sound channel (e ∷ es) sound =
    let rest = kept_sound channel es (all_tail (λ (e : DefaultEntry). IsSound (json_of e.value)) e es sound) in
    elim (is_for channel e.channels) as (λ b. AreSoundEntries ((if b then record e { channels = None } ∷ [] else []) ++ kept_entries channel es)) [
      | true ↦ all_cons (λ (e : DefaultEntry). IsSound (json_of e.value)) (record e { channels = None }) (kept_entries channel es) (all_head (λ (e : DefaultEntry). IsSound (json_of e.value)) e es sound) rest
      | false ↦ rest
    ]

entries_sound : (asked channel : List ℕ) (es : List DefaultEntry) → AreSoundEntries es → AreSoundEntries (entries_for asked channel es)
entries_sound asked channel es sound = elim (bytes_eq channel asked) as (λ b. AreSoundEntries (if b then es else kept_entries channel es)) [ true ↦ sound | false ↦ kept_sound channel es sound ]

feature_read : (asked channel : List ℕ) (f : List ℕ × FeatureDefinition) → IsReadFeature f → IsReadFeature (feature_for asked channel f)
unfolding IsReadFeature
feature_read asked channel f read = (read.0, read.1, entries_sound asked channel f.1.defaults read.2)

overrides_sound : (asked channel : List ℕ) (o : List ℕ × List DefaultEntry) → AreSoundEntries o.1 → AreSoundEntries (entries_for asked channel o.1)
overrides_sound asked channel o sound = entries_sound asked channel o.1 sound

import_sound : (asked channel : List ℕ) (i : Import) → HaveSoundOverrides i.features → HaveSoundOverrides (import_overrides asked channel i)
import_sound asked channel i sound =
    all_mapped (λ (o : List ℕ × List DefaultEntry). AreSoundEntries o.1) (λ (o : List ℕ × List DefaultEntry). AreSoundEntries o.1) (λ (o : List ℕ × List DefaultEntry). (o.0, entries_for asked channel o.1)) i.features
    (overrides_sound asked channel) sound

all_overrides_sound : (asked : List ℕ) (files : List Linked) → All (λ (f : Linked). IsReadModule f.module) files → HaveSoundOverrides (overrides_of asked files)
all_overrides_sound asked files read =
    all_flat (λ (f : Linked). IsReadModule f.module) (λ (o : List ℕ × List DefaultEntry). AreSoundEntries o.1) (file_overrides asked) files
    (λ (f : Linked) (one : IsReadModule f.module). all_flat (λ (i : Import). HaveSoundOverrides i.features) (λ (o : List ℕ × List DefaultEntry). AreSoundEntries o.1) (import_overrides asked f.channel) f.module.imports (import_sound asked f.channel) one.imports) read

over_sound : (name : List ℕ) (os : List (List ℕ × List DefaultEntry)) → HaveSoundOverrides os → AreSoundEntries (entries_over name os)
over_sound name [] sound = all_nil (λ (e : DefaultEntry). IsSound (json_of e.value))
over_sound name (o ∷ os) sound =
    let rest = over_sound name os (all_tail (λ (o : List ℕ × List DefaultEntry). AreSoundEntries o.1) o os sound) in
    let first = all_head (λ (o : List ℕ × List DefaultEntry). AreSoundEntries o.1) o os sound in
    elim (bytes_eq o.0 name) as (λ b. AreSoundEntries (if b then o.1 ++ entries_over name os else entries_over name os)) [
      | true ↦ all_append (λ (e : DefaultEntry). IsSound (json_of e.value)) o.1 (entries_over name os) first rest
      | false ↦ rest
    ]

module_for_read : (asked : List ℕ) (f : Linked) → IsReadModule f.module → AreReadDefinitions (module_for asked f)
unfolding IsReadFeature
module_for_read asked f read = record {
  variants = read.variants;
  types_variants = read.types_variants;
  fields = read.fields;
  types_fields = read.types_fields;
  features = all_mapped IsReadFeature IsReadFeature (feature_for asked f.channel) f.module.features (feature_read asked f.channel) (features_read f.module read);
}

-- ---- the manifest

overridden_variables : (types : TypeTable) (os : List (List ℕ × List DefaultEntry)) (fs : List (List ℕ × FeatureDefinition)) → first_found (λ (f : List ℕ × FeatureDefinition). unknown_in types f.1.variables) (map (overridden os) fs) ≡ None
    → first_found (λ (f : List ℕ × FeatureDefinition). unknown_in types f.1.variables) fs ≡ None
overridden_variables types os [] h = refl
overridden_variables types os (f ∷ fs) h =
    let both = both_none (unknown_in types f.1.variables) (first_found (λ (f : List ℕ × FeatureDefinition). unknown_in types f.1.variables) (map (overridden os) fs)) h in
    ap (λ o. option_or o (first_found (λ (f : List ℕ × FeatureDefinition). unknown_in types f.1.variables) fs)) both.0 ∙ overridden_variables types os fs both.1

made_sound : (t : Tables) (os : List (List ℕ × List DefaultEntry)) (channel : List ℕ) → AreSoundTables t → HaveSoundOverrides os → unknown_of (manifest_with t os channel) ≡ None → grounding (manifest_with t os channel).types ≡ Ok tt
    → IsSoundManifest (manifest_with t os channel)
unfolding AreApart
made_sound t os channel sound over known grounded =
    let types : TypeTable = (manifest_with t os channel).types in
    let both = both_none (first_found (λ (o : List ℕ × ObjectDefinition). unknown_in types o.1.fields) t.objects) (first_found (λ (f : List ℕ × FeatureDefinition). unknown_in types f.1.variables) (map (overridden os) t.features)) known in
    let variables = sound_features types t.features (none_found (λ (f : List ℕ × FeatureDefinition). unknown_in types f.1.variables) t.features (overridden_variables types os t.features both.1)) sound.variables in
    record {
      types = record { variants = sound.variants; apart = sound.apart; fields = sound_objects types t.objects (none_found (λ (o : List ℕ × ObjectDefinition). unknown_in types o.1.fields) t.objects both.0) sound.fields };
      grounded = grounded;
      names = all_mapped (λ (f : List ℕ × FeatureDefinition). IsTrue (is_name f.0)) (λ (f : List ℕ × FeatureDefinition). IsTrue (is_name f.0)) (overridden os) t.features (λ f one. one) sound.names;
      variables = all_mapped (λ (f : List ℕ × FeatureDefinition). AreSoundFields types f.1.variables) (λ (f : List ℕ × FeatureDefinition). AreSoundFields types f.1.variables) (overridden os) t.features (λ f one. one) variables;
      defaults = all_mapped (λ (f : List ℕ × FeatureDefinition). AreSoundEntries f.1.defaults) (λ (f : List ℕ × FeatureDefinition). AreSoundEntries f.1.defaults) (overridden os) t.features
          (λ f one. all_append (λ (e : DefaultEntry). IsSound (json_of e.value)) f.1.defaults (entries_over f.0 os) one (over_sound f.0 os over)) sound.entries;
    }

-- what is made of definitions has known types that are grounded
pub checked_ok : (m made : Manifest) (has_channel : Bool) (i o : Option (List ℕ)) → checked m has_channel i o ≡ Ok made → (unknown_of m ≡ None) × (grounding m.types ≡ Ok tt) × (m ≡ made)
unfolding checked
checked_ok m made has_channel i o h =
    let k = bind_ok (all_known (unknown_of m)) _ made h in
    let g = bind_ok (all_grounded (grounding m.types)) _ made k.2 in
    let c = bind_ok (channel_known has_channel) _ made g.2 in
    let is = bind_ok (imports_known i) _ made c.2 in
    let os = bind_ok (overrides_known o) _ made is.2 in
    (known_ok (unknown_of m) k.0 k.1, grounded_ok (grounding m.types) g.0 g.1, cc)

pub joined_sound : (files : List Linked) (channel : List ℕ) (m : Manifest) → AreRead files → joined files channel ≡ Ok m → IsSoundManifest m
unfolding joined
joined_sound files channel m read h =
    let modules = all_map (λ (f : Linked). IsRead f.module) (λ (f : Linked). IsReadModule f.module) files (λ f one. read_module f.module one) read in
    let t = bind_ok (tables_of (map (module_for channel) files)) (λ t. made_of t (overrides_of channel files) files channel) m h in
    let made = checked_ok (manifest_with t.0 (overrides_of channel files) channel) m (is_among channel (root_channels files)) (first_unknown_import files) (unknown_override (overrides_of channel files) t.0) t.2 in
    let sound = tables_sound (map (module_for channel) files) t.0 (all_mapped (λ (f : Linked). IsReadModule f.module) AreReadDefinitions (module_for channel) files (module_for_read channel) modules) t.1 in
    subst IsSoundManifest made.2 (made_sound t.0 (overrides_of channel files) channel sound (all_overrides_sound channel files modules) made.0 made.1)

-- what a call returned of what is joined
pub gives_sound : (files : List Linked) (channel : List ℕ) (got : Result Manifest JoinFault) → AreRead files → Gives got (joined files channel) → IfOk got IsSoundManifest
gives_sound files channel (Ok m) read h = joined_sound files channel m read h
gives_sound files channel (Err e) read h = tt
