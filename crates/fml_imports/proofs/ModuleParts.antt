-- What a module that is read is made of: each part of it is what is read at its place.
use Rattle.std.proofs.Common.{◌≡◌, Bool, true, false, List, [], ℕ, Option as Maybe, None, Result, Ok, Err, refl, subst}
use Rattle.std.specs.Prelude.{IsTrue, codes, option_map}
use Rattle.json_tree.specs.Json.{Json, get}
use Rattle.fml_types.specs.declared.manifest.DefaultEntry.{DefaultEntry}
use Rattle.fml_types.specs.declared.manifest.FeatureDefinition.{FeatureDefinition}
use Rattle.fml_types.specs.declared.manifest.Field.{Field}
use Rattle.fml_reader.specs.Outcome.{◌>>=◌, under}
use Rattle.fml_reader.specs.Imports.{overrides_of, import_of, imports_of}
use Rattle.fml_reader.specs.Values.{object_in, text_in, truth_in, value_in}
use Rattle.fml_reader.specs.Walks.{keyed, there, required, optional, either, in_types}
use Rattle.fml_reader.specs.Fields.{type_in, field_of, fields_of, enums_of, objects_of}
use Rattle.fml_reader.specs.Features.{texts_of, names_in, in_order, both, entry_of, entries_of, feature_of, features_of}
use Rattle.fml_reader.specs.Modules.{types_in, definitions_of, module_of}
use Rattle.fml_reader.specs.declared.fault.ModuleRefusal.{ModuleRefusal}
use Rattle.fml_reader.specs.declared.imports.Import.{Import}
use Rattle.fml_reader.specs.declared.module.Module.{Module}

-- ---- one step

pub ok_of : {A B : Type 0} (r : Result A ModuleRefusal) (f : A → Result B ModuleRefusal) (b : B) → (r >>= f) ≡ Ok b → (a : A) × (r ≡ Ok a) × (f a ≡ Ok b)
ok_of (Ok a) f b h = (a, refl, h)
ok_of (Err e) f b h = absurd cc

pub same_ok : {A : Type 0} (a b : A) → ◌≡◌ {A = Result A ModuleRefusal} (Ok a) (Ok b) → a ≡ b
same_ok a b h = cc

pub under_ok : {A : Type 0} (k : List ℕ) (r : Result A ModuleRefusal) (a : A) → under k r ≡ Ok a → r ≡ Ok a
under_ok k (Ok x) a h = h
under_ok k (Err e) a h = absurd cc

pub keyed_ok : {A : Type 0} (c : Bool) (r : Result A ModuleRefusal) (a : A) → keyed c r ≡ Ok a → IsTrue c × (r ≡ Ok a)
keyed_ok true r a h = (refl, h)
keyed_ok false r a h = absurd cc

-- ---- fields, entries and features

pub record FieldParts (x : Json) (f : Field) : Type 0 where
  pub field_type : required (codes "type") type_in (get (codes "type") x) ≡ Ok f.field_type
  pub default : optional (codes "default") (there value_in) None (get (codes "default") x) ≡ Ok f.default

pub field_parts : (x : Json) (f : Field) → field_of x ≡ Ok f → FieldParts x f
unfolding field_of
field_parts x f h =
    let a = ok_of (object_in x) _ f h in
    let b = ok_of (required (codes "type") type_in (get (codes "type") x)) _ f a.2 in
    let c = ok_of (optional (codes "default") (there value_in) None (get (codes "default") x)) _ f b.2 in
    let same : record { field_type = b.0; default = c.0 } ≡ f = same_ok _ f c.2 in
    subst (FieldParts x) same (record { field_type = b.1; default = c.1 })

pub record EntryParts (x : Json) (e : DefaultEntry) : Type 0 where
  pub divided : Maybe (List ℕ)
  pub listed : Maybe (List (List ℕ))
  pub divided_is : optional (codes "channel") (there text_in) None (get (codes "channel") x) ≡ Ok divided
  pub listed_is : optional (codes "channels") (there texts_of) None (get (codes "channels") x) ≡ Ok listed
  pub channels : option_map (in_order []) (both (option_map names_in divided) listed) ≡ e.channels
  pub value : required (codes "value") value_in (get (codes "value") x) ≡ Ok e.value

pub entry_parts : (x : Json) (e : DefaultEntry) → entry_of x ≡ Ok e → EntryParts x e
unfolding entry_of
entry_parts x e h =
    let a = ok_of (object_in x) _ e h in
    let b = ok_of (optional (codes "channel") (there text_in) None (get (codes "channel") x)) _ e a.2 in
    let c = ok_of (optional (codes "channels") (there texts_of) None (get (codes "channels") x)) _ e b.2 in
    let d = ok_of (required (codes "value") value_in (get (codes "value") x)) _ e c.2 in
    let same : record { channels = option_map (in_order []) (both (option_map names_in b.0) c.0); value = d.0 } ≡ e = same_ok _ e d.2 in
    subst (EntryParts x) same (record { divided = b.0; listed = c.0; divided_is = b.1; listed_is = c.1; channels = refl; value = d.1 })

pub record FeatureParts (x : Json) (f : FeatureDefinition) : Type 0 where
  pub variables : optional (codes "variables") fields_of [] (get (codes "variables") x) ≡ Ok f.variables
  pub defaults : optional (codes "defaults") entries_of [] (get (codes "defaults") x) ≡ Ok f.defaults

pub feature_parts : (x : Json) (f : FeatureDefinition) → feature_of x ≡ Ok f → FeatureParts x f
unfolding feature_of
feature_parts x f h =
    let a = ok_of (object_in x) _ f h in
    let b = ok_of (optional (codes "variables") fields_of [] (get (codes "variables") x)) _ f a.2 in
    let c = ok_of (optional (codes "defaults") entries_of [] (get (codes "defaults") x)) _ f b.2 in
    let d = ok_of (optional (codes "allow-coenrollment") truth_in false (get (codes "allow-coenrollment") x)) _ f c.2 in
    let same : record { variables = b.0; defaults = c.0; allows_coenrollment = d.0 } ≡ f = same_ok _ f d.2 in
    subst (FeatureParts x) same (record { variables = b.1; defaults = c.1 })

-- ---- imports

-- what an import overrides
pub import_features : (x : Json) (i : Import) → import_of x ≡ Ok i → optional (codes "features") overrides_of [] (get (codes "features") x) ≡ Ok i.features
unfolding import_of
import_features x i h =
    let a = ok_of (object_in x) _ i h in
    let b = ok_of (required (codes "path") text_in (get (codes "path") x)) _ i a.2 in
    let c = ok_of (required (codes "channel") text_in (get (codes "channel") x)) _ i b.2 in
    let d = ok_of (optional (codes "features") overrides_of [] (get (codes "features") x)) _ i c.2 in
    let same : d.0 ≡ i.features = cc in
    subst (λ os. optional (codes "features") overrides_of [] (get (codes "features") x) ≡ Ok os) same d.1

-- ---- the module

pub record ModuleParts (x : Json) (m : Module) : Type 0 where
  pub types : Maybe Json
  pub types_is : types_in (get (codes "types") x) ≡ Ok types
  pub channels : optional (codes "channels") texts_of [] (get (codes "channels") x) ≡ Ok m.channels
  pub imports : either (codes "imports") (codes "import") imports_of [] x ≡ Ok m.imports
  pub enums : optional (codes "enums") enums_of [] (get (codes "enums") x) ≡ Ok m.enums
  pub types_enums : in_types (codes "enums") enums_of [] types ≡ Ok m.types_enums
  pub objects : optional (codes "objects") objects_of [] (get (codes "objects") x) ≡ Ok m.objects
  pub types_objects : in_types (codes "objects") objects_of [] types ≡ Ok m.types_objects
  pub features : optional (codes "features") features_of [] (get (codes "features") x) ≡ Ok m.features

pub module_parts : (x : Json) (m : Module) → module_of x ≡ Ok m → ModuleParts x m
unfolding module_of definitions_of
module_parts x m h =
    let a = ok_of (object_in x) _ m h in
    let b = ok_of (optional (codes "channels") texts_of [] (get (codes "channels") x)) _ m a.2 in
    let c = ok_of (either (codes "includes") (codes "include") texts_of [] x) _ m b.2 in
    let d = ok_of (either (codes "imports") (codes "import") imports_of [] x) _ m c.2 in
    let e = ok_of (optional (codes "enums") enums_of [] (get (codes "enums") x)) _ m d.2 in
    let t = ok_of (types_in (get (codes "types") x)) _ m e.2 in
    let te = ok_of (in_types (codes "enums") enums_of [] t.0) _ m t.2 in
    let o = ok_of (optional (codes "objects") objects_of [] (get (codes "objects") x)) _ m te.2 in
    let to = ok_of (in_types (codes "objects") objects_of [] t.0) _ m o.2 in
    let f = ok_of (optional (codes "features") features_of [] (get (codes "features") x)) _ m to.2 in
    let same : record { channels = b.0; includes = c.0; imports = d.0; enums = e.0; types_enums = te.0; objects = o.0; types_objects = to.0; features = f.0 } ≡ m = same_ok _ m f.2 in
    subst (ModuleParts x) same (record { types = t.0; types_is = t.1; channels = b.1; imports = d.1; enums = e.1; types_enums = te.1; objects = o.1; types_objects = to.1; features = f.1 })
