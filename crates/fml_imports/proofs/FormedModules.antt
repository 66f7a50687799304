-- What is read of a value that nests at most 64 deep is well formed.
use Rattle.std.proofs.Common.{◌≡◌, ◌≤◌, ℕ, suc, max, Bool, true, false, List, [], ◌∷◌, length, Option as Maybe, Some, None, Result, Ok, sym, ap, ◌∙◌, subst, arith}
use Rattle.std.specs.Prelude.{All, IsTrue, ⊤, codes, decimal, nat_le, bytes_eq, option_map, if◌then◌else◌}
use Rattle.json_tree.specs.Json.{Json, null, truth, whole, odd, text, list, object, get, get_member, Items, no_items, item, Members, no_members, member, depth, items_depth, members_depth}
use Rattle.json_tree.specs.Tree.{json_of}
use Rattle.json_tree.specs.Bytes.{text_of}
use Rattle.plain_text.specs.Names.{is_name}
use Rattle.fml_types.specs.Shapes.{shape_of}
use Rattle.fml_types.specs.TypeTexts.{spelled}
use Rattle.fml_types.specs.declared.field_type.FieldType.{FieldType}
use Rattle.fml_types.specs.declared.manifest.DefaultEntry.{DefaultEntry}
use Rattle.fml_types.specs.declared.manifest.EnumDefinition.{EnumDefinition}
use Rattle.fml_types.specs.declared.manifest.ObjectDefinition.{ObjectDefinition}
use Rattle.fml_reader.specs.Outcome.{◌>>=◌, under}
use Rattle.json_tree.specs.Inverse.{tree_from}
use Rattle.fml_reader.specs.Imports.{overrides_of, import_of, imports_of}
use Rattle.fml_reader.specs.Values.{object_in, value_in, is_key}
use Rattle.fml_reader.specs.Walks.{each_item, each_member, members_in, keyed, there, required, optional, first_there, in_types}
use Rattle.fml_reader.specs.Fields.{type_in, field_of, fields_of, variant_of, some_there, enum_of, enums_of, object_of, objects_of}
use Rattle.fml_reader.specs.Features.{names_in, in_order, both, entry_of, entries_of, feature_of, features_of}
use Rattle.fml_reader.specs.Modules.{types_in, module_of}
use Rattle.fml_reader.specs.declared.fault.ModuleRefusal.{ModuleRefusal}
use Rattle.fml_reader.specs.declared.imports.Import.{Import}
use Rattle.fml_reader.specs.declared.module.Module.{Module}
use Rattle.fml_imports.specs.Sound.{IsRead}
use Rattle.fml_imports.specs.WellFormed.{IsSpelledType, IsShort, IsShortDefault, IsWellFormedField, AreWellFormedFields, AreInOrder, IsWellFormedEntry, IsWellFormedEnum, IsWellFormedObject, IsWellFormedFeature}
use Rattle.fml_imports.proofs.Alls.{all_nil, all_cons}
use Rattle.fml_imports.proofs.ModuleParts.{ok_of, same_ok, under_ok, keyed_ok, field_parts, entry_parts, feature_parts, import_features, module_parts}
use Rattle.fml_imports.proofs.OrderedNames.{ordered}
use Rattle.fml_imports.proofs.ReadModules.{needed_ok}
use Rattle.fml_imports.proofs.Singles.{same_shapes}
use Rattle.json_tree.proofs.Trees.{same_values}
use Rattle.fml_imports.proofs.SpelledTypes.{spelled_type}

-- ---- depths of what stands in a value

abbrev IsWithin : ℕ → Maybe Json → Type 0
IsWithin n None = ⊤
IsWithin n (Some x) = depth x ≤ n

below_max : (a b n : ℕ) → max a b ≤ n → (a ≤ n) × (b ≤ n)
below_max a b n h = (omega arith, omega arith)

member_within : (k : List ℕ) (ms : Members) (n : ℕ) → members_depth ms ≤ n → IsWithin n (get_member k ms)
member_within k no_members n h = tt
member_within k (member l x ms) n h =
    let parts = below_max (depth x) (members_depth ms) n h in
    let rest = member_within k ms n parts.1 in
    elim (bytes_eq l k) as (λ b. IsWithin n (if b then Some x else get_member k ms)) [ true ↦ parts.0 | false ↦ rest ]

one_less : (a n : ℕ) → suc a ≤ suc n → a ≤ n
one_less a n h = omega arith

get_within : (k : List ℕ) (x : Json) (n : ℕ) → depth x ≤ suc n → IsWithin n (get k x)
get_within k null n h = tt
get_within k (truth b) n h = tt
get_within k (whole m) n h = tt
get_within k odd n h = tt
get_within k (text s) n h = tt
get_within k (list xs) n h = tt
get_within k (object ms) n h = member_within k ms n (one_less (members_depth ms) n h)

-- ---- what is read of a value within a depth

-- what is read of a value that nests at most so deep has this
abbrev Reads : {A : Type 0} → ℕ → (Json → Result A ModuleRefusal) → (A → Type 0) → Type 0
Reads {A = A} n read P = (x : Json) (a : A) → depth x ≤ n → read x ≡ Ok a → P a

required_ok : {A : Type 0} (P : A → Type 0) (n : ℕ) (k : List ℕ) (read : Json → Result A ModuleRefusal) (o : Maybe Json) (a : A) → Reads n read P → IsWithin n o → required k read o ≡ Ok a → P a
required_ok P n k read None a step within h = absurd cc
required_ok P n k read (Some x) a step within h = step x a within (under_ok k (read x) a h)

optional_ok : {A : Type 0} (P : A → Type 0) (n : ℕ) (k : List ℕ) (read : Json → Result A ModuleRefusal) (without : A) (o : Maybe Json) (a : A) → P without → Reads n read P → IsWithin n o → optional k read without o ≡ Ok a → P a
optional_ok P n k read without None a default step within h = let same : without ≡ a = cc in subst P same default
optional_ok P n k read without (Some x) a default step within h = step x a within (under_ok k (read x) a h)

either_ok : {A : Type 0} (P : A → Type 0) (n : ℕ) (plural single : List ℕ) (read : Json → Result A ModuleRefusal) (without : A) (o other : Maybe Json) (a : A)
    → P without → Reads n read P → IsWithin n o → IsWithin n other → first_there plural single read without o other ≡ Ok a → P a
either_ok P n plural single read without None other a default step within beside h = optional_ok P n single read without other a default step beside h
either_ok P n plural single read without (Some x) other a default step within beside h = step x a within (under_ok plural (read x) a h)

in_types_ok : {A : Type 0} (P : A → Type 0) (n : ℕ) (k : List ℕ) (read : Json → Result A ModuleRefusal) (without : A) (o : Maybe Json) (a : A) → P without → Reads n read P → IsWithin (suc n) o → in_types k read without o ≡ Ok a → P a
in_types_ok P n k read without None a default step within h = let same : without ≡ a = cc in subst P same default
in_types_ok P n k read without (Some x) a default step within h = optional_ok P n k read without (get k x) a default step (get_within k x n within) (under_ok (codes "types") (optional k read without (get k x)) a h)

items_ok : {A : Type 0} (P : A → Type 0) (n : ℕ) (read : Json → Result A ModuleRefusal) → Reads n read P → (i : ℕ) (xs : Items) (as' : List A) → items_depth xs ≤ n → each_item read i xs ≡ Ok as' → All P as'
items_ok P n read step i no_items as' within h = let same : [] ≡ as' = cc in subst (All P) same (all_nil P)
items_ok P n read step i (item x xs) as' within h =
    let first = ok_of (under (decimal i) (read x)) (λ a. each_item read (suc i) xs >>= λ bs. Ok (a ∷ bs)) as' h in
    let others = ok_of (each_item read (suc i) xs) (λ bs. Ok (first.0 ∷ bs)) as' first.2 in
    let parts = below_max (depth x) (items_depth xs) n within in
    let same : first.0 ∷ others.0 ≡ as' = cc in
    subst (All P) same (all_cons P first.0 others.0 (step x first.0 parts.0 (under_ok (decimal i) (read x) first.0 first.1)) (items_ok P n read step (suc i) xs others.0 parts.1 others.1))

-- a member of such a key, whose value nests at most so deep, has this
abbrev ReadsMembers : {A : Type 0} → ℕ → (List ℕ → Bool) → (Json → Result A ModuleRefusal) → (List ℕ × A → Type 0) → Type 0
ReadsMembers {A = A} n test read P = (k : List ℕ) (x : Json) (a : A) → IsTrue (test k) → depth x ≤ n → read x ≡ Ok a → P (k, a)

each_ok : {A : Type 0} (P : List ℕ × A → Type 0) (n : ℕ) (test : List ℕ → Bool) (read : Json → Result A ModuleRefusal) → ReadsMembers n test read P → (ms : Members) (ps : List (List ℕ × A)) → members_depth ms ≤ n → each_member test read ms ≡ Ok ps → All P ps
each_ok P n test read step no_members ps within h = let same : [] ≡ ps = cc in subst (All P) same (all_nil P)
each_ok P n test read step (member k x ms) ps within h =
    let first = ok_of (under k (keyed (test k) (read x))) (λ a. each_member test read ms >>= λ as'. Ok ((k, a) ∷ as')) ps h in
    let others = ok_of (each_member test read ms) (λ as'. Ok ((k, first.0) ∷ as')) ps first.2 in
    let one = keyed_ok (test k) (read x) first.0 (under_ok k (keyed (test k) (read x)) first.0 first.1) in
    let parts = below_max (depth x) (members_depth ms) n within in
    let same : (k, first.0) ∷ others.0 ≡ ps = cc in
    subst (All P) same (all_cons P (k, first.0) others.0 (step k x first.0 one.0 parts.0 one.1) (each_ok P n test read step ms others.0 parts.1 others.1))

members_ok : {A : Type 0} (P : List ℕ × A → Type 0) (n : ℕ) (test : List ℕ → Bool) (read : Json → Result A ModuleRefusal) → ReadsMembers n test read P → Reads (suc n) (members_in test read) (All P)
members_ok P n test read step (object ms) ps within h = each_ok P n test read step ms ps (one_less (members_depth ms) n within) h
members_ok P n test read step x ps within h = absurd cc

-- ---- fields

value_short : Reads 59 value_in IsShort
value_short x t within h =
    let read = keyed_ok (nat_le (length (text_of x)) 65536) (Ok (tree_from x)) t h in
    let same : x ≡ json_of t = sym (same_values x) ∙ ap json_of (same_ok (tree_from x) t read.1) in
    record { bytes = subst (λ y. IsTrue (nat_le (length (text_of y)) 65536)) same read.0; levels = subst (λ y. depth y ≤ 59) same within }

default_short : Reads 59 (there value_in) IsShortDefault
default_short x d within h =
    let a = ok_of (value_in x) (λ t. Ok (Some t)) d h in
    subst IsShortDefault (same_ok (Some a.0) d a.2) (value_short x a.0 within a.1)

type_spelled : (x : Json) (t : FieldType) → type_in x ≡ Ok t → IsSpelledType (shape_of t)
type_spelled (text b) t h =
    let found = needed_ok (spelled b) t h in
    subst IsSpelledType (sym (same_shapes found.0) ∙ ap shape_of found.2) (spelled_type b found.0 found.1)
type_spelled x t h = absurd cc

field_formed : ReadsMembers 60 is_key field_of IsWellFormedField
field_formed k x f taken within h =
    let parts = field_parts x f h in
    let of_type = required_ok (λ (t : FieldType). IsSpelledType (shape_of t)) 59 (codes "type") type_in (get (codes "type") x) f.field_type (λ y t in' read. type_spelled y t read) (get_within (codes "type") x 59 within) parts.field_type in
    let default = optional_ok IsShortDefault 59 (codes "default") (there value_in) None (get (codes "default") x) f.default tt default_short (get_within (codes "default") x 59 within) parts.default in
    record { key = taken; of_type = of_type; default = default }

fields_formed : Reads 61 fields_of AreWellFormedFields
fields_formed = members_ok IsWellFormedField 60 is_key field_of field_formed

-- ---- enums and objects

HaveKeys : List (List ℕ × Unit {0}) → Type 0
HaveKeys vs = All (λ (v : List ℕ × Unit {0}). IsTrue (is_key v.0)) vs

variants_keyed : (x : Json) (vs : List (List ℕ × Unit {0})) (n : ℕ) → depth x ≤ suc n → members_in is_key variant_of x ≡ Ok vs → HaveKeys vs
unfolding HaveKeys
variants_keyed x vs n within h = members_ok (λ (v : List ℕ × Unit {0}). IsTrue (is_key v.0)) n is_key variant_of (λ k y u taken in' read. taken) x vs within h

enum_formed : ReadsMembers 62 is_name enum_of IsWellFormedEnum
unfolding enum_of HaveKeys
enum_formed k x e taken within h =
    let a = ok_of (object_in x) _ e h in
    let b = ok_of (required (codes "variants") (members_in is_key variant_of) (get (codes "variants") x)) _ e a.2 in
    let c = ok_of (under (codes "variants") (some_there b.0)) _ e b.2 in
    let same : record { variants = b.0 } ≡ e = same_ok _ e c.2 in
    let keys = required_ok HaveKeys 61 (codes "variants") (members_in is_key variant_of) (get (codes "variants") x) b.0 (λ y vs in' read. variants_keyed y vs 60 in' read) (get_within (codes "variants") x 61 within) b.1 in
    subst (λ (g : EnumDefinition). IsWellFormedEnum (k, g)) same (record { name = taken; variants = keys })

enums_formed : Reads 63 enums_of (All IsWellFormedEnum)
enums_formed = members_ok IsWellFormedEnum 62 is_name enum_of enum_formed

object_formed : ReadsMembers 62 is_name object_of IsWellFormedObject
unfolding object_of
object_formed k x o taken within h =
    let a = ok_of (object_in x) _ o h in
    let b = ok_of (required (codes "fields") fields_of (get (codes "fields") x)) _ o a.2 in
    let same : record { fields = b.0 } ≡ o = same_ok _ o b.2 in
    let fields = required_ok AreWellFormedFields 61 (codes "fields") fields_of (get (codes "fields") x) b.0 fields_formed (get_within (codes "fields") x 61 within) b.1 in
    subst (λ (g : ObjectDefinition). IsWellFormedObject (k, g)) same (record { name = taken; fields = fields })

objects_formed : Reads 63 objects_of (All IsWellFormedObject)
objects_formed = members_ok IsWellFormedObject 62 is_name object_of object_formed

-- ---- entries

channels_ordered : (o : Maybe (List (List ℕ))) → AreInOrder (option_map (in_order []) o)
channels_ordered None = tt
channels_ordered (Some names) = ordered names

entry_formed : Reads 60 entry_of IsWellFormedEntry
entry_formed x e within h =
    let parts = entry_parts x e h in
    let short = required_ok IsShort 59 (codes "value") value_in (get (codes "value") x) e.value value_short (get_within (codes "value") x 59 within) parts.value in
    record { channels = subst AreInOrder parts.channels (channels_ordered (both (option_map names_in parts.divided) parts.listed)); value = short }

abbrev pub AreWellFormedEntries : List DefaultEntry → Type 0
AreWellFormedEntries es = All IsWellFormedEntry es

entries_formed : Reads 61 entries_of AreWellFormedEntries
entries_formed (list xs) es within h = items_ok IsWellFormedEntry 60 entry_of entry_formed 0 xs es (one_less (items_depth xs) 60 within) h
entries_formed x es within h = absurd cc

-- ---- imports

-- the entries that an import lays over a feature
abbrev pub IsWellFormedOverride : List ℕ × List DefaultEntry → Type 0
IsWellFormedOverride o = AreWellFormedEntries o.1

overrides_formed : Reads 61 overrides_of (All IsWellFormedOverride)
overrides_formed = members_ok IsWellFormedOverride 60 is_name entries_of (λ k x es taken within read. entries_formed x es (let deep : depth x ≤ 60 = within in omega arith) read)

abbrev pub IsWellFormedImport : Import → Type 0
IsWellFormedImport i = All IsWellFormedOverride i.features

import_formed : Reads 62 import_of IsWellFormedImport
import_formed x i within h =
    optional_ok (All IsWellFormedOverride) 61 (codes "features") overrides_of [] (get (codes "features") x) i.features (all_nil IsWellFormedOverride) overrides_formed (get_within (codes "features") x 61 within) (import_features x i h)

imports_formed : Reads 63 imports_of (All IsWellFormedImport)
imports_formed (list xs) is within h = items_ok IsWellFormedImport 62 import_of import_formed 0 xs is (one_less (items_depth xs) 62 within) h
imports_formed x is within h = absurd cc

-- ---- features

feature_formed : ReadsMembers 62 is_name feature_of IsWellFormedFeature
feature_formed k x f taken within h =
    let parts = feature_parts x f h in
    let variables = optional_ok AreWellFormedFields 61 (codes "variables") fields_of [] (get (codes "variables") x) f.variables (all_nil IsWellFormedField) fields_formed (get_within (codes "variables") x 61 within) parts.variables in
    let entries = optional_ok AreWellFormedEntries 61 (codes "defaults") entries_of [] (get (codes "defaults") x) f.defaults (all_nil IsWellFormedEntry) entries_formed (get_within (codes "defaults") x 61 within) parts.defaults in
    record { variables = variables; entries = entries }

features_formed : Reads 63 features_of (All IsWellFormedFeature)
features_formed = members_ok IsWellFormedFeature 62 is_name feature_of feature_formed

-- ---- the module

types_within : (n : ℕ) (o t : Maybe Json) → IsWithin n o → types_in o ≡ Ok t → IsWithin n t
types_within n None t within h = subst (IsWithin n) (same_ok None t h) tt
types_within n (Some x) t within h =
    let a = ok_of (under (codes "types") (object_in x)) (λ u. Ok (Some x)) t h in
    subst (IsWithin n) (same_ok (Some x) t a.2) within

lower : {A : Type 0} (P : A → Type 0) (n : ℕ) (read : Json → Result A ModuleRefusal) → Reads (suc n) read P → Reads n read P
lower P n read step x a within h = step x a (let deep : depth x ≤ n = within in omega arith) h

pub record IsFormedModule (m : Module) : Type 0 where
  pub imports : All IsWellFormedImport m.imports
  pub enums : All IsWellFormedEnum m.enums
  pub types_enums : All IsWellFormedEnum m.types_enums
  pub objects : All IsWellFormedObject m.objects
  pub types_objects : All IsWellFormedObject m.types_objects
  pub features : All IsWellFormedFeature m.features

module_formed : (x : Json) (m : Module) → depth x ≤ 64 → module_of x ≡ Ok m → IsFormedModule m
module_formed x m deep h =
    let p = module_parts x m h in
    let within : (k : List ℕ) → IsWithin 63 (get k x) = λ k. get_within k x 63 deep in
    let types = types_within 63 (get (codes "types") x) p.types (within (codes "types")) p.types_is in
    record {
      imports = either_ok (All IsWellFormedImport) 63 (codes "imports") (codes "import") imports_of [] (get (codes "imports") x) (get (codes "import") x) m.imports (all_nil IsWellFormedImport) imports_formed (within (codes "imports")) (within (codes "import")) p.imports;
      enums = optional_ok (All IsWellFormedEnum) 63 (codes "enums") enums_of [] (get (codes "enums") x) m.enums (all_nil IsWellFormedEnum) enums_formed (within (codes "enums")) p.enums;
      types_enums = in_types_ok (All IsWellFormedEnum) 62 (codes "enums") enums_of [] p.types m.types_enums (all_nil IsWellFormedEnum) (lower (All IsWellFormedEnum) 62 enums_of enums_formed) types p.types_enums;
      objects = optional_ok (All IsWellFormedObject) 63 (codes "objects") objects_of [] (get (codes "objects") x) m.objects (all_nil IsWellFormedObject) objects_formed (within (codes "objects")) p.objects;
      types_objects = in_types_ok (All IsWellFormedObject) 62 (codes "objects") objects_of [] p.types m.types_objects (all_nil IsWellFormedObject) (lower (All IsWellFormedObject) 62 objects_of objects_formed) types p.types_objects;
      features = optional_ok (All IsWellFormedFeature) 63 (codes "features") features_of [] (get (codes "features") x) m.features (all_nil IsWellFormedFeature) features_formed (within (codes "features")) p.features;
    }

pub formed_module : (m : Module) → IsRead m → IsFormedModule m
formed_module m read = module_formed read.tree m read.shallow read.reads
