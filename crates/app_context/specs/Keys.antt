-- The keys of a context, in the order in which they are tested, and what the value of each must be.
use Rattle.std.specs.Prelude.{ℕ, ◌&&◌, not, Bool, true, false, List, [], ◌∷◌, Option, Some, None, codes}
use Rattle.std.specs.List.{find}
use Rattle.json_tree.specs.Json.{Json, null, text, object, Members, no_members, member, get}
use Rattle.app_context.specs.declared.key.ContextKey.{ContextKey}
use Rattle.app_context.specs.declared.key.ContextKey.TheVariants.{AppName, Channel, AppId, AppVersion, AppBuild, Architecture, DeviceManufacturer, DeviceModel, Locale, Os, OsVersion, AndroidSdkVersion, Units, CustomTargetingAttributes}

abbrev pub name_of : ContextKey → List ℕ
name_of AppName = codes "app_name"
name_of Channel = codes "channel"
name_of AppId = codes "app_id"
name_of AppVersion = codes "app_version"
name_of AppBuild = codes "app_build"
name_of Architecture = codes "architecture"
name_of DeviceManufacturer = codes "device_manufacturer"
name_of DeviceModel = codes "device_model"
name_of Locale = codes "locale"
name_of Os = codes "os"
name_of OsVersion = codes "os_version"
name_of AndroidSdkVersion = codes "android_sdk_version"
name_of Units = codes "units"
name_of CustomTargetingAttributes = codes "custom_targeting_attributes"

-- the keys whose text may be absent
abbrev pub optional_texts : List ContextKey
optional_texts = AppId ∷ AppVersion ∷ AppBuild ∷ Architecture ∷ DeviceManufacturer ∷ DeviceModel ∷ Locale ∷ Os ∷ OsVersion ∷ AndroidSdkVersion ∷ []

-- the keys that have texts
abbrev pub text_keys : List ContextKey
text_keys = AppName ∷ Channel ∷ optional_texts

-- all keys, in the order in which they are tested
abbrev pub keys : List ContextKey
keys = AppName ∷ Channel ∷ AppId ∷ AppVersion ∷ AppBuild ∷ Architecture ∷ DeviceManufacturer ∷ DeviceModel ∷ Locale ∷ Os ∷ OsVersion ∷ AndroidSdkVersion ∷ Units ∷ CustomTargetingAttributes ∷ []

-- ---- what a value must be

abbrev pub is_text : Json → Bool
is_text (text s) = true
is_text x = false

abbrev pub are_texts : Members → Bool
are_texts no_members = true
are_texts (member k x ms) = is_text x && are_texts ms

abbrev pub is_object_of_texts : Json → Bool
is_object_of_texts (object ms) = are_texts ms
is_object_of_texts x = false

abbrev pub is_object : Json → Bool
is_object (object ms) = true
is_object x = false

-- there, and it passes the test
abbrev pub needs : (Json → Bool) → Option Json → Bool
needs test None = false
needs test (Some x) = test x

-- absent, null, or it passes the test
abbrev pub may_have : (Json → Bool) → Option Json → Bool
may_have test None = true
may_have test (Some null) = true
may_have test (Some x) = test x

-- whether the value is one that the key may have
abbrev pub fits : ContextKey → Option Json → Bool
fits AppName = needs is_text
fits Channel = needs is_text
fits Units = may_have is_object_of_texts
fits CustomTargetingAttributes = may_have is_object
fits key = may_have is_text

-- the first key whose value is none that it may have
unfoldable pub bad_key : Json → Option ContextKey
bad_key x = find (λ key. not (fits key (get (name_of key) x))) keys
