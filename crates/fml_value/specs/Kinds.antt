-- What kind of value a tree is, and which names a type table has.
use Rattle.std.specs.Prelude.{ℕ, Bool, true, false, List, Option, Some, None, is_some}
use Rattle.json_tree.specs.Json as json
use Rattle.json_tree.specs.Json.{Json}
use Rattle.fml_types.specs.Named.{found}
use Rattle.fml_types.specs.declared.manifest.EnumDefinition.{EnumDefinition}
use Rattle.fml_types.specs.declared.manifest.TypeTable.{TypeTable}

abbrev pub is_null : Json → Bool
is_null json.null = true
is_null x = false

abbrev pub is_truth : Json → Bool
is_truth (json.truth b) = true
is_truth x = false

abbrev pub is_whole : Json → Bool
is_whole (json.whole n) = true
is_whole x = false

abbrev pub is_text : Json → Bool
is_text (json.text s) = true
is_text x = false

abbrev pub is_object : Json → Bool
is_object (json.object ms) = true
is_object x = false

abbrev pub is_variant : EnumDefinition → List ℕ → Bool
is_variant e s = is_some (found s e.variants)

-- the text is a variant of the enum, where there is one
abbrev pub is_variant_of : Option EnumDefinition → List ℕ → Bool
is_variant_of None s = false
is_variant_of (Some e) s = is_variant e s

-- the text is a key of a map: any is, or else each variant of the enum
abbrev pub is_key : TypeTable → Option (List ℕ) → List ℕ → Bool
is_key types None s = true
is_key types (Some n) s = is_variant_of (found n types.enums) s
