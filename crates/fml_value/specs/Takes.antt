-- Which trees a type takes: those that an overlay of a value of the type reads.
use Rattle.std.specs.Prelude.{Bool, false, ◌&&◌, ◌||◌, true, Option, Some, None}
use Rattle.json_tree.specs.Json as json
use Rattle.json_tree.specs.Json.{Json, Items}
use Rattle.fml_types.specs.Named.{found}
use Rattle.fml_types.specs.Shape.{Shape, boolean, int, string, text, image, option, list, map, named}
use Rattle.fml_types.specs.declared.manifest.EnumDefinition.{EnumDefinition}
use Rattle.fml_types.specs.declared.manifest.ObjectDefinition.{ObjectDefinition}
use Rattle.fml_types.specs.declared.manifest.TypeTable.{TypeTable}
use Rattle.fml_value.specs.Kinds.{is_null, is_truth, is_whole, is_text, is_object, is_variant}

-- each item is one
abbrev pub all_items : (Json → Bool) → Items → Bool
all_items p json.no_items = true
all_items p (json.item x xs) = p x && all_items p xs

-- a list of such items
abbrev pub is_list_of : (Json → Bool) → Json → Bool
is_list_of p (json.list xs) = all_items p xs
is_list_of p x = false

-- the name of a variant
abbrev pub is_variant_text : EnumDefinition → Json → Bool
is_variant_text e (json.text s) = is_variant e s
is_variant_text e x = false

-- an enum takes its variants, an object every object
abbrev pub takes_named : Option EnumDefinition → Option ObjectDefinition → Json → Bool
takes_named (Some e) o x = is_variant_text e x
takes_named None (Some o) x = is_object x
takes_named None None x = false

abbrev pub takes : TypeTable → Shape → Json → Bool
takes types boolean x = is_truth x
takes types int x = is_whole x
takes types string x = is_text x
takes types text x = is_text x
takes types image x = is_text x
takes types (option s) x = is_null x || takes types s x
takes types (list s) x = is_list_of (takes types s) x
takes types (map k s) x = is_object x
takes types (named n) x = takes_named (found n types.enums) (found n types.objects) x
