-- One file of a manifest, read in the order of the walk.
use Rattle.std.specs.Prelude.{ℕ, List as Seq, [], Option, Some, None, Result, Ok, codes}
use Rattle.json_tree.specs.Json.{Json, get}
use Rattle.fml_reader.specs.Outcome.{◌>>=◌, under}
use Rattle.fml_reader.specs.Values.{object_in}
use Rattle.fml_reader.specs.Fields.{enums_of, objects_of}
use Rattle.fml_reader.specs.Features.{texts_of, features_of}
use Rattle.fml_reader.specs.Imports.{imports_of}
use Rattle.fml_reader.specs.Walks.{optional, either, in_types}
use Rattle.fml_reader.specs.declared.fault.ModuleRefusal.{ModuleRefusal}
use Rattle.fml_reader.specs.declared.imports.Import.{Import}
use Rattle.fml_reader.specs.declared.module.Module.{Module}

-- `types`, which is an object where it is there
abbrev pub types_in : Option Json → Result (Option Json) ModuleRefusal
types_in None = Ok None
types_in (Some x) = do
  o ← under (codes "types") (object_in x)
  Ok (Some x)

-- the enums, objects and features of a file with these channels, includes and imports
unfoldable pub definitions_of : Seq (Seq ℕ) → Seq (Seq ℕ) → Seq Import → Json → Result Module ModuleRefusal
definitions_of channels includes imports x = do
  enums ← optional (codes "enums") enums_of [] (get (codes "enums") x)
  types ← types_in (get (codes "types") x)
  types_enums ← in_types (codes "enums") enums_of [] types
  objects ← optional (codes "objects") objects_of [] (get (codes "objects") x)
  types_objects ← in_types (codes "objects") objects_of [] types
  features ← optional (codes "features") features_of [] (get (codes "features") x)
  Ok (record { channels = channels; includes = includes; imports = imports; enums = enums; types_enums = types_enums; objects = objects; types_objects = types_objects; features = features })

unfoldable pub module_of : Json → Result Module ModuleRefusal
module_of x = do
  o ← object_in x
  channels ← optional (codes "channels") texts_of [] (get (codes "channels") x)
  includes ← either (codes "includes") (codes "include") texts_of [] x
  imports ← either (codes "imports") (codes "import") imports_of [] x
  definitions_of channels includes imports x
