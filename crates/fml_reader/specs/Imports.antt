-- Imports and the entries that they lay over features.
use Rattle.std.specs.Prelude.{ℕ, List as Seq, [], Result, Ok, codes}
use Rattle.json_tree.specs.Json.{Json, get}
use Rattle.plain_text.specs.Names.{is_name}
use Rattle.fml_types.specs.declared.manifest.DefaultEntry.{DefaultEntry}
use Rattle.fml_reader.specs.Outcome.{◌>>=◌}
use Rattle.fml_reader.specs.Values.{object_in, text_in}
use Rattle.fml_reader.specs.Features.{entries_of}
use Rattle.fml_reader.specs.Walks.{items_in, members_in, required, optional}
use Rattle.fml_reader.specs.declared.fault.ModuleRefusal.{ModuleRefusal}
use Rattle.fml_reader.specs.declared.imports.Import.{Import}

-- lists of entries, under names of features
abbrev pub overrides_of : Json → Result (Seq (Seq ℕ × Seq DefaultEntry)) ModuleRefusal
overrides_of = members_in is_name entries_of

unfoldable pub import_of : Json → Result Import ModuleRefusal
import_of x = do
  o ← object_in x
  path ← required (codes "path") text_in (get (codes "path") x)
  channel ← required (codes "channel") text_in (get (codes "channel") x)
  features ← optional (codes "features") overrides_of [] (get (codes "features") x)
  Ok (record { path = path; channel = channel; features = features })

abbrev pub imports_of : Json → Result (Seq Import) ModuleRefusal
imports_of = items_in import_of
