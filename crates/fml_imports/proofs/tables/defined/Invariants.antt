use Rattle.std.proofs.Common.{◌≡◌, ◌++◌, map}
use Rattle.fml_imports.specs.Held.{held}
use Rattle.fml_imports.specs.Outcome.{each}
use Rattle.fml_imports.specs.Overrides.{overrides_of}
use Rattle.fml_imports.specs.Tables.{module_for, with_module, tables_of}
use Rattle.fml_imports.proofs.tables.defined.Given as goal

abbrev pub invariant-loop-file : goal.invariant-loop-file
invariant-loop-file l = record {
  tables : each with_module (held l.definitions.tables) (map (module_for l.asked) l.file-iterator.rest.items) ≡ tables_of (map (module_for l.asked) l.fn.files);
  overrides : l.definitions.overrides ++ overrides_of l.asked l.file-iterator.rest.items ≡ overrides_of l.asked l.fn.files;
}
