use Rattle.std.proofs.Common.{◌≡◌, ◌++◌, ℕ, List, map}
use Rattle.fml_types.specs.declared.manifest.DefaultEntry.{DefaultEntry}
use Rattle.fml_imports.specs.Channels.{entries_for}
use Rattle.fml_imports.specs.Overrides.{import_overrides}
use Rattle.fml_imports.proofs.overrides.push_import.Given as goal

abbrev pub invariant-loop-name : goal.invariant-loop-name
invariant-loop-name l = l.overrides ++ map (λ (o : List ℕ × List DefaultEntry). (o.0, entries_for l.asked l.channel o.1)) l.name-iterator.rest.items ≡ l.fn.overrides ++ import_overrides l.asked l.channel l.fn.import
