use Rattle.std.proofs.Common.{◌≡◌, ◌++◌}
use Rattle.fml_imports.specs.Channels.{kept_entries}
use Rattle.fml_imports.proofs.overrides.kept_entries.Given as goal

abbrev pub invariant-loop-entry : goal.invariant-loop-entry
invariant-loop-entry l = l.kept ++ kept_entries l.channel l.entry-iterator.rest.items ≡ kept_entries l.channel l.fn.entries
