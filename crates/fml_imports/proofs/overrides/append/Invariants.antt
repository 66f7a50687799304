use Rattle.std.proofs.Common.{◌≡◌, ◌++◌}
use Rattle.fml_imports.proofs.overrides.append.Given as goal

abbrev pub invariant-loop-entry : goal.invariant-loop-entry
invariant-loop-entry l = l.defaults ++ l.entry-iterator.rest.items ≡ l.fn.defaults ++ l.fn.entries
