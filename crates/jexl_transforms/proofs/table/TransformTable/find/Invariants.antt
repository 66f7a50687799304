use Rattle.std.proofs.Common.{◌≡◌}
use Rattle.jexl_transforms.specs.Meaning.{has_name}
use Rattle.jexl_transforms.specs.Table.{names_of}
use Rattle.jexl_transforms.proofs.Named.{has_from}
use Rattle.jexl_transforms.proofs.table.TransformTable.find.Given as goal

abbrev pub invariant-loop-entry : goal.invariant-loop-entry
invariant-loop-entry g l = has_name l.name (names_of l.self) ≡ has_from (λ entry. entry.name) l.name l.entry-items l.entry-index
