use Rattle.std.proofs.Common.{◌≡◌, ◌++◌}
use Rattle.fml_types.specs.Named.{AreRising}
use Rattle.fml_imports.specs.Merging.{with_new, IsFirstAbove}
use Rattle.fml_imports.specs.Outcome.{each}
use Rattle.fml_imports.proofs.merging.merged.Given as goal

abbrev pub invariant-loop-name : goal.invariant-loop-name
invariant-loop-name g l = record {
  added : each (with_new l.others) (l.done.items ++ l.left.items) l.name-iterator.rest.items ≡ each (with_new l.fn.others) l.fn.there l.fn.added;
  others : AreRising l.others;
  rest : AreRising l.name-iterator.rest.items;
  rising : AreRising (l.done.items ++ l.left.items);
  above : IsFirstAbove l.done.items l.name-iterator.rest.items;
}
