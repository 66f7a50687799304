use Rattle.std.proofs.Common.{◌≡◌, ◌<◌, ◌+◌, ◌^◌, ◌++◌, length}
use Rattle.change_outbox.specs.Contents.{HaveSlugs, numbered}
use Rattle.change_outbox.proofs.entries.numbered.Given as goal

abbrev pub invariant-loop-change : goal.invariant-loop-change
invariant-loop-change l = record {
  items : l.vec.items ++ numbered l.number l.change-iterator.rest.items ≡ numbered l.first l.fn.changes;
  slugs : HaveSlugs l.change-iterator.rest.items → HaveSlugs l.fn.changes;
  fits : l.number + length l.change-iterator.rest.items < 2 ^ 64;
}
