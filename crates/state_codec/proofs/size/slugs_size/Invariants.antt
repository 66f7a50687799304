use Rattle.std.proofs.Common.{◌≡◌, ◌≤◌, ◌*◌, map, length, take, codes}
use Rattle.row_batches.specs.Batch.{puts_text}
use Rattle.state_codec.specs.Encoding.{key_row}
use Rattle.state_codec.proofs.size.slugs_size.Given as goal

abbrev pub invariant-loop-slug : goal.invariant-loop-slug
invariant-loop-slug l = record {
  size : l.size ≡ length (puts_text (map (key_row (codes "o")) (take l.slug-index l.slugs)));
  bound : l.size ≤ 88 * l.slug-index;
}
