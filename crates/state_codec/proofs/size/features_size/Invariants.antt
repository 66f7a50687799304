use Rattle.std.proofs.Common.{◌≡◌, ◌≤◌, ◌*◌, map, length, take, codes}
use Rattle.row_batches.specs.Batch.{puts_text}
use Rattle.state_codec.specs.Encoding.{key_row}
use Rattle.state_codec.proofs.size.features_size.Given as goal

abbrev pub invariant-loop-feature : goal.invariant-loop-feature
invariant-loop-feature l = record {
  size : l.size ≡ length (puts_text (map (key_row (codes "c")) (take l.feature-index l.features)));
  bound : l.size ≤ 88 * l.feature-index;
}
