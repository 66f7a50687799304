use Rattle.std.proofs.Common.{◌≡◌, ◌++◌, drop, length, filter_map}
use Rattle.std.specs.List.{prefix_len, take_while}
use Rattle.enrol_evolver.specs.Evolution.{ended_row, is_below}
use Rattle.enrol_evolver.proofs.merging.add_ended_below.Given as goal

abbrev pub invariant-loop-row : goal.invariant-loop-row
invariant-loop-row l = record {
  rows : l.rows ++ filter_map (ended_row l.client.context.now l.client.state.now l.client.moment) (take_while (is_below l.slug) l.left)
      ≡ l.fn.rows ++ filter_map (ended_row l.client.context.now l.client.state.now l.client.moment) (take_while (is_below l.slug) l.old);
  left : drop (prefix_len (is_below l.slug) l.left) l.left ≡ drop (prefix_len (is_below l.slug) l.old) l.old;
}

abbrev pub decreases-loop-row : goal.decreases-loop-row
decreases-loop-row l = length l.left
