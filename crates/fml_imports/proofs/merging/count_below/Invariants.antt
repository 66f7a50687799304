use Rattle.std.proofs.Common.{◌-◌, ◌≤◌}
use Rattle.fml_imports.specs.Merging.{count_below}
use Rattle.fml_imports.proofs.merging.count_below.Given as goal

abbrev pub invariant-loop-least : goal.invariant-loop-least
invariant-loop-least g l = record {
  least : l.least ≤ count_below l.name l.names;
  order : l.least ≤ l.most;
  end : l.most ≤ l.len;
}

abbrev pub decreases-loop-least : goal.decreases-loop-least
decreases-loop-least g l = l.len - l.most

abbrev pub invariant-loop-least-2 : goal.invariant-loop-least-2
invariant-loop-least-2 g l = record {
  least : l.least ≤ count_below l.name l.names;
  most : count_below l.name l.names ≤ l.most;
  end : l.most ≤ l.len;
}

abbrev pub decreases-loop-least-2 : goal.decreases-loop-least-2
decreases-loop-least-2 g l = l.most - l.least
