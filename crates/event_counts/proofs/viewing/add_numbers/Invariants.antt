use Rattle.std.proofs.Common.{◌≡◌, ◌++◌, map, take}
use Rattle.event_counts.specs.View.{number_json}
use Rattle.event_counts.proofs.viewing.add_numbers.Given as goal

abbrev pub invariant-loop-number : goal.invariant-loop-number
invariant-loop-number l = l.items ≡ l.initial.items ++ map number_json (take l.number-index l.numbers)
