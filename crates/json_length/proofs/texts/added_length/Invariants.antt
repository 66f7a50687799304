use Rattle.std.proofs.Common.{◌≡◌, ◌≤◌, ◌+◌, ◌*◌, length, take}
use Rattle.json.specs.Print.{escape}
use Rattle.json_length.proofs.texts.added_length.Given as goal

abbrev pub invariant-loop-byte : goal.invariant-loop-byte
invariant-loop-byte l = record {
  length : l.added + l.byte-index ≡ length (escape (take l.byte-index l.bytes));
  bound : l.added ≤ 5 * l.byte-index;
}
