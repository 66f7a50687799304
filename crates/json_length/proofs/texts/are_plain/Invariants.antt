use Rattle.std.proofs.Common.{◌≡◌, length, take}
use Rattle.std.specs.Bool.{OnTrue}
use Rattle.json.specs.Print.{escape}
use Rattle.json_length.proofs.texts.are_plain.Given as goal

abbrev pub invariant-loop-byte : goal.invariant-loop-byte
invariant-loop-byte l = OnTrue l.plain (length (escape (take l.byte-index l.bytes)) ≡ l.byte-index)
