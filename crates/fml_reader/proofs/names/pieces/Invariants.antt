use Rattle.std.proofs.Common.{IsUtf8, ◌≡◌, ◌≤◌, ◌-◌, ◌++◌, drop, length}
use Rattle.std.specs.List.{slice_split}
use Rattle.fml_reader.specs.Features.{is_comma, kept_names, names_in}
use Rattle.fml_reader.proofs.names.pieces.Given as goal

abbrev pub invariant-loop-len : goal.invariant-loop-len
invariant-loop-len l = record {
  within : l.start ≤ length l.bytes;
  text : IsUtf8 (drop l.start l.bytes);
  same : l.names ++ kept_names (slice_split is_comma (drop l.start l.bytes)) ≡ names_in l.bytes;
}

abbrev pub decreases-loop-len : goal.decreases-loop-len
decreases-loop-len l = length l.bytes - l.start
