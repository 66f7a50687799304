use Rattle.sequences.specs.Runs.{run}
use Rattle.version_compare.specs.Bytes.{is_string_byte}
use Rattle.version_compare.proofs.RunLaws.{after_on, after_stop, after_none}
use Rattle.version_compare.proofs.front.after_string.Goals as goal

pub returns-else-is_string_byte : goal.returns-else-is_string_byte
returns-else-is_string_byte c = after_stop is_string_byte (run is_string_byte c.args.bytes.now).1 c.in-Some.b c.loop-b.rest.now c.in-Some.after.now c.is_string_byte.result c.loop-b.invariant.same c.in-Some.ensures.found c.is_string_byte.ensures c.if-is_string_byte.false

pub loop-b-preserved : goal.loop-b-preserved
loop-b-preserved c = record { same = after_on is_string_byte (run is_string_byte c.args.bytes.now).1 c.in-Some.b c.loop-b.rest.now c.in-Some.after.now c.is_string_byte.result c.loop-b.invariant.same c.in-Some.ensures.found c.is_string_byte.ensures c.if-is_string_byte.true }

pub returns : goal.returns
returns c = after_none is_string_byte (run is_string_byte c.args.bytes.now).1 c.loop-b.rest.now c.loop-b.invariant.same c.in_default.ensures.found
