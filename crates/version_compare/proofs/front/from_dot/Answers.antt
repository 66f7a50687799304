use Rattle.sequences.specs.Runs.{run}
use Rattle.version_compare.specs.Bytes.{is_no_dot}
use Rattle.version_compare.proofs.RunLaws.{dot_on, dot_stop, after_none}
use Rattle.version_compare.proofs.front.from_dot.Goals as goal

pub returns-then-b-eq46 : goal.returns-then-b-eq46
returns-then-b-eq46 c = dot_stop (run is_no_dot c.args.bytes.now).1 c.in-Some.b c.loop-b.rest.now c.in-Some.after.now c.loop-b.invariant.same c.in-Some.ensures.found c.if-b-eq46.true

pub loop-b-preserved : goal.loop-b-preserved
loop-b-preserved c = record { same = dot_on (run is_no_dot c.args.bytes.now).1 c.in-Some.b c.loop-b.rest.now c.in-Some.after.now c.loop-b.invariant.same c.in-Some.ensures.found c.if-b-eq46.false }

pub returns : goal.returns
returns c = after_none is_no_dot (run is_no_dot c.args.bytes.now).1 c.loop-b.rest.now c.loop-b.invariant.same c.in_default.ensures.found
