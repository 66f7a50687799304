use Rattle.std.proofs.Common.{arith}
use Rattle.system_host.proofs.Limits.{within_limit}
use Rattle.system_host.proofs.shelf.read_limited.Goals as goal

pub returns-clause-bytes : goal.returns-clause-bytes
returns-clause-bytes g c =
    within_limit g.R.Read.remaining c.args.reader c.take.result.inner c.take.result.limit _ c.new-bytes.result.items c.take.ensures.limit c.take.ensures.inner c.new-bytes.ensures.items c.in_ok-read_to_end.ensures.bytes (omega (arith, c.if-length-gt-MOST_BYTES.false, c.len-length.ensures, c.read_to_end.new.buf.ok.0))
