use Rattle.plain_text.proofs.Written.{moment-written}
use Rattle.plain_text.proofs.laws.written_moment_reads_back.Goals as goal

pub returns : goal.returns
returns c = moment-written
