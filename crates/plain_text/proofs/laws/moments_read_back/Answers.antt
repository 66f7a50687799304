use Rattle.plain_text.proofs.Forms.{day_reads_back, plain_time_reads_back, utc_time_reads_back, fraction_is_dropped, ahead_reads_back, behind_reads_back}
use Rattle.plain_text.proofs.laws.moments_read_back.Goals as goal

pub returns-clause-day : goal.returns-clause-day
returns-clause-day c = day_reads_back

pub returns-clause-plain : goal.returns-clause-plain
returns-clause-plain c = plain_time_reads_back

pub returns-clause-utc : goal.returns-clause-utc
returns-clause-utc c = utc_time_reads_back

pub returns-clause-fraction : goal.returns-clause-fraction
returns-clause-fraction c = fraction_is_dropped

pub returns-clause-ahead : goal.returns-clause-ahead
returns-clause-ahead c = ahead_reads_back

pub returns-clause-behind : goal.returns-clause-behind
returns-clause-behind c = behind_reads_back
