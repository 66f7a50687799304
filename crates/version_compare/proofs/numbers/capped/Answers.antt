use Rattle.std.proofs.Common.{arith}
use Rattle.version_compare.proofs.Digits.{capped_bound}
use Rattle.version_compare.proofs.numbers.capped.Goals as goal

pub returns-else-count-gt18-clause-bounded : goal.returns-else-count-gt18-clause-bounded
returns-else-count-gt18-clause-bounded c = capped_bound c.args.count c.args.value (omega (arith, c.if-count-gt18.false)) c.requires.fits
