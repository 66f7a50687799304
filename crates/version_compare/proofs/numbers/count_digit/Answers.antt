use Rattle.version_compare.proofs.Digits.{value_fits}
use Rattle.version_compare.proofs.numbers.count_digit.Goals as goal

pub with_digit-requires-clause-fits : goal.with_digit-requires-clause-fits
with_digit-requires-clause-fits c = value_fits c.args.count c.args.value c.if-count-lt18.true c.requires.fits
