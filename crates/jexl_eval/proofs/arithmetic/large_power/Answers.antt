use Rattle.jexl_eval.proofs.Powers.{large_pow}
use Rattle.jexl_eval.proofs.arithmetic.large_power.Goals as goal

pub returns-then-exponent-ge64 : goal.returns-then-exponent-ge64
returns-then-exponent-ge64 c = large_pow c.args.base c.args.exponent c.requires.zero c.requires.one c.requires.minus_one c.if-exponent-ge64.true
