use Rattle.std.proofs.Common.{◌∙◌, sym}
use Rattle.version_compare.proofs.Digits.{run_stop}
use Rattle.version_compare.proofs.numbers.digit_of.Goals as goal

pub returns-else-is_ascii_digit-clause-found : goal.returns-else-is_ascii_digit-clause-found
returns-else-is_ascii_digit-clause-found c = run_stop c.in-Some.b c.args.bytes.now c.in-Some.rest.now c.in-Some.ensures.found (sym c.is_ascii_digit.ensures.value ∙ c.if-is_ascii_digit.false)
