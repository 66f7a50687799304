-- One digit more.
use Rattle.std.proofs.Common.{◌≡◌, ◌<◌, ◌+◌, ◌/◌, ◌%◌, ◌^◌, ◌∷◌, [], length, decimal, ap, ◌∙◌, arith, length-append}
use Rattle.std.proofs.lemmas.Fmt.{decimal_step, decimal_digit, decimal_nonempty, length-decimal-le}
use Rattle.json_length.proofs.numbers.digits.Goals as goal

pub loop-rest-preserved : goal.loop-rest-preserved
loop-rest-preserved c =
    let rest = c.loop-rest.rest in
    let fits : rest < 2 ^ 64 = omega (arith, c.loop-rest.auto.rest-fits) in
    let step : length (decimal rest) ≡ length (decimal (rest / 10)) + 1 = ap length (decimal_step rest c.loop-rest-test.true fits) ∙ length-append (decimal (rest / 10)) ((48 + rest % 10) ∷ []) in
    let some = decimal_nonempty (rest / 10) (omega (arith, fits)) in
    let most = length-decimal-le 20 c.args.number (omega arith) (omega (arith, c.ranges.number.fits)) (omega (arith, c.ranges.number.fits)) in
    record {
      count = omega (arith, step, c.loop-rest.invariant.count);
      most = omega (arith, step, some, most, c.loop-rest.invariant.count);
    }

pub returns-clause-length : goal.returns-clause-length
returns-clause-length c =
    let one : length (decimal c.loop-rest.rest) ≡ 1 = ap length (decimal_digit c.loop-rest.rest (omega (arith, c.loop-rest-test.false))) in
    omega (arith, one, c.loop-rest.invariant.count)
