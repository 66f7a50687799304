-- A second number that is out of its bounds is that of no drill.
use Rattle.std.proofs.Common.{◌≡◌, sym, ◌∙◌, arith}
use Rattle.session_run.proofs.WordLists.{same_number}
use Rattle.session_run.proofs.words.read_drill.Goals as goal

pub returns-then-count-lt1-clause-none : goal.returns-then-count-lt1-clause-none
returns-then-count-lt1-clause-none c none m n first second numbers =
    let same : c.in_ok-count.count ≡ n =
    same_number c.args.count.now c.in_ok-count.count n (omega arith) (omega (arith, numbers.at_most)) (sym c.as_bytes-2.ensures.value ∙ c.in_ok-count.ensures.some) second in
    absurd (omega (arith, same, numbers.at_least))

pub returns-then-count-from-clause-none : goal.returns-then-count-from-clause-none
returns-then-count-from-clause-none c none m n first second numbers =
    let same : c.in_ok-count.count ≡ n =
    same_number c.args.count.now c.in_ok-count.count n (omega arith) (omega (arith, numbers.at_most)) (sym c.as_bytes-2.ensures.value ∙ c.in_ok-count.ensures.some) second in
    absurd (omega (arith, same, numbers.at_most))
