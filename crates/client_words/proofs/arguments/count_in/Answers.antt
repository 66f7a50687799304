-- The number that a word is, and when it is none from 1 to 1,000,000.
use Rattle.std.proofs.Common.{◌≡◌, sym, ◌∙◌, arith}
use Rattle.std.proofs.lemmas.Fmt.{decimal_injective}
use Rattle.client_words.proofs.Counting.{is_counted, is_not_counted}
use Rattle.client_words.proofs.arguments.count_in.Goals as goal

pub returns-in-Some : goal.returns-in-Some
returns-in-Some c = sym (is_counted c.args.word.now c.in-Some.count c.in-Some.ensures.some (omega arith) (omega arith))

pub returns-in_default : goal.returns-in_default
returns-in_default c =
    sym (is_not_counted c.args.word.now (λ n is least most.
    let same : c.in-Some.count ≡ n = decimal_injective c.in-Some.count n (omega arith) (omega (arith, most)) (sym c.in-Some.ensures.some ∙ is) in
    absurd (omega (arith, same, most))))

pub returns-in_default-2 : goal.returns-in_default-2
returns-in_default-2 c =
    sym (is_not_counted c.args.word.now (λ n is least most.
    let same : c.in-Some.count ≡ n = decimal_injective c.in-Some.count n (omega arith) (omega (arith, most)) (sym c.in-Some.ensures.some ∙ is) in
    absurd (omega (arith, same, least))))
