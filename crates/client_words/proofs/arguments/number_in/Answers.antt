-- The number that a word is, and when it is none below 2 to the 64.
use Rattle.std.proofs.Common.{sym, arith}
use Rattle.client_words.proofs.Numbers.{is_number_in, is_none_in}
use Rattle.client_words.proofs.arguments.number_in.Goals as goal

pub returns-in-Some : goal.returns-in-Some
returns-in-Some c = sym (is_number_in c.args.word.now c.in-Some.number c.in-Some.ensures.some (omega arith))

pub returns-in-None : goal.returns-in-None
returns-in-None c = sym (is_none_in c.args.word.now c.in-None.ensures.none)
