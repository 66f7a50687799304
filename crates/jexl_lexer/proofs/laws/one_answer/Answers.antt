use Rattle.jexl_lexer.proofs.Uniqueness.{one_list, one_fault, never_both, always_one}
use Rattle.jexl_lexer.proofs.laws.one_answer.Goals as goal

pub returns : goal.returns
returns c = record { list = one_list; fault = one_fault; never_both = never_both; always_one = always_one }
