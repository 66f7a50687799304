use Rattle.jexl_lexer.proofs.SignAt.{sign_single}
use Rattle.jexl_lexer.proofs.signs.longest_sign.Goals as goal

pub returns-in-Some-single_sign : goal.returns-in-Some-single_sign
returns-in-Some-single_sign c =
    sign_single c.args.text.now c.in-Some.rest.now c.in-Some.first c.in-Some-single_sign.sign c.in-Some.ensures.found c.in-None-double_sign_at.ensures c.in-Some-single_sign.ensures
