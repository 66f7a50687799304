use Rattle.std.proofs.Common.{◌∙◌, sym, refl}
use Rattle.jexl_lexer.proofs.TokenFront.{number_decimal, number_small, number_big}
use Rattle.jexl_lexer.proofs.token_reader.number_token.Goals as goal

pub returns-then-has_fraction : goal.returns-then-has_fraction
returns-then-has_fraction c =
    (refl, number_decimal c.args.text.now c.split_run.result.0.now c.split_run.result.1.now c.requires c.split_run.ensures (sym c.if-has_fraction.true ∙ c.has_fraction.ensures))

pub returns-in-Ok : goal.returns-in-Ok
returns-in-Ok c =
    number_small _ c.args.text.now c.split_run.result.0.now c.split_run.result.1.now c.requires c.split_run.ensures (sym c.if-has_fraction.false ∙ c.has_fraction.ensures) c.parse.result c.in-Ok.value c.parse.ensures.value.0 c.in-Ok.is

pub returns-in-Err : goal.returns-in-Err
returns-in-Err c =
    (refl, number_big _ c.args.text.now c.split_run.result.0.now c.split_run.result.1.now c.requires c.split_run.ensures (sym c.if-has_fraction.false ∙ c.has_fraction.ensures) c.in-Err.field-0 c.in-Err.ensures.value.0)
