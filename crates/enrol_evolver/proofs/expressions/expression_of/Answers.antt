use Rattle.std.proofs.Common.{List, sym, ◌∙◌, subst}
use Rattle.jexl_lexer.specs.Lexing.{Lexes}
use Rattle.jexl_lexer.specs.declared.token.Token.{Token}
use Rattle.enrol_evolver.proofs.Trees.{has_not_lexed, has_parsed, has_not_parsed}
use Rattle.enrol_evolver.proofs.expressions.expression_of.Goals as goal

pub returns-in-Ok-parse : goal.returns-in-Ok-parse
returns-in-Ok-parse c =
    let lexed = subst (λ (ts : List Token). Lexes 0 0 c.args.text.now ts) (sym c.as_slice.ensures) c.in-Ok.ensures.tokens in
    sym (has_parsed c.args.text.now c.as_slice.result.now c.in-Ok-parse.expression lexed c.in-Ok-parse.ensures)

pub returns-in-Ok : goal.returns-in-Ok
returns-in-Ok c =
    let lexed = subst (λ (ts : List Token). Lexes 0 0 c.args.text.now ts) (sym c.as_slice.ensures) c.in-Ok.ensures.tokens in
    sym (has_not_parsed c.args.text.now c.as_slice.result.now c.in-Err-parse.fault lexed c.in-Err-parse.ensures (sym c.parsing_wants_memory.ensures ∙ c.if-parsing_wants_memory.false))

pub returns : goal.returns
returns c = sym (has_not_lexed c.args.text.now c.in-Err.fault c.in-Err.ensures.fault (sym c.lexing_wants_memory.ensures ∙ c.if-lexing_wants_memory.false))
