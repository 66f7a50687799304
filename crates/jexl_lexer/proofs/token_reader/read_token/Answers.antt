use Rattle.std.proofs.Common.{◌∙◌, sym, ℕ, List, Bor}
use Rattle.jexl_lexer.specs.declared.token.TokenKind.{TokenKind}
use Rattle.jexl_lexer.proofs.TokenFront.{token_sign}
use Rattle.jexl_lexer.proofs.token_reader.read_token.Goals as goal

pub returns-else-is_quote : goal.returns-else-is_quote
returns-else-is_quote c =
    token_sign c.args.place (λ (x : TokenKind × Bor (List ℕ)). (x.0, x.1.now)) c.sign_token.result c.in-Some.first c.in-Some.rest.now c.args.text.now c.in-Some.ensures.found (sym c.if-is_ascii_digit.false ∙ c.is_ascii_digit.ensures.value) (sym c.if-is_start.false ∙ c.is_start.ensures) (sym c.if-is_quote.false ∙ c.is_quote.ensures) c.sign_token.ensures
