use Rattle.std.proofs.Common.{◌∙◌, ap, ℕ, List}
use Rattle.jexl_lexer.proofs.TokenFront.{name_found}
use Rattle.jexl_lexer.proofs.token_reader.name_token.Goals as goal

abbrev split : List ℕ → List ℕ → List ℕ × List ℕ
split rest name = (name, rest)

pub returns : goal.returns
returns c =
    name_found c.args.text.now c.in_ok-new.field-0 c.split_run.result.1.now c.requires (ap (split c.split_run.result.1.now) c.in_ok-new.ensures ∙ c.split_run.ensures)
