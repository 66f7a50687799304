-- The text is that of the record's tokens, with nothing before them.
use Rattle.std.proofs.Common.{◌++◌, ap, ◌∙◌}
use Rattle.recipe_reader.specs.Records.{record_json}
use Rattle.json_tree.specs.Tokens.{tokens_of}
use Rattle.state_values.proofs.RecordTexts.{recipe_written}
use Rattle.state_values.proofs.record_text.recipe_text.Goals as goal

pub returns : goal.returns
returns c =
    let before = c.in_ok-write_record.ensures.before ∙ c.new-writer.ensures.before ∙ c.in_ok-with_capacity.ensures.items in
    let tokens = c.in_ok-write_record.ensures.tokens ∙ ap (λ ts. ts ++ tokens_of (record_json c.args.recipe.now)) c.new-writer.ensures.tokens in
    c.into_inner.ensures.items ∙ recipe_written c.args.recipe.now _ _ before tokens
