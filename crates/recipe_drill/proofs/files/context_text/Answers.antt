-- The text is that of the value's tokens, with nothing before them.
use Rattle.std.proofs.Common.{◌∙◌}
use Rattle.recipe_drill.specs.Files.{context_json}
use Rattle.recipe_drill.proofs.Printed.{text_written}
use Rattle.recipe_drill.proofs.files.context_text.Goals as goal

pub returns : goal.returns
returns c =
    let before = c.in_ok-write_context.ensures.before ∙ c.new-writer.ensures.before ∙ c.new.ensures.items in
    c.into_inner.ensures.items ∙ text_written context_json _ _ _ before c.new-writer.ensures.tokens c.in_ok-write_context.ensures.tokens
