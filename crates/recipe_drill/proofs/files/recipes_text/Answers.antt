-- The text is that of the value's tokens, with nothing before them.
use Rattle.std.proofs.Common.{◌∙◌}
use Rattle.recipe_drill.specs.Files.{recipes_json}
use Rattle.recipe_drill.proofs.Printed.{text_written}
use Rattle.recipe_drill.proofs.files.recipes_text.Goals as goal

pub returns : goal.returns
returns c =
    let before = c.in_ok-write_recipes.ensures.before ∙ c.new-writer.ensures.before ∙ c.new.ensures.items in
    c.into_inner.ensures.items ∙ text_written (recipes_json c.args.start c.args.count) _ _ _ before c.new-writer.ensures.tokens c.in_ok-write_recipes.ensures.tokens
