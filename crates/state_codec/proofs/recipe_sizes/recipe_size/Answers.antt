-- The frame, the letter and the slug, and the record's text.
use Rattle.std.proofs.Common.{◌≡◌, length, refl, ap, arith}
use Rattle.json_tree.specs.Bytes.{text_of}
use Rattle.recipe_reader.specs.Records.{record_json}
use Rattle.recipe_reader.specs.declared.recipe.Recipe.{Recipe}
use Rattle.state_values.specs.Values.{recipe_text}
use Rattle.state_values.proofs.Names.{slug_short}
use Rattle.state_codec.proofs.recipe_sizes.recipe_size.Goals as goal

text_length : (r : Recipe) → length (recipe_text r) ≡ length (text_of (record_json r))
unfolding recipe_text
text_length r = refl

pub returns-clause-size : goal.returns-clause-size
returns-clause-size c = omega (arith, text_length c.args.recipe.now, c.record_length.ensures.length, ap length c.text.ensures.text)

pub returns-clause-bound : goal.returns-clause-bound
returns-clause-bound c = omega (arith, slug_short c.args.recipe.now.slug c.text.ensures.slug, c.record_length.ensures.bound, ap length c.text.ensures.text)
