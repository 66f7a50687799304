-- The text of a recipe's record, from its tokens.
use Rattle.std.proofs.Common.{◌≡◌, ℕ, List, [], ◌++◌, ap₂, ◌∙◌}
use Rattle.json.specs.Token.{Token}
use Rattle.json.specs.Print.{print}
use Rattle.json_tree.specs.Tokens.{tokens_of}
use Rattle.json_tree.proofs.Tokens.{printed_tokens}
use Rattle.recipe_reader.specs.Records.{record_json}
use Rattle.recipe_reader.specs.declared.recipe.Recipe.{Recipe}
use Rattle.state_values.specs.Values.{recipe_text}

-- where only a recipe's record was written, its text is all
pub recipe_written : (r : Recipe) (before : List ℕ) (tokens : List Token) → before ≡ [] → tokens ≡ tokens_of (record_json r) → before ++ print tokens ≡ recipe_text r
unfolding recipe_text
recipe_written r before tokens none is = ap₂ (λ (b : List ℕ) (ts : List Token). b ++ print ts) none is ∙ printed_tokens (record_json r)
