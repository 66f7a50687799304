-- Recipes whose parts have few bytes, as those of valid recipes do.
use Rattle.std.specs.Prelude.{◌≤◌, length, All}
use Rattle.json_tree.specs.Tree.{json_of}
use Rattle.json_tree.specs.Bytes.{text_of}
use Rattle.recipe_reader.specs.declared.recipe.Recipe.{Recipe}
use Rattle.recipe_reader.specs.declared.recipe.Branch.{Branch}
use Rattle.recipe_reader.specs.declared.recipe.FeatureValue.{FeatureValue}

pub record IsShort (f : FeatureValue) : Type 0 where
  pub name : length f.feature ≤ 80
  pub value : length (text_of (json_of f.value)) ≤ 65536

pub record HasShortFeatures (b : Branch) : Type 0 where
  pub count : length b.features ≤ 50
  pub each : All IsShort b.features

pub record HasShortBranches (r : Recipe) : Type 0 where
  pub count : length r.branches ≤ 100
  pub each : All HasShortFeatures r.branches
