-- Equality of recipes, part by part.
use Rattle.std.specs.Prelude.{ℕ, ◌==◌, ◌&&◌, Bool, true, false, List, Option, Some, None, bytes_eq}
use Rattle.std.specs.Bool.{beq}
use Rattle.std.specs.Cmp.Lexicographic.{pointwise}
use Rattle.json_tree.specs.Equal.{json_eq}
use Rattle.json_tree.specs.Tree.{json_of}
use Rattle.recipe_reader.specs.declared.recipe.Recipe.{Recipe}
use Rattle.recipe_reader.specs.declared.recipe.Bucket.{Bucket}
use Rattle.recipe_reader.specs.declared.recipe.Branch.{Branch}
use Rattle.recipe_reader.specs.declared.recipe.FeatureValue.{FeatureValue}

abbrev pub text_eq : Option (List ℕ) → Option (List ℕ) → Bool
text_eq None None = true
text_eq (Some s) (Some t) = bytes_eq s t
text_eq s t = false

abbrev pub feature_eq : FeatureValue → FeatureValue → Bool
feature_eq f g = bytes_eq f.feature g.feature && json_eq (json_of f.value) (json_of g.value)

abbrev pub branch_eq : Branch → Branch → Bool
branch_eq b c = bytes_eq b.slug c.slug && (b.ratio == c.ratio && pointwise feature_eq b.features c.features)

abbrev pub bucket_eq : Bucket → Bucket → Bool
bucket_eq b c = bytes_eq b.unit c.unit && (bytes_eq b.namespace c.namespace && (b.start == c.start && (b.count == c.count && b.total == c.total)))

-- what a recipe says beside its bucket and its branches
abbrev pub fields_eq : Recipe → Recipe → Bool
fields_eq r s =
    bytes_eq r.slug s.slug
    && (text_eq r.app_name s.app_name && (text_eq r.channel s.channel && (beq r.paused s.paused && (beq r.rollout s.rollout && (text_eq r.targeting s.targeting && text_eq r.published s.published)))))

abbrev pub recipe_eq : Recipe → Recipe → Bool
recipe_eq r s = fields_eq r s && (bucket_eq r.bucket s.bucket && pointwise branch_eq r.branches s.branches)
