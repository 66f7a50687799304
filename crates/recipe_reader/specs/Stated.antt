-- Which recipe a record is, said of the whole record, field by field.
use Rattle.std.specs.Prelude.{◌≡◌, ℕ, pos, Bool, false, List as Seq, [], ◌∷◌, Option, Some, None, Ok, ⊤, codes}
use Rattle.std.specs.Option.{unwrap_or}
use Rattle.json_tree.specs.Json.{Json, truth, whole, text, list, object, Items, no_items, item, no_members, get}
use Rattle.json_tree.specs.Tree.{json_of}
use Rattle.recipe_reader.specs.Outcome.{only_if}
use Rattle.recipe_reader.specs.Values.{text_at, present, has_bytes, has_more_than_blanks, is_moment}
use Rattle.recipe_reader.specs.Records.{recipe_of}
use Rattle.recipe_reader.specs.declared.recipe.Recipe.{Recipe}
use Rattle.recipe_reader.specs.declared.recipe.Bucket.{Bucket}
use Rattle.recipe_reader.specs.declared.recipe.Branch.{Branch}
use Rattle.recipe_reader.specs.declared.recipe.FeatureValue.{FeatureValue}

-- the text that is there and passes the test; each other value counts as none
abbrev pub text_with : (Seq ℕ → Bool) → Option Json → Option (Seq ℕ)
text_with test (Some (text s)) = only_if (test s) s
text_with test o = None

-- the value is there, and is `true`
abbrev pub is_true : Option Json → Bool
is_true (Some (truth b)) = b
is_true o = false

-- the items are as many as the parts, and each is the part at its place
abbrev pub AreEach : {A : Type 0} → (Json → A → Type 0) → Items → Seq A → Type 0
AreEach Is no_items [] = ⊤
AreEach Is no_items (a ∷ as') = ⊥
AreEach Is (item x xs) [] = ⊥
AreEach Is (item x xs) (a ∷ as') = Is x a × AreEach Is xs as'

pub record IsBucketOf (x : Json) (b : Bucket) : Type 0 where
  pub unit : text_at (codes "randomizationUnit") x ≡ Some b.unit
  pub namespace : text_at (codes "namespace") x ≡ Some b.namespace
  pub start : get (codes "start") x ≡ Some (whole (pos b.start))
  pub count : get (codes "count") x ≡ Some (whole (pos b.count))
  pub total : get (codes "total") x ≡ Some (whole (pos b.total))

-- the value is `{}` where it is absent or null
pub record IsFeatureOf (x : Json) (f : FeatureValue) : Type 0 where
  pub feature : text_at (codes "featureId") x ≡ Some f.feature
  pub value : json_of f.value ≡ unwrap_or (present (get (codes "value") x)) (object no_members)

-- the listed features, or the one feature where no list is there
abbrev pub feature_items : Option Json → Option Json → Items
feature_items None None = no_items
feature_items None (Some one) = item one no_items
feature_items (Some (list xs)) one = xs
feature_items (Some x) one = no_items

pub record IsBranchOf (x : Json) (b : Branch) : Type 0 where
  pub slug : text_at (codes "slug") x ≡ Some b.slug
  pub ratio : get (codes "ratio") x ≡ Some (whole (pos b.ratio))
  pub features : AreEach IsFeatureOf (feature_items (present (get (codes "features") x)) (present (get (codes "feature") x))) b.features

pub record IsRecipeOf (x : Json) (r : Recipe) : Type 0 where
  pub slug : text_at (codes "slug") x ≡ Some r.slug
  pub app_name : r.app_name ≡ text_with has_bytes (get (codes "appName") x)
  pub channel : r.channel ≡ text_with has_bytes (get (codes "channel") x)
  pub paused : r.paused ≡ is_true (get (codes "isEnrollmentPaused") x)
  pub rollout : r.rollout ≡ is_true (get (codes "isRollout") x)
  pub bucket : (b : Json) × (get (codes "bucketConfig") x ≡ Some b) × IsBucketOf b r.bucket
  pub branches : (xs : Items) × (get (codes "branches") x ≡ Some (list xs)) × AreEach IsBranchOf xs r.branches
  pub targeting : r.targeting ≡ text_with has_more_than_blanks (get (codes "targeting") x)
  pub published : r.published ≡ text_with is_moment (get (codes "publishedDate") x)

-- a record that is not skipped is the recipe whose fields it states
abbrev pub RecipesAreStated : Type 0
RecipesAreStated = (x : Json) (r : Recipe) → recipe_of x ≡ Ok r → IsRecipeOf x r
