-- The record of a recipe: how many bytes its parts have, and that it is a JSON value.
use Rattle.std.proofs.Common.{◌≡◌, ◌+◌, ◌<◌, ◌≤◌, ℕ, zero, suc, false, rules, List, [], ◌∷◌, ◌++◌, map, length, get_or, take, sym, ap, ◌∙◌, subst, arith, pos}
use Rattle.std.specs.Prelude.{codes, IsUtf8, ◌==◌}
use Rattle.std.specs.List.{sum_by}
use Rattle.std.proofs.lemmas.List.{take_more, take_all}
use Rattle.json.specs.Print.{escape_byte}
use Rattle.json_tree.specs.Json.{Json, IsSound, AreSoundItems, text, truth, whole, list, items_of}
use Rattle.json_tree.specs.Tree.{json_of}
use Rattle.json_tree.specs.Bytes.{text_of}
use Rattle.json_length.proofs.Lengths.{item_length, length-object, length-items}
use Rattle.recipe_reader.specs.Records.{text_or_null, bucket_json, feature_json, branch_json, record_json}
use Rattle.recipe_reader.specs.declared.recipe.Recipe.{Recipe}
use Rattle.recipe_reader.specs.declared.recipe.Bucket.{Bucket}
use Rattle.recipe_reader.specs.declared.recipe.Branch.{Branch}
use Rattle.recipe_reader.specs.declared.recipe.FeatureValue.{FeatureValue}

abbrev size : Json → ℕ
size x = length (text_of x)

-- ---- sizes

pub feature_sum : (f : FeatureValue) → size (feature_json f) ≡ 23 + size (text f.feature) + size (json_of f.value)
unfolding escape_byte
feature_sum f =
    let ms = (codes "featureId", text f.feature) ∷ (codes "value", json_of f.value) ∷ [] in
    length-object ms (omega arith) ∙ omega arith

pub branch_sum : (b : Branch) → size (branch_json b) ≡ 30 + size (list (items_of (map feature_json b.features))) + size (whole (pos b.ratio)) + size (text b.slug)
unfolding escape_byte
branch_sum b =
    let ms = (codes "features", list (items_of (map feature_json b.features))) ∷ (codes "ratio", whole (pos b.ratio)) ∷ (codes "slug", text b.slug) ∷ [] in
    length-object ms (omega arith) ∙ omega arith

pub bucket_sum : (b : Bucket) → size (bucket_json b) ≡ 62 + size (whole (pos b.count)) + size (text b.namespace) + size (text b.unit) + size (whole (pos b.start)) + size (whole (pos b.total))
unfolding escape_byte
bucket_sum b =
    let ms = (codes "count", whole (pos b.count)) ∷ (codes "namespace", text b.namespace) ∷ (codes "randomizationUnit", text b.unit) ∷ (codes "start", whole (pos b.start)) ∷ (codes "total", whole (pos b.total)) ∷ [] in
    length-object ms (omega arith) ∙ omega arith

pub record_sum : (r : Recipe) → size (record_json r)
    ≡ 144 + size (text_or_null r.app_name) + size (list (items_of (map branch_json r.branches))) + size (bucket_json r.bucket) + size (text_or_null r.channel) + size (truth r.paused) + size (truth r.rollout) + size (text_or_null r.published) + size (text r.slug)
    + size (text_or_null r.targeting)
unfolding escape_byte
record_sum r =
    let ms =
    (codes "appName", text_or_null r.app_name) ∷ (codes "branches", list (items_of (map branch_json r.branches))) ∷ (codes "bucketConfig", bucket_json r.bucket) ∷ (codes "channel", text_or_null r.channel) ∷ (codes "isEnrollmentPaused", truth r.paused)
    ∷ (codes "isRollout", truth r.rollout) ∷ (codes "publishedDate", text_or_null r.published) ∷ (codes "schemaVersion", text (codes "1")) ∷ (codes "slug", text r.slug) ∷ (codes "targeting", text_or_null r.targeting) ∷ []
    in
    length-object ms (omega arith) ∙ omega arith

-- ---- the items of a list

append_sound : {A : Type 0} (json : A → Json) (xs ys : List A) → AreSoundItems (items_of (map json xs)) → AreSoundItems (items_of (map json ys)) → AreSoundItems (items_of (map json (xs ++ ys)))
append_sound json [] ys first rest = rest
append_sound json (x ∷ xs) ys first rest = (first.0, append_sound json xs ys first.1 rest)

-- one item more
pub sound_more : {A : Type 0} (json : A → Json) (xs : List A) (i : ℕ) (x : A) → i < length xs → x ≡ get_or xs i x → AreSoundItems (items_of (map json (take i xs))) → IsSound (json x) → AreSoundItems (items_of (map json (take (i + 1) xs)))
sound_more json xs i x within here before one =
    subst (λ l. AreSoundItems (items_of (map json l))) (sym (take_more xs i x within)) (append_sound json (take i xs) (get_or xs i x ∷ []) before (subst (λ y. IsSound (json y)) here one, tt))

nonzero : (n : ℕ) → (n == 0) ≡ false → 0 < n
nonzero zero e = absurd cc
nonzero (suc n) e = omega arith

-- all items
pub all_items : {A : Type 0} (json : A → Json) (xs : List A) (n i : ℕ) → n ≡ 1 + sum_by (λ x. item_length (json x)) (take i xs) → length xs ≤ i → (length xs == 0) ≡ false → n ≡ size (list (items_of (map json xs)))
all_items json xs n i is all some = is ∙ ap (λ l. 1 + sum_by (λ x. item_length (json x)) l) (take_all i xs all) ∙ sym (length-items json xs (nonzero (length xs) some))

-- ---- JSON values

pub branch_sound : (b : Branch) → AreSoundItems (items_of (map feature_json b.features)) → IsSound (whole (pos b.ratio)) → IsUtf8 b.slug → IsSound (branch_json b)
branch_sound b features ratio slug = (search rules, search rules, features, (search rules, search rules, ratio, (search rules, tt, slug, tt)))

pub record_sound : (r : Recipe) → IsSound (text_or_null r.app_name) → AreSoundItems (items_of (map branch_json r.branches)) → IsSound (bucket_json r.bucket) → IsSound (text_or_null r.channel) → IsSound (text_or_null r.published) → IsUtf8 r.slug → IsSound (text_or_null r.targeting) → IsSound (record_json r)
record_sound r app_name branches bucket channel published slug targeting = (
  search rules,
  search rules,
  app_name,
  (
    search rules,
    search rules,
    branches,
    (
      search rules,
      search rules,
      bucket,
      (search rules, search rules, channel, (search rules, search rules, tt, (search rules, search rules, tt, (search rules, search rules, published, (search rules, search rules, search rules, (search rules, search rules, slug, (search rules, tt, targeting, tt))))))),
    ),
  ),
)
