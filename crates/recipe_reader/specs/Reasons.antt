-- The reasons to skip a record, each as a condition on the whole record.
use Rattle.std.specs.Prelude.{◌≡◌, ℕ, ◌+◌, ◌&&◌, nat_lt, not, Bool, true, false, List as Seq, [], ◌∷◌, Option, Some, None, option_and_then, Result, Ok, Err, codes, if◌then◌else◌}
use Rattle.std.specs.Option.{is_some, unwrap_or}
use Rattle.json_tree.specs.Json.{Json, list, Items, no_items, item, get}
use Rattle.plain_text.specs.Names.{is_name}
use Rattle.recipe_reader.specs.Values.{text_at, count_at, is_object, is_slug, is_schema, is_sized, optional_text, optional_truth, truth_or_absent, present}
use Rattle.recipe_reader.specs.Branches.{is_feature_value, is_feature_count, is_branch_count, are_distinct, as_list}
use Rattle.recipe_reader.specs.Records.{recipe_of}
use Rattle.recipe_reader.specs.declared.recipe.Recipe.{Recipe}
use Rattle.recipe_reader.specs.declared.recipe.SkipReason.{SkipReason}
use Rattle.recipe_reader.specs.declared.recipe.SkipReason.TheVariants.{NotAnObject, BadSlug, BadSchema, BadField, BadBucket, BadBranches, Duplicate}

-- there is a value, and it passes the test
abbrev pub passes : {A : Type 0} → (A → Bool) → Option A → Bool
passes test None = false
passes test (Some a) = test a

-- each item passes the test
abbrev pub all_items : (Json → Bool) → Items → Bool
all_items test no_items = true
all_items test (item x xs) = test x && all_items test xs

-- the texts that the items have at the key
abbrev pub texts_of : Option (Seq ℕ) → Seq (Seq ℕ) → Seq (Seq ℕ)
texts_of None ss = ss
texts_of (Some s) ss = s ∷ ss

abbrev pub texts_at : Seq ℕ → Items → Seq (Seq ℕ)
texts_at k no_items = []
texts_at k (item x xs) = texts_of (text_at k x) (texts_at k xs)

abbrev pub have_distinct : Seq ℕ → Items → Bool
have_distinct k xs = are_distinct (λ s. s) (texts_at k xs)

-- ---- the fields

abbrev pub has_fields : Json → Bool
has_fields x =
    is_some (optional_text (get (codes "appName") x)) && is_some (optional_text (get (codes "channel") x)) && is_some (optional_text (get (codes "targeting") x)) && is_some (optional_text (get (codes "publishedDate") x))
    && is_some (optional_truth (get (codes "isRollout") x)) && is_some (truth_or_absent (get (codes "isEnrollmentPaused") x))

-- ---- the bucket

abbrev pub is_bucket : Json → Bool
is_bucket b =
    passes (is_sized 1 80) (text_at (codes "randomizationUnit") b) && passes (is_sized 0 256) (text_at (codes "namespace") b)
    && is_some (count_at (codes "start") 0 4294967295 b) && is_some (count_at (codes "count") 0 4294967295 b) && is_some (count_at (codes "total") 1 4294967295 b)

abbrev pub has_bucket : Json → Bool
has_bucket x = passes is_bucket (get (codes "bucketConfig") x)

-- ---- the branches

abbrev pub is_value : Option Json → Bool
is_value None = true
is_value (Some x) = is_feature_value x

abbrev pub is_feature : Json → Bool
is_feature f = passes is_name (text_at (codes "featureId") f) && is_value (present (get (codes "value") f))

abbrev pub are_features : Items → Bool
are_features xs = is_feature_count xs && (all_items is_feature xs && have_distinct (codes "featureId") xs)

-- the list where it is there, else the one feature
abbrev pub have_features : Option Json → Option Json → Bool
have_features (Some (list xs)) one = are_features xs
have_features (Some x) one = false
have_features None (Some x) = is_feature x
have_features None None = true

abbrev pub is_branch : Json → Bool
is_branch b =
    passes is_slug (text_at (codes "slug") b) && is_some (count_at (codes "ratio") 0 1000000 b)
    && have_features (present (get (codes "features") b)) (present (get (codes "feature") b))

abbrev pub ratio_at : Json → ℕ
ratio_at b = unwrap_or (count_at (codes "ratio") 0 1000000 b) 0

abbrev pub ratios_sum : Items → ℕ
ratios_sum no_items = 0
ratios_sum (item b bs) = ratio_at b + ratios_sum bs

abbrev pub are_branches : Items → Bool
are_branches bs = is_branch_count bs && (all_items is_branch bs && (have_distinct (codes "slug") bs && nat_lt 0 (ratios_sum bs)))

abbrev pub has_branches : Json → Bool
has_branches x = passes are_branches (option_and_then as_list (get (codes "branches") x))

-- ---- the table

-- whether the reason applies, whatever the others do
abbrev pub applies : Json → SkipReason → Bool
applies x NotAnObject = not (is_object x)
applies x BadSlug = not (passes is_slug (text_at (codes "slug") x))
applies x BadSchema = not (passes is_schema (text_at (codes "schemaVersion") x))
applies x BadField = not (has_fields x)
applies x BadBucket = not (has_bucket x)
applies x BadBranches = not (has_branches x)
applies x Duplicate = false

abbrev pub first_of : (SkipReason → Bool) → Seq SkipReason → Option SkipReason
first_of test [] = None
first_of test (r ∷ rs) = if test r then Some r else first_of test rs

abbrev pub table : Seq SkipReason
table = NotAnObject ∷ BadSlug ∷ BadSchema ∷ BadField ∷ BadBucket ∷ BadBranches ∷ []

abbrev pub reason_of : Result Recipe SkipReason → Option SkipReason
reason_of (Ok r) = None
reason_of (Err e) = Some e

-- a record is skipped for the first reason of the table that applies, and is a recipe where none does
abbrev pub IsFirstReason : Type 0
IsFirstReason = (x : Json) → reason_of (recipe_of x) ≡ first_of (applies x) table
