-- The parts of a record, each as what it gives or the reason to skip the record.
use Rattle.std.specs.Prelude.{ℕ, List, Result, Ok, codes}
use Rattle.json_tree.specs.Json.{Json, get}
use Rattle.recipe_reader.specs.Outcome.{◌>>=◌, needed, checked, only_if}
use Rattle.recipe_reader.specs.Values.{text_at, count_at, is_object, is_slug, is_schema, is_sized, optional_text, truth_or_absent, optional_truth, kept_if, has_bytes, has_more_than_blanks, is_moment}
use Rattle.recipe_reader.specs.declared.recipe.SkipReason.{SkipReason}
use Rattle.recipe_reader.specs.declared.recipe.SkipReason.TheVariants.{NotAnObject, BadSchema, BadField, BadBucket}
use Rattle.recipe_reader.specs.declared.recipe.Fields.{Fields}
use Rattle.recipe_reader.specs.declared.recipe.Bucket.{Bucket}

-- a slug, under the reason that is given where it has none
unfoldable pub slug_in : SkipReason → Json → Result (List ℕ) SkipReason
slug_in r x = do
  s ← needed r (text_at (codes "slug") x)
  needed r (only_if (is_slug s) s)

unfoldable pub object_in : Json → Result (Unit {0}) SkipReason
object_in x = checked NotAnObject (is_object x)

unfoldable pub schema_in : Json → Result (Unit {0}) SkipReason
schema_in x = do
  s ← needed BadSchema (text_at (codes "schemaVersion") x)
  checked BadSchema (is_schema s)

unfoldable pub fields_in : Json → Result Fields SkipReason
fields_in x = do
  app_name ← needed BadField (optional_text (get (codes "appName") x))
  channel ← needed BadField (optional_text (get (codes "channel") x))
  targeting ← needed BadField (optional_text (get (codes "targeting") x))
  published ← needed BadField (optional_text (get (codes "publishedDate") x))
  rollout ← needed BadField (optional_truth (get (codes "isRollout") x))
  paused ← needed BadField (truth_or_absent (get (codes "isEnrollmentPaused") x))
  Ok (record { app_name = kept_if has_bytes app_name; channel = kept_if has_bytes channel; paused = paused; rollout = rollout; targeting = kept_if has_more_than_blanks targeting; published = kept_if is_moment published })

-- the key's text, where it has one of that many bytes
unfoldable pub sized_text : List ℕ → ℕ → ℕ → Json → Result (List ℕ) SkipReason
sized_text k low high x = do
  s ← needed BadBucket (text_at k x)
  needed BadBucket (only_if (is_sized low high s) s)

unfoldable pub bucket_of : Json → Result Bucket SkipReason
bucket_of b = do
  unit ← sized_text (codes "randomizationUnit") 1 80 b
  namespace ← sized_text (codes "namespace") 0 256 b
  start ← needed BadBucket (count_at (codes "start") 0 4294967295 b)
  count ← needed BadBucket (count_at (codes "count") 0 4294967295 b)
  total ← needed BadBucket (count_at (codes "total") 1 4294967295 b)
  Ok (record { unit = unit; namespace = namespace; start = start; count = count; total = total })

unfoldable pub bucket_in : Json → Result Bucket SkipReason
bucket_in x = needed BadBucket (get (codes "bucketConfig") x) >>= bucket_of
