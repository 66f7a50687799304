-- The fields and the bucket that are read are read again from the record that is made of them.
use Rattle.std.proofs.Common.{◌≡◌, ℕ, List, Bool, Option, Some, None, Result, Ok, Err, refl, subst}
use Rattle.std.specs.Prelude.{codes}
use Rattle.json_tree.specs.Json.{Json, get}
use Rattle.recipe_reader.specs.declared.recipe.SkipReason.{SkipReason}
use Rattle.recipe_reader.specs.declared.recipe.SkipReason.TheVariants.{BadField, BadBucket}
use Rattle.recipe_reader.specs.declared.recipe.Fields.{Fields}
use Rattle.recipe_reader.specs.declared.recipe.Bucket.{Bucket}
use Rattle.recipe_reader.specs.Outcome.{◌>>=◌, needed}
use Rattle.recipe_reader.specs.Values.{optional_text, truth_or_absent, optional_truth, kept_if, has_bytes, has_more_than_blanks, is_moment, count_at}
use Rattle.recipe_reader.specs.Parts.{fields_in, sized_text, bucket_of}
use Rattle.recipe_reader.specs.Records.{text_or_null, bucket_json}
use Rattle.recipe_reader.proofs.Steps.{ok_is, sized_ok, sized_there, count_ok, count_there, kept_twice}

pub record IsKept (f : Fields) : Type 0 where
  pub app_name : kept_if has_bytes f.app_name ≡ f.app_name
  pub channel : kept_if has_bytes f.channel ≡ f.channel
  pub targeting : kept_if has_more_than_blanks f.targeting ≡ f.targeting
  pub published : kept_if is_moment f.published ≡ f.published

abbrev pub fields_of_parts : Option (Option (List ℕ)) → Option (Option (List ℕ)) → Option (Option (List ℕ)) → Option (Option (List ℕ)) → Option Bool → Option Bool → Result Fields SkipReason
fields_of_parts a c t p ro pa = do
  app_name ← needed BadField a
  channel ← needed BadField c
  targeting ← needed BadField t
  published ← needed BadField p
  rollout ← needed BadField ro
  paused ← needed BadField pa
  Ok (record { app_name = kept_if has_bytes app_name; channel = kept_if has_bytes channel; paused = paused; rollout = rollout; targeting = kept_if has_more_than_blanks targeting; published = kept_if is_moment published })

kept_parts : (a c t p : Option (Option (List ℕ))) (ro pa : Option Bool) (f : Fields) → fields_of_parts a c t p ro pa ≡ Ok f → IsKept f
kept_parts None c t p ro pa f e = absurd cc
kept_parts (Some a) None t p ro pa f e = absurd cc
kept_parts (Some a) (Some c) None p ro pa f e = absurd cc
kept_parts (Some a) (Some c) (Some t) None ro pa f e = absurd cc
kept_parts (Some a) (Some c) (Some t) (Some p) None pa f e = absurd cc
kept_parts (Some a) (Some c) (Some t) (Some p) (Some ro) None f e = absurd cc
kept_parts (Some a) (Some c) (Some t) (Some p) (Some ro) (Some pa) f e =
    subst IsKept (ok_is _ f e) (record { app_name = kept_twice has_bytes a; channel = kept_twice has_bytes c; targeting = kept_twice has_more_than_blanks t; published = kept_twice is_moment p })

pub fields_ok : (x : Json) (f : Fields) → fields_in x ≡ Ok f → IsKept f
unfolding fields_in
fields_ok x f e =
    kept_parts (optional_text (get (codes "appName") x)) (optional_text (get (codes "channel") x)) (optional_text (get (codes "targeting") x)) (optional_text (get (codes "publishedDate") x)) (optional_truth (get (codes "isRollout") x)) (truth_or_absent (get (codes "isEnrollmentPaused") x)) f e

pub text_there : (o : Option (List ℕ)) → optional_text (Some (text_or_null o)) ≡ Some o
text_there None = refl
text_there (Some s) = refl

pub fields_there : (x : Json) (f : Fields) → IsKept f
    → optional_text (get (codes "appName") x) ≡ Some f.app_name
    → optional_text (get (codes "channel") x) ≡ Some f.channel
    → optional_text (get (codes "targeting") x) ≡ Some f.targeting
    → optional_text (get (codes "publishedDate") x) ≡ Some f.published
    → optional_truth (get (codes "isRollout") x) ≡ Some f.rollout
    → truth_or_absent (get (codes "isEnrollmentPaused") x) ≡ Some f.paused
    → fields_in x ≡ Ok f
unfolding fields_in
fields_there x f kept a c t p ro pa = rw (a, c, t, p, ro, pa, kept.app_name, kept.channel, kept.targeting, kept.published) refl

-- ---- the bucket

abbrev pub bucket_of_parts : Result (List ℕ) SkipReason → Result (List ℕ) SkipReason → Option ℕ → Option ℕ → Option ℕ → Result Bucket SkipReason
bucket_of_parts u n s c t = do
  unit ← u
  namespace ← n
  start ← needed BadBucket s
  count ← needed BadBucket c
  total ← needed BadBucket t
  Ok (record { unit = unit; namespace = namespace; start = start; count = count; total = total })

abbrev pub ArePartsOf : Result (List ℕ) SkipReason → Result (List ℕ) SkipReason → Option ℕ → Option ℕ → Option ℕ → Bucket → Type 0
ArePartsOf u n s c t b = (u ≡ Ok b.unit) × (n ≡ Ok b.namespace) × (s ≡ Some b.start) × (c ≡ Some b.count) × (t ≡ Some b.total)

pub bucket_parts : (u n : Result (List ℕ) SkipReason) (s c t : Option ℕ) (b : Bucket) → bucket_of_parts u n s c t ≡ Ok b → ArePartsOf u n s c t b
bucket_parts (Err r) n s c t b e = absurd cc
bucket_parts (Ok u) (Err r) s c t b e = absurd cc
bucket_parts (Ok u) (Ok n) None c t b e = absurd cc
bucket_parts (Ok u) (Ok n) (Some s) None t b e = absurd cc
bucket_parts (Ok u) (Ok n) (Some s) (Some c) None b e = absurd cc
bucket_parts (Ok u) (Ok n) (Some s) (Some c) (Some t) b e = subst (ArePartsOf (Ok u) (Ok n) (Some s) (Some c) (Some t)) (ok_is _ b e) (refl, refl, refl, refl, refl)

bucket_there : (x : Json) (b : Bucket) → sized_text (codes "randomizationUnit") 1 80 x ≡ Ok b.unit → sized_text (codes "namespace") 0 256 x ≡ Ok b.namespace
    → count_at (codes "start") 0 4294967295 x ≡ Some b.start → count_at (codes "count") 0 4294967295 x ≡ Some b.count → count_at (codes "total") 1 4294967295 x ≡ Some b.total
    → bucket_of x ≡ Ok b
unfolding bucket_of
bucket_there x b u n s c t = rw (u, n, s, c, t) refl

pub bucket_again : (x : Json) (b : Bucket) → bucket_of x ≡ Ok b → bucket_of (bucket_json b) ≡ Ok b
unfolding bucket_of
bucket_again x b e =
    let p = bucket_parts (sized_text (codes "randomizationUnit") 1 80 x) (sized_text (codes "namespace") 0 256 x) (count_at (codes "start") 0 4294967295 x) (count_at (codes "count") 0 4294967295 x) (count_at (codes "total") 1 4294967295 x) b e in
    bucket_there (bucket_json b) b
    (sized_there (codes "randomizationUnit") 1 80 (bucket_json b) b.unit refl (sized_ok (codes "randomizationUnit") 1 80 x b.unit p.0))
    (sized_there (codes "namespace") 0 256 (bucket_json b) b.namespace refl (sized_ok (codes "namespace") 0 256 x b.namespace p.1))
    (count_there 0 4294967295 b.start (count_ok 0 4294967295 (get (codes "start") x) b.start p.2))
    (count_there 0 4294967295 b.count (count_ok 0 4294967295 (get (codes "count") x) b.count p.3))
    (count_there 1 4294967295 b.total (count_ok 1 4294967295 (get (codes "total") x) b.total p.4))
