-- A record is skipped for the first reason of the table that applies.
use Rattle.std.proofs.Common.{◌≡◌, ℕ, List as Seq, [], ◌∷◌, Bool, true, false, Option, Some, None, Result, Ok, Err, refl, ap, subst}
use Rattle.std.specs.Prelude.{◌&&◌, nat_le, not, length, codes, option_and_then, ⊤, if◌then◌else◌}
use Rattle.std.specs.Option.{is_some}
use Rattle.json_tree.specs.Json.{Json, list, Items, no_items, item, get}
use Rattle.plain_text.specs.Names.{is_name}
use Rattle.recipe_reader.specs.declared.recipe.Recipe.{Recipe}
use Rattle.recipe_reader.specs.declared.recipe.Fields.{Fields}
use Rattle.recipe_reader.specs.declared.recipe.Bucket.{Bucket}
use Rattle.recipe_reader.specs.declared.recipe.Branch.{Branch}
use Rattle.recipe_reader.specs.declared.recipe.FeatureValue.{FeatureValue}
use Rattle.json_tree.specs.declared.tree.Tree.{Tree}
use Rattle.recipe_reader.specs.declared.recipe.SkipReason.{SkipReason}
use Rattle.recipe_reader.specs.declared.recipe.SkipReason.TheVariants.{NotAnObject, BadSlug, BadSchema, BadField, BadBucket, BadBranches}
use Rattle.recipe_reader.specs.Outcome.{◌>>=◌, needed, checked, only_if}
use Rattle.json_tree.specs.Inverse.{tree_from}
use Rattle.recipe_reader.specs.Values.{text_at, count_at, is_object, is_slug, is_schema, optional_text, optional_truth, truth_or_absent, present}
use Rattle.recipe_reader.specs.Parts.{object_in, slug_in, schema_in, fields_in, sized_text, bucket_of, bucket_in}
use Rattle.recipe_reader.specs.Branches.{each, value_of, is_feature_value, feature_of, is_feature_count, features_of, single, listed, branch_of, is_branch_count, branches_of, as_list, branches_in}
use Rattle.recipe_reader.specs.Records.{recipe_of}
use Rattle.recipe_reader.specs.Reasons.{passes, has_fields, has_bucket, has_branches, reason_of, IsFirstReason}
use Rattle.recipe_reader.proofs.FieldsAgain.{fields_of_parts, bucket_of_parts}
use Rattle.recipe_reader.proofs.BranchesAgain.{feature_of_parts, list_of_parts, branch_of_parts, feature_test, branch_test}
use Rattle.recipe_reader.proofs.Conditions.{is_read, bucket_in_read, branches_in_read}

-- ---- what fails for one reason alone

abbrev OnlyFails : {A : Type 0} → SkipReason → Result A SkipReason → Type 0
OnlyFails r (Ok a) = ⊤
OnlyFails r (Err e) = e ≡ r

only_needed : {A : Type 0} (r : SkipReason) (o : Option A) → OnlyFails r (needed r o)
only_needed r None = refl
only_needed r (Some a) = tt

only_checked : (r : SkipReason) (b : Bool) → OnlyFails r (checked r b)
only_checked r true = tt
only_checked r false = refl

only_bind : {A B : Type 0} (r : SkipReason) (m : Result A SkipReason) (f : A → Result B SkipReason) → OnlyFails r m → ((a : A) → OnlyFails r (f a)) → OnlyFails r (m >>= f)
only_bind r (Ok a) f h k = k a
only_bind r (Err e) f h k = h

only_slug : (r : SkipReason) (x : Json) → OnlyFails r (slug_in r x)
unfolding slug_in
only_slug r x = only_bind r (needed r (text_at (codes "slug") x)) (λ s. needed r (only_if (is_slug s) s)) (only_needed r (text_at (codes "slug") x)) (λ s. only_needed r (only_if (is_slug s) s))

only_sized : (k : Seq ℕ) (low high : ℕ) (x : Json) → OnlyFails BadBucket (sized_text k low high x)
unfolding sized_text
only_sized k low high x =
    only_bind BadBucket (needed BadBucket (text_at k x)) (λ s. needed BadBucket (only_if (nat_le low (length s) && nat_le (length s) high) s)) (only_needed BadBucket (text_at k x))
    (λ s. only_needed BadBucket (only_if (nat_le low (length s) && nat_le (length s) high) s))

only_bucket_parts : (u n : Result (Seq ℕ) SkipReason) (s c t : Option ℕ) → OnlyFails BadBucket u → OnlyFails BadBucket n → OnlyFails BadBucket (bucket_of_parts u n s c t)
only_bucket_parts (Err e) n s c t h k = h
only_bucket_parts (Ok u) (Err e) s c t h k = k
only_bucket_parts (Ok u) (Ok n) None c t h k = refl
only_bucket_parts (Ok u) (Ok n) (Some s) None t h k = refl
only_bucket_parts (Ok u) (Ok n) (Some s) (Some c) None h k = refl
only_bucket_parts (Ok u) (Ok n) (Some s) (Some c) (Some t) h k = tt

only_bucket : (x : Json) → OnlyFails BadBucket (bucket_of x)
unfolding bucket_of
only_bucket x =
    only_bucket_parts (sized_text (codes "randomizationUnit") 1 80 x) (sized_text (codes "namespace") 0 256 x) (count_at (codes "start") 0 4294967295 x) (count_at (codes "count") 0 4294967295 x) (count_at (codes "total") 1 4294967295 x)
    (only_sized (codes "randomizationUnit") 1 80 x) (only_sized (codes "namespace") 0 256 x)

only_bucket_in : (x : Json) → OnlyFails BadBucket (bucket_in x)
unfolding bucket_in
only_bucket_in x = only_bind BadBucket (needed BadBucket (get (codes "bucketConfig") x)) bucket_of (only_needed BadBucket (get (codes "bucketConfig") x)) only_bucket

only_each : {A : Type 0} (r : SkipReason) (read : Json → Result A SkipReason) → ((x : Json) → OnlyFails r (read x)) → (xs : Items) → OnlyFails r (each read xs)
only_each r read h no_items = tt
only_each r read h (item x xs) =
    only_bind r (read x) (λ a. each read xs >>= λ l. Ok (a ∷ l)) (h x) (λ a. only_bind r (each read xs) (λ l. Ok (a ∷ l)) (only_each r read h xs) (λ l. tt))

only_list : {A : Type 0} (test : Seq A → Bool) (b : Bool) (r : Result (Seq A) SkipReason) → OnlyFails BadBranches r → OnlyFails BadBranches (list_of_parts test b r)
only_list test false r h = refl
only_list test true (Err e) h = h
only_list test true (Ok l) h = only_needed BadBranches (only_if (test l) l)

only_value : (o : Option Json) → OnlyFails BadBranches (value_of o)
unfolding value_of
only_value None = tt
only_value (Some x) = only_needed BadBranches (only_if (is_feature_value x) (tree_from x))

only_feature_parts : (o : Option (Seq ℕ)) (v : Result Tree SkipReason) → OnlyFails BadBranches v → OnlyFails BadBranches (feature_of_parts o v)
only_feature_parts None v h = refl
only_feature_parts (Some id) (Err e) h = only_bind BadBranches (needed BadBranches (only_if (is_name id) id)) (λ name. Err e) (only_needed BadBranches (only_if (is_name id) id)) (λ name. h)
only_feature_parts (Some id) (Ok v) h =
    let made = λ (name : Seq ℕ). let f : FeatureValue = record { feature = name; value = v } in f in
    only_bind BadBranches (needed BadBranches (only_if (is_name id) id)) (λ name. Ok (made name)) (only_needed BadBranches (only_if (is_name id) id)) (λ name. tt)

only_feature : (x : Json) → OnlyFails BadBranches (feature_of x)
unfolding feature_of
only_feature x = only_feature_parts (text_at (codes "featureId") x) (value_of (present (get (codes "value") x))) (only_value (present (get (codes "value") x)))

only_features : (xs : Items) → OnlyFails BadBranches (features_of xs)
unfolding features_of
only_features xs = only_list feature_test (is_feature_count xs) (each feature_of xs) (only_each BadBranches feature_of only_feature xs)

only_single : (o : Option Json) → OnlyFails BadBranches (single o)
unfolding single
only_single None = tt
only_single (Some x) = only_bind BadBranches (feature_of x) (λ f. Ok (f ∷ [])) (only_feature x) (λ f. tt)

only_listed : (l one : Option Json) → OnlyFails BadBranches (listed l one)
unfolding listed
only_listed None one = only_single one
only_listed (Some (list xs)) one = only_features xs
only_listed (Some x) one = refl

only_branch_parts : (s : Result (Seq ℕ) SkipReason) (r : Option ℕ) (fs : Result (Seq FeatureValue) SkipReason) → OnlyFails BadBranches s → OnlyFails BadBranches fs → OnlyFails BadBranches (branch_of_parts s r fs)
only_branch_parts (Err e) r fs h k = h
only_branch_parts (Ok s) None fs h k = refl
only_branch_parts (Ok s) (Some r) (Err e) h k = k
only_branch_parts (Ok s) (Some r) (Ok fs) h k = tt

only_branch : (x : Json) → OnlyFails BadBranches (branch_of x)
unfolding branch_of
only_branch x =
    let l = present (get (codes "features") x) in
    let one = present (get (codes "feature") x) in
    only_branch_parts (slug_in BadBranches x) (count_at (codes "ratio") 0 1000000 x) (listed l one) (only_slug BadBranches x) (only_listed l one)

only_branches : (xs : Items) → OnlyFails BadBranches (branches_of xs)
unfolding branches_of
only_branches xs = only_list branch_test (is_branch_count xs) (each branch_of xs) (only_each BadBranches branch_of only_branch xs)

only_branches_in : (x : Json) → OnlyFails BadBranches (branches_in x)
unfolding branches_in
only_branches_in x =
    let o = option_and_then as_list (get (codes "branches") x) in
    only_bind BadBranches (needed BadBranches o) branches_of (only_needed BadBranches o) only_branches

-- ---- the table, from its last line to its first

abbrev Later : Option SkipReason → Result Recipe SkipReason → Type 0
Later later r = reason_of r ≡ later

after_read : {A : Type 0} (r : SkipReason) (m : Result A SkipReason) (b : Bool) (rest : A → Result Recipe SkipReason) (later : Option SkipReason) → is_read m ≡ b → OnlyFails r m → ((a : A) → Later later (rest a)) → Later (if not b then Some r else later) (m >>= rest)
after_read r (Ok a) b rest later e h k = subst (λ c. Later (if not c then Some r else later) (rest a)) e (k a)
after_read r (Err d) b rest later e h k = subst (λ c. Later (if not c then Some r else later) (Err d)) e (ap (λ x. Some x) h)

after_check : (r : SkipReason) (b : Bool) (rest : Unit {0} → Result Recipe SkipReason) (later : Option SkipReason) → Later later (rest tt) → Later (if not b then Some r else later) (checked r b >>= rest)
after_check r true rest later k = k
after_check r false rest later k = refl

after_only : (r : SkipReason) (s : Seq ℕ) (b : Bool) (rest : Seq ℕ → Result Recipe SkipReason) (later : Option SkipReason) → Later later (rest s) → Later (if not b then Some r else later) (needed r (only_if b s) >>= rest)
after_only r s true rest later k = k
after_only r s false rest later k = refl

after_slug : (r : SkipReason) (o : Option (Seq ℕ)) (rest : Seq ℕ → Result Recipe SkipReason) (later : Option SkipReason) → ((s : Seq ℕ) → Later later (rest s)) → Later (if not (passes is_slug o) then Some r else later) ((needed r o >>= λ s. needed r (only_if (is_slug s) s)) >>= rest)
after_slug r None rest later k = refl
after_slug r (Some s) rest later k = after_only r s (is_slug s) rest later (k s)

after_schema : (r : SkipReason) (o : Option (Seq ℕ)) (rest : Unit {0} → Result Recipe SkipReason) (later : Option SkipReason) → Later later (rest tt) → Later (if not (passes is_schema o) then Some r else later) ((needed r o >>= λ s. checked r (is_schema s)) >>= rest)
after_schema r None rest later k = refl
after_schema r (Some s) rest later k = after_check r (is_schema s) rest later k

after_fields : (a c t p : Option (Option (Seq ℕ))) (ro pa : Option Bool) (rest : Fields → Result Recipe SkipReason) (later : Option SkipReason) → ((f : Fields) → Later later (rest f))
    → Later (if not (is_some a && is_some c && is_some t && is_some p && is_some ro && is_some pa) then Some BadField else later) (fields_of_parts a c t p ro pa >>= rest)
after_fields None c t p ro pa rest later k = refl
after_fields (Some a) None t p ro pa rest later k = refl
after_fields (Some a) (Some c) None p ro pa rest later k = refl
after_fields (Some a) (Some c) (Some t) None ro pa rest later k = refl
after_fields (Some a) (Some c) (Some t) (Some p) None pa rest later k = refl
after_fields (Some a) (Some c) (Some t) (Some p) (Some ro) None rest later k = refl
after_fields (Some a) (Some c) (Some t) (Some p) (Some ro) (Some pa) rest later k = k _

abbrev made : Seq ℕ → Fields → Bucket → Seq Branch → Recipe
made slug f bucket branches = record { slug = slug; app_name = f.app_name; channel = f.channel; paused = f.paused; rollout = f.rollout; bucket = bucket; branches = branches; targeting = f.targeting; published = f.published }

pub first_reason : IsFirstReason
unfolding recipe_of object_in slug_in schema_in fields_in
first_reason x =
    let late6 : Option SkipReason = if not (has_branches x) then Some BadBranches else None in
    let late5 : Option SkipReason = if not (has_bucket x) then Some BadBucket else late6 in
    let late4 : Option SkipReason = if not (has_fields x) then Some BadField else late5 in
    let late3 : Option SkipReason = if not (passes is_schema (text_at (codes "schemaVersion") x)) then Some BadSchema else late4 in
    let late2 : Option SkipReason = if not (passes is_slug (text_at (codes "slug") x)) then Some BadSlug else late3 in
    after_check NotAnObject (is_object x) _ late2
    (after_slug BadSlug (text_at (codes "slug") x) _ late3
    (λ slug. after_schema BadSchema (text_at (codes "schemaVersion") x) _ late4
    (after_fields (optional_text (get (codes "appName") x)) (optional_text (get (codes "channel") x)) (optional_text (get (codes "targeting") x)) (optional_text (get (codes "publishedDate") x)) (optional_truth (get (codes "isRollout") x)) (truth_or_absent (get (codes "isEnrollmentPaused") x)) _ late5
    (λ f. after_read BadBucket (bucket_in x) (has_bucket x) _ late6 (bucket_in_read x) (only_bucket_in x)
    (λ bucket. after_read BadBranches (branches_in x) (has_branches x) (λ branches. Ok (made slug f bucket branches)) None (branches_in_read x) (only_branches_in x) (λ branches. refl))))))
