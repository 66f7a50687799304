-- The recipes of a sound payload have sound records.
use Rattle.std.proofs.Common.{◌≡◌, ◌<◌, ◌^◌, ℕ, ◌+◌, ◌&&◌, Bool, true, false, pos, negsuc, ℤ, nat_le, List as Seq, [], ◌∷◌, map, Option, Some, None, Result, Ok, Err, refl, sym, subst, arith, rules, leb-true}
use Rattle.std.proofs.lemmas.Bool.{and_parts}
use Rattle.std.specs.Prelude.{IfSome, IfOk, IsUtf8, codes, not, option_and_then, if◌then◌else◌}
use Rattle.std.specs.Ordering.{is_lt}
use Rattle.json_tree.specs.Json as json
use Rattle.json_tree.specs.Json.{Json, Items, no_items, item, items_of, get, IsSound, AreSoundItems}
use Rattle.json_tree.specs.Tree.{json_of}
use Rattle.json_tree.specs.declared.tree.Tree.{Tree}
use Rattle.plain_text.specs.Names.{is_name}
use Rattle.recipe_reader.specs.Branches.{each, is_feature_count, is_branch_count, as_list, feature_of, features_of, is_feature_value, value_of, single, listed, branch_of, branches_of, branches_in}
use Rattle.recipe_reader.specs.Outcome.{◌>>=◌, needed, only_if}
use Rattle.recipe_reader.specs.Parts.{object_in, slug_in, schema_in, fields_in, sized_text, bucket_of, bucket_in}
use Rattle.recipe_reader.specs.Payloads.{slug_cmp, has_slug, with_recipe, skipping, taking, payload_from, no_records, records_in, counted, payload_of}
use Rattle.recipe_reader.specs.Records.{text_or_null, bucket_json, feature_json, branch_json, recipe_of, record_json}
use Rattle.json_tree.specs.Inverse.{tree_from}
use Rattle.recipe_reader.specs.Values.{as_text, text_at, count_within, as_count, count_at, is_null, is_slug, is_sized, present, optional_text, optional_truth, truth_or_absent, kept_if, has_bytes, has_more_than_blanks, is_moment}
use Rattle.recipe_reader.specs.declared.payload.Payload.{Payload}
use Rattle.recipe_reader.specs.declared.payload.PayloadFault.{PayloadFault}
use Rattle.recipe_reader.specs.declared.recipe.Branch.{Branch}
use Rattle.recipe_reader.specs.declared.recipe.Bucket.{Bucket}
use Rattle.recipe_reader.specs.declared.recipe.FeatureValue.{FeatureValue}
use Rattle.recipe_reader.specs.declared.recipe.Fields.{Fields}
use Rattle.recipe_reader.specs.declared.recipe.Recipe.{Recipe}
use Rattle.recipe_reader.specs.declared.recipe.SkipReason.{SkipReason}
use Rattle.recipe_reader.specs.declared.recipe.SkipReason.TheVariants.{BadSlug, Duplicate}
use Rattle.recipe_reader.proofs.Again.{recipe_of_parts}
use Rattle.recipe_reader.proofs.BranchesAgain.{feature_of_parts, named_parts, list_of_parts, feature_test, branch_of_parts, branch_test}
use Rattle.recipe_reader.proofs.FieldsAgain.{fields_of_parts, bucket_of_parts}
use Rattle.recipe_reader.proofs.RecordSums.{record_sound, branch_sound}
use Rattle.json_tree.proofs.Trees.{same_values}
use Rattle.state_codec.specs.Sound.{AreRecords}
use Rattle.client_steps.proofs.FoundValues.{get_sound}

-- ---- what stands under a key

text_sound : (x : Option Json) → IfSome x IsSound → IfSome (option_and_then as_text x) IsUtf8
text_sound (Some (json.text s)) h = h
text_sound x h = tt

text_at-sound : (k : Seq ℕ) (x : Json) → IsSound x → IfSome (text_at k x) IsUtf8
text_at-sound k x h = text_sound (get k x) (get_sound k x h)

list_sound : (x : Option Json) → IfSome x IsSound → IfSome (option_and_then as_list x) AreSoundItems
list_sound (Some (json.list xs)) h = h
list_sound x h = tt

present_when : (there : Bool) (x : Json) → IsSound x → IfSome (only_if there x) IsSound
present_when true x h = h
present_when false x h = tt

present_sound : (x : Option Json) → IfSome x IsSound → IfSome (present x) IsSound
present_sound None h = tt
present_sound (Some x) h = present_when (not (is_null x)) x h

-- ---- counts

-- a count that is a whole number of 64 bits
abbrev IsCount : ℕ → Type 0
IsCount n = IsSound (json.whole (pos n))

count_when : (low high n : ℕ) (between : Bool) → (nat_le low n && nat_le n high) ≡ between → high < 2 ^ 63 → IfSome (only_if between n) IsCount
count_when low high n true e small = let most = leb-true n high (and_parts (nat_le low n) (nat_le n high) e).1 in record { sfits = omega (arith, most, small) }
count_when low high n false e small = tt

within_sound : (n : ℤ) (low high : ℕ) → high < 2 ^ 63 → IfSome (count_within n low high) IsCount
within_sound (pos n) low high small = count_when low high n (nat_le low n && nat_le n high) refl small
within_sound (negsuc n) low high small = tt

count_sound : (low high : ℕ) (x : Option Json) → high < 2 ^ 63 → IfSome (option_and_then (as_count low high) x) IsCount
count_sound low high (Some (json.whole n)) small = within_sound n low high small
count_sound low high x small = tt

-- ---- texts that pass a test

tested_when : (r : SkipReason) (passes : Bool) (s : Seq ℕ) → IsUtf8 s → IfOk (needed r (only_if passes s)) IsUtf8
tested_when r true s u = u
tested_when r false s u = tt

tested : (r : SkipReason) (test : Seq ℕ → Bool) (o : Option (Seq ℕ)) → IfSome o IsUtf8 → IfOk (needed r o >>= λ s. needed r (only_if (test s) s)) IsUtf8
tested r test None u = tt
tested r test (Some s) u = tested_when r (test s) s u

slug_sound : (r : SkipReason) (x : Json) → IsSound x → IfOk (slug_in r x) IsUtf8
unfolding slug_in
slug_sound r x h = tested r is_slug (text_at (codes "slug") x) (text_at-sound (codes "slug") x h)

-- ---- fields

abbrev IsText : Option (Seq ℕ) → Type 0
IsText s = IsSound (text_or_null s)

abbrev HasFields : Fields → Type 0
HasFields f = IsText f.app_name × IsText f.channel × IsText f.targeting × IsText f.published

optional_sound : (x : Option Json) → IfSome x IsSound → IfSome (optional_text x) IsText
optional_sound (Some (json.text s)) h = h
optional_sound x h = tt

kept_when : (keeps : Bool) (s : Seq ℕ) → IsUtf8 s → IsText (only_if keeps s)
kept_when true s u = u
kept_when false s u = tt

kept_sound : (test : Seq ℕ → Bool) (s : Option (Seq ℕ)) → IsText s → IsText (kept_if test s)
kept_sound test None h = tt
kept_sound test (Some s) h = kept_when (test s) s h

fields_of_sound : (a c t p : Option (Option (Seq ℕ))) (ro pa : Option Bool) → IfSome a IsText → IfSome c IsText → IfSome t IsText → IfSome p IsText → IfOk (fields_of_parts a c t p ro pa) HasFields
fields_of_sound (Some a) (Some c) (Some t) (Some p) (Some ro) (Some pa) ha hc ht hp = (kept_sound has_bytes a ha, kept_sound has_bytes c hc, kept_sound has_more_than_blanks t ht, kept_sound is_moment p hp)
fields_of_sound a c t p ro pa ha hc ht hp = tt

fields_sound : (x : Json) → IsSound x → IfOk (fields_in x) HasFields
unfolding fields_in
fields_sound x h =
    let at = λ (k : Seq ℕ). optional_sound (get k x) (get_sound k x h) in
    fields_of_sound (optional_text (get (codes "appName") x)) (optional_text (get (codes "channel") x)) (optional_text (get (codes "targeting") x)) (optional_text (get (codes "publishedDate") x)) (optional_truth (get (codes "isRollout") x)) (truth_or_absent (get (codes "isEnrollmentPaused") x))
    (at (codes "appName")) (at (codes "channel")) (at (codes "targeting")) (at (codes "publishedDate"))

-- ---- the bucket

abbrev IsBucket : Bucket → Type 0
IsBucket b = IsSound (bucket_json b)

sized_sound : (k : Seq ℕ) (low high : ℕ) (x : Json) → IsSound x → IfOk (sized_text k low high x) IsUtf8
unfolding sized_text
sized_sound k low high x h = tested _ (is_sized low high) (text_at k x) (text_at-sound k x h)

bucket_record : (b : Bucket) → IsUtf8 b.unit → IsUtf8 b.namespace → IsCount b.start → IsCount b.count → IsCount b.total → IsBucket b
bucket_record b unit namespace start count total = (search rules, search rules, count, (search rules, search rules, namespace, (search rules, search rules, unit, (search rules, search rules, start, (search rules, tt, total, tt)))))

bucket_of_sound : (u n : Result (Seq ℕ) SkipReason) (s c t : Option ℕ) → IfOk u IsUtf8 → IfOk n IsUtf8 → IfSome s IsCount → IfSome c IsCount → IfSome t IsCount → IfOk (bucket_of_parts u n s c t) IsBucket
bucket_of_sound (Ok u) (Ok n) (Some s) (Some c) (Some t) hu hn hs hc ht = bucket_record (record { unit = u; namespace = n; start = s; count = c; total = t }) hu hn hs hc ht
bucket_of_sound u n s c t hu hn hs hc ht = tt

bucket_sound : (x : Json) → IsSound x → IfOk (bucket_of x) IsBucket
unfolding bucket_of
bucket_sound x h =
    let small : 4294967295 < 2 ^ 63 = omega arith in
    bucket_of_sound (sized_text (codes "randomizationUnit") 1 80 x) (sized_text (codes "namespace") 0 256 x) (count_at (codes "start") 0 4294967295 x) (count_at (codes "count") 0 4294967295 x) (count_at (codes "total") 1 4294967295 x)
    (sized_sound (codes "randomizationUnit") 1 80 x h) (sized_sound (codes "namespace") 0 256 x h) (count_sound 0 4294967295 (get (codes "start") x) small) (count_sound 0 4294967295 (get (codes "count") x) small) (count_sound 1 4294967295 (get (codes "total") x) small)

from_sound : {A B : Type 0} (r : SkipReason) (P : A → Type 0) (Q : B → Type 0) (read : A → Result B SkipReason) → ((a : A) → P a → IfOk (read a) Q) → (o : Option A) → IfSome o P → IfOk (needed r o >>= read) Q
from_sound r P Q read each None h = tt
from_sound r P Q read each (Some a) h = each a h

bucket_in-sound : (x : Json) → IsSound x → IfOk (bucket_in x) IsBucket
unfolding bucket_in
bucket_in-sound x h = from_sound _ IsSound IsBucket bucket_of bucket_sound (get (codes "bucketConfig") x) (get_sound (codes "bucketConfig") x h)

-- ---- lists

-- each has a sound value
abbrev AreSound : {A : Type 0} → (A → Json) → Seq A → Type 0
AreSound json as' = AreSoundItems (items_of (map json as'))

one_more : {A : Type 0} (json : A → Json) (r : Result A SkipReason) (rs : Result (Seq A) SkipReason) → IfOk r (λ a. IsSound (json a)) → IfOk rs (AreSound json) → IfOk (r >>= λ a. rs >>= λ l. Ok (a ∷ l)) (AreSound json)
one_more json (Err d) rs here there = tt
one_more json (Ok a) (Err d) here there = tt
one_more json (Ok a) (Ok l) here there = (here, there)

each_sound : {A : Type 0} (read : Json → Result A SkipReason) (json : A → Json) → ((x : Json) → IsSound x → IfOk (read x) (λ a. IsSound (json a))) → (xs : Items) → AreSoundItems xs → IfOk (each read xs) (AreSound json)
each_sound read json one no_items h = tt
each_sound read json one (item x xs) h = one_more json (read x) (each read xs) (one x h.0) (each_sound read json one xs h.1)

list_when : {A : Type 0} (json : A → Json) (r : SkipReason) (passes : Bool) (l : Seq A) → AreSound json l → IfOk (needed r (only_if passes l)) (AreSound json)
list_when json r true l h = h
list_when json r false l h = tt

list_of_sound : {A : Type 0} (json : A → Json) (test : Seq A → Bool) (counted : Bool) (r : Result (Seq A) SkipReason) → IfOk r (AreSound json) → IfOk (list_of_parts test counted r) (AreSound json)
list_of_sound json test false r h = tt
list_of_sound json test true (Err d) h = tt
list_of_sound json test true (Ok l) h = list_when json _ (test l) l h

-- ---- features

value_when : (r : SkipReason) (fits : Bool) (x : Json) → IsSound x → IfOk (needed r (only_if fits (tree_from x))) (λ t. IsSound (json_of t))
value_when r true x h = subst IsSound (sym (same_values x)) h
value_when r false x h = tt

value_sound : (o : Option Json) → IfSome o IsSound → IfOk (value_of o) (λ t. IsSound (json_of t))
unfolding value_of
value_sound None h = tt
value_sound (Some x) h = value_when _ (is_feature_value x) x h

feature_record : (f : FeatureValue) → IsUtf8 f.feature → IsSound (json_of f.value) → IsSound (feature_json f)
feature_record f name value = (search rules, search rules, name, (search rules, tt, value, tt))

named_sound : (id : Seq ℕ) (named : Bool) (v : Result Tree SkipReason) → IsUtf8 id → IfOk v (λ t. IsSound (json_of t)) → IfOk (named_parts id named v) (λ f. IsSound (feature_json f))
named_sound id false v u h = tt
named_sound id true (Err r) u h = tt
named_sound id true (Ok v) u h = feature_record (record { feature = id; value = v }) u h

feature_of_sound : (o : Option (Seq ℕ)) (v : Result Tree SkipReason) → IfSome o IsUtf8 → IfOk v (λ t. IsSound (json_of t)) → IfOk (feature_of_parts o v) (λ f. IsSound (feature_json f))
feature_of_sound None v u h = tt
feature_of_sound (Some id) v u h = named_sound id (is_name id) v u h

feature_sound : (x : Json) → IsSound x → IfOk (feature_of x) (λ f. IsSound (feature_json f))
unfolding feature_of
feature_sound x h =
    feature_of_sound (text_at (codes "featureId") x) (value_of (present (get (codes "value") x))) (text_at-sound (codes "featureId") x h) (value_sound (present (get (codes "value") x)) (present_sound (get (codes "value") x) (get_sound (codes "value") x h)))

features_sound : (xs : Items) → AreSoundItems xs → IfOk (features_of xs) (AreSound feature_json)
unfolding features_of
features_sound xs h = list_of_sound feature_json feature_test (is_feature_count xs) (each feature_of xs) (each_sound feature_of feature_json feature_sound xs h)

one_feature : (r : Result FeatureValue SkipReason) → IfOk r (λ f. IsSound (feature_json f)) → IfOk (r >>= λ f. Ok (f ∷ [])) (AreSound feature_json)
one_feature (Err d) h = tt
one_feature (Ok f) h = (h, tt)

single_sound : (one : Option Json) → IfSome one IsSound → IfOk (single one) (AreSound feature_json)
unfolding single
single_sound None h = tt
single_sound (Some x) h = one_feature (feature_of x) (feature_sound x h)

listed_sound : (l one : Option Json) → IfSome l IsSound → IfSome one IsSound → IfOk (listed l one) (AreSound feature_json)
unfolding listed
listed_sound None one h k = single_sound one k
listed_sound (Some (json.list xs)) one h k = features_sound xs h
listed_sound l one h k = tt

-- ---- branches

branch_of_sound : (s : Result (Seq ℕ) SkipReason) (r : Option ℕ) (fs : Result (Seq FeatureValue) SkipReason) → IfOk s IsUtf8 → IfSome r IsCount → IfOk fs (AreSound feature_json) → IfOk (branch_of_parts s r fs) (λ b. IsSound (branch_json b))
branch_of_sound (Ok s) (Some r) (Ok fs) hs hr hf = branch_sound (record { slug = s; ratio = r; features = fs }) hf hr hs
branch_of_sound s r fs hs hr hf = tt

branch_in-sound : (x : Json) → IsSound x → IfOk (branch_of x) (λ b. IsSound (branch_json b))
unfolding branch_of
branch_in-sound x h =
    let at = λ (k : Seq ℕ). present_sound (get k x) (get_sound k x h) in
    branch_of_sound (slug_in _ x) (count_at (codes "ratio") 0 1000000 x) (listed (present (get (codes "features") x)) (present (get (codes "feature") x)))
    (slug_sound _ x h) (count_sound 0 1000000 (get (codes "ratio") x) (omega arith)) (listed_sound (present (get (codes "features") x)) (present (get (codes "feature") x)) (at (codes "features")) (at (codes "feature")))

branches_of_sound : (xs : Items) → AreSoundItems xs → IfOk (branches_of xs) (AreSound branch_json)
unfolding branches_of
branches_of_sound xs h = list_of_sound branch_json branch_test (is_branch_count xs) (each branch_of xs) (each_sound branch_of branch_json branch_in-sound xs h)

branches_sound : (x : Json) → IsSound x → IfOk (branches_in x) (AreSound branch_json)
unfolding branches_in
branches_sound x h = from_sound _ AreSoundItems (AreSound branch_json) branches_of branches_of_sound (option_and_then as_list (get (codes "branches") x)) (list_sound (get (codes "branches") x) (get_sound (codes "branches") x h))

-- ---- recipes

abbrev HasRecord : Recipe → Type 0
HasRecord r = IsSound (record_json r)

recipe_of_sound : (ob : Result (Unit {0}) SkipReason) (sl : Result (Seq ℕ) SkipReason) (sc : Result (Unit {0}) SkipReason) (fi : Result Fields SkipReason) (bu : Result Bucket SkipReason) (br : Result (Seq Branch) SkipReason)
    → IfOk sl IsUtf8 → IfOk fi HasFields → IfOk bu IsBucket → IfOk br (AreSound branch_json) → IfOk (recipe_of_parts ob sl sc fi bu br) HasRecord
recipe_of_sound (Ok o) (Ok sl) (Ok s) (Ok f) (Ok bu) (Ok br) hs hf hb hr =
    record_sound (record { slug = sl; app_name = f.app_name; channel = f.channel; paused = f.paused; rollout = f.rollout; bucket = bu; branches = br; targeting = f.targeting; published = f.published }) hf.0 hr hb hf.1 hf.3 hs hf.2
recipe_of_sound ob sl sc fi bu br hs hf hb hr = tt

pub recipe_record : (x : Json) → IsSound x → IfOk (recipe_of x) HasRecord
unfolding recipe_of
recipe_record x h = recipe_of_sound (object_in x) (slug_in BadSlug x) (schema_in x) (fields_in x) (bucket_in x) (branches_in x) (slug_sound BadSlug x h) (fields_sound x h) (bucket_in-sound x h) (branches_sound x h)

-- ---- payloads

placed_at : (before : Bool) (r q : Recipe) (qs placed : Seq Recipe) → HasRecord r → HasRecord q → AreRecords qs → AreRecords placed → AreRecords (if before then r ∷ q ∷ qs else q ∷ placed)
placed_at true r q qs placed one first rest more = (one, (first, rest))
placed_at false r q qs placed one first rest more = (first, more)

with_record : (r : Recipe) (rs : Seq Recipe) → HasRecord r → AreRecords rs → AreRecords (with_recipe r rs)
with_record r [] one all = (one, tt)
with_record r (q ∷ qs) one all = placed_at (is_lt (slug_cmp r.slug q.slug)) r q qs (with_recipe r qs) one all.0 all.1 (with_record r qs one all.1)

keeping_records : (i : ℕ) (r : Recipe) (p : Payload) (known : Bool) → HasRecord r → AreRecords p.recipes → AreRecords (if known then skipping i Duplicate p else record { recipes = with_recipe r p.recipes; skipped = p.skipped }).recipes
keeping_records i r p true one all = all
keeping_records i r p false one all = with_record r p.recipes one all

taking_records : (i : ℕ) (read : Result Recipe SkipReason) (p : Payload) → IfOk read HasRecord → AreRecords p.recipes → AreRecords (taking i read p).recipes
taking_records i (Ok r) p one all = keeping_records i r p (has_slug r.slug p.recipes) one all
taking_records i (Err reason) p one all = all

from_records : (i : ℕ) (p : Payload) (xs : Items) → AreSoundItems xs → AreRecords p.recipes → AreRecords (payload_from i p xs).recipes
from_records i p no_items h all = all
from_records i p (item x xs) h all = from_records (i + 1) (taking i (recipe_of x) p) xs h.1 (taking_records i (recipe_of x) p (recipe_record x h.0) all)

-- each recipe of the payload, where there is one, has a sound record
abbrev pub OfPayload : Result Payload PayloadFault → Type 0
OfPayload read = IfOk read (λ p. AreRecords p.recipes)

choice_records : (few : Bool) (made : Payload) (fault : PayloadFault) → AreRecords made.recipes → OfPayload (if few then Ok made else Err fault)
choice_records true made fault all = all
choice_records false made fault all = tt

counted_records : (found : Option Items) → IfSome found AreSoundItems → OfPayload (counted found)
counted_records None h = tt
counted_records (Some xs) h = choice_records (nat_le _ 2000) (payload_from 0 no_records xs) _ (from_records 0 no_records xs h tt)

pub payload_records : (x : Json) → IsSound x → OfPayload (payload_of x)
unfolding payload_of
payload_records x h = counted_records (records_in x) (list_sound (get (codes "data") x) (get_sound (codes "data") x h))
