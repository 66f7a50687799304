-- The bucket and the branches are read exactly where their conditions hold.
use Rattle.std.proofs.Common.{◌≡◌, ℕ, ◌+◌, List as Seq, [], ◌∷◌, map, Bool, true, false, Option, Some, None, Result, Ok, Err, refl, sym, ap, ap₂, ◌∙◌}
use Rattle.std.specs.Prelude.{◌&&◌, ◌||◌, not, nat_lt, codes, bytes_eq, option_and_then}
use Rattle.std.specs.Option.{is_some, unwrap_or}
use Rattle.std.specs.List.{list_any}
use Rattle.std.proofs.lemmas.List.Sums.{sum_by-cons}
use Rattle.json_tree.specs.Json.{Json, list, Items, no_items, item, get}
use Rattle.json_tree.specs.declared.tree.Tree.{Tree}
use Rattle.plain_text.specs.Names.{is_name}
use Rattle.recipe_reader.specs.declared.recipe.SkipReason.{SkipReason}
use Rattle.recipe_reader.specs.declared.recipe.SkipReason.TheVariants.{BadBucket, BadBranches}
use Rattle.recipe_reader.specs.declared.recipe.Branch.{Branch}
use Rattle.recipe_reader.specs.declared.recipe.FeatureValue.{FeatureValue}
use Rattle.recipe_reader.specs.Outcome.{◌>>=◌, needed, only_if}
use Rattle.json_tree.specs.Inverse.{tree_from}
use Rattle.recipe_reader.specs.Values.{text_at, count_at, is_slug, is_sized, present}
use Rattle.recipe_reader.specs.Parts.{slug_in, sized_text, bucket_of, bucket_in}
use Rattle.recipe_reader.specs.Branches.{each, are_distinct, is_feature_value, value_of, feature_of, is_feature_count, features_of, single, listed, branch_of, ratio_sum, is_branch_count, branches_of, as_list, branches_in}
use Rattle.recipe_reader.specs.Reasons.{passes, all_items, texts_of, texts_at, have_distinct, is_bucket, has_bucket, is_value, is_feature, are_features, have_features, is_branch, ratios_sum, are_branches, has_branches}
use Rattle.recipe_reader.proofs.Steps.{ok_is, bind_ok, needed_ok, only_if_ok}
use Rattle.recipe_reader.proofs.FieldsAgain.{bucket_of_parts}
use Rattle.recipe_reader.proofs.BranchesAgain.{one_more, named_parts, feature_of_parts, list_of_parts, branch_of_parts, branch_parts, feature_test, branch_test}

abbrev pub is_read : {A : Type 0} → Result A SkipReason → Bool
is_read (Ok a) = true
is_read (Err r) = false

-- ---- single values

kept_read : {A : Type 0} (r : SkipReason) (b : Bool) (a : A) → is_read (needed r (only_if b a)) ≡ b
kept_read r true a = refl
kept_read r false a = refl

found_read : {A B : Type 0} (r : SkipReason) (f : A → Result B SkipReason) (test : A → Bool) → ((a : A) → is_read (f a) ≡ test a) → (o : Option A) → is_read (needed r o >>= f) ≡ passes test o
found_read r f test h None = refl
found_read r f test h (Some a) = h a

slug_read : (r : SkipReason) (x : Json) → is_read (slug_in r x) ≡ passes is_slug (text_at (codes "slug") x)
unfolding slug_in
slug_read r x = found_read r (λ s. needed r (only_if (is_slug s) s)) is_slug (λ s. kept_read r (is_slug s) s) (text_at (codes "slug") x)

sized_read : (k : Seq ℕ) (low high : ℕ) (x : Json) → is_read (sized_text k low high x) ≡ passes (is_sized low high) (text_at k x)
unfolding sized_text
sized_read k low high x = found_read BadBucket (λ s. needed BadBucket (only_if (is_sized low high s) s)) (is_sized low high) (λ s. kept_read BadBucket (is_sized low high s) s) (text_at k x)

-- ---- the bucket

bucket_parts_read : (u n : Result (Seq ℕ) SkipReason) (s c t : Option ℕ) → is_read (bucket_of_parts u n s c t) ≡ (is_read u && is_read n && is_some s && is_some c && is_some t)
bucket_parts_read (Err e) n s c t = refl
bucket_parts_read (Ok u) (Err e) s c t = refl
bucket_parts_read (Ok u) (Ok n) None c t = refl
bucket_parts_read (Ok u) (Ok n) (Some s) None t = refl
bucket_parts_read (Ok u) (Ok n) (Some s) (Some c) None = refl
bucket_parts_read (Ok u) (Ok n) (Some s) (Some c) (Some t) = refl

bucket_read : (b : Json) → is_read (bucket_of b) ≡ is_bucket b
unfolding bucket_of
bucket_read b =
    let start = count_at (codes "start") 0 4294967295 b in
    let count = count_at (codes "count") 0 4294967295 b in
    let total = count_at (codes "total") 1 4294967295 b in
    bucket_parts_read (sized_text (codes "randomizationUnit") 1 80 b) (sized_text (codes "namespace") 0 256 b) start count total
    ∙ ap₂ (λ u n. u && n && is_some start && is_some count && is_some total) (sized_read (codes "randomizationUnit") 1 80 b) (sized_read (codes "namespace") 0 256 b)

pub bucket_in_read : (x : Json) → is_read (bucket_in x) ≡ has_bucket x
unfolding bucket_in
bucket_in_read x = found_read BadBucket bucket_of is_bucket bucket_read (get (codes "bucketConfig") x)

-- ---- lists

cons_read : {A : Type 0} (r : Result A SkipReason) (rs : Result (Seq A) SkipReason) → is_read (r >>= λ a. rs >>= λ l. Ok (a ∷ l)) ≡ (is_read r && is_read rs)
cons_read (Err e) rs = refl
cons_read (Ok a) (Err e) = refl
cons_read (Ok a) (Ok l) = refl

each_read : {A : Type 0} (read : Json → Result A SkipReason) (test : Json → Bool) → ((x : Json) → is_read (read x) ≡ test x) → (xs : Items) → is_read (each read xs) ≡ all_items test xs
each_read read test h no_items = refl
each_read read test h (item x xs) = cons_read (read x) (each read xs) ∙ ap₂ (λ a b. a && b) (h x) (each_read read test h xs)

texts_read : {A : Type 0} (read : Json → Result A SkipReason) (key : A → Seq ℕ) (k : Seq ℕ) → ((x : Json) (a : A) → read x ≡ Ok a → text_at k x ≡ Some (key a))
    → (xs : Items) (as' : Seq A) → each read xs ≡ Ok as' → texts_at k xs ≡ map key as'
texts_read read key k h no_items as' e = ap (map key) (ok_is [] as' e)
texts_read read key k h (item x xs) as' e =
    let p = one_more (read x) (each read xs) as' e in
    ap₂ texts_of (h x p.0 p.2) (texts_read read key k h xs p.1 p.3) ∙ ap (map key) p.4

any_key : {A : Type 0} (key : A → Seq ℕ) (s : Seq ℕ) (as' : Seq A) → list_any (λ t. bytes_eq t s) (map key as') ≡ list_any (λ a. bytes_eq (key a) s) as'
any_key key s [] = refl
any_key key s (a ∷ as') = ap (λ b. bytes_eq (key a) s || b) (any_key key s as')

distinct_keys : {A : Type 0} (key : A → Seq ℕ) (as' : Seq A) → are_distinct (λ s. s) (map key as') ≡ are_distinct key as'
distinct_keys key [] = refl
distinct_keys key (a ∷ as') = ap₂ (λ b c. not b && c) (any_key key (key a) as') (distinct_keys key as')

distinct_read : {A : Type 0} (read : Json → Result A SkipReason) (key : A → Seq ℕ) (k : Seq ℕ) → ((x : Json) (a : A) → read x ≡ Ok a → text_at k x ≡ Some (key a))
    → (xs : Items) (as' : Seq A) → each read xs ≡ Ok as' → are_distinct key as' ≡ have_distinct k xs
distinct_read read key k h xs as' e = sym (distinct_keys key as') ∙ sym (ap (λ ss. are_distinct (λ s. s) ss) (texts_read read key k h xs as' e))

list_read : {A : Type 0} (test : Seq A → Bool) (count all others : Bool) (r : Result (Seq A) SkipReason) → is_read r ≡ all → ((l : Seq A) → r ≡ Ok l → test l ≡ others)
    → is_read (list_of_parts test count r) ≡ (count && (all && others))
list_read test false all others r h k = refl
list_read test true all others (Err e) h k = ap (λ b. b && others) h
list_read test true all others (Ok l) h k = kept_read BadBranches (test l) l ∙ k l refl ∙ ap (λ b. b && others) h

-- ---- features

value_read : (o : Option Json) → is_read (value_of o) ≡ is_value o
unfolding value_of
value_read None = refl
value_read (Some x) = kept_read BadBranches (is_feature_value x) (tree_from x)

named_read : (id : Seq ℕ) (b : Bool) (v : Result Tree SkipReason) → is_read (named_parts id b v) ≡ (b && is_read v)
named_read id false v = refl
named_read id true (Err e) = refl
named_read id true (Ok v) = refl

feature_parts_read : (o : Option (Seq ℕ)) (v : Result Tree SkipReason) → is_read (feature_of_parts o v) ≡ (passes is_name o && is_read v)
feature_parts_read None v = refl
feature_parts_read (Some id) v = named_read id (is_name id) v

feature_read : (f : Json) → is_read (feature_of f) ≡ is_feature f
unfolding feature_of
feature_read f =
    let id = text_at (codes "featureId") f in
    let value = present (get (codes "value") f) in
    feature_parts_read id (value_of value) ∙ ap (λ b. passes is_name id && b) (value_read value)

named_id : (id : Seq ℕ) (b : Bool) (v : Result Tree SkipReason) (f : FeatureValue) → named_parts id b v ≡ Ok f → Some id ≡ Some f.feature
named_id id false v f e = absurd cc
named_id id true (Err r) f e = absurd cc
named_id id true (Ok v) f e = ap (λ (g : FeatureValue). Some g.feature) (ok_is _ f e)

parts_id : (o : Option (Seq ℕ)) (v : Result Tree SkipReason) (f : FeatureValue) → feature_of_parts o v ≡ Ok f → o ≡ Some f.feature
parts_id None v f e = absurd cc
parts_id (Some id) v f e = named_id id (is_name id) v f e

pub feature_id : (x : Json) (f : FeatureValue) → feature_of x ≡ Ok f → text_at (codes "featureId") x ≡ Some f.feature
unfolding feature_of
feature_id x f e = parts_id (text_at (codes "featureId") x) (value_of (present (get (codes "value") x))) f e

features_read : (xs : Items) → is_read (features_of xs) ≡ are_features xs
unfolding features_of
features_read xs =
    list_read feature_test (is_feature_count xs) (all_items is_feature xs) (have_distinct (codes "featureId") xs) (each feature_of xs) (each_read feature_of is_feature feature_read xs)
    (distinct_read feature_of (λ (f : FeatureValue). f.feature) (codes "featureId") feature_id xs)

one_read : (r : Result FeatureValue SkipReason) → is_read (r >>= λ f. Ok (f ∷ [])) ≡ is_read r
one_read (Ok f) = refl
one_read (Err e) = refl

single_read : (one : Option Json) → is_read (single one) ≡ have_features None one
unfolding single
single_read None = refl
single_read (Some x) = one_read (feature_of x) ∙ feature_read x

listed_read : (l one : Option Json) → is_read (listed l one) ≡ have_features l one
unfolding listed
listed_read None one = single_read one
listed_read (Some (list xs)) one = features_read xs
listed_read (Some x) one = refl

-- ---- branches

branch_parts_read : (s : Result (Seq ℕ) SkipReason) (r : Option ℕ) (fs : Result (Seq FeatureValue) SkipReason) → is_read (branch_of_parts s r fs) ≡ (is_read s && is_some r && is_read fs)
branch_parts_read (Err e) r fs = refl
branch_parts_read (Ok s) None fs = refl
branch_parts_read (Ok s) (Some r) (Err e) = refl
branch_parts_read (Ok s) (Some r) (Ok fs) = refl

branch_read : (b : Json) → is_read (branch_of b) ≡ is_branch b
unfolding branch_of
branch_read b =
    let ratio = count_at (codes "ratio") 0 1000000 b in
    let l = present (get (codes "features") b) in
    let one = present (get (codes "feature") b) in
    branch_parts_read (slug_in BadBranches b) ratio (listed l one) ∙ ap₂ (λ s fs. s && is_some ratio && fs) (slug_read BadBranches b) (listed_read l one)

pub slug_text : (r : SkipReason) (x : Json) (s : Seq ℕ) → slug_in r x ≡ Ok s → text_at (codes "slug") x ≡ Some s
unfolding slug_in
slug_text r x s e =
    let b = bind_ok (needed r (text_at (codes "slug") x)) (λ t. needed r (only_if (is_slug t) t)) s e in
    let g = only_if_ok (is_slug b.0) b.0 s (needed_ok r (only_if (is_slug b.0) b.0) s b.2) in
    needed_ok r (text_at (codes "slug") x) b.0 b.1 ∙ ap (λ t. Some t) g.1

pub branch_slug : (x : Json) (b : Branch) → branch_of x ≡ Ok b → text_at (codes "slug") x ≡ Some b.slug
unfolding branch_of
branch_slug x b e =
    slug_text BadBranches x b.slug (branch_parts (slug_in BadBranches x) (count_at (codes "ratio") 0 1000000 x) (listed (present (get (codes "features") x)) (present (get (codes "feature") x))) b e).0

pub branch_ratio : (x : Json) (b : Branch) → branch_of x ≡ Ok b → count_at (codes "ratio") 0 1000000 x ≡ Some b.ratio
unfolding branch_of
branch_ratio x b e = (branch_parts (slug_in BadBranches x) (count_at (codes "ratio") 0 1000000 x) (listed (present (get (codes "features") x)) (present (get (codes "feature") x))) b e).1

ratios_read : (xs : Items) (bs : Seq Branch) → each branch_of xs ≡ Ok bs → ratios_sum xs ≡ ratio_sum bs
ratios_read no_items bs e = ap ratio_sum (ok_is [] bs e)
ratios_read (item x xs) bs e =
    let p = one_more (branch_of x) (each branch_of xs) bs e in
    ap₂ (λ r s. unwrap_or r 0 + s) (branch_ratio x p.0 p.2) (ratios_read xs p.1 p.3) ∙ sym (sum_by-cons (λ (b : Branch). b.ratio) p.0 p.1) ∙ ap ratio_sum p.4

branches_read : (xs : Items) → is_read (branches_of xs) ≡ are_branches xs
unfolding branches_of
branches_read xs =
    list_read branch_test (is_branch_count xs) (all_items is_branch xs) (have_distinct (codes "slug") xs && nat_lt 0 (ratios_sum xs)) (each branch_of xs) (each_read branch_of is_branch branch_read xs)
    (λ bs e. ap₂ (λ a s. a && nat_lt 0 s) (distinct_read branch_of (λ (b : Branch). b.slug) (codes "slug") branch_slug xs bs e) (sym (ratios_read xs bs e)))

pub branches_in_read : (x : Json) → is_read (branches_in x) ≡ has_branches x
unfolding branches_in
branches_in_read x = found_read BadBranches branches_of are_branches branches_read (option_and_then as_list (get (codes "branches") x))
