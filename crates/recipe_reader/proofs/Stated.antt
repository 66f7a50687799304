-- A record that is not skipped is the recipe whose fields it states.
use Rattle.std.proofs.Common.{◌≡◌, ℕ, pos, List as Seq, [], ◌∷◌, Bool, false, Option, Some, None, Result, Ok, refl, sym, ap, ◌∙◌, subst}
use Rattle.std.specs.Prelude.{◌&&◌, nat_le, codes, option_and_then}
use Rattle.std.specs.Option.{unwrap_or}
use Rattle.json_tree.specs.Json.{Json, null, truth, whole, text, list, object, Items, no_items, item, no_members, get}
use Rattle.json_tree.specs.Tree.{json_of}
use Rattle.json_tree.specs.declared.tree.Tree.{Tree}
use Rattle.json_tree.specs.declared.tree.Tree.TheVariants.{Object}
use Rattle.recipe_reader.specs.declared.recipe.SkipReason.{SkipReason}
use Rattle.recipe_reader.specs.declared.recipe.SkipReason.TheVariants.{BadSlug, BadBucket, BadBranches}
use Rattle.recipe_reader.specs.declared.recipe.Fields.{Fields}
use Rattle.recipe_reader.specs.declared.recipe.Bucket.{Bucket}
use Rattle.recipe_reader.specs.declared.recipe.Branch.{Branch}
use Rattle.recipe_reader.specs.declared.recipe.FeatureValue.{FeatureValue}
use Rattle.recipe_reader.specs.Outcome.{needed, only_if}
use Rattle.json_tree.specs.Inverse.{tree_from}
use Rattle.recipe_reader.specs.Values.{text_at, as_count, count_at, present, optional_text, truth_or_absent, optional_truth, kept_if, has_bytes, has_more_than_blanks, is_moment, is_sized}
use Rattle.recipe_reader.specs.Parts.{object_in, slug_in, schema_in, fields_in, sized_text, bucket_of, bucket_in}
use Rattle.recipe_reader.specs.Branches.{each, is_feature_value, value_of, feature_of, is_feature_count, features_of, single, listed, branch_of, is_branch_count, branches_of, as_list, branches_in}
use Rattle.recipe_reader.specs.Records.{recipe_of}
use Rattle.recipe_reader.specs.Stated.{text_with, is_true, AreEach, IsBucketOf, IsFeatureOf, feature_items, IsBranchOf, RecipesAreStated}
use Rattle.json_tree.proofs.Trees.{same_values}
use Rattle.recipe_reader.proofs.Steps.{ok_is, bind_ok, needed_ok, only_if_ok}
use Rattle.recipe_reader.proofs.FieldsAgain.{fields_of_parts, bucket_parts}
use Rattle.recipe_reader.proofs.BranchesAgain.{one_more, feature_parts, list_parts, branch_parts, feature_test, branch_test}
use Rattle.recipe_reader.proofs.Conditions.{slug_text, feature_id, branch_slug, branch_ratio}
use Rattle.recipe_reader.proofs.Again.{recipe_parts, fields_of}

-- ---- numbers

count_is : (low high : ℕ) (o : Option Json) (n : ℕ) → option_and_then (as_count low high) o ≡ Some n → o ≡ Some (whole (pos n))
count_is low high (Some (whole (pos m))) n e = ap (λ k. Some (whole (pos k))) (only_if_ok (nat_le low m && nat_le m high) m n e).1
count_is low high o n e = absurd cc

-- ---- the fields

-- a text that is read and kept is the text that passes the test
kept_text : (test : Seq ℕ → Bool) (o : Option Json) (s : Option (Seq ℕ)) → optional_text o ≡ Some s → kept_if test s ≡ text_with test o
kept_text test None s e = ap (λ (p : Option (Option (Seq ℕ))). kept_if test (unwrap_or p None)) (sym e)
kept_text test (Some null) s e = ap (λ (p : Option (Option (Seq ℕ))). kept_if test (unwrap_or p None)) (sym e)
kept_text test (Some (text t)) s e = ap (λ (p : Option (Option (Seq ℕ))). kept_if test (unwrap_or p None)) (sym e)
kept_text test (Some x) s e = absurd cc

rollout_is : (o : Option Json) (b : Bool) → optional_truth o ≡ Some b → b ≡ is_true o
rollout_is None b e = ap (λ p. unwrap_or p false) (sym e)
rollout_is (Some null) b e = ap (λ p. unwrap_or p false) (sym e)
rollout_is (Some (truth t)) b e = ap (λ p. unwrap_or p false) (sym e)
rollout_is (Some x) b e = absurd cc

paused_is : (o : Option Json) (b : Bool) → truth_or_absent o ≡ Some b → b ≡ is_true o
paused_is None b e = ap (λ p. unwrap_or p false) (sym e)
paused_is (Some (truth t)) b e = ap (λ p. unwrap_or p false) (sym e)
paused_is (Some x) b e = absurd cc

record AreFields (a c t p ro pa : Option Json) (f : Fields) : Type 0 where
  pub app_name : f.app_name ≡ text_with has_bytes a
  pub channel : f.channel ≡ text_with has_bytes c
  pub targeting : f.targeting ≡ text_with has_more_than_blanks t
  pub published : f.published ≡ text_with is_moment p
  pub rollout : f.rollout ≡ is_true ro
  pub paused : f.paused ≡ is_true pa

-- each part is what was read of its own value
parts_are : (a c t p ro pa : Option Json) (oa oc ot op : Option (Option (Seq ℕ))) (oro opa : Option Bool) → optional_text a ≡ oa → optional_text c ≡ oc → optional_text t ≡ ot → optional_text p ≡ op → optional_truth ro ≡ oro → truth_or_absent pa ≡ opa
    → (f : Fields) → fields_of_parts oa oc ot op oro opa ≡ Ok f → AreFields a c t p ro pa f
parts_are a c t p ro pa None oc ot op oro opa ea ec et ep er eu f e = absurd cc
parts_are a c t p ro pa (Some va) None ot op oro opa ea ec et ep er eu f e = absurd cc
parts_are a c t p ro pa (Some va) (Some vc) None op oro opa ea ec et ep er eu f e = absurd cc
parts_are a c t p ro pa (Some va) (Some vc) (Some vt) None oro opa ea ec et ep er eu f e = absurd cc
parts_are a c t p ro pa (Some va) (Some vc) (Some vt) (Some vp) None opa ea ec et ep er eu f e = absurd cc
parts_are a c t p ro pa (Some va) (Some vc) (Some vt) (Some vp) (Some vr) None ea ec et ep er eu f e = absurd cc
parts_are a c t p ro pa (Some va) (Some vc) (Some vt) (Some vp) (Some vr) (Some vu) ea ec et ep er eu f e =
    subst (AreFields a c t p ro pa) (ok_is _ f e) (record {
      app_name = kept_text has_bytes a va ea;
      channel = kept_text has_bytes c vc ec;
      targeting = kept_text has_more_than_blanks t vt et;
      published = kept_text is_moment p vp ep;
      rollout = rollout_is ro vr er;
      paused = paused_is pa vu eu;
    })

fields_are : (x : Json) (f : Fields) → fields_in x ≡ Ok f → AreFields (get (codes "appName") x) (get (codes "channel") x) (get (codes "targeting") x) (get (codes "publishedDate") x) (get (codes "isRollout") x) (get (codes "isEnrollmentPaused") x) f
unfolding fields_in
fields_are x f e =
    parts_are (get (codes "appName") x) (get (codes "channel") x) (get (codes "targeting") x) (get (codes "publishedDate") x) (get (codes "isRollout") x) (get (codes "isEnrollmentPaused") x) _ _ _ _ _ _ refl refl refl refl refl refl f e

-- ---- the bucket

sized_is : (k : Seq ℕ) (low high : ℕ) (x : Json) (s : Seq ℕ) → sized_text k low high x ≡ Ok s → text_at k x ≡ Some s
unfolding sized_text
sized_is k low high x s e =
    let b = bind_ok (needed BadBucket (text_at k x)) (λ t. needed BadBucket (only_if (is_sized low high t) t)) s e in
    let g = only_if_ok (is_sized low high b.0) b.0 s (needed_ok BadBucket (only_if (is_sized low high b.0) b.0) s b.2) in
    needed_ok BadBucket (text_at k x) b.0 b.1 ∙ ap (λ t. Some t) g.1

bucket_is : (x : Json) (b : Bucket) → bucket_of x ≡ Ok b → IsBucketOf x b
unfolding bucket_of
bucket_is x b e =
    let p = bucket_parts (sized_text (codes "randomizationUnit") 1 80 x) (sized_text (codes "namespace") 0 256 x) (count_at (codes "start") 0 4294967295 x) (count_at (codes "count") 0 4294967295 x) (count_at (codes "total") 1 4294967295 x) b e in
    record {
      unit = sized_is (codes "randomizationUnit") 1 80 x b.unit p.0;
      namespace = sized_is (codes "namespace") 0 256 x b.namespace p.1;
      start = count_is 0 4294967295 (get (codes "start") x) b.start p.2;
      count = count_is 0 4294967295 (get (codes "count") x) b.count p.3;
      total = count_is 1 4294967295 (get (codes "total") x) b.total p.4;
    }

bucket_in_is : (x : Json) (b : Bucket) → bucket_in x ≡ Ok b → (y : Json) × (get (codes "bucketConfig") x ≡ Some y) × IsBucketOf y b
unfolding bucket_in
bucket_in_is x b e =
    let p = bind_ok (needed BadBucket (get (codes "bucketConfig") x)) bucket_of b e in
    (p.0, needed_ok BadBucket (get (codes "bucketConfig") x) p.0 p.1, bucket_is p.0 b p.2)

-- ---- lists

each_is : {A : Type 0} (read : Json → Result A SkipReason) (Is : Json → A → Type 0) → ((x : Json) (a : A) → read x ≡ Ok a → Is x a) → (xs : Items) (as' : Seq A) → each read xs ≡ Ok as' → AreEach Is xs as'
each_is read Is h no_items as' e = subst (λ l. AreEach Is no_items l) (ok_is [] as' e) tt
each_is read Is h (item x xs) as' e =
    let p = one_more (read x) (each read xs) as' e in
    subst (λ l. AreEach Is (item x xs) l) p.4 (h x p.0 p.2, each_is read Is h xs p.1 p.3)

-- ---- features

value_is : (o : Option Json) (t : Tree) → value_of o ≡ Ok t → json_of t ≡ unwrap_or o (object no_members)
unfolding value_of
value_is None t e = ap json_of (sym (ok_is (Object []) t e))
value_is (Some x) t e =
    let g = only_if_ok (is_feature_value x) (tree_from x) t (needed_ok BadBranches (only_if (is_feature_value x) (tree_from x)) t e) in
    ap json_of (sym g.1) ∙ same_values x

feature_is : (x : Json) (f : FeatureValue) → feature_of x ≡ Ok f → IsFeatureOf x f
unfolding feature_of
feature_is x f e =
    let p = feature_parts (text_at (codes "featureId") x) (value_of (present (get (codes "value") x))) f e in
    record { feature = feature_id x f e; value = value_is (present (get (codes "value") x)) f.value p.1 }

features_are : (xs : Items) (fs : Seq FeatureValue) → features_of xs ≡ Ok fs → AreEach IsFeatureOf xs fs
unfolding features_of
features_are xs fs e = each_is feature_of IsFeatureOf feature_is xs fs (list_parts feature_test (is_feature_count xs) (each feature_of xs) fs e).1

single_is : (one : Option Json) (fs : Seq FeatureValue) → single one ≡ Ok fs → AreEach IsFeatureOf (feature_items None one) fs
unfolding single
single_is None fs e = subst (λ l. AreEach IsFeatureOf no_items l) (ok_is [] fs e) tt
single_is (Some x) fs e =
    let p = bind_ok (feature_of x) (λ f. Ok (f ∷ [])) fs e in
    subst (λ l. AreEach IsFeatureOf (item x no_items) l) (ok_is (p.0 ∷ []) fs p.2) (feature_is x p.0 p.1, tt)

listed_are : (l one : Option Json) (fs : Seq FeatureValue) → listed l one ≡ Ok fs → AreEach IsFeatureOf (feature_items l one) fs
unfolding listed
listed_are None one fs e = single_is one fs e
listed_are (Some (list xs)) one fs e = features_are xs fs e
listed_are (Some x) one fs e = absurd cc

-- ---- branches

branch_is : (x : Json) (b : Branch) → branch_of x ≡ Ok b → IsBranchOf x b
unfolding branch_of
branch_is x b e =
    let features = listed (present (get (codes "features") x)) (present (get (codes "feature") x)) in
    let p = branch_parts (slug_in BadBranches x) (count_at (codes "ratio") 0 1000000 x) features b e in
    record {
      slug = branch_slug x b e;
      ratio = count_is 0 1000000 (get (codes "ratio") x) b.ratio (branch_ratio x b e);
      features = listed_are (present (get (codes "features") x)) (present (get (codes "feature") x)) b.features p.2;
    }

branches_are : (xs : Items) (bs : Seq Branch) → branches_of xs ≡ Ok bs → AreEach IsBranchOf xs bs
unfolding branches_of
branches_are xs bs e = each_is branch_of IsBranchOf branch_is xs bs (list_parts branch_test (is_branch_count xs) (each branch_of xs) bs e).1

list_is : (o : Option Json) (xs : Items) → option_and_then as_list o ≡ Some xs → o ≡ Some (list xs)
list_is (Some (list ys)) xs e = ap (λ (p : Option Items). Some (list (unwrap_or p no_items))) e
list_is o xs e = absurd cc

branches_in_are : (x : Json) (bs : Seq Branch) → branches_in x ≡ Ok bs → (xs : Items) × (get (codes "branches") x ≡ Some (list xs)) × AreEach IsBranchOf xs bs
unfolding branches_in
branches_in_are x bs e =
    let o = option_and_then as_list (get (codes "branches") x) in
    let p = bind_ok (needed BadBranches o) branches_of bs e in
    (p.0, list_is (get (codes "branches") x) p.0 (needed_ok BadBranches o p.0 p.1), branches_are p.0 bs p.2)

-- ---- the record

pub recipes_are_stated : RecipesAreStated
unfolding recipe_of
recipes_are_stated x r e =
    let p = recipe_parts (object_in x) (slug_in BadSlug x) (schema_in x) (fields_in x) (bucket_in x) (branches_in x) r e in
    let f = fields_are x (fields_of r) p.1 in
    record {
      slug = slug_text BadSlug x r.slug p.0;
      app_name = f.app_name;
      channel = f.channel;
      paused = f.paused;
      rollout = f.rollout;
      bucket = bucket_in_is x r.bucket p.2;
      branches = branches_in_are x r.branches p.3;
      targeting = f.targeting;
      published = f.published;
    }
