-- The parts of a valid recipe have few bytes.
use Rattle.std.proofs.Common.{◌≡◌, ◌≤◌, List as Seq, [], map, Bool, true, false, Option, Some, None, Result, Ok, sym, ap, ◌∙◌, subst, arith}
use Rattle.std.specs.Prelude.{◌&&◌, nat_le, length, codes, All}
use Rattle.std.proofs.lemmas.Bool.{leb-true, and_parts}
use Rattle.std.proofs.lemmas.List.Elements.{All-cons, All-nil}
use Rattle.json_tree.specs.Json.{Json, Items, no_items, item, items_of, get, depth}
use Rattle.json_tree.specs.Tree.{json_of}
use Rattle.json_tree.specs.Bytes.{text_of}
use Rattle.json_tree.specs.declared.tree.Tree.{Tree}
use Rattle.json_tree.specs.declared.tree.Tree.TheVariants.{Object}
use Rattle.recipe_reader.specs.declared.recipe.SkipReason.{SkipReason}
use Rattle.recipe_reader.specs.declared.recipe.SkipReason.TheVariants.{BadSlug, BadBranches}
use Rattle.recipe_reader.specs.declared.recipe.Recipe.{Recipe}
use Rattle.recipe_reader.specs.declared.recipe.Branch.{Branch}
use Rattle.recipe_reader.specs.declared.recipe.FeatureValue.{FeatureValue}
use Rattle.recipe_reader.specs.Outcome.{only_if}
use Rattle.json_tree.specs.Inverse.{tree_from}
use Rattle.recipe_reader.specs.Values.{text_at, count_at, is_object, present}
use Rattle.recipe_reader.specs.Parts.{object_in, slug_in, schema_in, fields_in, bucket_in}
use Rattle.recipe_reader.specs.Branches.{each, items_len, is_feature_value, value_of, feature_of, is_feature_count, features_of, listed, branch_of, is_branch_count, branches_of, branches_in}
use Rattle.recipe_reader.specs.Records.{recipe_of, IsValid, feature_json, record_json}
use Rattle.json_tree.proofs.Trees.{same_values}
use Rattle.recipe_reader.proofs.Steps.{ok_is, needed_ok, only_if_ok}
use Rattle.recipe_reader.proofs.BranchesAgain.{one_more, feature_parts, list_parts, listed_again, branch_parts, feature_test, branch_test}
use Rattle.recipe_reader.proofs.Again.{recipe_parts, branches_in_ok}
use Rattle.recipe_reader.specs.Lengths.{IsShort, HasShortFeatures, HasShortBranches}
use Rattle.plain_text.proofs.ShortNames.{name_short}

third : (a b c : Bool) → (a && b && c) ≡ true → c ≡ true
third true true c e = e
third true false c e = absurd cc
third false b c e = absurd cc

value_short : (o : Option Json) (t : Tree) → value_of o ≡ Ok t → length (text_of (json_of t)) ≤ 65536
unfolding is_feature_value value_of
value_short None t e = subst (λ u. length (text_of (json_of u)) ≤ 65536) (ok_is (Object []) t e) (omega arith)
value_short (Some x) t e =
    let g = only_if_ok (is_feature_value x) (tree_from x) t (needed_ok BadBranches (only_if (is_feature_value x) (tree_from x)) t e) in
    let small : length (text_of x) ≤ 65536 = leb-true (length (text_of x)) 65536 (third (is_object x) (nat_le (depth x) 59) (nat_le (length (text_of x)) 65536) g.0) in
    subst (λ u. length (text_of (json_of u)) ≤ 65536) g.1 (subst (λ y. length (text_of y) ≤ 65536) (sym (same_values x)) small)

feature_short : (x : Json) (f : FeatureValue) → feature_of x ≡ Ok f → IsShort f
unfolding feature_of
feature_short x f e =
    let p = feature_parts (text_at (codes "featureId") x) (value_of (present (get (codes "value") x))) f e in
    record { name = name_short f.feature p.0; value = value_short (present (get (codes "value") x)) f.value p.1 }

each_short : {A : Type 0} (read : Json → Result A SkipReason) (P : A → Type 0) → ((x : Json) (a : A) → read x ≡ Ok a → P a) → (xs : Items) (as' : Seq A) → each read xs ≡ Ok as' → All P as'
each_short read P h no_items as' e = subst (λ l. All P l) (ok_is [] as' e) (All-nil P)
each_short read P h (item x xs) as' e =
    let p = one_more (read x) (each read xs) as' e in
    subst (λ l. All P l) p.4 (All-cons P p.0 p.1 (h x p.0 p.2) (each_short read P h xs p.1 p.3))

each_count : {A : Type 0} (read : Json → Result A SkipReason) (xs : Items) (as' : Seq A) → each read xs ≡ Ok as' → length as' ≡ items_len xs
each_count read no_items as' e = sym (ap (λ l. length l) (ok_is [] as' e))
each_count read (item x xs) as' e =
    let p = one_more (read x) (each read xs) as' e in
    let rest : length p.1 ≡ items_len xs = each_count read xs p.1 p.3 in
    sym (ap (λ l. length l) p.4) ∙ omega (arith, rest)

features_short : (xs : Items) (b : Branch) → features_of xs ≡ Ok b.features → HasShortFeatures b
unfolding features_of
features_short xs b e =
    let p = list_parts feature_test (is_feature_count xs) (each feature_of xs) b.features e in
    let most : items_len xs ≤ 50 = leb-true (items_len xs) 50 p.0 in
    record { count = omega (arith, most, each_count feature_of xs b.features p.1); each = each_short feature_of IsShort feature_short xs b.features p.1 }

branch_short : (x : Json) (b : Branch) → branch_of x ≡ Ok b → HasShortFeatures b
unfolding branch_of
branch_short x b e =
    let features = listed (present (get (codes "features") x)) (present (get (codes "feature") x)) in
    let p = branch_parts (slug_in BadBranches x) (count_at (codes "ratio") 0 1000000 x) features b e in
    features_short (items_of (map feature_json b.features)) b (listed_again (present (get (codes "features") x)) (present (get (codes "feature") x)) b.features p.2)

branches_short : (xs : Items) (r : Recipe) → branches_of xs ≡ Ok r.branches → HasShortBranches r
unfolding branches_of
branches_short xs r e =
    let p = list_parts branch_test (is_branch_count xs) (each branch_of xs) r.branches e in
    let most : items_len xs ≤ 100 = leb-true (items_len xs) 100 (and_parts (nat_le 1 (items_len xs)) (nat_le (items_len xs) 100) p.0).1 in
    record { count = omega (arith, most, each_count branch_of xs r.branches p.1); each = each_short branch_of HasShortFeatures branch_short xs r.branches p.1 }

pub valid_short : (r : Recipe) → IsValid r → HasShortBranches r
unfolding recipe_of
valid_short r e =
    let x = record_json r in
    let p = recipe_parts (object_in x) (slug_in BadSlug x) (schema_in x) (fields_in x) (bucket_in x) (branches_in x) r e in
    let q = branches_in_ok x r.branches p.3 in
    branches_short q.0 r q.1
