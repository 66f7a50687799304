-- The branches that are read are read again from the record that is made of them.
use Rattle.std.proofs.Common.{◌≡◌, ℕ, suc, List as Seq, [], ◌∷◌, map, Bool, true, false, Option, Some, None, Result, Ok, Err, refl, ap, subst, ◌∙◌}
use Rattle.std.specs.Prelude.{◌&&◌, nat_le, nat_lt, codes}
use Rattle.json_tree.specs.Json.{Json, list, object, Items, no_items, item, items_of, get}
use Rattle.json_tree.specs.Tree.{json_of}
use Rattle.json_tree.specs.declared.tree.Tree.{Tree}
use Rattle.json_tree.specs.declared.tree.Tree.TheVariants.{Object}
use Rattle.plain_text.specs.Names.{is_name}
use Rattle.recipe_reader.specs.declared.recipe.SkipReason.{SkipReason}
use Rattle.recipe_reader.specs.declared.recipe.SkipReason.TheVariants.{BadBranches}
use Rattle.recipe_reader.specs.declared.recipe.Branch.{Branch}
use Rattle.recipe_reader.specs.declared.recipe.FeatureValue.{FeatureValue}
use Rattle.recipe_reader.specs.Outcome.{◌>>=◌, needed, checked, only_if}
use Rattle.json_tree.specs.Inverse.{tree_from}
use Rattle.recipe_reader.specs.Values.{text_at, count_at, present}
use Rattle.recipe_reader.specs.Parts.{slug_in}
use Rattle.recipe_reader.specs.Branches.{each, items_len, are_distinct, is_feature_value, value_of, feature_of, is_feature_count, features_of, single, listed, branch_of, ratio_sum, is_branch_count, branches_of}
use Rattle.recipe_reader.specs.Records.{feature_json, branch_json}
use Rattle.json_tree.proofs.Trees.{same_values}
use Rattle.recipe_reader.proofs.Steps.{ok_is, needed_ok, only_if_ok, slug_ok, slug_there, count_ok, count_there}

-- ---- lists

pub one_more : {A : Type 0} (r : Result A SkipReason) (rs : Result (Seq A) SkipReason) (as' : Seq A) → (r >>= λ a. rs >>= λ l. Ok (a ∷ l)) ≡ Ok as' → (a : A) × (l : Seq A) × (r ≡ Ok a) × (rs ≡ Ok l) × (a ∷ l ≡ as')
one_more (Err d) rs as' e = absurd cc
one_more (Ok a) (Err d) as' e = absurd cc
one_more (Ok a) (Ok l) as' e = (a, l, refl, refl, ok_is (a ∷ l) as' e)

pub each_again : {A : Type 0} (read : Json → Result A SkipReason) (json : A → Json) → ((x : Json) (a : A) → read x ≡ Ok a → read (json a) ≡ Ok a)
    → (xs : Items) (as' : Seq A) → each read xs ≡ Ok as' → each read (items_of (map json as')) ≡ Ok as'
each_again read json again no_items as' e = subst (λ l. each read (items_of (map json l)) ≡ Ok l) (ok_is [] as' e) refl
each_again read json again (item x xs) as' e =
    let p = one_more (read x) (each read xs) as' e in
    let first = again x p.0 p.2 in
    let others = each_again read json again xs p.1 p.3 in
    let both : each read (items_of (map json (p.0 ∷ p.1))) ≡ Ok (p.0 ∷ p.1) = rw (first, others) refl in
    subst (λ l. each read (items_of (map json l)) ≡ Ok l) p.4 both

pub each_len : {A : Type 0} (read : Json → Result A SkipReason) (json : A → Json) (xs : Items) (as' : Seq A) → each read xs ≡ Ok as' → items_len (items_of (map json as')) ≡ items_len xs
each_len read json no_items as' e = subst (λ l. items_len (items_of (map json l)) ≡ 0) (ok_is [] as' e) refl
each_len read json (item x xs) as' e =
    let p = one_more (read x) (each read xs) as' e in
    subst (λ l. items_len (items_of (map json l)) ≡ suc (items_len xs)) p.4 (ap suc (each_len read json xs p.1 p.3))

-- ---- features

value_kept : (x : Json) → is_feature_value x ≡ true → value_of (present (Some x)) ≡ Ok (tree_from x)
unfolding is_feature_value value_of
value_kept (object ms) k = rw k refl
value_kept x k = absurd cc

value_again : (o : Option Json) (t : Tree) → value_of o ≡ Ok t → value_of (present (Some (json_of t))) ≡ Ok t
unfolding is_feature_value value_of
value_again None t e = subst (λ u. value_of (present (Some (json_of u))) ≡ Ok u) (ok_is (Object []) t e) refl
value_again (Some x) t e =
    let g = only_if_ok (is_feature_value x) (tree_from x) t (needed_ok BadBranches (only_if (is_feature_value x) (tree_from x)) t e) in
    let same : value_of (present (Some (json_of (tree_from x)))) ≡ Ok (tree_from x) = ap (λ y. value_of (present (Some y))) (same_values x) ∙ value_kept x g.0 in
    subst (λ u. value_of (present (Some (json_of u))) ≡ Ok u) g.1 same

abbrev pub feature_of_parts : Option (Seq ℕ) → Result Tree SkipReason → Result FeatureValue SkipReason
feature_of_parts o v = do
  id ← needed BadBranches o
  name ← needed BadBranches (only_if (is_name id) id)
  value ← v
  Ok (record { feature = name; value = value })

abbrev pub named_parts : Seq ℕ → Bool → Result Tree SkipReason → Result FeatureValue SkipReason
named_parts id b v = do
  name ← needed BadBranches (only_if b id)
  value ← v
  Ok (record { feature = name; value = value })

abbrev pub IsNamed : Result Tree SkipReason → FeatureValue → Type 0
IsNamed v f = (is_name f.feature ≡ true) × (v ≡ Ok f.value)

feature_named : (id : Seq ℕ) (b : Bool) → is_name id ≡ b → (v : Result Tree SkipReason) (f : FeatureValue) → named_parts id b v ≡ Ok f → IsNamed v f
feature_named id false k v f e = absurd cc
feature_named id true k (Err r) f e = absurd cc
feature_named id true k (Ok v) f e = subst (IsNamed (Ok v)) (ok_is _ f e) (k, refl)

pub feature_parts : (o : Option (Seq ℕ)) (v : Result Tree SkipReason) (f : FeatureValue) → feature_of_parts o v ≡ Ok f → IsNamed v f
feature_parts None v f e = absurd cc
feature_parts (Some id) v f e = feature_named id (is_name id) refl v f e

feature_there : (x : Json) (f : FeatureValue) → text_at (codes "featureId") x ≡ Some f.feature → is_name f.feature ≡ true → value_of (present (get (codes "value") x)) ≡ Ok f.value → feature_of x ≡ Ok f
unfolding feature_of
feature_there x f i n v = rw (i, n, v) refl

pub feature_again : (x : Json) (f : FeatureValue) → feature_of x ≡ Ok f → feature_of (feature_json f) ≡ Ok f
unfolding feature_of
feature_again x f e =
    let p = feature_parts (text_at (codes "featureId") x) (value_of (present (get (codes "value") x))) f e in
    feature_there (feature_json f) f refl p.0 (value_again (present (get (codes "value") x)) f.value p.1)

abbrev pub list_of_parts : {A : Type 0} → (Seq A → Bool) → Bool → Result (Seq A) SkipReason → Result (Seq A) SkipReason
list_of_parts test b r = do
  counted ← checked BadBranches b
  l ← r
  needed BadBranches (only_if (test l) l)

abbrev pub AreList : {A : Type 0} → (Seq A → Bool) → Bool → Result (Seq A) SkipReason → Seq A → Type 0
AreList test b r l = (b ≡ true) × (r ≡ Ok l) × (test l ≡ true)

pub list_parts : {A : Type 0} (test : Seq A → Bool) (b : Bool) (r : Result (Seq A) SkipReason) (as' : Seq A) → list_of_parts test b r ≡ Ok as' → AreList test b r as'
list_parts test false r as' e = absurd cc
list_parts test true (Err d) as' e = absurd cc
list_parts test true (Ok l) as' e =
    let g = only_if_ok (test l) l as' (needed_ok BadBranches (only_if (test l) l) as' e) in
    subst (AreList test true (Ok l)) g.1 (refl, refl, g.0)

abbrev pub feature_test : Seq FeatureValue → Bool
feature_test fs = are_distinct (λ (f : FeatureValue). f.feature) fs

features_there : (xs : Items) (fs : Seq FeatureValue) → is_feature_count xs ≡ true → each feature_of xs ≡ Ok fs → feature_test fs ≡ true → features_of xs ≡ Ok fs
unfolding features_of
features_there xs fs c r t = rw (c, r, t) refl

features_again : (xs : Items) (fs : Seq FeatureValue) → features_of xs ≡ Ok fs → features_of (items_of (map feature_json fs)) ≡ Ok fs
unfolding features_of
features_again xs fs e =
    let p = list_parts feature_test (is_feature_count xs) (each feature_of xs) fs e in
    features_there (items_of (map feature_json fs)) fs (ap (λ n. nat_le n 50) (each_len feature_of feature_json xs fs p.1) ∙ p.0) (each_again feature_of feature_json feature_again xs fs p.1) p.2

single_parts : (r : Result FeatureValue SkipReason) (fs : Seq FeatureValue) → (r >>= λ f. Ok (f ∷ [])) ≡ Ok fs → (f : FeatureValue) × (r ≡ Ok f) × (f ∷ [] ≡ fs)
single_parts (Err d) fs e = absurd cc
single_parts (Ok f) fs e = (f, refl, ok_is (f ∷ []) fs e)

single_again : (one : Option Json) (fs : Seq FeatureValue) → single one ≡ Ok fs → features_of (items_of (map feature_json fs)) ≡ Ok fs
unfolding single
single_again None fs e = subst (λ l. features_of (items_of (map feature_json l)) ≡ Ok l) (ok_is [] fs e) (features_there no_items [] refl refl refl)
single_again (Some x) fs e =
    let p = single_parts (feature_of x) fs e in
    let one : each feature_of (items_of (map feature_json (p.0 ∷ []))) ≡ Ok (p.0 ∷ []) = rw (feature_again x p.0 p.1) refl in
    subst (λ l. features_of (items_of (map feature_json l)) ≡ Ok l) p.2 (features_there (items_of (map feature_json (p.0 ∷ []))) (p.0 ∷ []) refl one refl)

pub listed_again : (l one : Option Json) (fs : Seq FeatureValue) → listed l one ≡ Ok fs → features_of (items_of (map feature_json fs)) ≡ Ok fs
unfolding listed
listed_again None one fs e = single_again one fs e
listed_again (Some (list xs)) one fs e = features_again xs fs e
listed_again (Some x) one fs e = absurd cc

-- ---- branches

abbrev pub branch_of_parts : Result (Seq ℕ) SkipReason → Option ℕ → Result (Seq FeatureValue) SkipReason → Result Branch SkipReason
branch_of_parts s r fs = do
  slug ← s
  ratio ← needed BadBranches r
  features ← fs
  Ok (record { slug = slug; ratio = ratio; features = features })

abbrev pub AreBranch : Result (Seq ℕ) SkipReason → Option ℕ → Result (Seq FeatureValue) SkipReason → Branch → Type 0
AreBranch s r fs b = (s ≡ Ok b.slug) × (r ≡ Some b.ratio) × (fs ≡ Ok b.features)

pub branch_parts : (s : Result (Seq ℕ) SkipReason) (r : Option ℕ) (fs : Result (Seq FeatureValue) SkipReason) (b : Branch) → branch_of_parts s r fs ≡ Ok b → AreBranch s r fs b
branch_parts (Err d) r fs b e = absurd cc
branch_parts (Ok s) None fs b e = absurd cc
branch_parts (Ok s) (Some r) (Err d) b e = absurd cc
branch_parts (Ok s) (Some r) (Ok fs) b e = subst (AreBranch (Ok s) (Some r) (Ok fs)) (ok_is _ b e) (refl, refl, refl)

branch_there : (x : Json) (b : Branch) → slug_in BadBranches x ≡ Ok b.slug → count_at (codes "ratio") 0 1000000 x ≡ Some b.ratio → listed (present (get (codes "features") x)) (present (get (codes "feature") x)) ≡ Ok b.features → branch_of x ≡ Ok b
unfolding branch_of
branch_there x b s r fs = rw (s, r, fs) refl

pub branch_again : (x : Json) (b : Branch) → branch_of x ≡ Ok b → branch_of (branch_json b) ≡ Ok b
unfolding branch_of listed
branch_again x b e =
    let features = listed (present (get (codes "features") x)) (present (get (codes "feature") x)) in
    let p = branch_parts (slug_in BadBranches x) (count_at (codes "ratio") 0 1000000 x) features b e in
    branch_there (branch_json b) b (slug_there BadBranches (branch_json b) b.slug refl (slug_ok BadBranches x b.slug p.0)) (count_there 0 1000000 b.ratio (count_ok 0 1000000 (get (codes "ratio") x) b.ratio p.1))
    (listed_again (present (get (codes "features") x)) (present (get (codes "feature") x)) b.features p.2)

abbrev pub branch_test : Seq Branch → Bool
branch_test bs = are_distinct (λ (b : Branch). b.slug) bs && nat_lt 0 (ratio_sum bs)

branches_there : (xs : Items) (bs : Seq Branch) → is_branch_count xs ≡ true → each branch_of xs ≡ Ok bs → branch_test bs ≡ true → branches_of xs ≡ Ok bs
unfolding branches_of
branches_there xs bs c r t = rw (c, r, t) refl

pub branches_again : (xs : Items) (bs : Seq Branch) → branches_of xs ≡ Ok bs → branches_of (items_of (map branch_json bs)) ≡ Ok bs
unfolding branches_of
branches_again xs bs e =
    let p = list_parts branch_test (is_branch_count xs) (each branch_of xs) bs e in
    branches_there (items_of (map branch_json bs)) bs (ap (λ n. nat_le 1 n && nat_le n 100) (each_len branch_of branch_json xs bs p.1) ∙ p.0) (each_again branch_of branch_json branch_again xs bs p.1) p.2
