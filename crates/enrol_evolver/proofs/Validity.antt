-- What valid recipes have.
use Rattle.std.proofs.Common.{◌≡◌, ℕ, suc, ◌<◌, ◌≤◌, true, List, [], ◌∷◌, length, sum, None, Some, Ok, refl, sym, ap, subst, arith}
use Rattle.std.specs.Prelude.{nat_le, nat_lt, not, codes, Option, Result, Err}
use Rattle.std.specs.Option.{is_some}
use Rattle.std.specs.List.{AllByRecursion}
use Rattle.std.proofs.lemmas.Bool.{leb-true, ltb-true, and_parts}
use Rattle.std.proofs.lemmas.List.Sums.{sum-map}
use Rattle.json_tree.specs.Json.{Json, Items, no_items, item, get}
use Rattle.plain_text.specs.Names.{bad_place}
use Rattle.recipe_reader.specs.declared.recipe.SkipReason.{SkipReason}
use Rattle.recipe_reader.specs.declared.recipe.SkipReason.TheVariants.{BadSlug, BadBucket, BadBranches}
use Rattle.recipe_reader.specs.declared.recipe.Recipe.{Recipe}
use Rattle.recipe_reader.specs.declared.recipe.Bucket.{Bucket}
use Rattle.recipe_reader.specs.declared.recipe.Branch.{Branch}
use Rattle.recipe_reader.specs.Outcome.{needed}
use Rattle.recipe_reader.specs.Values.{count_at}
use Rattle.recipe_reader.specs.Parts.{object_in, slug_in, schema_in, fields_in, sized_text, bucket_of, bucket_in}
use Rattle.recipe_reader.specs.Branches.{each, items_len, is_branch_count, branch_of, listed, ratio_sum, branches_of, branches_in}
use Rattle.recipe_reader.specs.Values.{present}
use Rattle.recipe_reader.specs.Records.{recipe_of, record_json, IsValid}
use Rattle.recipe_reader.proofs.Steps.{ok_is, bind_ok, slug_ok, count_ok}
use Rattle.recipe_reader.proofs.FieldsAgain.{bucket_of_parts}
use Rattle.recipe_reader.proofs.BranchesAgain.{one_more, branch_parts, branch_test, list_parts}
use Rattle.recipe_reader.proofs.Again.{recipe_parts, branches_in_ok}
use Rattle.enrol_states.specs.Statuses.{IsSlug}
use Rattle.enrol_evolver.specs.Verdicts.{ratios_of}

no_bad_place : (o : Option ℕ) → not (is_some o) ≡ true → o ≡ None
no_bad_place None e = refl
no_bad_place (Some n) e = absurd cc

pub slug_fits : (r : Recipe) → IsValid r → IsSlug r.slug
unfolding recipe_of
slug_fits r valid =
    let x = record_json r in
    let p = recipe_parts (object_in x) (slug_in BadSlug x) (schema_in x) (fields_in x) (bucket_in x) (branches_in x) r valid in
    no_bad_place (bad_place r.slug) (slug_ok BadSlug x r.slug p.0)

-- the branches: 1 to 100 slugs, with ratios that aren't all 0
pub record AreBranches (bs : List Branch) : Type 0 where
  pub some : 1 ≤ length bs
  pub few : length bs ≤ 100
  pub shared : 0 < sum (ratios_of bs)
  pub slugs : AllByRecursion (λ (b : Branch). IsSlug b.slug) bs

branch_fits : (x : Json) (b : Branch) → branch_of x ≡ Ok b → IsSlug b.slug
unfolding branch_of
branch_fits x b e =
    let p = branch_parts (slug_in BadBranches x) (count_at (codes "ratio") 0 1000000 x) (listed (present (get (codes "features") x)) (present (get (codes "feature") x))) b e in
    no_bad_place (bad_place b.slug) (slug_ok BadBranches x b.slug p.0)

each_fits : (xs : Items) (bs : List Branch) → each branch_of xs ≡ Ok bs → (length bs ≡ items_len xs) × AllByRecursion (λ (b : Branch). IsSlug b.slug) bs
each_fits no_items [] e = (refl, tt)
each_fits no_items (b ∷ bs) e = absurd cc
each_fits (item x xs) bs e =
    let p = one_more (branch_of x) (each branch_of xs) bs e in
    let rest = each_fits xs p.1 p.3 in
    subst (λ cs. (length cs ≡ items_len (item x xs)) × AllByRecursion (λ (b : Branch). IsSlug b.slug) cs) p.4 (ap suc rest.0, (branch_fits x p.0 p.2, rest.1))

branches_fit : (xs : Items) (bs : List Branch) → branches_of xs ≡ Ok bs → AreBranches bs
unfolding branches_of
branches_fit xs bs e =
    let p = list_parts branch_test (is_branch_count xs) (each branch_of xs) bs e in
    let all = each_fits xs bs p.1 in
    let least = leb-true 1 (items_len xs) (and_parts (nat_le 1 (items_len xs)) (nat_le (items_len xs) 100) p.0).0 in
    let most = leb-true (items_len xs) 100 (and_parts (nat_le 1 (items_len xs)) (nat_le (items_len xs) 100) p.0).1 in
    let above = ltb-true 0 (ratio_sum bs) (and_parts _ (nat_lt 0 (ratio_sum bs)) p.2).1 in
    record {
      some = omega (arith, all.0, least);
      few = omega (arith, all.0, most);
      shared = subst (λ n. 0 < n) (sym (sum-map (λ (b : Branch). b.ratio) bs)) above;
      slugs = all.1;
    }

pub have_branches : (r : Recipe) → IsValid r → AreBranches r.branches
unfolding recipe_of
have_branches r valid =
    let x = record_json r in
    let p = recipe_parts (object_in x) (slug_in BadSlug x) (schema_in x) (fields_in x) (bucket_in x) (branches_in x) r valid in
    let q = branches_in_ok x r.branches p.3 in
    branches_fit q.0 r.branches q.1

-- ---- the bucket

total_parts : (u n : Result (List ℕ) SkipReason) (s c t : Option ℕ) (b : Bucket) → bucket_of_parts u n s c t ≡ Ok b → t ≡ Some b.total
total_parts (Err r) n s c t b e = absurd cc
total_parts (Ok u) (Err r) s c t b e = absurd cc
total_parts (Ok u) (Ok n) None c t b e = absurd cc
total_parts (Ok u) (Ok n) (Some s) None t b e = absurd cc
total_parts (Ok u) (Ok n) (Some s) (Some c) None b e = absurd cc
total_parts (Ok u) (Ok n) (Some s) (Some c) (Some t) b e = subst (λ (d : Bucket). Some t ≡ Some d.total) (ok_is _ b e) refl

total_of : (x : Json) (b : Bucket) → bucket_of x ≡ Ok b → 0 < b.total
unfolding bucket_of
total_of x b e =
    let t = total_parts (sized_text (codes "randomizationUnit") 1 80 x) (sized_text (codes "namespace") 0 256 x) (count_at (codes "start") 0 4294967295 x) (count_at (codes "count") 0 4294967295 x) (count_at (codes "total") 1 4294967295 x) b e in
    let within = count_ok 1 4294967295 (get (codes "total") x) b.total t in
    let least = leb-true 1 b.total (and_parts (nat_le 1 b.total) (nat_le b.total 4294967295) within).0 in
    omega (arith, least)

pub has_total : (r : Recipe) → IsValid r → 0 < r.bucket.total
unfolding recipe_of bucket_in
has_total r valid =
    let x = record_json r in
    let p = recipe_parts (object_in x) (slug_in BadSlug x) (schema_in x) (fields_in x) (bucket_in x) (branches_in x) r valid in
    let q = bind_ok (needed BadBucket (get (codes "bucketConfig") x)) bucket_of r.bucket p.2 in
    total_of q.0 r.bucket q.2
