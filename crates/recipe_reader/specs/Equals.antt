-- Recipes are equal exactly where they are one.
use Rattle.std.proofs.Common.{◌≡◌, ◌&&◌, Bool, true, ℕ, List, Option, Some, None, refl, sym, ap, subst}
use Rattle.std.specs.Bool.{Decides, beq}
use Rattle.std.specs.Prelude.{◌==◌, bytes_eq}
use Rattle.std.specs.Cmp.{IsEquivalence, decided, unsigned_Decides, booleans_Decides, first_so, second_so}
use Rattle.std.specs.Cmp.Lexicographic.{pointwise, pointwise_decides, bytes_decides}
use Rattle.json_tree.specs.Equal.{json_eq}
use Rattle.json_tree.specs.Equals.{trees-Decide}
use Rattle.json_tree.specs.Tree.{json_of}
use Rattle.recipe_reader.specs.declared.recipe.Recipe.{Recipe}
use Rattle.recipe_reader.specs.declared.recipe.Bucket.{Bucket}
use Rattle.recipe_reader.specs.declared.recipe.Branch.{Branch}
use Rattle.recipe_reader.specs.declared.recipe.FeatureValue.{FeatureValue}
use Rattle.recipe_reader.specs.Equal.{text_eq, feature_eq, branch_eq, bucket_eq, fields_eq, recipe_eq}

together : (x y : Bool) → x ≡ true → y ≡ true → (x && y) ≡ true
together x y h k = subst (λ b. (b && y) ≡ true) (sym h) k

both : {P Q : Type 0} (x y : Bool) → Decides x P → Decides y Q → Decides (x && y) (P × Q)
both x y h k = (λ e. (h.0 (first_so x y e), k.0 (second_so x y e)), λ p. together x y (h.1 p.0) (k.1 p.1))

turned : {P Q : Type 0} (x : Bool) → Decides x P → (P → Q) → (Q → P) → Decides x Q
turned x h f g = (λ e. f (h.0 e), λ q. h.1 (g q))

text_Decides : (s t : Option (List ℕ)) → Decides (text_eq s t) (s ≡ t)
text_Decides None None = (λ e. refl, λ e. refl)
text_Decides None (Some t) = (λ e. absurd cc, λ e. absurd cc)
text_Decides (Some s) None = (λ e. absurd cc, λ e. absurd cc)
text_Decides (Some s) (Some t) = (λ e. ap (λ u. Some u) ((bytes_decides s t).0 e), λ e. (bytes_decides s t).1 cc)

feature_Decides : (f g : FeatureValue) → Decides (feature_eq f g) (f ≡ g)
feature_Decides f g =
    turned (feature_eq f g) (both (bytes_eq f.feature g.feature) (json_eq (json_of f.value) (json_of g.value)) (bytes_decides f.feature g.feature) (trees-Decide f.value g.value))
    (λ p i. record { feature = p.0 i; value = p.1 i }) (λ e. (ap (λ (h : FeatureValue). h.feature) e, ap (λ (h : FeatureValue). h.value) e))

features_Decide : (fs gs : List FeatureValue) → Decides (pointwise feature_eq fs gs) (fs ≡ gs)
features_Decide = pointwise_decides feature_Decides

branch_Decides : (b c : Branch) → Decides (branch_eq b c) (b ≡ c)
branch_Decides b c =
    turned (branch_eq b c)
    (both (bytes_eq b.slug c.slug) (b.ratio == c.ratio && pointwise feature_eq b.features c.features) (bytes_decides b.slug c.slug)
    (both (b.ratio == c.ratio) (pointwise feature_eq b.features c.features) (unsigned_Decides b.ratio c.ratio) (features_Decide b.features c.features)))
    (λ p i. record { slug = p.0 i; ratio = p.1.0 i; features = p.1.1 i }) (λ e. (ap (λ (d : Branch). d.slug) e, (ap (λ (d : Branch). d.ratio) e, ap (λ (d : Branch). d.features) e)))

bucket_Decides : (b c : Bucket) → Decides (bucket_eq b c) (b ≡ c)
bucket_Decides b c =
    turned (bucket_eq b c)
    (both (bytes_eq b.unit c.unit) _ (bytes_decides b.unit c.unit)
    (both (bytes_eq b.namespace c.namespace) _ (bytes_decides b.namespace c.namespace)
    (both (b.start == c.start) _ (unsigned_Decides b.start c.start) (both (b.count == c.count) (b.total == c.total) (unsigned_Decides b.count c.count) (unsigned_Decides b.total c.total)))))
    (λ p i. record { unit = p.0 i; namespace = p.1.0 i; start = p.1.1.0 i; count = p.1.1.1.0 i; total = p.1.1.1.1 i })
    (λ e. (ap (λ (d : Bucket). d.unit) e, (ap (λ (d : Bucket). d.namespace) e, (ap (λ (d : Bucket). d.start) e, (ap (λ (d : Bucket). d.count) e, ap (λ (d : Bucket). d.total) e)))))

abbrev AreSame : Recipe → Recipe → Type 0
AreSame r s =
    (r.slug ≡ s.slug) × ((r.app_name ≡ s.app_name) × ((r.channel ≡ s.channel) × ((r.paused ≡ s.paused) × ((r.rollout ≡ s.rollout) × ((r.targeting ≡ s.targeting) × (r.published ≡ s.published))))))

fields_Decide : (r s : Recipe) → Decides (fields_eq r s) (AreSame r s)
fields_Decide r s =
    both (bytes_eq r.slug s.slug) _ (bytes_decides r.slug s.slug)
    (both (text_eq r.app_name s.app_name) _ (text_Decides r.app_name s.app_name)
    (both (text_eq r.channel s.channel) _ (text_Decides r.channel s.channel)
    (both (beq r.paused s.paused) _ (booleans_Decides r.paused s.paused)
    (both (beq r.rollout s.rollout) _ (booleans_Decides r.rollout s.rollout)
    (both (text_eq r.targeting s.targeting) (text_eq r.published s.published) (text_Decides r.targeting s.targeting) (text_Decides r.published s.published))))))

same_parts : (r s : Recipe) → r ≡ s → AreSame r s
same_parts r s e = (
  ap (λ (q : Recipe). q.slug) e,
  (
    ap (λ (q : Recipe). q.app_name) e,
    (
      ap (λ (q : Recipe). q.channel) e,
      (
        ap (λ (q : Recipe). q.paused) e,
        (
          ap (λ (q : Recipe). q.rollout) e,
          (ap (λ (q : Recipe). q.targeting) e, ap (λ (q : Recipe). q.published) e),
        ),
      ),
    ),
  ),
)

pub recipe_Decides : (r s : Recipe) → Decides (recipe_eq r s) (r ≡ s)
recipe_Decides r s =
    turned (recipe_eq r s)
    (both (fields_eq r s) _ (fields_Decide r s) (both (bucket_eq r.bucket s.bucket) (pointwise branch_eq r.branches s.branches) (bucket_Decides r.bucket s.bucket) (pointwise_decides branch_Decides r.branches s.branches)))
    (λ p i.
    let f = p.0 in
    record { slug = f.0 i; app_name = f.1.0 i; channel = f.1.1.0 i; paused = f.1.1.1.0 i; rollout = f.1.1.1.1.0 i; bucket = p.1.0 i; branches = p.1.1 i; targeting = f.1.1.1.1.1.0 i; published = f.1.1.1.1.1.1 i })
    (λ e. (same_parts r s e, (ap (λ (q : Recipe). q.bucket) e, ap (λ (q : Recipe). q.branches) e)))

pub feature_equivalence : IsEquivalence feature_eq
feature_equivalence = decided _ feature_Decides

pub branch_equivalence : IsEquivalence branch_eq
branch_equivalence = decided _ branch_Decides

pub bucket_equivalence : IsEquivalence bucket_eq
bucket_equivalence = decided _ bucket_Decides

pub recipe_equivalence : IsEquivalence recipe_eq
recipe_equivalence = decided _ recipe_Decides

pub recipes_equivalence : IsEquivalence (pointwise recipe_eq)
recipes_equivalence = decided _ (pointwise_decides recipe_Decides)
