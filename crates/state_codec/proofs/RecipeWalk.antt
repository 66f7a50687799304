-- A walk over two lists of recipes, which makes the size of the one of the other's.
use Rattle.std.proofs.Common.{◌≡◌, ◌≤◌, ◌<◌, ◌+◌, ◌*◌, ◌^◌, ◌++◌, ◌∷◌, [], List, ℕ, length, get_or, take, ap, ◌∙◌, subst, arith}
use Rattle.std.proofs.lemmas.List.{take_more}
use Rattle.json_tree.specs.Json.{IsSound}
use Rattle.recipe_reader.specs.Payloads.{AreValid}
use Rattle.recipe_reader.specs.Records.{IsValid, record_json}
use Rattle.recipe_reader.specs.declared.recipe.Recipe.{Recipe}
use Rattle.state_codec.specs.Sizes.{recipe_size, recipes_size}
use Rattle.state_codec.specs.Sound.{AreRecords}

size-append : (rs ss : List Recipe) → recipes_size (rs ++ ss) ≡ recipes_size rs + recipes_size ss
size-append [] ss = omega arith
size-append (r ∷ rs) ss = omega (arith, size-append rs ss)

-- one recipe more
pub size_more : (rs : List Recipe) (i : ℕ) (r : Recipe) → i < length rs → r ≡ get_or rs i r → recipes_size (take (i + 1) rs) ≡ recipes_size (take i rs) + recipe_size r
size_more rs i r within is =
    ap recipes_size (take_more rs i r within) ∙ size-append (take i rs) (get_or rs i r ∷ [])
    ∙ omega (arith, ap recipe_size is)

-- the old and the new recipes that are left, of all new ones
pub record IsWalk (size : ℕ) (olds news all : List Recipe) : Type 0 where
  pub size_is : size + recipes_size news ≡ recipes_size all + recipes_size olds
  pub least : recipes_size news ≤ recipes_size all
  pub most : size + length news * 2 ^ 79 ≤ 2 ^ 24 + 2000 * 2 ^ 79
  pub old_count : length olds ≤ 2000
  pub new_count : length news ≤ 2000
  pub old_valid : AreValid olds
  pub new_valid : AreValid news
  pub old_records : AreRecords olds
  pub records : AreRecords news → AreRecords all

-- an old recipe is gone
gone_first : (size now : ℕ) (old : Recipe) (olds news all : List Recipe) → now + recipe_size old ≡ size → IsWalk size (old ∷ olds) news all → IsWalk now olds news all
gone_first size now old olds news all is walk = record {
  size_is = omega (arith, walk.size_is, is);
  least = walk.least;
  most = omega (arith, walk.most, is);
  old_count = omega (arith, walk.old_count);
  new_count = walk.new_count;
  old_valid = walk.old_valid.1;
  new_valid = walk.new_valid;
  old_records = walk.old_records.1;
  records = walk.records;
}

-- a new recipe is there
new_first : (size now : ℕ) (new : Recipe) (olds news all : List Recipe) → now ≡ size + recipe_size new → recipe_size new ≤ 2 ^ 79 → IsSound (record_json new) → IsWalk size olds (new ∷ news) all → IsWalk now olds news all
new_first size now new olds news all is short sound walk = record {
  size_is = omega (arith, walk.size_is, is);
  least = omega (arith, walk.least);
  most = omega (arith, walk.most, is, short);
  old_count = walk.old_count;
  new_count = omega (arith, walk.new_count);
  old_valid = walk.old_valid;
  new_valid = walk.new_valid.1;
  old_records = walk.old_records;
  records = λ are. walk.records (sound, are);
}

-- a new recipe takes the place of an old one
both_first : (size now : ℕ) (old new : Recipe) (olds news all : List Recipe) → now + recipe_size old ≡ size + recipe_size new → now ≤ size + 2 ^ 79 → IsSound (record_json new) → IsWalk size (old ∷ olds) (new ∷ news) all → IsWalk now olds news all
both_first size now old new olds news all is short sound walk = record {
  size_is = omega (arith, walk.size_is, is);
  least = omega (arith, walk.least);
  most = omega (arith, walk.most, short);
  old_count = omega (arith, walk.old_count);
  new_count = omega (arith, walk.new_count);
  old_valid = walk.old_valid.1;
  new_valid = walk.new_valid.1;
  old_records = walk.old_records.1;
  records = λ are. walk.records (sound, are);
}

-- the same of lists that begin with these recipes
module _ (size now : ℕ) (olds news all : List Recipe) (walk : IsWalk size olds news all) where
  pub gone : (old : Recipe) (behind : List Recipe) → olds ≡ old ∷ behind → now + recipe_size old ≡ size → IsWalk now behind news all
  gone old behind olds_are is = gone_first size now old behind news all is (subst (λ (rs : List Recipe). IsWalk size rs news all) olds_are walk)

  pub added : (new : Recipe) (behind : List Recipe) → news ≡ new ∷ behind → now ≡ size + recipe_size new → recipe_size new ≤ 2 ^ 79 → IsSound (record_json new) → IsWalk now olds behind all
  added new behind news_are is short sound = new_first size now new olds behind all is short sound (subst (λ (rs : List Recipe). IsWalk size olds rs all) news_are walk)

  pub replaced : (old new : Recipe) (olds_behind news_behind : List Recipe) → olds ≡ old ∷ olds_behind → news ≡ new ∷ news_behind → now + recipe_size old ≡ size + recipe_size new → now ≤ size + 2 ^ 79 → IsSound (record_json new) → IsWalk now olds_behind news_behind all
  replaced old new olds_behind news_behind olds_are news_are is short sound =
      both_first size now old new olds_behind news_behind all is short sound
      (subst (λ (rs : List Recipe). IsWalk size (old ∷ olds_behind) rs all) news_are (subst (λ (rs : List Recipe). IsWalk size rs news all) olds_are walk))

-- the first of the old recipes, and what its row takes
pub room : (size : ℕ) (olds news all : List Recipe) (old : Recipe) (behind : List Recipe) → IsWalk size olds news all → olds ≡ old ∷ behind → recipe_size old ≤ size
room size olds news all old behind walk olds_are = omega (arith, walk.size_is, walk.least, ap recipes_size olds_are)

pub first_valid : (rs : List Recipe) (r : Recipe) (behind : List Recipe) → AreValid rs → rs ≡ r ∷ behind → IsValid r
first_valid rs r behind are is = (subst AreValid is are).0

pub first_record : (rs : List Recipe) (r : Recipe) (behind : List Recipe) → AreRecords rs → rs ≡ r ∷ behind → IsSound (record_json r)
first_record rs r behind are is = (subst AreRecords is are).0
