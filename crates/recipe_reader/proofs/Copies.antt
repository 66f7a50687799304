-- Lists of copies are the lists.
use Rattle.std.specs.Prelude.{◌≡◌, List}
use Rattle.std.specs.List.{AllZip, each_same}
use Rattle.recipe_reader.specs.declared.recipe.Branch.{Branch}
use Rattle.recipe_reader.specs.declared.recipe.FeatureValue.{FeatureValue}

pub same_branches : (bs cs : List Branch) → AllZip (λ b c. c ≡ b) bs cs → cs ≡ bs
same_branches bs cs all = each_same bs cs all

pub same_features : (fs gs : List FeatureValue) → AllZip (λ f g. g ≡ f) fs gs → gs ≡ fs
same_features fs gs all = each_same fs gs all
