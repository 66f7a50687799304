-- What the live recipes of a sound state set is sound.
use Rattle.std.proofs.Common.{List, [], ◌∷◌, map}
use Rattle.std.specs.Prelude.{All}
use Rattle.std.proofs.lemmas.List.Elements.{All-nil, All-cons}
use Rattle.json_tree.specs.Json.{IsSound, AreSoundItems, items_of}
use Rattle.json_tree.specs.Tree.{json_of}
use Rattle.recipe_reader.specs.Records.{feature_json, branch_json}
use Rattle.recipe_reader.specs.declared.recipe.Recipe.{Recipe}
use Rattle.recipe_reader.specs.declared.recipe.Branch.{Branch}
use Rattle.recipe_reader.specs.declared.recipe.FeatureValue.{FeatureValue}
use Rattle.feature_serving.specs.Laws.{HasSoundValues}
use Rattle.state_codec.specs.Sound.{AreRecords}

abbrev IsSoundValue : FeatureValue → Type 0
IsSoundValue v = IsSound (json_of v.value)

features_sound : (vs : List FeatureValue) → AreSoundItems (items_of (map feature_json vs)) → All IsSoundValue vs
features_sound [] sound = All-nil IsSoundValue
features_sound (v ∷ vs) sound = All-cons IsSoundValue v vs sound.0.3.2 (features_sound vs sound.1)

abbrev HasSoundFeatures : Branch → Type 0
HasSoundFeatures b = All IsSoundValue b.features

branches_sound : (bs : List Branch) → AreSoundItems (items_of (map branch_json bs)) → All HasSoundFeatures bs
branches_sound [] sound = All-nil HasSoundFeatures
branches_sound (b ∷ bs) sound = All-cons HasSoundFeatures b bs (features_sound b.features sound.0.2) (branches_sound bs sound.1)

pub records_sound : (rs : List Recipe) → AreRecords rs → All HasSoundValues rs
records_sound [] are = All-nil HasSoundValues
records_sound (r ∷ rs) are = All-cons HasSoundValues r rs (branches_sound r.branches are.0.3.2) (records_sound rs are.1)
