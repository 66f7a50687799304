-- One record more.
use Rattle.std.proofs.Common.{◌≡◌, ◌+◌, ◌<◌, ◌++◌, ◌∷◌, [], List, ℕ, length, get_or, take, sym, subst}
use Rattle.std.proofs.lemmas.List.{take_more}
use Rattle.json_tree.specs.Json.{IsSound}
use Rattle.recipe_reader.specs.Records.{record_json}
use Rattle.recipe_reader.specs.declared.recipe.Recipe.{Recipe}
use Rattle.state_codec.specs.Sound.{AreRecords}

records-append : (rs ss : List Recipe) → AreRecords rs → AreRecords ss → AreRecords (rs ++ ss)
records-append [] ss r_are s_are = s_are
records-append (r ∷ rs) ss r_are s_are = (r_are.0, records-append rs ss r_are.1 s_are)

pub records_more : (rs : List Recipe) (i : ℕ) (r : Recipe) → i < length rs → r ≡ get_or rs i r → AreRecords (take i rs) → IsSound (record_json r) → AreRecords (take (i + 1) rs)
records_more rs i r within is before here =
    subst AreRecords (sym (take_more rs i r within)) (records-append (take i rs) (get_or rs i r ∷ []) before (subst (λ (q : Recipe). IsSound (record_json q)) is here, tt))
