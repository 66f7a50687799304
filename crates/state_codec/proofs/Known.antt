-- Known recipes, and their records.
use Rattle.std.proofs.Common.{◌≡◌, ℕ, List, [], ◌∷◌, Bool, true, false, Option, Some, sym, subst, ap, ◌∙◌}
use Rattle.std.specs.Prelude.{bytes_eq, if◌then◌else◌}
use Rattle.std.specs.Cmp.Lexicographic.{bytes_decides}
use Rattle.std.proofs.lemmas.Option.{none-some, same_Some}
use Rattle.json_tree.specs.Json as json
use Rattle.recipe_reader.specs.Payloads.{AreValid, recipe_with}
use Rattle.recipe_reader.specs.Records.{IsValid, record_json}
use Rattle.recipe_reader.specs.declared.recipe.Recipe.{Recipe}
use Rattle.state_values.specs.Reading.{recipe_in}
use Rattle.state_values.specs.Values.{recipe_text}
use Rattle.state_values.proofs.ValuesRead.{recipe_read}
use Rattle.state_codec.specs.Reading.{IsRecordOf}

found_valid : (test : Bool) (r q : Recipe) (o : Option Recipe) → IsValid q → (Some r ≡ o → IsValid r) → Some r ≡ (if test then Some q else o) → IsValid r
found_valid true r q o q_is rest found = subst IsValid (sym (same_Some r q found)) q_is
found_valid false r q o q_is rest found = rest found

-- what is found among valid recipes is valid
pub known_valid : (s : List ℕ) (rs : List Recipe) (r : Recipe) → AreValid rs → Some r ≡ recipe_with s rs → IsValid r
known_valid s [] r valid found = absurd (none-some r (sym found))
known_valid s (q ∷ rs) r valid found = found_valid (bytes_eq q.slug s) r q (recipe_with s rs) valid.0 (known_valid s rs r valid.1) found

-- a recipe's own text is its record
pub own_record : (r : Recipe) (bytes : List ℕ) → IsValid r → json.IsSound (record_json r) → bytes_eq (recipe_text r) bytes ≡ true → IsRecordOf r bytes
own_record r bytes valid sound same =
    (ap recipe_in (sym ((bytes_decides (recipe_text r) bytes).0 same)) ∙ recipe_read r valid sound, valid)
