-- What a word is read as where the value of a preference stands.
use Rattle.std.proofs.Common.{◌≡◌, ℕ, List, refl, Option, Some, None, IfOk}
use Rattle.json_tree.specs.Json.{Json, null, truth, whole, odd, text, list, object, IsSound}
use Rattle.json_tree.specs.Bytes.{tree_of}
use Rattle.json_tree.proofs.SoundReading.{values_read_are_sound}
use Rattle.pref_bindings.specs.Preferences.{IsValue}
use Rattle.client_words.specs.Commands.{preference_value, value_read, value_in}

value_of_sound : (x : Json) → IsSound x → IfOk (preference_value x) IsValue
value_of_sound null sound = tt
value_of_sound (truth b) sound = tt
value_of_sound (whole n) sound = sound
value_of_sound odd sound = tt
value_of_sound (text s) sound = sound
value_of_sound (list xs) sound = tt
value_of_sound (object ms) sound = tt

value_where : (found : Option Json) → ((x : Json) → found ≡ Some x → IsSound x) → IfOk (value_read found) IsValue
value_where None sound = tt
value_where (Some x) sound = value_of_sound x (sound x refl)

-- what is read is a value
pub is_value_in : (word : List ℕ) → IfOk (value_in word) IsValue
unfolding value_in
is_value_in word = value_where (tree_of word) (values_read_are_sound word)
