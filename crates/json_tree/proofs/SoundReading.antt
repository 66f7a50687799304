-- A value that is read is sound.
use Rattle.std.proofs.Common.{◌≡◌, ℕ, List, Bool, true, false, cond, Option, Some, None, IsUtf8, refl, subst}
use Rattle.std.proofs.lemmas.Str.{IsUtf8-from_is_utf8}
use Rattle.std.specs.Prelude.{IfSome, option_map, option_and_then}
use Rattle.std.specs.Str.{is_utf8}
use Rattle.json.specs.Json as json
use Rattle.json.specs.Lex.{tokens}
use Rattle.serde_json.specs.Data.{Data}
use Rattle.serde_json.specs.Read.{of_json, read, max_depth}
use Rattle.json_tree.specs.Json.{Json, IsSound}
use Rattle.json_tree.specs.Bytes.{of_data}
use Rattle.json_tree.specs.Laws.{ValuesReadAreSound}
use Rattle.json_tree.proofs.Grammar.{HasTexts, read-texts}
use Rattle.json_tree.proofs.Lexemes.{tokens-texts}
use Rattle.json_tree.proofs.Values.{of_json-sound}

read_sound : (found : Option json.Json) → IfSome found HasTexts → IfSome (option_and_then of_json found) (λ d. IsSound (of_data d))
read_sound None h = tt
read_sound (Some j) h = of_json-sound j h

data_sound : (bytes : List ℕ) → IsUtf8 bytes → IfSome (read bytes) (λ d. IsSound (of_data d))
data_sound bytes u = read_sound _ (read-texts max_depth (tokens bytes) (tokens-texts bytes u))

became : (d : Option Data) → IfSome d (λ e. IsSound (of_data e)) → IfSome (option_map of_data d) IsSound
became None h = tt
became (Some d) h = h

tree_sound : (bytes : List ℕ) (utf8 : Bool) → is_utf8 bytes ≡ utf8 → IfSome (cond utf8 (option_map of_data (read bytes)) None) IsSound
tree_sound bytes true e = became (read bytes) (data_sound bytes (IsUtf8-from_is_utf8 bytes e))
tree_sound bytes false e = tt

pub values_read_are_sound : ValuesReadAreSound
values_read_are_sound bytes x e = subst (λ (o : Option Json). IfSome o IsSound) e (tree_sound bytes (is_utf8 bytes) refl)
