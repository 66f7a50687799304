-- The tokens of a value's compact text.
use Rattle.std.specs.Prelude.{List}
use Rattle.json.specs.Token.{Token}
use Rattle.json.specs.Tree.{json_tokens}
use Rattle.serde_json.specs.Written.{outline}
use Rattle.json_tree.specs.Json.{Json}
use Rattle.json_tree.specs.Bytes.{to_data}

abbrev pub tokens_of : Json → List Token
tokens_of x = json_tokens (outline (to_data x))
