-- How long the manifest is: it has no part that is not known.
use Rattle.std.proofs.Common.{◌≤◌, length, arith}
use Rattle.std.specs.Fmt.{digits}
use Rattle.json.specs.Print.{escape_byte}
use Rattle.json_tree.specs.Bytes.{text_of}
use Rattle.recipe_drill.specs.Records.{feature_name}
use Rattle.recipe_drill.specs.Files.{definition_json, manifest_json}

pub manifest-le : length (text_of manifest_json) ≤ 4194304
unfolding manifest_json definition_json feature_name escape_byte digits
manifest-le = omega arith
