use Rattle.std.proofs.Common.{length, ap, ◌∙◌, arith}
use Rattle.json_tree.specs.Json.{text}
use Rattle.json_tree.specs.Bytes.{text_of}
use Rattle.recipe_reader.proofs.RecordSums.{feature_sum}
use Rattle.recipe_reader.proofs.record_lengths.feature_length.Goals as goal

pub returns-clause-length : goal.returns-clause-length
returns-clause-length c =
    let name = c.text_length-name.ensures.length ∙ ap (λ s. length (text_of (text s))) c.as_str.ensures.text in
    omega (arith, feature_sum c.args.feature.now, name, c.tree_length-value.ensures)
