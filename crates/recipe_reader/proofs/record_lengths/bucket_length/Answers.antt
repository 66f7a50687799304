use Rattle.std.proofs.Common.{length, ap, ◌∙◌, arith}
use Rattle.json_tree.specs.Json.{text}
use Rattle.json_tree.specs.Bytes.{text_of}
use Rattle.recipe_reader.proofs.RecordSums.{bucket_sum}
use Rattle.recipe_reader.proofs.record_lengths.bucket_length.Goals as goal

pub returns-clause-length : goal.returns-clause-length
returns-clause-length c =
    let namespace = c.text_length-namespace.ensures.length ∙ ap (λ s. length (text_of (text s))) c.as_str.ensures.text in
    let unit = c.text_length-unit.ensures.length ∙ ap (λ s. length (text_of (text s))) c.as_str-2.ensures.text in
    omega (arith, bucket_sum c.args.bucket.now, namespace, unit, c.number_length-count.ensures.length, c.number_length-start.ensures.length, c.number_length-total.ensures.length)
