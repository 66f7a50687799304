-- The parts of a record.
use Rattle.std.proofs.Common.{length, map, ap, ◌∙◌, subst, arith, IsUtf8}
use Rattle.json_tree.specs.Json.{AreSoundItems, text, list, items_of}
use Rattle.json_tree.specs.Bytes.{text_of}
use Rattle.recipe_reader.specs.Records.{branch_json}
use Rattle.recipe_reader.proofs.RecordSums.{record_sum, record_sound}
use Rattle.recipe_reader.proofs.record_lengths.record_length.Goals as goal

pub returns-clause-length : goal.returns-clause-length
returns-clause-length c =
    let branches = c.branches_length-branches.ensures.length ∙ ap (λ bs. length (text_of (list (items_of (map branch_json bs))))) c.as_slice.ensures in
    let slug = c.text_length-slug.ensures.length ∙ ap (λ s. length (text_of (text s))) c.text.ensures.text in
    omega (arith, record_sum c.args.recipe.now, branches, slug, c.optional_length-app_name.ensures.length, c.bucket_length-bucket.ensures.length, c.optional_length-channel.ensures.length, c.truth_length-paused.ensures.length, c.truth_length-rollout.ensures.length, c.optional_length-published.ensures.length, c.optional_length-targeting.ensures.length)

pub returns-clause-record : goal.returns-clause-record
returns-clause-record c =
    record_sound c.args.recipe.now c.optional_length-app_name.ensures.sound (subst (λ bs. AreSoundItems (items_of (map branch_json bs))) c.as_slice.ensures c.branches_length-branches.ensures.sound) c.bucket_length-bucket.ensures.sound c.optional_length-channel.ensures.sound c.optional_length-published.ensures.sound (subst IsUtf8 c.text.ensures.text c.text.utf8) c.optional_length-targeting.ensures.sound
