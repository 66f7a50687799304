-- The parts of a branch.
use Rattle.std.proofs.Common.{rules, length, map, ap, ◌∙◌, subst, arith, IsUtf8}
use Rattle.json_tree.specs.Json.{AreSoundItems, text, list, items_of}
use Rattle.json_tree.specs.Bytes.{text_of}
use Rattle.recipe_reader.specs.Records.{feature_json}
use Rattle.recipe_reader.proofs.RecordSums.{branch_sum, branch_sound}
use Rattle.recipe_reader.proofs.record_lengths.branch_length.Goals as goal

pub returns-clause-length : goal.returns-clause-length
returns-clause-length c =
    let features = c.features_length-features.ensures.length ∙ ap (λ fs. length (text_of (list (items_of (map feature_json fs))))) c.as_slice.ensures in
    let slug = c.text_length-slug.ensures.length ∙ ap (λ s. length (text_of (text s))) c.text.ensures.text in
    omega (arith, branch_sum c.args.branch.now, features, slug, c.number_length-ratio.ensures.length)

pub returns-clause-sound : goal.returns-clause-sound
returns-clause-sound c =
    branch_sound c.args.branch.now (subst (λ fs. AreSoundItems (items_of (map feature_json fs))) c.as_slice.ensures c.features_length-features.ensures.sound) (search rules) (subst IsUtf8 c.text.ensures.text c.text.utf8)
