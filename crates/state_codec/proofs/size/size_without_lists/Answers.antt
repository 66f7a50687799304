-- The parts beside the lists.
use Rattle.std.proofs.Common.{◌∷◌, [], ◌∙◌, ap, length, map, arith}
use Rattle.row_batches.specs.Batch.{puts_text}
use Rattle.state_codec.specs.Encoding.{key_row}
use Rattle.state_codec.proofs.Sizes.{length-encoding}
use Rattle.state_codec.proofs.size.size_without_lists.Goals as goal

pub returns-clause-size : goal.returns-clause-size
returns-clause-size c =
    let features = c.features_size-features.ensures.size ∙ ap (λ fs. length (puts_text (map (key_row (99 ∷ [])) fs))) c.as_slice.ensures in
    omega (arith, length-encoding c.args.state.now, features, ap length c.as_str.ensures.text)
