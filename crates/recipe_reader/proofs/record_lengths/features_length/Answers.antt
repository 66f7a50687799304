-- One feature more.
use Rattle.std.proofs.Common.{sym, ◌∙◌, arith}
use Rattle.json_length.proofs.Lengths.{item_length, sum_more}
use Rattle.recipe_reader.specs.Records.{feature_json}
use Rattle.recipe_reader.proofs.RecordSums.{all_items, sound_more}
use Rattle.recipe_reader.proofs.record_lengths.features_length.Goals as goal

pub loop-feature-preserved : goal.loop-feature-preserved
loop-feature-preserved c =
    let xs = c.args.features.now in
    let i = c.loop-feature.feature-index in
    let x = c.feature-item.result in
    let one = c.feature_length.ensures in
    record {
      length = omega (arith, c.loop-feature.invariant.length, sum_more (λ y. item_length (feature_json y)) xs i x c.loop-feature-test.true c.feature-item.is, one.length);
      bound = omega (arith, c.loop-feature.invariant.bound, one.bound);
      sound = sound_more feature_json xs i x c.loop-feature-test.true c.feature-item.is c.loop-feature.invariant.sound one.sound;
    }

pub returns-clause-length : goal.returns-clause-length
returns-clause-length c = all_items feature_json c.args.features.now c.loop-feature.length c.loop-feature.feature-index c.loop-feature.invariant.length c.loop-feature-test.false (sym c.is_empty.ensures ∙ c.if-is_empty.false)
