-- One feature more, whose name has at most 80 bytes.
use Rattle.std.proofs.Common.{◌∷◌, [], List, ℕ, IsTrue, length, sym, ap, subst, arith}
use Rattle.plain_text.specs.Names.{is_name}
use Rattle.state_codec.specs.Encoding.{key_row}
use Rattle.state_values.proofs.Names.{name_short}
use Rattle.state_codec.proofs.Sizes.{size_more}
use Rattle.state_codec.proofs.size.features_size.Goals as goal

pub loop-feature-preserved : goal.loop-feature-preserved
loop-feature-preserved c =
    let features = c.args.features.now in
    let i = c.loop-feature.feature-index in
    let feature = c.feature-item.result in
    let name : IsTrue (is_name feature) = subst (λ (n : List ℕ). IsTrue (is_name n)) (sym c.feature-item.is) (c.requires i feature c.loop-feature-test.true) in
    record {
      size = omega (arith, c.loop-feature.invariant.size, size_more (key_row (99 ∷ [])) features i feature c.loop-feature-test.true c.feature-item.is, ap length c.as_str.ensures.text);
      bound = omega (arith, c.loop-feature.invariant.bound, name_short feature name, ap length c.as_str.ensures.text);
    }
