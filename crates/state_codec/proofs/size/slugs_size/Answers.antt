-- One slug more, which has at most 80 bytes.
use Rattle.std.proofs.Common.{◌∷◌, [], length, ap, arith}
use Rattle.state_codec.specs.Encoding.{key_row}
use Rattle.state_values.proofs.Names.{slug_short}
use Rattle.state_codec.proofs.Sizes.{size_more}
use Rattle.state_codec.proofs.size.slugs_size.Goals as goal

pub loop-slug-preserved : goal.loop-slug-preserved
loop-slug-preserved c =
    let slug = c.slug-item.result in
    record {
      size = omega (arith, c.loop-slug.invariant.size, size_more (key_row (111 ∷ [])) c.args.slugs.now c.loop-slug.slug-index slug c.loop-slug-test.true c.slug-item.is, ap length c.text.ensures.text);
      bound = omega (arith, c.loop-slug.invariant.bound, slug_short slug c.text.ensures.slug, ap length c.text.ensures.text);
    }
