-- One row more, whose slug has at most 80 bytes.
use Rattle.std.proofs.Common.{length, ap, arith}
use Rattle.state_codec.specs.Encoding.{status_row}
use Rattle.state_values.proofs.Names.{slug_short}
use Rattle.state_codec.proofs.Sizes.{size_more}
use Rattle.state_codec.proofs.size.client_rows_size.Goals as goal

pub loop-row-preserved : goal.loop-row-preserved
loop-row-preserved c =
    let row = c.row-item.result in
    record {
      size = omega (arith, c.loop-row.invariant.size, size_more status_row c.args.rows.now c.loop-row.row-index row c.loop-row-test.true c.row-item.is, ap length c.text.ensures.text, c.status_len.ensures.len);
      bound = omega (arith, c.loop-row.invariant.bound, slug_short row.slug c.text.ensures.slug, ap length c.text.ensures.text, c.status_len.ensures.short);
    }
