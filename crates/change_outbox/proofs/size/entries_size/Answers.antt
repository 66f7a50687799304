-- One entry more, whose slug and branch have at most 80 bytes each.
use Rattle.std.proofs.Common.{length, ap, arith}
use Rattle.plain_text.proofs.ShortNames.{slug_short}
use Rattle.change_outbox.proofs.RowSizes.{size_more}
use Rattle.change_outbox.proofs.size.entries_size.Goals as goal

pub loop-entry-preserved : goal.loop-entry-preserved
loop-entry-preserved c =
    let entry = c.entry-item.result in
    record {
      size = omega (arith, c.loop-entry.invariant.size, size_more c.args.entries.now c.loop-entry.entry-index entry c.loop-entry-test.true c.entry-item.is, ap length c.text.ensures.text, ap length c.text-in-loop-entry.ensures.text);
      bound = omega (arith, c.loop-entry.invariant.bound, slug_short entry.slug c.text.ensures.slug, slug_short entry.branch c.text-in-loop-entry.ensures.slug, ap length c.text.ensures.text, ap length c.text-in-loop-entry.ensures.text);
    }
